use Rattle.std.proofs.Common.{◌≡◌, sym, ap, ◌∙◌, subst, rules}
use Rattle.ob_connection.specs.Connected.{Connected}
use Rattle.ob_shared_connection.specs.Steps.{caller_held}
use Rattle.ob_shared_connection.specs.Values.{Adds, HoldsFor, Held}
use Rattle.ob_shared_connection.proofs.Accepting.{always_covers}
use Rattle.ob_shared_connection.proofs.caller.Caller.act_within.Goals as goal

pub returns-in-Ok-clause-acts : goal.returns-in-Ok-clause-acts
returns-in-Ok-clause-acts g c =
    let commands = g.A.Act.commands c.args.act in
    let looked = caller_held c.adds-adds.new.self in
    let took = caller_held c.take.new.self in
    let same : took.connected ≡ looked.connected = ap (λ (held : Held). held.connected) c.in-Ok.ensures.same in
    let first : took.connected ≡ (caller_held c.args.self.now).connected =
    same ∙ ap (λ (held : Held). held.connected) c.adds-adds.ensures.same in record {
      calls = search rules;
      covers = always_covers g.A.Act.uncovered took.connected commands c.adds-adds.result took.cover c.act-answer-in-Ok.result
          (subst (λ (connected : Connected). Adds connected commands c.adds-adds.result) (sym first) c.adds-adds.ensures.adds)
          (subst (λ (connected : Connected). HoldsFor connected c.adds-adds.result took.cover) (sym same) c.in-Ok.ensures.enough)
          c.act-answer-in-Ok.ensures.call.lacks;
      tells = search rules;
      enough = search rules;
      thrifty = search rules;
      sparing = search rules;
    }
