use Rattle.std.proofs.Common.{◌≡◌, List, refl, sym, ap, ◌∙◌, subst}
use Rattle.ob_seq.specs.Looks.{look_after}
use Rattle.ob_seq.specs.Rows.{Settings}
use Rattle.ob_history.specs.History.{accepted_commands, IsBeginning, IsLegal}
use Rattle.ob_history.specs.declared.record.Record.{Record}
use Rattle.ob_history.specs.declared.seen.Seen.{Seen}
use Rattle.ob_shared.specs.Calls.{IsCheckIn, Sight, sight_of}
use Rattle.ob_shared.proofs.locked.Locked.check_in.Goals as goal

pub returns-clause-checked_in : goal.returns-clause-checked_in
returns-clause-checked_in g c =
    let settings = g.L.Named.opened.settings in
    let history = c.self.inside.recorded in
    let published = c.self.invariant.5 in
    let met : c.meet.new.reader ≡ sight_of history.records = c.meet.ensures.met ∙ ap sight_of published in
    subst (λ (sight : Sight). IsCheckIn settings c.args.reader.now c.look.result sight) (sym met) (record {
      place = ap (λ (look : Seen). look.place) c.look.ensures.seen;
      shows = ap (λ (look : Seen). look.look) c.look.ensures.seen
          ∙ ap (λ (its : Settings). look_after its (accepted_commands history.records)) c.self.invariant.1;
      longer = subst (λ (all : List Record). IsBeginning c.args.reader.now.seen all) published c.meet.ensures.part;
      legal = subst (λ (its : Settings). IsLegal its history.records) c.self.invariant.1
          c.records-records.ensures.legal;
      reads = refl;
    })
