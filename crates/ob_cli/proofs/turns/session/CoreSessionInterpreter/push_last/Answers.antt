use Rattle.std.proofs.Common.{◌∙◌, ◌++◌, ap, sym, string_bytes}
use Rattle.std.specs.Prelude.{option_map}
use Rattle.ob_core.specs.World.{WorldState}
use Rattle.ob_cli.specs.Turns.{end_text}
use Rattle.ob_cli.proofs.CoreLines.{last_text-once}
use Rattle.ob_script.proofs.Results.{OnOk-follows}
use Rattle.ob_cli.proofs.turns.session.CoreSessionInterpreter.push_last.Goals as goal

pub returns-in-Some : goal.returns-in-Some
returns-in-Some c = OnOk-follows c.push_end.result (λ told. λ lines played.
    let old = string_bytes c.args.text.now in
    let stands = ap (option_map (λ (w : WorldState). w.core)) (sym c.in-Some.is) ∙ played.1 in
    told ∙ ap (λ owed. old ++ end_text owed) c.owed.ensures
    ∙ ap (λ text. old ++ text) (last_text-once c.args.self.now.marks lines c.in-Some.world.core stands))
    c.push_end.ensures
