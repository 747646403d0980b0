use Rattle.std.proofs.Common.{◌∙◌, ◌++◌, ap, append_assoc, string_bytes}
use Rattle.std.specs.Fmt.{decimal}
use Rattle.std.specs.Prelude.{codes}
use Rattle.ob_traces.specs.Summary.{from_text}
use Rattle.ob_script.proofs.Results.{OnOk-follows}
use Rattle.ob_traces.proofs.summing.text.push_stretch.Goals as goal

pub returns : goal.returns
returns c = OnOk-follows c.push_from.result (λ told.
    told ∙ ap (λ before. before ++ from_text c.args.first) c.in_ok-write.ensures.bytes
    ∙ append_assoc (string_bytes c.args.text.now) (codes "unwritable " ++ decimal c.args.lines) (from_text c.args.first))
    c.push_from.ensures
