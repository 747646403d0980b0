use Rattle.std.proofs.Common.{◌∙◌, ◌+◌, ◌<◌, ◌++◌, ◌∷◌, [], List, ap, length, subst, sym, take, add-one}
use Rattle.std.proofs.lemmas.List.{take_all}
use Rattle.ob_seq.specs.Answer.{commands_after}
use Rattle.ob_seq.specs.Looks.{look_after}
use Rattle.ob_seq.specs.Pending.{StandsFor}
use Rattle.ob_history.specs.History.{accepted_commands}
use Rattle.ob_history.proofs.Histories.{accepted_with_next, found_at}
use Rattle.ob_cli.specs.More.{line_behind, lines_of, shown_with}
use Rattle.ob_cli.specs.Run.{first_history}
use Rattle.ob_traces.specs.declared.traces.line.TraceLine.{TraceLine}
use Rattle.ob_cli.proofs.DriveLines.{lines_of-one_more}
use Rattle.ob_cli.proofs.drive.more.make_lines.Goals as goal

pub loop-index-preserved : goal.loop-index-preserved
loop-index-preserved c =
    let records = c.args.records.now in
    let settings = (first_history c.args.options.now).settings in
    let index = c.loop-index.index in
    let earlier = take index records in
    let kept = c.index-records-index.result in
    let within : index < length records = c.loop-index-test.true in
    let found = found_at records index kept within c.index-records-index.is in
    let legal = c.requires.legal index kept found.0 in
    let inv = c.loop-index.invariant in
    let line = c.in_ok-push_line.ensures in
    let next = ap (λ count. take count records) (add-one index) ∙ found.1 in
    let kept_settings = line.settings ∙ inv.settings in
    let stands = subst (StandsFor c.push_line.new.buffer)
    (ap (λ other. commands_after other (accepted_commands earlier) kept.command) inv.settings
    ∙ sym (accepted_with_next settings earlier kept legal.reply))
    (line.stands (accepted_commands earlier) inv.stands) in
    record {
      settings = kept_settings;
      stands = subst (λ all. StandsFor c.push_line.new.buffer (accepted_commands all)) (sym next) stands;
      lines = line.line (accepted_commands (earlier ++ kept ∷ [])) stands
          ∙ ap (λ other. c.loop-index.lines.items
          ++ shown_with kept.reply (look_after other (accepted_commands (earlier ++ kept ∷ []))) ∷ []) kept_settings
          ∙ ap (λ (lines : List TraceLine). lines ++ line_behind settings (earlier ++ kept ∷ []) kept ∷ []) inv.lines
          ∙ sym (ap (lines_of settings) next ∙ lines_of-one_more settings earlier kept);
      count = line.count ∙ ap (λ n. n + 1) inv.count;
    }

pub returns-clause-lines : goal.returns-clause-lines
returns-clause-lines c =
    c.loop-index.invariant.lines
    ∙ ap (lines_of (first_history c.args.options.now).settings)
    (take_all c.loop-index.index c.args.records.now c.loop-index-test.false)
