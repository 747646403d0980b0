use Rattle.std.proofs.Common.{◌<◌, List, ap, length, subst, sym}
use Rattle.ob_history.specs.History.{is_full, next_record}
use Rattle.ob_history.specs.declared.record.Record.{Record}
use Rattle.ob_history.proofs.Calls.{record_at_place}
use Rattle.ob_cli.proofs.RunLines.{never_full}
use Rattle.ob_cli.proofs.run.session.RunSession.call.Goals as goal

pub bounds-records-place : goal.bounds-records-place
bounds-records-place c =
    let history = c.args.self.now.recorded in
    let place = length c.records-place.result.now in
    let last =
    record_at_place history c.record.new.self 0 c.args.command place (next_record history 0 c.args.command)
    (never_full (is_full history) (λ full. cc (c.in-Ok.ensures.full full))) (ap length c.records-place.ensures.value)
    (c.in-Ok.ensures.after (λ wanted. cc wanted)) in
    subst (λ (records : List Record). place < length records) (sym c.records.ensures.value) last.0
