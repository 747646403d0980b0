use Rattle.std.proofs.Common.{◌≡◌, List, sym, subst}
use Rattle.ob_history.specs.History.{IsBeginning, History}
use Rattle.ob_history.specs.declared.record.Record.{Record}
use Rattle.ob_history.proofs.Calls.{begins_after}
use Rattle.ob_shared.proofs.locked.Locked.keep.Goals as goal

-- what is published are the records, which begin those after the call
pub publish-requires-clause-longer : goal.publish-requires-clause-longer
publish-requires-clause-longer g c =
    let before = c.self.inside.recorded in
    let after = c.in_ok-keep.ensures.is_recording.after (λ wanted. absurd (cc)) in
    subst (λ (records : List Record). IsBeginning records c.keep.new.self.records)
    (sym c.self.invariant.5)
    (subst (λ (history : History). IsBeginning before.records history.records) (sym after)
    (begins_after before c.caller.result c.args.command))
