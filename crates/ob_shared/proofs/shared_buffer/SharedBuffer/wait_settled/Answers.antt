use Rattle.std.proofs.Common.{rules}
use Rattle.ob_shared.proofs.shared_buffer.SharedBuffer.wait_settled.Goals as goal

pub returns-in-Some-told-clause-settled : goal.returns-in-Some-told-clause-settled
returns-in-Some-told-clause-settled g c = rw (c.new.ensures.history, ← c.deref.ensures)
    (λ known unsettled. absurd (cc (c.in-Some-told.ensures.waits.1 (known, unsettled))))

pub sleep-locked-requires-clause-unsettled : goal.sleep-locked-requires-clause-unsettled
sleep-locked-requires-clause-unsettled g c = rw (← c.deref.ensures) (c.in-None-told.ensures.waits.0 (search rules)).1

-- Named for the must-fail edits that fail here: `search` finds it unasked (CONTRIBUTING.md).
pub returns-in-Some-told-clause-unknown : goal.returns-in-Some-told-clause-unknown
returns-in-Some-told-clause-unknown g c = search rules

pub returns-in-Some-told-clause-no_memory : goal.returns-in-Some-told-clause-no_memory
returns-in-Some-told-clause-no_memory g c = search rules
