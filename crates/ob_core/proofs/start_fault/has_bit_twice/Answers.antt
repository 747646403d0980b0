use Rattle.std.proofs.Common.{sym, ◌∙◌, rules}
use Rattle.ob_core.proofs.Masks.{masks_more, masks_shared}
use Rattle.ob_core.proofs.start_fault.has_bit_twice.Goals as goal

pub loop-start-preserved : goal.loop-start-preserved
loop-start-preserved c =
    masks_more c.loop-start.taken c.args.starts.now c.loop-start.start-index
    (record { room = 0; bits = 0 }) c.loop-start-test.true c.if-taken-start-ne0.false ∙ c.loop-start.invariant

pub returns-then-taken-start-ne0 : goal.returns-then-taken-start-ne0
returns-then-taken-start-ne0 c =
    sym (masks_shared c.loop-start.taken c.args.starts.now c.loop-start.start-index
    (record { room = 0; bits = 0 }) c.loop-start-test.true c.if-taken-start-ne0.true) ∙ c.loop-start.invariant

-- Named for the must-fail edits that fail here: `search` finds it unasked (CONTRIBUTING.md).
pub loop-start-init : goal.loop-start-init
loop-start-init c = search rules
