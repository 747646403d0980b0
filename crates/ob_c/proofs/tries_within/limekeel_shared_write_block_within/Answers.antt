use Rattle.ob_c.specs.Within.{PutsWithin, within_in_c}
use Rattle.std.proofs.Common.{subst}
use Rattle.ob_c.specs.Sharing.{TriesToWithBlock}
use Rattle.ob_c.specs.declared.shared.Shared.{Shared}
use Rattle.ob_c.proofs.Trying.{with_block}
use Rattle.ob_c.proofs.tries_within.limekeel_shared_write_block_within.Goals as goal

pub returns-in-Ok-clause-writes : goal.returns-in-Ok-clause-writes
returns-in-Ok-clause-writes c =
    subst (λ (shared : Shared). TriesToWithBlock shared.value c.args.block.now.value PutsWithin within_in_c
    c.put-in-Ok.result c.make_within.new.self.value) c.is_open.ensures.1
    (with_block _ c.args.block.now.value PutsWithin within_in_c _ _ _ c.in-Ok.message c.in-Ok.ensures.message c.make_within.ensures
    c.put-in-Ok.ensures)
