use Rattle.std.proofs.Common.{ap, arith, length, ◌∙◌}
use Rattle.ob_lifecycle.proofs.Pending.{flushed_within, pending_by_looks}
use Rattle.ob_lifecycle.proofs.Tallies.{count_like}
use Rattle.ob_lifecycle.proofs.counted.pending_in.Goals as goal

pub count_of-flushed-requires : goal.count_of-flushed-requires
count_of-flushed-requires c =
    let some = c.stands_for_some_commands.ensures in
    omega (
      arith,
      flushed_within c.args.connection.now.unsent.settings some.0,
      ap (λ messages. length messages) (c.flushed.ensures some.0 some.1),
      ap (λ look. look.size) (c.look-look.ensures some.0 some.1),
    )

pub overflow_sub-result : goal.overflow_sub-result
overflow_sub-result c =
    let some = c.stands_for_some_commands.ensures in
    omega (
      arith,
      flushed_within c.args.connection.now.unsent.settings some.0,
      c.count_of-flushed.ensures,
      ap (λ look. look.size) (c.look-look.ensures some.0 some.1),
      ap (λ messages. length messages) (c.flushed.ensures some.0 some.1),
    )

pub overflow_sub-result-2 : goal.overflow_sub-result-2
overflow_sub-result-2 c =
    let some = c.stands_for_some_commands.ensures in
    omega (
      arith,
      c.waiting_count.ensures some.0 some.1,
      ap (λ look. look.size) (c.look-look.ensures some.0 some.1),
    )

pub returns : goal.returns
returns c commands stands =
    count_like _ _
    (pending_by_looks c.args.connection.now.unsent.settings commands c.waiting_count.result c.look-look.result.size
    c.count_of-flushed.result (c.waiting_count.ensures commands stands) (ap (λ look. look.size) (c.look-look.ensures commands stands))
    (c.count_of-flushed.ensures ∙ ap (λ messages. length messages) (c.flushed.ensures commands stands)))
    (c.from.ensures ∙ ap (λ look. look.total) (c.look-look.ensures commands stands))
