use Rattle.std.proofs.Common.{subst, sym}
use Rattle.std.specs.Prelude.{None}
use Rattle.ob_types.specs.declared.message.Message.TheVariants.{Block}
use Rattle.ob_covered.proofs.Written.{block_within, covers_already, writes_block}
use Rattle.ob_covered.specs.Budgeted.{BudgetedValue, WritesWithin}
use Rattle.ob_covered.proofs.budgeted.Budgeted.write_copy.Goals as goal

pub invariant_of-self : goal.invariant_of-self
invariant_of-self c =
    let message = Block c.args.bytes.now in
    let old : BudgetedValue = record { connection = c.self.inside.connection; cover = c.self.inside.cover } in
    block_within message old old None c.write_copy-answer.result c.write_copy-answer.new.self c.look-look.result
    c.stands_for_some_commands.ensures (covers_already message old (c.holds_block.ensures c.if-not-holds_block.false))
    c.write_copy-answer.ensures.obeys c.look-look.ensures c.self.invariant

pub returns-clause-writes : goal.returns-clause-writes
returns-clause-writes c =
    let message = Block c.args.bytes.now in
    let old : BudgetedValue = record { connection = c.self.inside.connection; cover = c.self.inside.cover } in
    let new : BudgetedValue = record { connection = c.write_copy-answer.new.self; cover = c.self.inside.cover } in
    subst (λ v. WritesWithin (λ why. why) message v (record { answer = c.let_copy_through.result; pressure = None }) new) c.self.view_is
    (subst (λ answer. WritesWithin (λ why. why) message old (record { answer = answer; pressure = None }) new)
    (sym c.let_copy_through.ensures)
    (writes_block message old old None c.write_copy-answer.result c.write_copy-answer.new.self (covers_already message old (c.holds_block.ensures c.if-not-holds_block.false))
    c.write_copy-answer.ensures.obeys c.write_copy-answer.ensures.room))
