use Rattle.std.proofs.Common.{subst, sym}
use Rattle.ob_types.specs.declared.message.Message.TheVariants.{Block}
use Rattle.ob_connection.specs.Connected.{StandsForSome}
use Rattle.ob_covered.proofs.Written.{block_within, covers_by, writes_block}
use Rattle.ob_covered.specs.Budgeted.{BudgetedValue, WritesWithin}
use Rattle.ob_covered.proofs.budgeted.Budgeted.copy_beyond.Goals as goal

pub invariant_of-self : goal.invariant_of-self
invariant_of-self c =
    let message = Block c.args.bytes.now in
    let between : BudgetedValue = record { connection = c.self-2.inside.connection; cover = c.self-2.inside.cover } in
    block_within message c.args.self.now between c.in-Ok.pressure c.write_copy-written.result c.write_copy-written.new.self
    c.look-look.result (subst (λ v. StandsForSome v.connection) c.self.view_is c.stands_for_some_commands.ensures)
    (covers_by message c.args.self.now between c.cover_block.new.self c.in-Ok.pressure c.cover_block.result c.in-Ok.is
    c.self-2.view_is c.cover_block.ensures)
    c.write_copy-written.ensures.obeys c.look-look.ensures c.self-2.invariant

pub returns-clause-writes : goal.returns-clause-writes
returns-clause-writes c =
    let message = Block c.args.bytes.now in
    let between : BudgetedValue = record { connection = c.self-2.inside.connection; cover = c.self-2.inside.cover } in
    let new : BudgetedValue = record { connection = c.write_copy-written.new.self; cover = between.cover } in
    subst (λ answer. WritesWithin (λ why. why) message c.args.self.now (record { answer = answer; pressure = c.in-Ok.pressure }) new)
    (sym c.let_through.ensures)
    (writes_block message c.args.self.now between c.in-Ok.pressure c.write_copy-written.result c.write_copy-written.new.self
    (covers_by message c.args.self.now between c.cover_block.new.self c.in-Ok.pressure c.cover_block.result c.in-Ok.is
    c.self-2.view_is c.cover_block.ensures)
    c.write_copy-written.ensures.obeys c.write_copy-written.ensures.room)
