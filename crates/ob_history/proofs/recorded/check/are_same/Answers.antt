use Rattle.std.proofs.Common.{rules, ◌*◌, ◌/◌, length}
use Rattle.ob_history.proofs.Lists.{found_chunks, found_rest, found_same}
use Rattle.ob_history.proofs.recorded.check.are_same.Goals as goal

pub returns-then-eq : goal.returns-then-eq
returns-then-eq c =
    let bytes = c.args.bytes.now in
    let others = c.args.others.now in
    search (rules, found_same 8 (length bytes / 8) bytes others, found_rest (length bytes / 8 * 8) bytes others)

pub returns-else-eq : goal.returns-else-eq
returns-else-eq c =
    let bytes = c.args.bytes.now in
    search (rules, found_chunks 8 (length bytes / 8) bytes c.args.others.now)
