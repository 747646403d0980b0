use Rattle.std.proofs.Common.{◌≡◌, ◌+◌, [], take, drop, length, arith}
use Rattle.std.proofs.lemmas.List.{take_all, drop_all}
use Rattle.ob_script.proofs.Lines.{lines_of-first}
use Rattle.ob_script.proofs.reading.lines.first_line.Goals as goal

pub returns-then-end-script-clause-lines : goal.returns-then-end-script-clause-lines
returns-then-end-script-clause-lines c =
    let script = c.args.script.now in
    let first = rw (← c.index_or_len-end.ensures.place, c.if-end-script.true) at (lines_of-first script c.requires) in
    let line : take (length script) script ≡ script = take_all (length script) script (omega arith) in
    let rest : drop (length script + 1) script ≡ [] = drop_all (length script + 1) script (omega arith) in
    let none : drop (length script) script ≡ [] = drop_all (length script) script (omega arith) in
    rw (c.if-end-script.true, none) (rw (line, rest) at first)

pub returns-clause-lines : goal.returns-clause-lines
returns-clause-lines c =
    rw (← c.index_or_len-end.ensures.place) at (lines_of-first c.args.script.now c.requires)
