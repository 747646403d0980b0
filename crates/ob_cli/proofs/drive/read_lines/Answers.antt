use Rattle.std.proofs.Common.{◌∙◌, subst, sym, take}
use Rattle.ob_cli.specs.Drive.{drive_grammar}
use Rattle.ob_cli.specs.Inside.{HasKept}
use Rattle.ob_script.specs.Reading.{script_lines}
use Rattle.ob_script.proofs.Places.{ends_at_nil, is_placed, read_further}
use Rattle.ob_cli.proofs.drive.read_lines.Goals as goal

pub loop-cursor-preserved : goal.loop-cursor-preserved
loop-cursor-preserved c =
    let script = c.args.script.items in
    let n = c.loop-cursor.cursor.count in
    let inv = c.loop-cursor.invariant in
    let before = take n (script_lines drive_grammar script) in
    let done = c.in_ok-keep.ensures in
    let placed = is_placed c.in_ok-keep.field-0 _ (done.fits before inv.kept) c.if-not-branch.false in
    let further =
    read_further drive_grammar script n c.read.new.self.count c.in_ok-line.line c.read.new.self.rest
    c.in_ok-line.ensures.count (c.in_ok-line.ensures.placed script inv.stands placed) in
    record {
      kept = subst (HasKept c.keep.new.self) (sym further.0) (done.done c.if-not-branch.false before inv.kept);
      stands = further.1;
    }

pub returns-clause-kept : goal.returns-clause-kept
returns-clause-kept c =
    let ends =
    ends_at_nil drive_grammar c.args.script.items c.loop-cursor.cursor.count c.loop-cursor.cursor.rest
    c.loop-cursor.invariant.stands (sym c.is_at_end.ensures ∙ c.loop-cursor-test.false) in
    subst (HasKept c.loop-cursor.session) ends.0 c.loop-cursor.invariant.kept
