use Rattle.ob_seq.proofs.Laid.{found_behind}
use Rattle.ob_seq.proofs.entries.segments.found_in.Goals as goal

pub returns : goal.returns
returns c =
    found_behind c.args.first.now c.args.more.now.items c.args.place c.len-count.result c.requires.front.full c.requires.there
    c.len-count.ensures c.if-place-count.false
