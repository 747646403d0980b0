use Rattle.ob_shared.proofs.Seats.{cut_reads}
use Rattle.ob_shared.proofs.words.Words.reader.Goals as goal

pub new-requires : goal.new-requires
new-requires g c =
    cut_reads g.L.Named.opened c.args.seat.now c.cut.result c.cut.ensures.other c.requires.table c.requires.legal
    c.cut.ensures.given
