use Rattle.std.proofs.Common.{sym, ◌∙◌, arith}
use Rattle.ob_shared.proofs.Publishing.{may_cut}
use Rattle.ob_shared.proofs.words.Words.cut.Goals as goal

pub split_seat-requires : goal.split_seat-requires
split_seat-requires g c =
    let words = c.args.self.now in
    let seat = c.args.seat.now in (
      c.requires.table ∙ sym words.table_is,
      omega (arith, words.words),
      rw (words.marks_are, words.estimate_is) (may_cut g.L.Named.opened.settings seat.id seat.me.0),
    )
