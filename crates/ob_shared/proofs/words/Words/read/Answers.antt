use Rattle.std.proofs.Common.{sym, ◌∙◌, arith}
use Rattle.ob_shared.proofs.Publishing.{may_read}
use Rattle.ob_shared.proofs.words.Words.read.Goals as goal

pub load-requires : goal.load-requires
load-requires g c =
    let words = c.args.self.now in
    let seat = c.args.seat.now in (
      c.requires.table ∙ sym words.table_is,
      omega (arith, words.words),
      rw (words.marks_are, words.estimate_is)
          (may_read g.L.Named.opened.settings words.table.shared.table_id.slots seat.id seat.me),
    )
