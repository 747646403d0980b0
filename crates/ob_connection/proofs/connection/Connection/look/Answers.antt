use Rattle.ob_connection.proofs.Words.{whole}
use Rattle.std.proofs.lemmas.List.{length-map}
use Rattle.ob_seq.specs.Unsent.{pending_entry}
use Rattle.ob_seq.proofs.Inside.Looked.{seen_is}
use Rattle.ob_connection.proofs.connection.Connection.look.Goals as goal

pub returns : goal.returns
returns c = rw (← c.self.view_is) (λ commands stands.
    let unsent = c.self.inside.contents in
    rw (c.before_unwritable.ensures, c.before_writable.ensures, c.current_progress.ensures, c.total.ensures)
    (rw (c.line_count.ensures, c.word.ensures, ← length-map unsent.line pending_entry)
    (seen_is (whole stands.past unsent) commands stands.as_buffer.leaves)))
