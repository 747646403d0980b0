use Rattle.ob_connection.proofs.Words.{whole}
use Rattle.ob_seq.proofs.Inside.Looked.{current_is}
use Rattle.ob_connection.proofs.connection.Connection.current.Goals as goal

pub returns : goal.returns
returns c = rw (← c.self.view_is) (λ commands stands.
    let unsent = c.self.inside.contents in
    rw (c.current.ensures) (current_is (whole stands.past unsent) commands stands.as_buffer.leaves))
