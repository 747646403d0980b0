use Rattle.ob_connection.proofs.Words.{◌≡◌, ◌<◌, arith, length, whole, Past, connected_of}
use Rattle.std.proofs.lemmas.List.{length-map}
use Rattle.ob_seq.specs.Unsent.{pending_entry}
use Rattle.ob_seq.proofs.Rows.Fronts.{fronted, front_promise_is, no_front_promise}
use Rattle.ob_connection.proofs.Steps.{front_id_there}
use Rattle.ob_connection.proofs.connection.Connection.front.Goals as goal

pub returns-then-line_count-eq0 : goal.returns-then-line_count-eq0
returns-then-line_count-eq0 c = rw (← c.self.view_is) (λ commands stands.
    let unsent = c.self.inside.contents in
    let held = whole stands.past unsent in
    let none : length held.line ≡ 0 =
    omega (arith, length-map unsent.line pending_entry, c.line_count.ensures, c.if-line_count-eq0.true) in
    rw (no_front_promise held commands stands.as_buffer.leaves none))

pub returns : goal.returns
returns c = rw (← c.self.view_is) (λ commands stands.
    let unsent = c.self.inside.contents in
    let held = whole stands.past unsent in
    let past : Past (connected_of c.self.inside) = record { outcomes = stands.past; count = stands.forgotten } in
    let some : 0 < length held.line =
    omega (arith, length-map unsent.line pending_entry, c.line_count.ensures, c.if-line_count-eq0.false) in
    rw (front_promise_is held commands (fronted held commands stands.as_buffer.leaves some), front_id_there past))
