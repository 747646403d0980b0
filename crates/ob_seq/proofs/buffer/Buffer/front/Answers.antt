use Rattle.ob_seq.proofs.Words.{arith}
use Rattle.ob_seq.proofs.Inside.Rooms.{front_id_there, line_there}
use Rattle.ob_seq.proofs.Rows.Fronts.{fronted, front_promise_is, no_front_promise}
use Rattle.ob_seq.proofs.buffer.Buffer.front.Goals as goal

pub returns-then-line_count-eq0 : goal.returns-then-line_count-eq0
returns-then-line_count-eq0 c = grind (arith, line_there, no_front_promise)

pub returns : goal.returns
returns c = grind (arith, line_there, front_promise_is, fronted, front_id_there)
