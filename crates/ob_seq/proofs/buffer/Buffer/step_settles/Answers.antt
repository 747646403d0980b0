use Rattle.ob_seq.proofs.Words.{◌≡◌, false, sym, ap, ◌∙◌, arith, take_all, Failed, failing_step, front_id, Pending}
use Rattle.ob_seq.proofs.Inside.LetGo.{count_of_settlements}
use Rattle.ob_seq.proofs.Inside.Rooms.{line_there}
use Rattle.ob_seq.proofs.Simulating.Simulation.{settled_where_open}
use Rattle.ob_seq.proofs.buffer.Buffer.step_settles.Goals as goal

pub returns-in-FailFlushed : goal.returns-in-FailFlushed
returns-in-FailFlushed c =
    let now = c.args.self.now in
    let cause = c.in-FailFlushed.field-0 in
    let unclosed : now.closed ≡ false =
    ap (λ (one : Pending). one.closed) (sym c.self.view_is) ∙ sym c.is_closed.ensures ∙ c.if-is_closed.false in
    let size = line_there c.self.inside.gone.list c.self.inside.contents c.self.view_is in
    let all = take_all c.line_count.result now.line (omega (arith, size, c.line_count.ensures)) in
    let count = count_of_settlements (Failed cause) (front_id now) now.line in
    rw (c.in-FailFlushed.is, c.unvoided.ensures, all, ← count)
    (settled_where_open now (failing_step cause c.in-FailFlushed.field-1 now) unclosed)
