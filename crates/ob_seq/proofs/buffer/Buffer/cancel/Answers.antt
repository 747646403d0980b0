use Rattle.ob_seq.proofs.Words.{sym, arith, Cancel}
use Rattle.std.proofs.lemmas.Result.{err_from_is_err_and}
use Rattle.ob_seq.proofs.Simulating.Simulated.{obeys, stays}
use Rattle.ob_seq.proofs.buffer.Buffer.cancel.Goals as goal

pub returns-in_err-in_time-clause-obeys : goal.returns-in_err-in_time-clause-obeys
returns-in_err-in_time-clause-obeys c =
    let made = rw c.from.ensures at (c.in_err-in_time.ensures.makes c.self.inside.gone.list (sym c.len.ensures)) in
    let err = err_from_is_err_and c.from_residual.result c.from_residual.ensures.1 in
    rw (err.1, err.2) (obeys (Cancel c.args.id) _ made c.self.view_is)

pub invariant_of-self-2 : goal.invariant_of-self-2
invariant_of-self-2 c =
    let made = rw c.from.ensures at (c.in_ok-in_time.ensures.makes c.self.inside.gone.list (sym c.len.ensures)) in record {
      few_writes = omega (arith, c.self.invariant.few_writes, c.in_ok-in_time.ensures.as_many);
      room = omega (arith, c.self.invariant.room, c.in_ok-in_time.ensures.as_many);
      stands = stays (Cancel c.args.id) _ made c.self.invariant.stands;
    }

pub returns-clause-obeys : goal.returns-clause-obeys
returns-clause-obeys c =
    let made = rw c.from.ensures at (c.in_ok-in_time.ensures.makes c.self.inside.gone.list (sym c.len.ensures)) in
    rw c.settled.ensures (obeys (Cancel c.args.id) _ made c.self.view_is)
