use Rattle.ob_seq.proofs.Words.{[], ◌∷◌, append-nil, length-append, ap, arith, length}
use Rattle.std.proofs.lemmas.Result.{err_from_is_err_and}
use Rattle.ob_seq.specs.Kept.{removal}
use Rattle.ob_seq.proofs.Simulating.Kept.{removes}
use Rattle.ob_seq.proofs.Simulating.Simulated.{obeys, stays}
use Rattle.ob_seq.proofs.buffer.Buffer.remove_as.Goals as goal

pub returns-in_err-front-clause-obeys : goal.returns-in_err-front-clause-obeys
returns-in_err-front-clause-obeys c =
    let gone = c.self.inside.gone.list in
    let err = err_from_is_err_and c.from_residual.result c.from_residual.ensures.1 in
    let made = rw (append-nil gone) at (c.in_err-front.ensures.makes gone c.args.outcome) in
    rw (err.1, err.2) (obeys (removal c.args.outcome) _ (removes c.args.outcome c.requires made) c.self.view_is)

pub invariant_of-self-in_default : goal.invariant_of-self-in_default
invariant_of-self-in_default c =
    let gone = c.self.inside.gone.list in
    let made = rw (c.in_default.is, append-nil gone) at (c.in_ok-front.ensures.makes gone c.args.outcome) in
    let same = rw c.in_default.is at c.in_ok-front.ensures.fewer in record {
      few_writes = omega (arith, c.self.invariant.few_writes, same);
      room = omega (arith, c.self.invariant.room, same);
      stands = stays (removal c.args.outcome) _ (removes c.args.outcome c.requires made) c.self.invariant.stands;
    }

pub returns-in_default-clause-obeys : goal.returns-in_default-clause-obeys
returns-in_default-clause-obeys c =
    let gone = c.self.inside.gone.list in
    let made = rw (c.in_default.is, append-nil gone) at (c.in_ok-front.ensures.makes gone c.args.outcome) in
    rw c.reply.ensures (obeys (removal c.args.outcome) _ (removes c.args.outcome c.requires made) c.self.view_is)

pub invariant_of-self-2 : goal.invariant_of-self-2
invariant_of-self-2 c =
    let gone = c.self.inside.gone.list in
    let made = rw c.in-Some.is at (c.in_ok-front.ensures.makes gone c.args.outcome) in
    let fewer = rw c.in-Some.is at c.in_ok-front.ensures.fewer in
    let more = length-append gone (c.ending.result ∷ []) in record {
      few_writes = omega (arith, c.self.invariant.few_writes, fewer, ap length c.push.ensures.list, more);
      room = omega (arith, c.self.invariant.room, fewer, c.push.ensures.room);
      stands = rw (c.push.ensures.list, c.ending.ensures)
          (stays (removal c.args.outcome) _ (removes c.args.outcome c.requires made) c.self.invariant.stands);
    }

pub returns-clause-obeys : goal.returns-clause-obeys
returns-clause-obeys c =
    let made = rw c.in-Some.is at (c.in_ok-front.ensures.makes c.self.inside.gone.list c.args.outcome) in
    rw (c.settled.ensures, c.len.ensures, c.push.ensures.list, c.ending.ensures)
    (obeys (removal c.args.outcome) _ (removes c.args.outcome c.requires made) c.self.view_is)
