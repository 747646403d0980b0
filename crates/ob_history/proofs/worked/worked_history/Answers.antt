use Rattle.std.proofs.Common.{refl, arith}
use Rattle.ob_seq.specs.State.{user_bits}
use Rattle.ob_history.specs.Worked.{write_at, flush_of}
use Rattle.ob_history.proofs.Lists.{counts_differ}
use Rattle.ob_history.proofs.worked.worked_history.Goals as goal

pub returns-clause-another_place : goal.returns-clause-another_place
returns-clause-another_place c legal = let at = legal 0 (write_at 1) refl in omega (arith, at.place)

pub returns-clause-another_reply : goal.returns-clause-another_reply
unfolding user_bits
returns-clause-another_reply c legal =
    counts_differ (flush_of 1).reply (flush_of 2).reply refl refl (legal 2 (flush_of 2) refl).reply
