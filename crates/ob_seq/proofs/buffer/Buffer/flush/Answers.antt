use Rattle.ob_seq.proofs.Words.{refl, Flush}
use Rattle.ob_seq.proofs.Simulating.Kept.{kept, obeyed}
use Rattle.ob_seq.proofs.buffer.Buffer.flush.Goals as goal

pub invariant_of-self-2 : goal.invariant_of-self-2
invariant_of-self-2 c = kept Flush c.in_ok-change.ensures c.self.invariant

pub returns-clause-obeys : goal.returns-clause-obeys
returns-clause-obeys c = obeyed Flush c.in_ok-change.ensures c.self.inside.gone.list c.self.view_is (rw (c.reply.ensures, c.unflushed_count.ensures) refl)
