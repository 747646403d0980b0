use Rattle.ob_seq.proofs.Words.{refl, SetMarks}
use Rattle.ob_seq.proofs.Simulating.Kept.{kept, obeyed}
use Rattle.ob_seq.proofs.buffer.Buffer.set_marks.Goals as goal

pub invariant_of-self-2 : goal.invariant_of-self-2
invariant_of-self-2 c = kept (SetMarks c.args.marks) c.in_ok-set_marks.ensures c.self.invariant

pub returns-clause-obeys : goal.returns-clause-obeys
returns-clause-obeys c = obeyed (SetMarks c.args.marks) c.in_ok-set_marks.ensures c.self.inside.gone.list c.self.view_is (rw c.reply.ensures refl)
