use Rattle.ob_seq.proofs.Words.{refl, UserBit}
use Rattle.ob_seq.proofs.Simulating.Kept.{kept, obeyed}
use Rattle.ob_seq.proofs.buffer.Buffer.user_bit.Goals as goal

pub invariant_of-self-2 : goal.invariant_of-self-2
invariant_of-self-2 c = kept (UserBit c.args.index c.args.writable) c.in_ok-change.ensures c.self.invariant

pub returns-clause-obeys : goal.returns-clause-obeys
returns-clause-obeys c =
    obeyed (UserBit c.args.index c.args.writable) c.in_ok-change.ensures c.self.inside.gone.list c.self.view_is (rw c.reply.ensures refl)
