use Rattle.ob_seq.proofs.Words.{◌∙◌}
use Rattle.ob_seq.proofs.Inside.Looked.{current_is}
use Rattle.ob_seq.proofs.buffer.Buffer.current.Goals as goal

pub returns : goal.returns
returns c = rw (← c.self.view_is) (λ commands stands. c.current.ensures ∙ current_is _ commands stands.leaves)
