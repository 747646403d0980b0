use Rattle.ob_seq.proofs.Words.{◌∙◌}
use Rattle.ob_seq.proofs.Simulating.Simulated.{settles}
use Rattle.ob_seq.proofs.buffer.Buffer.settles.Goals as goal

pub returns : goal.returns
returns c commands stands = c.step_settles.ensures ∙ settles c.args.command.now c.args.self.now commands stands
