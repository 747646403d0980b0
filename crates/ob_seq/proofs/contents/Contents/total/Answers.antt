use Rattle.ob_seq.proofs.Inside.Fields.{total_is}
use Rattle.ob_seq.proofs.contents.Contents.total.Goals as goal

pub returns : goal.returns
returns c = total_is c.args.self.now c.self.inside c.self.view_is c.self.invariant
