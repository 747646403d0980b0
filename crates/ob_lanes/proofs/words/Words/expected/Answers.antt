use Rattle.ob_lanes.proofs.Tries.{begun}
use Rattle.ob_lanes.proofs.words.Words.expected.Goals as goal

pub returns-in-None : goal.returns-in-None
returns-in-None c = begun _ _ _ c.load.ensures
