use Rattle.ob_seq.proofs.Words.{arith}
use Rattle.ob_seq.proofs.Words.{take-map, take-append-drop}
use Rattle.ob_seq.proofs.Inside.Fields.{sum_seen}
use Rattle.ob_seq.proofs.contents.Contents.to_settle_count.Goals as goal

pub returns : goal.returns
returns c = grind (arith, take-append-drop, take-map, sum_seen)
