use Rattle.ob_seq.proofs.Words.{◌≡◌, take, entry_settlements}
use Rattle.ob_seq.specs.Unsent.{all_entries}
use Rattle.ob_seq.proofs.contents.Contents.settlements.Given as goal

abbrev pub invariant-loop-place : goal.invariant-loop-place
invariant-loop-place l = l.settled ≡ entry_settlements l.fn.outcome l.fn.first (take l.place (all_entries l.self))
