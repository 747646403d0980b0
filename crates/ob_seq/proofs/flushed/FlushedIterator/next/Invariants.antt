use Rattle.ob_seq.proofs.Words.{◌≡◌, length, messages_to_send, pending_entries}
use Rattle.ob_seq.proofs.flushed.FlushedIterator.next.Given as goal

abbrev pub invariant-loop-entry : goal.invariant-loop-entry
invariant-loop-entry l = messages_to_send (pending_entries l.self-inside.entries) ≡ l.fn.self

abbrev pub decreases-loop-entry : goal.decreases-loop-entry
decreases-loop-entry l = length l.self-inside.entries
