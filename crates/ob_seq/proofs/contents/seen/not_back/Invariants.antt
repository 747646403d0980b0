use Rattle.ob_seq.proofs.Words.{◌≡◌, ◌+◌, count_by, not}
use Rattle.ob_seq.proofs.contents.seen.not_back.Given as goal

abbrev pub invariant-loop-entry : goal.invariant-loop-entry
invariant-loop-entry l =
    l.count + count_by (λ entry. not entry.taken_back) l.entry-iterator
    ≡ count_by (λ entry. not entry.taken_back) l.fn.entries
