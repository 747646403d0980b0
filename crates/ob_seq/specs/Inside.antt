-- How what waits to be sent is kept. No public clause cites this module.
use Rattle.std.specs.List.{list_all}
use Rattle.std.specs.Prelude.{◌≡◌, ◌≤◌, ℕ, Bool, true, false, not, List, length, sum_by, take, drop}
use Rattle.ob_types.specs.Limits.{greatest_overhead, greatest_unknown}
use Rattle.ob_seq.specs.Unsent.{Unsent}
use Rattle.ob_seq.specs.declared.entry.Entry.{Entry}
use Rattle.ob_seq.specs.declared.contents.Contents.TheInside.{Inside}

-- the bytes that entries count together
abbrev pub counted : List Entry → ℕ
counted entries = sum_by (λ entry. entry.size) entries

-- whether none of some entries was taken back
abbrev pub none_taken_back : List Entry → Bool
none_taken_back entries = list_all (λ entry. not entry.taken_back) entries

-- the marks of the opening are kept beside those in force, and the entries are those in line and then those that no
-- flush has reached
abbrev pub unsent_of : Inside → Unsent
unsent_of inside = record {
  settings = record { marks = inside.opened; estimate = inside.estimate };
  marks = inside.marks;
  line = take inside.flushed inside.entries.items;
  unflushed = drop inside.flushed inside.entries.items;
  word = inside.word;
  closed = inside.closed;
  room = inside.entries.room;
  capacity = inside.entries.capacity;
}

-- what every call keeps: the line is within the entries, the numbers fit, the running total is the sum of the pending
-- sizes of the entries, and if no flag says else no entry behind the line was taken back
pub record IsSound (inside : Inside) : Type 0 where
  pub line_within : inside.flushed ≤ length inside.entries.items
  pub total : inside.total ≡ counted inside.entries.items
  pub small_overhead : inside.estimate.overhead ≤ greatest_overhead
  pub small_unknown : inside.estimate.unknown ≤ greatest_unknown
  pub none_back : inside.any_taken_back ≡ false → none_taken_back (drop inside.flushed inside.entries.items) ≡ true
