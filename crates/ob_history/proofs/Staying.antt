-- Receipts and looks that are of a history, with records added, and a buffer whose records have more memory than
-- before.
use Rattle.std.proofs.Common.{◌≡◌, ℕ, zero, suc, List, [], ◌∷◌, ◌++◌, length, Some, ap, sym, ◌∙◌, arith, ◌+◌, ◌≤◌}
use Rattle.std.proofs.lemmas.List.{length-append, take_all, take-append-le}
use Rattle.std.specs.List.{slice_get}
use Rattle.std.specs.declared.alloc.Global.{Global}
use Rattle.std.specs.declared.vec.Vec.{Vec}
use Rattle.ob_seq.specs.Looks.{look_after}
use Rattle.ob_seq.specs.Rows.{Settings}
use Rattle.ob_history.specs.History.{accepted_commands, History, IsSeenIn, seen_now}
use Rattle.ob_history.specs.declared.record.Record.{Record}
use Rattle.ob_history.specs.declared.seen.Seen.{Seen}
use Rattle.ob_history.specs.Inside.{IsSound}
use Rattle.ob_history.specs.declared.recorded.Recorded.TheInside.{Inside}

-- what stands at an index stands there still
pub slice_get-longer : (records more : List Record) (index : ℕ) (one : Record)
    → slice_get records index ≡ Some one → slice_get (records ++ more) index ≡ Some one
slice_get-longer [] more index one there = absurd (cc)
slice_get-longer (first ∷ records) more zero one there = there
slice_get-longer (first ∷ records) more (suc index) one there = slice_get-longer records more index one there

-- what is seen now is of the history
pub seen_now_is_seen : (history : History) → IsSeenIn history.settings history.records (seen_now history)
seen_now_is_seen history = record {
  within = omega arith;
  look = ap (λ earlier. look_after history.settings (accepted_commands earlier))
      (sym (take_all (length history.records) history.records (omega arith)));
}

-- a look that is of a history is of the longer one
pub seen_longer : (settings : Settings) (records more : List Record) (look : Seen)
    → IsSeenIn settings records look → IsSeenIn settings (records ++ more) look
seen_longer settings records more look seen = record {
  within = omega (arith, seen.within, length-append records more);
  look = seen.look ∙ ap (λ earlier. look_after settings (accepted_commands earlier))
      (sym (take-append-le look.place records more seen.within));
}

-- one whose records and reserved calls are kept elsewhere
abbrev pub kept_in : Inside → Vec Record Global → ℕ → Inside
kept_in inside records reserved = record {
  marks = inside.marks;
  estimate = inside.estimate;
  limit = inside.limit;
  records = records;
  reserved = reserved;
  buffer = inside.buffer;
}

module _ (inside : Inside) (records : Vec Record Global) where
  -- the same records, with places and memory for `reserved` calls, are kept as well
  pub IsSound-kept_in : (reserved : ℕ) → records.items ≡ inside.records.items → records.len + reserved ≤ inside.limit →
      records.len + reserved ≤ records.cap → IsSound inside → IsSound (kept_in inside records reserved)
  IsSound-kept_in reserved items places memory sound = record {
    legal = rw items sound.legal;
    stands = rw items sound.stands;
    settings = sound.settings;
    places = places;
    memory = memory;
    few_records = sound.few_records;
    small_overhead = sound.small_overhead;
    small_unknown = sound.small_unknown;
  }

  -- so are they with more memory alone
  pub IsSound-more_room : records.items ≡ inside.records.items → records.len ≡ inside.records.len →
      inside.records.cap ≤ records.cap → IsSound inside → IsSound (kept_in inside records inside.reserved)
  IsSound-more_room items len cap sound =
      IsSound-kept_in inside.reserved items (rw len sound.places) (omega (arith, len, cap, sound.memory)) sound
