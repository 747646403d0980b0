-- Entries, as the code keeps them and as contracts see them, and what the fields say of what waits.
use Rattle.std.proofs.lemmas.List.{get_or-map, get_or-take, length-drop, length-take}
use Rattle.ob_seq.proofs.Words.{[], ◌≡◌, ℕ, ◌+◌, ◌<◌, List, ◌∷◌, length, map, take, drop, get_or, refl, sym, ap, ◌∙◌}
use Rattle.ob_seq.proofs.Words.{sum_by, take-append-drop, sum_by-append, sum_by-cons, Entry, PendingEntry}
use Rattle.ob_seq.proofs.Words.{pending_entry, true, false, none_taken_back, arith, pending_entries, counted, Outcome}
use Rattle.ob_seq.proofs.Words.{Unsent, whole, pending_total, ◌-◌, Block, Inside, blocks_left, IsSound}
use Rattle.ob_seq.proofs.Words.{unsent_of, waiting_count, take-map}
use Rattle.ob_seq.proofs.Inside.Gathered.{left_from_block, left_from_other}

-- what is counted of entries as contracts see them is counted of them as the code keeps them
pub sum_seen : (see : Entry → PendingEntry) (f : PendingEntry → ℕ) (items : List Entry) →
    sum_by f (map see items) ≡ sum_by (λ entry. f (see entry)) items
sum_seen see f [] = refl
sum_seen see f (entry ∷ items) =
    rw (sum_by-cons f (see entry) (map see items), sum_seen see f items)
    (sym (sum_by-cons (λ e. f (see e)) entry items))

-- the bytes that are pending are those that both runs count
pub total_of : (gone : List Outcome) (unsent : Unsent) →
    pending_total (whole gone unsent) ≡ counted unsent.line + counted unsent.unflushed
total_of gone unsent = grind (arith, sum_seen)

-- two parts of a list count together what the list counts
pub both_runs : (n : ℕ) (items : List Entry) → counted (take n items) + counted (drop n items) ≡ counted items
both_runs n items =
    rw (← sum_by-append (λ (entry : Entry). entry.size) (take n items) (drop n items), take-append-drop n items)

-- the entry at a place
pub entry_at : (items : List Entry) (i : ℕ) (entry : Entry) (d : PendingEntry) → i < length items →
    entry ≡ get_or items i entry → pending_entry entry ≡ get_or (pending_entries items) i d
entry_at items i entry d within is = ap pending_entry is ∙ sym (get_or-map pending_entry items i entry d within)

-- if no entry was taken back, neither was the first, nor was one behind it
module _ (entry : Entry) (entries : List Entry) (none : none_taken_back (entry ∷ entries) ≡ true) where
  pub first_not_back : entry.taken_back ≡ false
  first_not_back = grind (arith, none)

  pub rest_not_back : none_taken_back entries ≡ true
  rest_not_back = grind (arith, none)

module _ (held : Unsent) (inside : Inside) (view : unsent_of inside ≡ held) (sound : IsSound inside) where
  -- as many stand in line as the cursor says, and as many behind it as there are more
  pub line_count : length held.line ≡ inside.flushed
  line_count = rw (← view, length-take) (omega (arith, sound.line_within))

  pub unflushed_count : length held.unflushed ≡ length inside.entries.items - inside.flushed
  unflushed_count = rw (← view, length-drop)

  pub entry_count : waiting_count held ≡ length inside.entries.items
  entry_count = omega (arith, line_count, unflushed_count, sound.line_within)

  -- the total that is kept is that of what is held
  pub total_is : inside.total ≡ pending_total (whole [] held)
  total_is =
      rw (← view, total_of [] (unsent_of inside)) (sound.total ∙ sym (both_runs inside.flushed inside.entries.items))

  -- the line is that of the first entries
  pub line_is : pending_entries held.line ≡ take inside.flushed (pending_entries inside.entries.items)
  line_is = rw (← view) (sym (take-map pending_entry inside.flushed inside.entries.items))

  -- the entry at a place before the cursor stands there in line
  pub in_line : (place : ℕ) (entry : Entry) → place < inside.flushed → entry ≡ get_or inside.entries.items place entry →
      pending_entry entry ≡ get_or (pending_entries held.line) place (pending_entry entry)
  in_line place entry before is = grind (arith, line_is, get_or-take, entry_at)

-- what entries leave to be sent, one behind the other
abbrev pub left_of : List Entry → List (List ℕ)
left_of entries = blocks_left (pending_entries entries)

-- a block in front, and another message in front
module _ {entries rest : List Entry} {entry : Entry} (is : entries ≡ entry ∷ rest) where
  pub left_at_block : {bytes : List ℕ} → entry.message ≡ Block bytes → left_of entries ≡ bytes ∷ left_of rest
  left_at_block block = ap left_of is ∙ left_from_block (pending_entry entry) (pending_entries rest) block

  pub left_at_other : ((bytes : List ℕ) → entry.message ≡ Block bytes → ⊥) → left_of entries ≡ []
  left_at_other other = ap left_of is ∙ left_from_other (pending_entry entry) (pending_entries rest) other
