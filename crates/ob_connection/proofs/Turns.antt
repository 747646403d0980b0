-- Bytes that are removed in several turns are removed as by one.
use Rattle.ob_connection.proofs.Words.{◌≡◌, ◌≤◌, ◌<◌, ℕ, zero, suc, ◌+◌, ◌-◌, Bool, true, false, List, [], ◌∷◌, ◌++◌, length, take, drop, ltb}
use Rattle.ob_connection.proofs.Words.{refl, sym, ap, ◌∙◌, arith, nat_tests, Pending, inl, inr, None, if◌then◌else◌}
use Rattle.std.specs.List.{concat}
use Rattle.ob_connection.proofs.Words.{Becomes, Connected, Unsent, held, subst}
use Rattle.std.proofs.Math.Seq.{drop-append-add, take-add}
use Rattle.std.proofs.lemmas.Bool.{cases_lt}
use Rattle.std.proofs.lemmas.List.{drop-append-le, drop-drop, length-drop, length-map}
use Rattle.std.proofs.lemmas.List.Sums.{sum_by-cons}
use Rattle.ob_types.specs.declared.message.Message.{Message}
use Rattle.ob_types.specs.declared.message.Message.TheVariants.{Block, Region, Other}
use Rattle.ob_types.specs.declared.promise.Outcome.TheVariants.{Success}
use Rattle.ob_seq.specs.Looks.{PendingEntry, blocks_left}
use Rattle.ob_seq.specs.Effect.{bytes_in}
use Rattle.ob_seq.specs.Rows.{without_skipped}
use Rattle.ob_seq.specs.Steps.Step.{first_changed, front_changed}
use Rattle.ob_seq.specs.Steps.Commands.{front_taken, bytes_removed, bytes_step, front_skipped, skipped_entry}
use Rattle.ob_seq.specs.Steps.Commands.{whole_cut}
use Rattle.ob_seq.specs.Unsent.{pending_entries, pending_entry}
use Rattle.ob_seq.specs.declared.contents.cut.Cut.{Cut}
use Rattle.ob_seq.proofs.Inside.Gathered.{few_entries, left_from_block, left_from_other, length_of_concat, fitting}
use Rattle.ob_seq.proofs.Inside.Gathered.{within_is_fitting}
use Rattle.ob_seq.proofs.Inside.Steps.{times_first}
use Rattle.ob_connection.specs.Inside.{cut_at, removed, run_of}
use Rattle.ob_connection.proofs.Steps.{some_past}

-- what is held once the front is sent
abbrev pub sent : Pending → Pending
sent now = front_taken true Success now

-- bytes that are skipped are more than none
skipping : (n : ℕ) (now : Pending) → 0 < n → front_skipped n now ≡ front_changed (skipped_entry n) now
skipping n now more = let some : ltb 0 n ≡ true = grind (arith, nat_tests) in rw some refl

-- where a removal ends, one piece after another
cut_at_end : (n : ℕ) → whole_cut n [] ≡ record { whole = 0; rest = n }
cut_at_end n = rw (within_is_fitting n []) (grind arith)

module _ (n : ℕ) (piece : List ℕ) (pieces : List (List ℕ)) where
  cut_behind : length piece ≤ n →
      (let cut = whole_cut (n - length piece) pieces in
      whole_cut n (piece ∷ pieces) ≡ record { whole = suc cut.whole; rest = cut.rest })
  cut_behind fits =
      let all = sum_by-cons (λ (piece : List ℕ). length piece) piece (take (fitting (n - length piece) pieces) pieces) in
      rw (within_is_fitting n (piece ∷ pieces), within_is_fitting (n - length piece) pieces) (grind (arith, nat_tests))

  cut_within : n < length piece → whole_cut n (piece ∷ pieces) ≡ record { whole = 0; rest = n }
  cut_within few = rw (within_is_fitting n (piece ∷ pieces)) (grind (arith, nat_tests))

-- a removal of nothing when nothing is left
pub removed_none : (now : Pending) → blocks_left now.line ≡ [] → removed 0 now ≡ now
removed_none now none =
    ap (λ pieces. bytes_removed (whole_cut 0 pieces) now) none ∙ ap (λ cut. bytes_removed cut now) (cut_at_end 0)

module _ (now : Pending) (entry : PendingEntry) (entries : List PendingEntry) (is : now.line ≡ entry ∷ entries)
    {bytes : List ℕ} (block : entry.message ≡ Block bytes) where
  pub left_is : blocks_left now.line ≡ bytes ∷ blocks_left entries
  left_is = ap blocks_left is ∙ left_from_block entry entries block

  pub behind_is : (sent now).line ≡ entries
  behind_is = ap (drop 1) is

  pub left_size : bytes_in (blocks_left now.line) ≡ length bytes + bytes_in (blocks_left (sent now).line)
  left_size =
      ap bytes_in left_is ∙ sum_by-cons (λ (piece : List ℕ). length piece) bytes (blocks_left entries)
      ∙ ap (λ line. length bytes + bytes_in (blocks_left line)) (sym behind_is)

  -- a removal of a whole block and more
  pub removed_behind : (n : ℕ) → length bytes ≤ n → removed n now ≡ removed (n - length bytes) (sent now)
  removed_behind n fits =
      let cut = whole_cut (n - length bytes) (blocks_left entries) in
      ap (λ pieces. bytes_removed (whole_cut n pieces) now) left_is
      ∙ ap (λ (one : Cut). bytes_removed one now) (cut_behind n bytes (blocks_left entries) fits)
      ∙ ap (front_skipped cut.rest) (sym (times_first (front_taken true Success) cut.whole now))
      ∙ ap (λ line. bytes_removed (whole_cut (n - length bytes) (blocks_left line)) (sent now)) (sym behind_is)

  -- a removal that ends in the front
  pub removed_in : (n : ℕ) → n < length bytes → removed n now ≡ front_skipped n now
  removed_in n few = grind (arith, left_is, cut_within)

  -- how many are gone whole
  whole_behind : (n : ℕ) → length bytes ≤ n →
      (cut_at n now).whole ≡ suc (cut_at (n - length bytes) (sent now)).whole
  whole_behind n fits =
      ap (λ pieces. (whole_cut n pieces).whole) left_is
      ∙ ap (λ (one : Cut). one.whole) (cut_behind n bytes (blocks_left entries) fits)
      ∙ ap (λ line. suc (whole_cut (n - length bytes) (blocks_left line)).whole) (sym behind_is)

  whole_in : (n : ℕ) → n < length bytes → (cut_at n now).whole ≡ 0
  whole_in n few =
      ap (λ pieces. (whole_cut n pieces).whole) left_is
      ∙ ap (λ (one : Cut). one.whole) (cut_within n bytes (blocks_left entries) few)

  -- what is in front with some of it skipped
  abbrev IsFront : ℕ → PendingEntry → Type 0
  IsFront n first = ((front_skipped n now).line ≡ first ∷ entries) × (first.message ≡ Block (drop n bytes))

  front_left : (n : ℕ) → (first : PendingEntry) × IsFront n first
  front_left zero = (entry, (is, block))
  front_left (suc n) = (
    skipped_entry (suc n) entry,
    (
      ap (λ (one : Pending). one.line) (skipping (suc n) now (omega arith))
          ∙ ap (first_changed (skipped_entry (suc n))) is,
      ap (without_skipped (suc n)) block,
    ),
  )

  -- the front is sent alike with some of it skipped
  sent_skipped : (n : ℕ) → sent (front_skipped n now) ≡ sent now
  sent_skipped n = by_test (ltb 0 n)
    where
      by_test : (some : Bool) →
          sent (if some then front_changed (skipped_entry n) now else now) ≡ sent now
      by_test true = rw is refl
      by_test false = refl

skipped_again : (a b : ℕ) (entry : PendingEntry) →
    skipped_entry b (skipped_entry a entry) ≡ skipped_entry (a + b) entry
skipped_again a b entry = grind (arith, drop-drop)

changed_again : (a b : ℕ) (line : List PendingEntry) →
    first_changed (skipped_entry b) (first_changed (skipped_entry a) line) ≡ first_changed (skipped_entry (a + b)) line
changed_again a b [] = refl
changed_again a b (entry ∷ entries) = ap (λ first. first ∷ entries) (skipped_again a b entry)

-- bytes that are skipped in two steps
skipped_twice : (a b : ℕ) (now : Pending) → front_skipped b (front_skipped a now) ≡ front_skipped (a + b) now
skipped_twice zero b now = ap (λ n. front_skipped n now) (omega arith)
skipped_twice (suc a) zero now = ap (λ n. front_skipped n now) (omega arith)
skipped_twice (suc a) (suc b) now =
    ap (front_skipped (suc b)) (skipping (suc a) now (omega arith))
    ∙ skipping (suc b) (front_changed (skipped_entry (suc a)) now) (omega arith)
    ∙ ap (λ (line : List PendingEntry). record now { line = line }) (changed_again (suc a) (suc b) now.line)
    ∙ sym (skipping (suc a + suc b) now (omega arith))

-- a removal after another one is as one of all the bytes
pub record InTurns (a b : ℕ) (now : Pending) : Type 0 where
  pub state : removed b (removed a now) ≡ removed (a + b) now
  pub whole : (cut_at a now).whole + (cut_at b (removed a now)).whole ≡ (cut_at (a + b) now).whole

-- if the first of two ends behind the front
module _ (now : Pending) (entry : PendingEntry) (entries : List PendingEntry) (is : now.line ≡ entry ∷ entries)
    {bytes : List ℕ} (block : entry.message ≡ Block bytes) (a b : ℕ) where
  turns_behind : length bytes ≤ a → InTurns (a - length bytes) b (sent now) → InTurns a b now
  turns_behind fits rest =
      let first = removed_behind now entry entries is block a fits in
      let all = removed_behind now entry entries is block (a + b) (omega (arith, fits)) in
      let sum : (a - length bytes) + b ≡ a + b - length bytes = omega (arith, fits) in record {
        state = ap (removed b) first ∙ rest.state ∙ ap (λ n. removed n (sent now)) sum ∙ sym all;
        whole = omega (
          arith,
          whole_behind now entry entries is block a fits,
          ap (λ (one : Pending). (cut_at b one).whole) first,
          rest.whole,
          whole_behind now entry entries is block (a + b) (omega (arith, fits)),
          ap (λ n. (cut_at n (sent now)).whole) sum,
        );
      }

  -- or within it
  turns_in : a < length bytes → InTurns a b now
  turns_in few =
      let first = removed_in now entry entries is block a few in
      let rest = front_skipped a now in
      let left = front_left now entry entries is block a in
      let size = length-drop a bytes in elim (cases_lt b (length (drop a bytes))) [
        | inr fits ↦
            let second = removed_behind rest left.0 entries left.1.0 left.1.1 b fits in
            let all = removed_behind now entry entries is block (a + b) (omega (arith, few, fits, size)) in
            let same = sent_skipped now entry entries is block a in
            let sum : b - length (drop a bytes) ≡ a + b - length bytes = omega (arith, few, fits, size) in record {
              state = ap (removed b) first ∙ second ∙ ap (removed (b - length (drop a bytes))) same
                  ∙ ap (λ n. removed n (sent now)) sum ∙ sym all;
              whole = omega (
                arith,
                whole_in now entry entries is block a few,
                ap (λ (one : Pending). (cut_at b one).whole) first,
                whole_behind rest left.0 entries left.1.0 left.1.1 b fits,
                ap (λ (one : Pending). (cut_at (b - length (drop a bytes)) one).whole) same,
                whole_behind now entry entries is block (a + b) (omega (arith, few, fits, size)),
                ap (λ n. (cut_at n (sent now)).whole) sum,
              );
            }
        | inl less ↦ record {
          state = ap (removed b) first ∙ removed_in rest left.0 entries left.1.0 left.1.1 b less ∙ skipped_twice a b now
              ∙ sym (removed_in now entry entries is block (a + b) (omega (arith, few, less, size)));
          whole = omega (
            arith,
            whole_in now entry entries is block a few,
            ap (λ (one : Pending). (cut_at b one).whole) first,
            whole_in rest left.0 entries left.1.0 left.1.1 b less,
            whole_in now entry entries is block (a + b) (omega (arith, few, less, size)),
          );
        }
      ]

-- what is so of a removal of nothing at the end of the blocks in front, of one behind the front if it is so of the rest of it, and
-- of one that ends in the front, is so of each removal of no more bytes than are left
pub along_front : (P : Pending → ℕ → Type 0) → ((now : Pending) → blocks_left now.line ≡ [] → P now 0) →
    ((now : Pending) (entry : PendingEntry) (entries : List PendingEntry) → now.line ≡ entry ∷ entries →
    (bytes : List ℕ) → entry.message ≡ Block bytes → (n : ℕ) → length bytes ≤ n → P (sent now) (n - length bytes) → P now n) →
    ((now : Pending) (entry : PendingEntry) (entries : List PendingEntry) → now.line ≡ entry ∷ entries →
    (bytes : List ℕ) → entry.message ≡ Block bytes → (n : ℕ) → n < length bytes → P now n) →
    (line : List PendingEntry) (now : Pending) → now.line ≡ line → (n : ℕ) → n ≤ bytes_in (blocks_left line) → P now n
along_front P end behind inside [] now is zero within = end now (ap blocks_left is)
along_front P end behind inside [] now is (suc n) within = absurd (omega (arith, within))
along_front P end behind inside (entry ∷ entries) now is n within =
    by_message entry.message refl (λ n. along_front P end behind inside entries (sent now) (ap (drop 1) is) n)
  where
    none : ((bytes : List ℕ) → entry.message ≡ Block bytes → ⊥) → (n : ℕ) →
        n ≤ bytes_in (blocks_left (entry ∷ entries)) → P now n
    none other zero within = end now (ap blocks_left is ∙ left_from_other entry entries other)
    none other (suc n) within = absurd (omega (arith, ap bytes_in (left_from_other entry entries other), within))

    by_message : (message : Message) → entry.message ≡ message →
        ((n : ℕ) → n ≤ bytes_in (blocks_left entries) → P (sent now) n) → P now n
    by_message (Block bytes) block rest =
        let all = ap bytes_in (left_from_block entry entries block)
        ∙ sum_by-cons (λ (piece : List ℕ). length piece) bytes (blocks_left entries) in
        elim (cases_lt n (length bytes)) [
          | inr fits ↦ behind now entry entries is bytes block n fits (rest (n - length bytes) (omega (arith, all, within, fits)))
          | inl few ↦ inside now entry entries is bytes block n few
        ]
    by_message (Region units) other rest = none (λ bytes block. let both = sym other ∙ block in absurd (cc)) n within
    by_message (Other value) other rest = none (λ bytes block. let both = sym other ∙ block in absurd (cc)) n within

-- so two removals are as one
pub in_turns : (now : Pending) (a b : ℕ) → a + b ≤ bytes_in (blocks_left now.line) → InTurns a b now
in_turns now a b within =
    along_front (λ now a. (b : ℕ) → a + b ≤ bytes_in (blocks_left now.line) → InTurns a b now)
    (λ now none b within.
    let same = removed_none now none in
    let cut : cut_at 0 now ≡ record { whole = 0; rest = 0 } = ap (whole_cut 0) none ∙ cut_at_end 0 in
    let nothing : 0 ≡ b = omega (arith, within, ap bytes_in none) in
    subst (λ n. InTurns 0 n now) nothing (record {
      state = ap (removed 0) same;
      whole = omega (arith, ap (λ (one : Cut). one.whole) cut, ap (λ (one : Pending). (cut_at 0 one).whole) same);
    }))
    (λ now entry entries is bytes block a fits rest b within.
    let size = left_size now entry entries is block in
    turns_behind now entry entries is block a b fits (rest b (omega (arith, within, fits, size))))
    (λ now entry entries is bytes block a few b within. turns_in now entry entries is block a b few)
    now.line now refl a (omega (arith, within)) b within

-- what is left in front after a removal is what is behind the bytes that it takes
pub run_behind : (now : Pending) (n : ℕ) → n ≤ bytes_in (blocks_left now.line) →
    concat (blocks_left (removed n now).line) ≡ drop n (concat (blocks_left now.line))
run_behind now n within =
    along_front (λ now n. concat (blocks_left (removed n now).line) ≡ drop n (concat (blocks_left now.line)))
    (λ now none. ap (λ (one : Pending). concat (blocks_left one.line)) (removed_none now none))
    (λ now entry entries is bytes block n fits rest.
    let sum : length bytes + (n - length bytes) ≡ n = omega (arith, fits) in
    ap (λ (one : Pending). concat (blocks_left one.line)) (removed_behind now entry entries is block n fits)
    ∙ rest ∙ ap (λ line. drop (n - length bytes) (concat (blocks_left line))) (behind_is now entry entries is block)
    ∙ sym (drop-append-add bytes (concat (blocks_left entries)) (n - length bytes))
    ∙ ap (λ m. drop m (bytes ++ concat (blocks_left entries))) sum
    ∙ ap (λ pieces. drop n (concat pieces)) (sym (left_is now entry entries is block)))
    (λ now entry entries is bytes block n few.
    let left = front_left now entry entries is block n in
    ap (λ (one : Pending). concat (blocks_left one.line)) (removed_in now entry entries is block n few)
    ∙ ap (λ line. concat (blocks_left line)) left.1.0
    ∙ ap concat (left_from_block left.0 entries left.1.1)
    ∙ sym (drop-append-le n bytes (concat (blocks_left entries)) (omega (arith, few)))
    ∙ ap (λ pieces. drop n (concat pieces)) (sym (left_is now entry entries is block)))
    now.line now refl n within

-- a removal of no more bytes than are left is not refused
pub not_too_many : (n : ℕ) (now : Pending) → n ≤ bytes_in (blocks_left now.line) → (bytes_step n now).refusal ≡ None
not_too_many n now within =
    let enough : ltb (bytes_in (blocks_left now.line)) n ≡ false = grind (arith, nat_tests) in rw enough refl

-- and takes no more messages away than stand in line
pub few_gone : (n : ℕ) (unsent : Unsent) → (whole_cut n (run_of unsent)).whole ≤ length unsent.line
few_gone n unsent =
    omega (arith, few_entries n (pending_entries unsent.line), length-map unsent.line pending_entry)

-- if there are bytes in front a message stands in line
pub some_in_line : (unsent : Unsent) → 0 < bytes_in (run_of unsent) → 0 < length unsent.line
some_in_line unsent some =
    first (pending_entries unsent.line) some (length-map unsent.line pending_entry)
  where
    first : (entries : List PendingEntry) → 0 < bytes_in (blocks_left entries) → length entries ≡ length unsent.line →
        0 < length unsent.line
    first [] some same = absurd (omega (arith, some))
    first (entry ∷ entries) some same = omega (arith, same)

-- a turn after another one
module _ (old mid : Connected) (a : ℕ) (first : Becomes (removed a) old mid) (fits : a ≤ bytes_in (run_of old.unsent))
  where
    pub run_mid : concat (run_of mid.unsent) ≡ drop a (concat (run_of old.unsent))
    run_mid =
        let past = some_past old in
        ap (λ (one : Pending). concat (blocks_left one.line)) (first past).1
        ∙ run_behind (held past) a fits

    pub within_both : (b : ℕ) → b ≤ bytes_in (run_of mid.unsent) → a + b ≤ bytes_in (run_of old.unsent)
    within_both b more =
        omega (
          arith,
          fits,
          more,
          length_of_concat (run_of mid.unsent),
          length_of_concat (run_of old.unsent),
          ap (λ bytes. length bytes) run_mid,
          length-drop a (concat (run_of old.unsent)),
        )

    module _ (new : Connected) (b : ℕ) (second : Becomes (removed b) mid new) (more : b ≤ bytes_in (run_of mid.unsent))
      where
        pub both_within : a + b ≤ bytes_in (run_of old.unsent)
        both_within = within_both b more

        pub both_become : Becomes (removed (a + b)) old new
        both_become past =
            let one = first past in
            let two = second one.0 in
            let turns = in_turns (held past) a b both_within in
            (two.0, two.1 ∙ ap (removed b) one.1 ∙ turns.state)

        pub both_whole :
            (whole_cut a (run_of old.unsent)).whole + (whole_cut b (run_of mid.unsent)).whole
            ≡ (whole_cut (a + b) (run_of old.unsent)).whole
        both_whole =
            let past = some_past old in
            let turns = in_turns (held past) a b both_within in
            ap (λ (one : Pending). (cut_at a (held past)).whole + (cut_at b one).whole) (first past).1 ∙ turns.whole

        pub both_sent :
            take a (concat (run_of old.unsent)) ++ take b (concat (run_of mid.unsent))
            ≡ take (a + b) (concat (run_of old.unsent))
        both_sent =
            ap (λ rest. take a (concat (run_of old.unsent)) ++ take b rest) run_mid
            ∙ sym (take-add a b (concat (run_of old.unsent)))
