-- What a turn offers a socket.
use Rattle.ob_connection.proofs.Words.{◌≡◌, ◌≤◌, ◌<◌, ℕ, zero, suc, ◌+◌, Bool, true, false, List, [], ◌∷◌, length, take, ltb}
use Rattle.ob_connection.proofs.Words.{refl, sym, ap, ◌∙◌, arith, length-append, nat_tests, Pending, cond}
use Rattle.std.specs.List.{concat}
use Rattle.ob_connection.proofs.Words.{Becomes, Connected, Unsent, held}
use Rattle.std.specs.Prelude.{max, min}
use Rattle.std.proofs.lemmas.List.{length-take}
use Rattle.std.proofs.lemmas.List.Sums.{sum_by-cons}
use Rattle.ob_seq.specs.Looks.{blocks_left, first_blocks, with_bytes}
use Rattle.ob_seq.specs.Effect.{bytes_in, pieces_within}
use Rattle.ob_seq.specs.Steps.Commands.{front_skipped}
use Rattle.ob_seq.proofs.Inside.Gathered.{all_bytes, gathered_first, length_of_concat}
use Rattle.ob_connection.specs.Inside.{removed, IsLeft, offered, run_of}
use Rattle.ob_connection.specs.Calls.{most_pieces}
use Rattle.ob_connection.proofs.Turns.{along_front, behind_is, in_turns, left_is, removed_behind, removed_in, removed_none, within_both}

-- a removal of nothing leaves the same blocks that hold a byte: it takes the empty ones in front away
nothing_removed : (now : Pending) → with_bytes (blocks_left (removed 0 now).line) ≡ with_bytes (blocks_left now.line)
nothing_removed now =
    along_front (λ now n. n ≡ 0 → with_bytes (blocks_left (removed n now).line) ≡ with_bytes (blocks_left now.line))
    (λ now none zero_is. ap (λ (one : Pending). with_bytes (blocks_left one.line)) (removed_none now none))
    (λ now entry entries is bytes block n fits rest zero_is.
    ap (λ (one : Pending). with_bytes (blocks_left one.line)) (removed_behind now entry entries is block n fits)
    ∙ rest (omega (arith, zero_is)) ∙ ap (λ line. with_bytes (blocks_left line)) (behind_is now entry entries is block)
    ∙ no_byte bytes (blocks_left entries) (omega (arith, fits, zero_is))
    ∙ ap with_bytes (sym (left_is now entry entries is block)))
    (λ now entry entries is bytes block n few zero_is.
    ap (λ (one : Pending). with_bytes (blocks_left one.line)) (removed_in now entry entries is block n few)
    ∙ ap (λ m. with_bytes (blocks_left (front_skipped m now).line)) zero_is)
    now.line now refl 0 (omega arith) refl
  where
    no_byte : (bytes : List ℕ) (blocks : List (List ℕ)) → length bytes ≤ 0 →
        with_bytes blocks ≡ with_bytes (bytes ∷ blocks)
    no_byte [] blocks few = refl
    no_byte (byte ∷ bytes) blocks few = absurd (omega (arith, few))

-- some of the blocks that hold a byte hold one
some_bytes : (blocks : List (List ℕ)) (n : ℕ) → 0 < length (take n (with_bytes blocks)) →
    0 < length (concat (take n (with_bytes blocks)))
some_bytes [] n some = absurd (omega (arith, some, length-take n (with_bytes [])))
some_bytes (block ∷ blocks) n some = by_test (ltb 0 (length block)) refl n (some_bytes blocks) some
  where
    by_test : (holds : Bool) → ltb 0 (length block) ≡ holds → (n : ℕ) →
        ((n : ℕ) → 0 < length (take n (with_bytes blocks)) → 0 < length (concat (take n (with_bytes blocks)))) →
        0 < length (take n (cond holds (block ∷ with_bytes blocks) (with_bytes blocks))) →
        0 < length (concat (take n (cond holds (block ∷ with_bytes blocks) (with_bytes blocks))))
    by_test true test zero rest some = absurd (omega (arith, some))
    by_test true test (suc n) rest some =
        let size : 0 < length block = grind (arith, nat_tests) in
        omega (arith, size, length-append block (concat (take n (with_bytes blocks))))
    by_test false test n rest some = rest n some

-- what the first turn offers is what is left before anything was taken away
pub first_offer : (max_bytes : ℕ) (old : Connected) → 0 < length (offered most_pieces max_bytes old.unsent) →
    IsLeft max_bytes old 0 (offered most_pieces max_bytes old.unsent)
first_offer max_bytes old some = record {
  some = some_bytes (run_of old.unsent) _ some;
  within = omega arith;
  left = λ past. ap (λ blocks. first_blocks most_pieces max_bytes blocks)
      (sym (nothing_removed (held past)));
}

-- bytes of an offer are the first of what is left in front
pub offered_first : (max_count max_bytes n : ℕ) (unsent : Unsent) →
    n ≤ length (concat (offered max_count max_bytes unsent)) →
    (take n (concat (offered max_count max_bytes unsent)) ≡ take n (concat (run_of unsent)))
    × (n ≤ bytes_in (run_of unsent))
offered_first max_count max_bytes n unsent within =
    let first = gathered_first max_count max_bytes (run_of unsent) n within in
    (first.0, omega (arith, first.1, length_of_concat (run_of unsent)))

-- if nothing is offered where something may be, nothing is left
pub offered_none : (max_count max_bytes : ℕ) (unsent : Unsent) → 0 < max_count →
    offered max_count max_bytes unsent ≡ [] → bytes_in (run_of unsent) ≡ 0
offered_none max_count max_bytes unsent some none =
    let holding = with_bytes (run_of unsent) in
    let all = all_bytes (run_of unsent) in
    let empty = nothing_taken (min max_count (max 1 (pieces_within max_bytes holding))) holding (omega (arith, some)) none in
    omega (arith, length_of_concat (run_of unsent), ap (λ bytes. length bytes) all, ap (λ pieces. length (concat pieces)) empty)
  where
    nothing_taken : (n : ℕ) (pieces : List (List ℕ)) → 0 < n → take n pieces ≡ [] → pieces ≡ []
    nothing_taken zero pieces some none = absurd (omega (arith, some))
    nothing_taken (suc n) [] some none = refl
    nothing_taken (suc n) (piece ∷ pieces) some none = absurd (omega (arith, ap (λ all. length all) none))

-- blocks of which some hold a byte hold bytes together
holds_bytes : (blocks : List (List ℕ)) → 0 < length (with_bytes blocks) → 0 < bytes_in blocks
holds_bytes [] some = absurd (omega (arith, some))
holds_bytes (block ∷ blocks) some = by_test (ltb 0 (length block)) refl (holds_bytes blocks) some
  where
    by_test : (holds : Bool) → ltb 0 (length block) ≡ holds →
        (0 < length (with_bytes blocks) → 0 < bytes_in blocks) →
        0 < length (cond holds (block ∷ with_bytes blocks) (with_bytes blocks)) → 0 < bytes_in (block ∷ blocks)
    by_test true test rest some =
        let size : 0 < length block = grind (arith, nat_tests) in
        omega (arith, size, sum_by-cons (λ (one : List ℕ). length one) block blocks)
    by_test false test rest some =
        omega (arith, rest some, sum_by-cons (λ (one : List ℕ). length one) block blocks)

-- if a socket is offered anything there are bytes in front
pub offered_some : (max_count max_bytes : ℕ) (unsent : Unsent) → 0 < length (offered max_count max_bytes unsent) →
    0 < bytes_in (run_of unsent)
offered_some max_count max_bytes unsent some = grind (arith, holds_bytes, length-take)

-- what is left after a turn is left from the start, `a` bytes further on
pub left_further : (old mid : Connected) (a : ℕ) → Becomes (removed a) old mid → a ≤ bytes_in (run_of old.unsent) →
    (max_bytes taken : ℕ) (pieces : List (List ℕ)) → IsLeft max_bytes mid taken pieces →
    IsLeft max_bytes old (a + taken) pieces
left_further old mid a first fits max_bytes taken pieces left =
    let within = within_both old mid a first fits taken left.within in record {
      some = left.some;
      within = within;
      left = λ past.
          let there = first past in
          let turns = in_turns (held past) a taken within in
          left.left there.0
          ∙ ap (λ (one : Pending). first_blocks most_pieces max_bytes (with_bytes (blocks_left one.line)))
          (ap (removed taken) there.1 ∙ turns.state);
    }
