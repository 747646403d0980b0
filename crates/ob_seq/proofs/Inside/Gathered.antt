-- How many pieces from the front fit a limit, and what is gathered of the blocks that entries have left, one after
-- another.
use Rattle.std.proofs.lemmas.List.Sums.{prefix_len-le-length}
use Rattle.std.proofs.lemmas.List.Folds.{length-prefix_len, concat-append}
use Rattle.std.proofs.Math.Seq.{take-nil}
use Rattle.std.proofs.lemmas.List.{take-append-le, take_more_set, drop-set-lt, length-take}
use Rattle.std.proofs.lemmas.Grind.{drop_more_same}
use Rattle.std.specs.List.{concat}
use Rattle.std.specs.Io.Slices.{io_slice_bytes}
use Rattle.std.specs.declared.io.slices.IoSlice.{IoSlice}
use Rattle.ob_seq.proofs.Words.{◌≡◌, ℕ, zero, suc, ◌+◌, ◌-◌, ◌<◌, ◌≤◌, max, Bool, List, [], ◌∷◌, length, take, cond}
use Rattle.ob_seq.proofs.Words.{leb, ltb, zero-add, arith, Option, Some, None, fold, filter, range_with_len, nat_tests}
use Rattle.ob_seq.proofs.Words.{sum_by-cons, Cut, bytes_in, pieces_within, cut_of, false, map, length-map}
use Rattle.ob_seq.proofs.Words.{take_while-cons, Message, Block, is_block, block_bytes, PendingEntry, blocks_left, min}
use Rattle.ob_seq.proofs.Words.{true, ◌&&◌, ◌||◌, ◌++◌, refl, sym, ap, ◌∙◌, append_assoc, length-append, with_bytes}
use Rattle.ob_seq.proofs.Words.{first_blocks, take-append-drop, drop, map-append, slice_set, append-nil}

greatest_step : (passes : Bool) (best other from : ℕ) (behind : List ℕ) → passes ≡ leb from best → other ≤ best →
    (other < best → from ≤ best) →
    ((another : ℕ) → another ≤ best → (another < best → from + 1 ≤ best) → fold max another behind ≡ best) →
    fold max other (cond passes (from ∷ behind) behind) ≡ best
greatest_step passes best other from behind is low near rest = grind (arith, nat_tests)

-- if exactly the numbers up to one pass a test, that is the greatest of those that pass and of another number
greatest_is : (test : ℕ → Bool) (best end other from count : ℕ) → ((k : ℕ) → k < end → test k ≡ leb k best) →
    best < end → from + count ≡ end → other ≤ best → (other < best → from ≤ best) →
    fold max other (filter test (range_with_len from count)) ≡ best
greatest_is test best end other from zero each few size low near = grind arith
greatest_is test best end other from (suc count) each few size low near =
    greatest_step (test from) best other from (filter test (range_with_len (from + 1) count))
    (each from (omega arith)) low near
    (λ another lower nearer. greatest_is test best end another (from + 1) count each few (omega arith) lower nearer)

-- how many pieces fit, counted one after another
abbrev pub fitting : ℕ → List (List ℕ) → ℕ
fitting limit [] = 0
fitting limit (piece ∷ pieces) = cond (leb (length piece) limit) (suc (fitting (limit - length piece) pieces)) 0

pub fitting_few : (limit : ℕ) (pieces : List (List ℕ)) → fitting limit pieces ≤ length pieces
fitting_few limit [] = omega arith
fitting_few limit (piece ∷ pieces) = let rest = fitting_few (limit - length piece) pieces in grind arith

fitting_step : (piece bytes limit k fit : ℕ) → leb bytes (limit - piece) ≡ leb k fit →
    leb (piece + bytes) limit ≡ leb (suc k) (cond (leb piece limit) (suc fit) 0)
fitting_step piece bytes limit k fit is = grind (arith, nat_tests)

fitting_is : (limit : ℕ) (pieces : List (List ℕ)) (k : ℕ) → k ≤ length pieces →
    leb (bytes_in (take k pieces)) limit ≡ leb k (fitting limit pieces)
fitting_is limit pieces zero few = grind (arith, nat_tests)
fitting_is limit [] (suc k) few = absurd (omega arith)
fitting_is limit (piece ∷ pieces) (suc k) few =
    let rest = fitting_is (limit - length piece) pieces k (omega arith) in
    rw (sum_by-cons (λ p. length p) piece (take k pieces))
    (fitting_step (length piece) (bytes_in (take k pieces)) limit k (fitting (limit - length piece) pieces) rest)

-- the greatest number of pieces that fit is the one that counting finds
pub within_is_fitting : (limit : ℕ) (pieces : List (List ℕ)) → pieces_within limit pieces ≡ fitting limit pieces
within_is_fitting limit pieces =
    let few = fitting_few limit pieces in
    greatest_is (λ count. leb (bytes_in (take count pieces)) limit) (fitting limit pieces) (suc (length pieces)) 0 0
    (suc (length pieces)) (λ k below. fitting_is limit pieces k (omega arith)) (omega arith) (omega arith) (omega arith)
    (omega arith)

-- where a removal of bytes ends, looked for one piece after another from `whole` of them on
abbrev pub cut_from : ℕ → ℕ → List (List ℕ) → Option Cut
cut_from whole rest [] = cond (ltb 0 rest) None (Some (record { whole = whole; rest = rest }))
cut_from whole rest (piece ∷ pieces) =
    cond (leb (length piece) rest) (cut_from (suc whole) (rest - length piece) pieces)
    (Some (record { whole = whole; rest = rest }))

-- what it finds, by the count of the pieces that fit
cut_from_is : (whole n : ℕ) (pieces : List (List ℕ)) →
    (let fit = fitting n pieces in
    let cut : Cut = record { whole = whole + fit; rest = n - bytes_in (take fit pieces) } in
    cut_from whole n pieces ≡ cond (ltb (bytes_in pieces) n) None (Some cut))
cut_from_is whole n [] = grind arith
cut_from_is whole n (piece ∷ pieces) =
    let rest = cut_from_is (suc whole) (n - length piece) pieces in
    let all = sum_by-cons (λ p. length p) piece pieces in
    let front = sum_by-cons (λ p. length p) piece (take (fitting (n - length piece) pieces) pieces) in
    grind (arith, nat_tests)

-- a removal of bytes ends where the search finds it
pub cut_is : (n : ℕ) (pieces : List (List ℕ)) → cut_of n pieces ≡ cut_from 0 n pieces
cut_is n pieces = rw (cut_from_is 0 n pieces, within_is_fitting n pieces, zero-add)

abbrev message_of : PendingEntry → Message
message_of entry = entry.message

module _ (entry : PendingEntry) (entries : List PendingEntry) where
  left_first :
      blocks_left (entry ∷ entries) ≡ cond (is_block entry.message) (block_bytes entry.message ∷ blocks_left entries) []
  left_first = rw (take_while-cons is_block entry.message (map message_of entries)) (grind arith)

  -- from a block on
  pub left_from_block : {bytes : List ℕ} → entry.message ≡ Block bytes →
      blocks_left (entry ∷ entries) ≡ bytes ∷ blocks_left entries
  left_from_block block = rw (left_first, block)

  -- from another message on
  pub left_from_other : ((bytes : List ℕ) → entry.message ≡ Block bytes → ⊥) → blocks_left (entry ∷ entries) ≡ []
  left_from_other other = let none : is_block entry.message ≡ false = grind (arith, other) in rw (left_first, none)

-- no more entries go than stand in line
pub few_entries : (n : ℕ) (line : List PendingEntry) → pieces_within n (blocks_left line) ≤ length line
few_entries n line =
    grind (arith, within_is_fitting, fitting_few, length-map, length-prefix_len, prefix_len-le-length)

-- with no room no block fits that holds a byte
no_room : (blocks : List (List ℕ)) → fitting 0 (with_bytes blocks) ≡ 0
no_room [] = refl
no_room (block ∷ blocks) = let none = no_room blocks in grind (arith, nat_tests)

-- how many more blocks go along with `count` others, if `fits` of them fit: the first does in any case
abbrev share : ℕ → ℕ → ℕ → ℕ
share limit count fits = min (limit - count) (max (1 - count) fits)

-- what is gathered from blocks after `count` others, which left this much room
abbrev pub more_blocks : ℕ → ℕ → ℕ → List (List ℕ) → List (List ℕ)
more_blocks limit count room blocks = take (share limit count (fitting room (with_bytes blocks))) (with_bytes blocks)

-- the definition's blocks
pub first_blocks_are : (limit most : ℕ) (blocks : List (List ℕ)) →
    more_blocks limit 0 most blocks ≡ first_blocks limit most (with_bytes blocks)
first_blocks_are limit most blocks =
    let all : limit - 0 ≡ limit = omega arith in rw (within_is_fitting most (with_bytes blocks), all)

pub none_left : (limit count room : ℕ) → more_blocks limit count room [] ≡ []
none_left limit count room = take-nil (share limit count 0)

-- with no room none goes behind the first
pub none_behind : (limit count : ℕ) (blocks : List (List ℕ)) → 0 < count → more_blocks limit count 0 blocks ≡ []
none_behind limit count blocks some =
    let few : share limit count 0 ≡ 0 = omega (arith, some) in rw (no_room blocks, few) refl

-- whether one more block of this size goes along with `count` others
abbrev pub goes_along : ℕ → ℕ → ℕ → ℕ → Bool
goes_along limit count room size = ltb count limit && (leb count 0 || leb size room)

pub goes_within : (limit count room size : ℕ) → goes_along limit count room size ≡ true → count < limit
goes_within limit count room size goes = grind (arith, nat_tests)

pub goes_first : (limit room size : ℕ) → 0 < limit → goes_along limit 0 room size ≡ true
goes_first limit room size some = grind (arith, nat_tests)

pub goes_with_room : (limit count room size : ℕ) → count < limit → size ≤ room → goes_along limit count room size ≡ true
goes_with_room limit count room size within fits = grind (arith, nat_tests)

pub goes_not_over : (limit count room size : ℕ) → 0 < count → room < size → goes_along limit count room size ≡ false
goes_not_over limit count room size some over = grind (arith, nat_tests)

module _ (limit room : ℕ) (items : List (List ℕ)) (block : List ℕ) (blocks : List (List ℕ)) {count size : ℕ}
    (many : count ≡ length items) (long : size ≡ length block) where
  -- how many go along from the block on, and behind it
  abbrev here : ℕ
  here = share limit (length items) (fitting room (block ∷ with_bytes blocks))

  abbrev behind : ℕ
  behind = share limit (length items + 1) (fitting (room - length block) (with_bytes blocks))

  -- an empty block is passed over
  pub passed : size ≤ 0 →
      more_blocks limit (length items) room (block ∷ blocks) ≡ more_blocks limit (length items) room blocks
  passed none = let empty : ltb 0 (length block) ≡ false = grind (arith, nat_tests) in rw empty

  -- another ends the walk or goes along
  pub ended : 0 < size → goes_along limit count room size ≡ false →
      more_blocks limit (length items) room (block ∷ blocks) ≡ []
  ended some over = grind arith

  pub pushed : {room' : ℕ} {items' : List (List ℕ)} → 0 < size → goes_along limit count room size ≡ true →
      items' ≡ items ++ block ∷ [] → room' ≡ room - size →
      items ++ more_blocks limit (length items) room (block ∷ blocks)
      ≡ items' ++ more_blocks limit (length items') room' blocks
  pushed some goes more left = grind (arith, fitting, no_room, length-append, append_assoc)

  -- so that something is gathered
  pub something : 0 < size → goes_along limit count room size ≡ true →
      items ++ more_blocks limit (length items) room (block ∷ blocks) ≡ [] → ⊥
  something some goes nothing =
      let more = pushed some goes refl refl in omega (arith, simp length-append at (ap length (sym more ∙ nothing)))

-- the blocks that hold a byte have all the bytes
pub all_bytes : (blocks : List (List ℕ)) → concat (with_bytes blocks) ≡ concat blocks
all_bytes [] = refl
all_bytes (block ∷ blocks) = by_test (ltb 0 (length block)) refl (all_bytes blocks)
  where
    empty : (bytes : List ℕ) → ltb 0 (length bytes) ≡ false → bytes ≡ []
    empty [] is = refl
    empty (byte ∷ bytes) is = let some : ltb 0 (suc (length bytes)) ≡ true = grind (arith, nat_tests) in absurd (cc)

    by_test : (some : Bool) → ltb 0 (length block) ≡ some → concat (with_bytes blocks) ≡ concat blocks →
        concat (cond some (block ∷ with_bytes blocks) (with_bytes blocks)) ≡ block ++ concat blocks
    by_test true is rest = ap (λ more. block ++ more) rest
    by_test false is rest = rest ∙ ap (λ bytes. bytes ++ concat blocks) (sym (empty block is))

-- the bytes of blocks are as many as their lengths add up to
pub length_of_concat : (blocks : List (List ℕ)) → length (concat blocks) ≡ bytes_in blocks
length_of_concat [] = refl
length_of_concat (block ∷ blocks) =
    let all = sum_by-cons (λ (piece : List ℕ). length piece) block blocks in
    omega (arith, length-append block (concat blocks), length_of_concat blocks, all)

-- gathered bytes are the first of all of them
pub gathered_first : (max_count max_bytes : ℕ) (blocks : List (List ℕ)) (n : ℕ) →
    n ≤ length (concat (first_blocks max_count max_bytes (with_bytes blocks))) →
    (take n (concat (first_blocks max_count max_bytes (with_bytes blocks))) ≡ take n (concat blocks))
    × (n ≤ length (concat blocks))
gathered_first max_count max_bytes blocks n within =
    let holding = with_bytes blocks in
    let count = min max_count (max 1 (pieces_within max_bytes holding)) in
    let first = concat (take count holding) in
    let rest = concat (drop count holding) in
    let is : concat blocks ≡ first ++ rest =
    sym (all_bytes blocks) ∙ sym (ap concat (take-append-drop count holding))
    ∙ concat-append (take count holding) (drop count holding) in (
      sym (take-append-le n first rest within) ∙ ap (take n) (sym is),
      omega (arith, ap (λ bytes. length bytes) is, length-append first rest),
    )

-- and no fewer are gathered of more blocks
pub more_gathered : (few many max_bytes : ℕ) (blocks : List (List ℕ)) → few ≤ many →
    length (concat (first_blocks few max_bytes blocks)) ≤ length (concat (first_blocks many max_bytes blocks))
more_gathered few many max_bytes blocks less =
    let most = max 1 (pieces_within max_bytes blocks) in longer (min few most) (min many most) blocks (omega arith)
  where
    longer : (n m : ℕ) (blocks : List (List ℕ)) → n ≤ m → length (concat (take n blocks)) ≤ length (concat (take m blocks))
    longer zero m blocks within = omega arith
    longer (suc n) zero blocks within = absurd (omega arith)
    longer (suc n) (suc m) [] within = omega arith
    longer (suc n) (suc m) (block ∷ blocks) within =
        omega (
          arith,
          longer n m blocks (omega arith),
          length-append block (concat (take n blocks)),
          length-append block (concat (take m blocks)),
        )

-- the bytes of the first pieces
abbrev pub filled : ℕ → List IoSlice → List (List ℕ)
filled count pieces = map io_slice_bytes (take count pieces)

pub filled_count : (count : ℕ) (pieces : List IoSlice) → count ≤ length pieces → count ≡ length (filled count pieces)
filled_count count pieces within = rw (length-map, length-take) (omega arith)

-- one more is filled
pub filled_more : (count : ℕ) (pieces : List IoSlice) (piece : IoSlice) → count < length pieces →
    filled (count + 1) (slice_set pieces count piece) ≡ filled count pieces ++ io_slice_bytes piece ∷ []
filled_more count pieces piece within = grind (arith, take_more_set, map-append)

-- and those behind stay
pub rest_behind : (count : ℕ) (pieces before : List IoSlice) (piece : IoSlice) →
    drop count pieces ≡ drop count before → drop (count + 1) (slice_set pieces count piece) ≡ drop (count + 1) before
rest_behind count pieces before piece same =
    drop-set-lt (count + 1) pieces count piece (omega arith) ∙ drop_more_same pieces before count same

-- at the end what is filled is what is gathered
pub all_filled : (limit most room count : ℕ) (pieces : List IoSlice) (blocks rest : List (List ℕ)) →
    more_blocks limit 0 most blocks
    ≡ filled count pieces ++ more_blocks limit (length (filled count pieces)) room rest →
    more_blocks limit (length (filled count pieces)) room rest ≡ [] →
    filled count pieces ≡ first_blocks limit most (with_bytes blocks)
all_filled limit most room count pieces blocks rest is end =
    sym (rw (end, append-nil) at is) ∙ first_blocks_are limit most blocks
