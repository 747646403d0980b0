-- Beginnings of records, lists of bytes compared by chunks, and replies with other counts.
use Rattle.std.proofs.Common.{List, [], ◌++◌, refl, sym, ap, ◌∙◌, append_assoc, ◌≡◌, ℕ, zero, suc, ◌+◌, ◌*◌, true}
use Rattle.std.proofs.Common.{nat_eq, take, drop, ap₂, arith}
use Rattle.std.proofs.lemmas.List.{append-nil, drop-drop, take-append-drop}
use Rattle.std.specs.Cmp.Lexicographic.{pointwise, pointwise_decides, bytes_decides}
use Rattle.std.specs.Simd.{first_chunks}
use Rattle.std.specs.Prelude.{Result, Ok, Err}
use Rattle.ob_types.specs.declared.refusal.Refusal.{Refusal}
use Rattle.ob_types.specs.declared.reply.Reply.{Reply}
use Rattle.ob_types.specs.declared.reply.Answer.{Answer}
use Rattle.ob_types.specs.declared.reply.Answer.TheVariants.{Id, Count, Yes, Done}
use Rattle.ob_history.specs.History.{IsBeginning}
use Rattle.ob_history.specs.declared.record.Record.{Record}

-- records begin themselves
pub begins_itself : (records : List Record) → IsBeginning records records
begins_itself records = record { rest = []; whole = append-nil records }

-- none begin any
pub none_begin : (records : List Record) → IsBeginning [] records
none_begin records = record { rest = records; whole = refl }

-- what begins a beginning begins the whole
pub begins_further : (first more all : List Record) → IsBeginning first more → IsBeginning more all → IsBeginning first all
begins_further first more all begins further = record {
  rest = begins.rest ++ further.rest;
  whole = sym (append_assoc first begins.rest further.rest)
      ∙ ap (λ (records : List Record). records ++ further.rest) begins.whole ∙ further.whole;
}

-- two lists are the same if their first chunks are, and what stands behind these
chunks_tell : {X : Type 0} (n k : ℕ) (xs ys : List X) → first_chunks n k xs ≡ first_chunks n k ys →
    drop (k * n) xs ≡ drop (k * n) ys → xs ≡ ys
chunks_tell n zero xs ys chunks rest =
    let none : 0 * n ≡ 0 = omega arith in ap (λ i. drop i xs) (sym none) ∙ rest ∙ ap (λ i. drop i ys) none
chunks_tell n (suc k) xs ys chunks rest =
    let first : take n xs ≡ take n ys = cc in
    let others : first_chunks n k (drop n xs) ≡ first_chunks n k (drop n ys) = cc in
    let past : n + k * n ≡ suc k * n = omega arith in
    let behind : drop (k * n) (drop n xs) ≡ drop (k * n) (drop n ys) =
    drop-drop (k * n) n xs ∙ ap (λ i. drop i xs) past ∙ rest ∙ sym (drop-drop (k * n) n ys ∙ ap (λ i. drop i ys) past) in
    sym (take-append-drop n xs) ∙ ap₂ ◌++◌ first (chunks_tell n k (drop n xs) (drop n ys) others behind)
    ∙ take-append-drop n ys

-- two lists of bytes are the same if a test of their first chunks finds them so, and one of what stands behind these
pub found_same : (n k : ℕ) (xs ys : List ℕ) →
    pointwise (pointwise nat_eq) (first_chunks n k xs) (first_chunks n k ys) ≡ true →
    pointwise nat_eq (drop (k * n) xs) (drop (k * n) ys) ≡ true → xs ≡ ys
found_same n k xs ys chunks rest =
    chunks_tell n k xs ys ((pointwise_decides bytes_decides (first_chunks n k xs) (first_chunks n k ys)).0 chunks)
    ((bytes_decides (drop (k * n) xs) (drop (k * n) ys)).0 rest)

-- and if they are, the tests find them so
pub found_chunks : (n k : ℕ) (xs ys : List ℕ) → xs ≡ ys →
    pointwise (pointwise nat_eq) (first_chunks n k xs) (first_chunks n k ys) ≡ true
found_chunks n k xs ys same = (pointwise_decides bytes_decides _ _).1 (ap (first_chunks n k) same)

pub found_rest : (i : ℕ) (xs ys : List ℕ) → xs ≡ ys → pointwise nat_eq (drop i xs) (drop i ys) ≡ true
found_rest i xs ys same = (bytes_decides _ _).1 (ap (drop i) same)

-- the count that a reply reports, or 0
abbrev pub count_of : Answer → ℕ
count_of (Id id) = 0
count_of (Count n) = n
count_of (Yes is) = 0
count_of Done = 0

-- the count in an answer, or 0
abbrev pub count_in : Result Reply Refusal → ℕ
count_in (Ok reply) = count_of reply.answer
count_in (Err refusal) = 0

two_is_not_one : (n : ℕ) → n ≡ 2 → n ≡ 1 → ⊥
two_is_not_one n two one = omega arith

-- a reply that counts two is not one that counts one
pub counts_differ : (one two : Result Reply Refusal) → count_in two ≡ 2 → count_in one ≡ 1 → two ≡ one → ⊥
counts_differ one two twice once same = two_is_not_one (count_in two) twice (ap count_in same ∙ once)
