-- The bytes of parts, one part after the other.
use Rattle.ob_connection.proofs.Words.{◌≡◌, ◌<◌, ◌≤◌, ◌+◌, ℕ, List, [], ◌∷◌, ◌++◌, length, take, drop, ap, sym, ◌∙◌, arith}
use Rattle.ob_connection.proofs.Words.{append-nil, append_assoc, length-append}
use denote.Ref.{Bor}
use Rattle.std.proofs.Math.ListN.{get_or}
use Rattle.std.proofs.lemmas.List.{map-append, take-append-drop, take_more}
use Rattle.std.proofs.lemmas.List.Folds.{concat-append}
use Rattle.ob_connection.specs.Obeying.{joined}

abbrev pub Part : Type 0
Part = Bor (List ℕ)

-- what is read past the end of a list
abbrev pub no_part : Part
no_part = record { ref_ptr = (0, 0); now = [] }

-- of two lists of parts
both : (first rest : List Part) → joined (first ++ rest) ≡ joined first ++ joined rest
both first rest = grind (arith, map-append, concat-append)

-- with one part more
pub one_more : (parts : List Part) (place : ℕ) (part : Part) → place < length parts →
    joined (take (place + 1) parts) ≡ joined (take place parts) ++ (get_or parts place part).now
one_more parts place part within =
    ap joined (take_more parts place part within) ∙ both (take place parts) (get_or parts place part ∷ [])
    ∙ ap (λ bytes. joined (take place parts) ++ bytes) (append-nil (get_or parts place part).now)

-- the first of them are no more bytes than all
pub no_more : (parts : List Part) (place : ℕ) → length (joined (take place parts)) ≤ length (joined parts)
no_more parts place =
    let all = ap (λ some. length (joined some)) (sym (take-append-drop place parts))
    ∙ ap length (both (take place parts) (drop place parts))
    ∙ length-append (joined (take place parts)) (joined (drop place parts)) in
    omega (arith, all)

-- with one part more they are as many bytes more
pub more_bytes : (parts : List Part) (place : ℕ) (part : Part) → place < length parts →
    (length (joined (take place parts)) + length (get_or parts place part).now
    ≡ length (joined (take (place + 1) parts)))
    × (length (joined (take (place + 1) parts)) ≤ length (joined parts))
more_bytes parts place part within = (
  sym (ap length (one_more parts place part within)
      ∙ length-append (joined (take place parts)) (get_or parts place part).now),
  no_more parts (place + 1),
)

-- what was there, and the parts so far, with one part more
pub further : (before : List ℕ) {now after : List ℕ} (parts : List Part) (place : ℕ) → place < length parts →
    now ≡ before ++ joined (take place parts) → after ≡ now ++ (get_or parts place no_part).now →
    after ≡ before ++ joined (take (place + 1) parts)
further before parts place within is next = grind (arith, append_assoc, one_more)
