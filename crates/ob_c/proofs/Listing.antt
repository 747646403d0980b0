-- The bytes of parts, one part after the other.
use Rattle.std.proofs.Common.{◌≡◌, ◌≤◌, ◌<◌, ◌+◌, ℕ, List, [], ◌∷◌, ◌++◌, length, map, take, drop, slice_set, slice_index_or, Bor, sym, ap, ◌∙◌, arith}
use Rattle.std.specs.List.{concat}
use Rattle.std.proofs.lemmas.List.{append-nil, length-append, map-append, take-append-drop, take_more, take_more_set}
use Rattle.std.proofs.lemmas.List.Folds.{concat-append}
use Rattle.ob_connection.specs.Obeying.{joined}
use Rattle.ob_c.specs.Calls.{slices_of}
use Rattle.ob_c.specs.declared.parts.Part.{Part}

-- what is read past the end of a list
abbrev pub no_part : Part
no_part = record { bytes = record { ref_ptr = (0, 0); now = [] } }

-- the slices of one part more
pub sliced_more : (parts : List Part) (place : ℕ) → place < length parts →
    slices_of (take (place + 1) parts) ≡ slices_of (take place parts) ++ (slice_index_or parts place no_part).bytes ∷ []
sliced_more parts place within =
    ap slices_of (take_more parts place no_part within)
    ∙ map-append (λ (part : Part). part.bytes) (take place parts) (slice_index_or parts place no_part ∷ [])

-- and a list of them with one more
pub list_more : (list : List (Bor (List ℕ))) (part : Bor (List ℕ)) (parts : List Part) (place : ℕ) → place < length list →
    place < length parts → part ≡ (slice_index_or parts place no_part).bytes →
    take place list ≡ slices_of (take place parts) →
    take (place + 1) (slice_set list place part) ≡ slices_of (take (place + 1) parts)
list_more list part parts place room within is same =
    take_more_set list place part room ∙ ap (λ slices. slices ++ part ∷ []) same
    ∙ ap (λ one. slices_of (take place parts) ++ one ∷ []) is ∙ sym (sliced_more parts place within)

-- of two lists of slices
both : (first rest : List (Bor (List ℕ))) → joined (first ++ rest) ≡ joined first ++ joined rest
both first rest =
    ap concat (map-append (λ (part : Bor (List ℕ)). part.now) first rest)
    ∙ concat-append (map (λ (part : Bor (List ℕ)). part.now) first) (map (λ (part : Bor (List ℕ)). part.now) rest)

-- with one part more they are as many bytes more, and no more than all
pub more_bytes : (parts : List Part) (place : ℕ) → place < length parts →
    (length (joined (slices_of (take place parts))) + length (slice_index_or parts place no_part).bytes.now
    ≡ length (joined (slices_of (take (place + 1) parts))))
    × (length (joined (slices_of (take (place + 1) parts))) ≤ length (joined (slices_of parts)))
more_bytes parts place within =
    let part = slice_index_or parts place no_part in
    let first = slices_of (take (place + 1) parts) in
    let rest = slices_of (drop (place + 1) parts) in
    let next : joined first ≡ joined (slices_of (take place parts)) ++ part.bytes.now =
    ap joined (sliced_more parts place within) ∙ both (slices_of (take place parts)) (part.bytes ∷ [])
    ∙ ap (λ bytes. joined (slices_of (take place parts)) ++ bytes) (append-nil part.bytes.now) in
    let all : length (joined (slices_of parts)) ≡ length (joined first) + length (joined rest) =
    ap (λ some. length (joined (slices_of some))) (sym (take-append-drop (place + 1) parts))
    ∙ ap (λ slices. length (joined slices))
    (map-append (λ (part : Part). part.bytes) (take (place + 1) parts) (drop (place + 1) parts))
    ∙ ap length (both first rest) ∙ length-append (joined first) (joined rest) in (
      sym (ap length next ∙ length-append (joined (slices_of (take place parts))) part.bytes.now),
      omega (arith, all),
    )
