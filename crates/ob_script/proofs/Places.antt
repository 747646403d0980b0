-- Where the reading of a script stands, one line after another.
use Rattle.std.proofs.Common.{◌≡◌, ◌∙◌, ℕ, zero, suc, ◌+◌, ◌++◌, Bool, true, false, not, List, [], ◌∷◌, length, take}
use Rattle.std.proofs.Common.{drop, Result, Ok, Err, Some, None, refl, ap, sym, subst, arith, append-nil, add-one, eqb}
use Rattle.std.proofs.Common.{take-append-drop, cond}
use Rattle.std.proofs.lemmas.Bool.{both_ways, eqb-true}
use Rattle.std.specs.Prelude.{map}
use Rattle.ob_script.specs.Inside.{EndsAt, IsFollowed, StandsAt}
use Rattle.ob_script.specs.Reading.{Grammar, lines_of, all_placed, before_fault, first_fault, placed, readings_behind}
use Rattle.ob_script.specs.Reading.{script_lines}
use Rattle.ob_script.specs.declared.reading.fault.LineFault.{LineFault}
use Rattle.ob_script.specs.declared.reading.fault.LineFault.TheVariants.{Misplaced}

-- one line more of a list whose rest is known
pub take-one_more : {A : Type 0} (n : ℕ) (xs ys : List A) (y : A) → drop n xs ≡ y ∷ ys
    → (take (n + 1) xs ≡ take n xs ++ y ∷ []) × (drop (n + 1) xs ≡ ys)
take-one_more zero [] ys y e = absurd cc
take-one_more (suc n) [] ys y e = absurd cc
take-one_more zero (x ∷ xs) ys y e = (cc, cc)
take-one_more (suc n) (x ∷ xs) ys y e =
    let rest = take-one_more n xs ys y e in
    let shift : suc n + 1 ≡ suc (n + 1) = omega arith in
    (rw shift (ap (λ t. x ∷ t) rest.0), rw shift rest.1)

-- nothing is left behind the whole list
take-drop_nil : {A : Type 0} (n : ℕ) (xs : List A) → drop n xs ≡ [] → take n xs ≡ xs
take-drop_nil n xs e = sym (append-nil (take n xs)) ∙ ap (λ t. take n xs ++ t) (sym e) ∙ take-append-drop n xs

-- what the next line says, and those behind it
readings-first : {L : Type 0} (grammar : Grammar L) (before : List L) (script line rest : List ℕ)
    (read : Result L LineFault)
    → lines_of script ≡ line ∷ lines_of rest → read ≡ grammar.reading line
    → readings_behind grammar before script
    ≡ all_placed grammar before (read ∷ map grammar.reading (lines_of rest))
readings-first grammar before script line rest read first reads =
    ap (λ lines. all_placed grammar before (map grammar.reading lines)) first
    ∙ ap (λ r. all_placed grammar before (r ∷ map grammar.reading (lines_of rest))) (sym reads)

-- the lines end where what is left begins with a fault
ends_with : {L : Type 0} (grammar : Grammar L) (script : List ℕ) (count : ℕ) (rest : List ℕ) (fault : LineFault)
    (further : List (Result L LineFault)) → StandsAt grammar script count rest
    → readings_behind grammar (take count (script_lines grammar script)) rest ≡ Err fault ∷ further
    → EndsAt grammar script count (Some (count + 1, fault))
ends_with grammar script count rest fault further stands here = (
  take-drop_nil count (script_lines grammar script) (stands.left ∙ ap before_fault here),
  stands.fault ∙ ap (first_fault (count + 1)) here,
)

-- if nothing is left, the lines end without a fault
pub ends_at_nil : {L : Type 0} (grammar : Grammar L) (script : List ℕ) (count : ℕ) (rest : List ℕ)
    → StandsAt grammar script count rest → eqb (length rest) 0 ≡ true → EndsAt grammar script count None
ends_at_nil grammar script count [] stands none = (
  take-drop_nil count (script_lines grammar script) stands.left,
  stands.fault,
)
ends_at_nil grammar script count (byte ∷ rest) stands none =
    let empty = eqb-true (length (byte ∷ rest)) 0 none in absurd (omega (arith, empty))

-- a line that cannot be read ends the script
pub ends_unread : {L : Type 0} (grammar : Grammar L) (script : List ℕ) (count : ℕ) (rest line others : List ℕ)
    (read : Result L LineFault) (fault : LineFault)
    → lines_of rest ≡ line ∷ lines_of others → read ≡ grammar.reading line → read ≡ Err fault
    → StandsAt grammar script count rest → EndsAt grammar script count (Some (count + 1, fault))
ends_unread grammar script count rest line others read fault first reads is stands =
    let before = take count (script_lines grammar script) in
    ends_with grammar script count rest fault [] stands
    (readings-first grammar before rest line others read first reads
    ∙ ap (λ r. all_placed grammar before (r ∷ map grammar.reading (lines_of others))) is)

-- the next line by what it asks
readings-asked : {L : Type 0} (grammar : Grammar L) (before : List L) (script line rest : List ℕ)
    (read : Result L LineFault) (asked : L)
    → lines_of script ≡ line ∷ lines_of rest → read ≡ grammar.reading line → read ≡ Ok asked
    → readings_behind grammar before script
    ≡ placed grammar before asked ∷ readings_behind grammar (before ++ asked ∷ []) rest
readings-asked grammar before script line rest read asked first reads is =
    readings-first grammar before script line rest read first reads
    ∙ ap (λ r. all_placed grammar before (r ∷ map grammar.reading (lines_of rest))) is

-- so does one that is misplaced
pub ends_misplaced : {L : Type 0} (grammar : Grammar L) (script : List ℕ) (count : ℕ) (rest line others : List ℕ)
    (read : Result L LineFault) (asked : L)
    → lines_of rest ≡ line ∷ lines_of others → read ≡ grammar.reading line → read ≡ Ok asked
    → StandsAt grammar script count rest
    → grammar.is_misplaced (take count (script_lines grammar script)) asked ≡ true
    → EndsAt grammar script count (Some (count + 1, Misplaced))
ends_misplaced grammar script count rest line others read asked first reads is stands misplaced =
    let before = take count (script_lines grammar script) in
    let further = readings_behind grammar (before ++ asked ∷ []) others in
    ends_with grammar script count rest Misplaced further stands
    (readings-asked grammar before rest line others read asked first reads is
    ∙ ap (λ t. cond t (Err Misplaced) (Ok asked) ∷ further) misplaced)

-- the fault behind a line that fits is that of the rest
first_fault-more : {L : Type 0} (number : ℕ) (line : L) (readings : List (Result L LineFault))
    → first_fault number (Ok line ∷ readings) ≡ first_fault (number + 1) readings
first_fault-more number line readings = rw add-one refl

-- a line that fits is not misplaced
pub is_placed : (fits misplaced : Bool) → fits ≡ not misplaced → fits ≡ true → misplaced ≡ false
is_placed fits true same fit = absurd (both_ways fits same fit)
is_placed fits false same fit = refl

-- any other line is carried out, and the cursor stands behind it
pub followed : {L : Type 0} (grammar : Grammar L) (script : List ℕ) (count : ℕ) (rest line others : List ℕ)
    (read : Result L LineFault) (asked : L)
    → lines_of rest ≡ line ∷ lines_of others → read ≡ grammar.reading line → read ≡ Ok asked
    → StandsAt grammar script count rest
    → grammar.is_misplaced (take count (script_lines grammar script)) asked ≡ false
    → IsFollowed grammar script count asked others
followed grammar script count rest line others read asked first reads is stands placed =
    let before = take count (script_lines grammar script) in
    let further = readings_behind grammar (before ++ asked ∷ []) others in
    let here = readings-asked grammar before rest line others read asked first reads is
    ∙ ap (λ t. cond t (Err Misplaced) (Ok asked) ∷ further) placed in
    let left : drop count (script_lines grammar script) ≡ asked ∷ before_fault further =
    stands.left ∙ ap before_fault here in
    let more = take-one_more count (script_lines grammar script) _ asked left in (
      left ∙ ap (λ lines. asked ∷ lines) (sym more.1),
      record {
        left = more.1 ∙ ap (λ b. before_fault (readings_behind grammar b others)) (sym more.0);
        fault = stands.fault ∙ ap (first_fault (count + 1)) here ∙ first_fault-more (count + 1) asked further
            ∙ ap (λ b. first_fault (count + 1 + 1) (readings_behind grammar b others)) (sym more.0);
      },
    )

-- then one more line is read, and the cursor stands behind it
pub read_further : {L : Type 0} (grammar : Grammar L) (script : List ℕ) (n count : ℕ) (asked : L) (rest : List ℕ)
    → count ≡ n + 1 → IsFollowed grammar script n asked rest
    → (take count (script_lines grammar script) ≡ take n (script_lines grammar script) ++ asked ∷ [])
    × StandsAt grammar script count rest
read_further grammar script n count asked rest more follows = (
  ap (λ k. take k (script_lines grammar script)) more
      ∙ (take-one_more n (script_lines grammar script) _ asked follows.0).0,
  subst (λ k. StandsAt grammar script k rest) (sym more) follows.1,
)
