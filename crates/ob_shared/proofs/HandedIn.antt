-- Who handed in, and how many they are.
use Rattle.std.proofs.Common.{◌≢◌, get_or, subst, ◌≡◌, ℕ, zero, suc, ◌<◌, ◌≤◌, ◌==◌, Bool, true, false, ◌||◌, cond}
use Rattle.std.proofs.Common.{List, [], ◌∷◌, length, refl, sym, ◌∙◌, ap, arith}
use Rattle.std.specs.List.{AllPairs}
use Rattle.std.specs.Set.{remove_key}
use Rattle.std.proofs.lemmas.Bool.{eq-eqb, eqb-true, true_from_ne_false, false_from_ne_true}
use Rattle.std.proofs.lemmas.List.Folds.{list_any_at}
use Rattle.std.proofs.lemmas.Map.Made.{length-remove_key}
use Rattle.ob_shared.specs.Calls.{Handed, LacksShare, has_handed_in}

-- without the first who handed in as a caller
abbrev without : ℕ → List Handed → List Handed
without caller handed = remove_key (λ one. one.maker.caller == caller) handed

-- all other callers have still handed in then
still_handed_in : (gone caller : ℕ) (handed : List Handed) → (gone ≡ caller → ⊥) →
    has_handed_in caller (without gone handed) ≡ has_handed_in caller handed
still_handed_in gone caller [] apart = refl
still_handed_in gone caller (one ∷ handed) apart =
    by_cases (still_handed_in gone caller handed apart) (one.maker.caller == gone) refl
  where
    by_cases : has_handed_in caller (without gone handed) ≡ has_handed_in caller handed → (is : Bool) →
        (one.maker.caller == gone) ≡ is →
        has_handed_in caller (cond is handed (one ∷ without gone handed)) ≡ has_handed_in caller (one ∷ handed)
    by_cases others true same =
        let other : (one.maker.caller == caller) ≡ false =
        false_from_ne_true _ (λ equal. apart (sym (eqb-true _ _ same) ∙ eqb-true _ _ equal)) in
        sym (ap (λ first. first || has_handed_in caller handed) other)
    by_cases others false differs = ap (λ rest. (one.maker.caller == caller) || rest) others

-- if each of `callers` callers handed in, at least as many handed in
enough_handed_in : (callers : ℕ) (handed : List Handed) →
    ((caller : ℕ) → caller < callers → has_handed_in caller handed ≡ true) → callers ≤ length handed
enough_handed_in zero handed here = omega arith
enough_handed_in (suc last) handed here =
    let fewer = enough_handed_in last (without last handed)
    (λ caller below. still_handed_in last caller handed (λ same. omega (arith, same, below))
    ∙ here caller (omega (arith, below))) in
    omega (arith, fewer, length-remove_key (λ one. one.maker.caller == last) handed (here last (omega arith)))

-- if no share is missing, there are at least as many as callers
pub as_many_as_callers : (callers : ℕ) (handed : List Handed) → ¬ LacksShare callers handed → callers ≤ length handed
as_many_as_callers callers handed complete =
    enough_handed_in callers handed (λ caller below. true_from_ne_false _
    (λ missing. complete (caller, below, missing)))

-- if a caller handed in at two places, it has still handed in without the first of them
twice_handed_in : (caller : ℕ) (handed : List Handed) (i j : ℕ) (other : Handed) → i < j → j < length handed →
    (get_or handed i other).maker.caller ≡ caller → (get_or handed j other).maker.caller ≡ caller →
    has_handed_in caller (without caller handed) ≡ true
twice_handed_in caller [] i j other below within one two = absurd (omega (arith, within))
twice_handed_in caller (one ∷ handed) i zero other below within first second = absurd (omega (arith, below))
twice_handed_in caller (one ∷ handed) zero (suc j) other below within first second =
    let same : (one.maker.caller == caller) ≡ true = eq-eqb _ _ first in
    let later : has_handed_in caller handed ≡ true =
    list_any_at (λ one. one.maker.caller == caller) handed j other (omega (arith, within)) (eq-eqb _ _ second) in
    ap (λ is. has_handed_in caller (cond is handed (one ∷ without caller handed))) same ∙ later
twice_handed_in caller (one ∷ handed) (suc i) (suc j) other below within first second =
    by_cases (list_any_at (λ one. one.maker.caller == caller) handed j other (omega (arith, within))
    (eq-eqb _ _ second))
    (twice_handed_in caller handed i j other (omega (arith, below)) (omega (arith, within)) first second)
    (one.maker.caller == caller) refl
  where
    by_cases : has_handed_in caller handed ≡ true → has_handed_in caller (without caller handed) ≡ true →
        (is : Bool) → (one.maker.caller == caller) ≡ is →
        has_handed_in caller (cond is handed (one ∷ without caller handed)) ≡ true
    by_cases later rest true same = later
    by_cases later rest false differs = ap (λ first. first || has_handed_in caller (without caller handed)) differs
        ∙ rest

-- so each caller has still handed in
still_there : (gone caller : ℕ) (handed : List Handed) → has_handed_in gone (without gone handed) ≡ true →
    has_handed_in caller handed ≡ true →
    has_handed_in caller (without gone handed) ≡ true
still_there gone caller handed twice here = by_cases (gone == caller) refl
  where
    by_cases : (is : Bool) → (gone == caller) ≡ is → has_handed_in caller (without gone handed) ≡ true
    by_cases true same = subst (λ other. has_handed_in other (without gone handed) ≡ true) (eqb-true _ _ same) twice
    by_cases false differs = still_handed_in gone caller handed (λ same. absurd (cc (eq-eqb _ _ same, differs))) ∙ here

-- if no share is missing and no more handed in than there are callers, each caller handed in once
pub each_handed_in_once : (callers : ℕ) (handed : List Handed) → ¬ LacksShare callers handed → length handed ≤ callers →
    AllPairs (λ one other. one.maker.caller ≢ other.maker.caller) handed
each_handed_in_once callers handed complete few = λ i j other below within same.
    let caller = (get_or handed j other).maker.caller in
    let twice = twice_handed_in caller handed i j other below within same refl in
    let without_one = enough_handed_in callers (without caller handed) (λ other below.
    still_there caller other handed twice (true_from_ne_false _ (λ missing. complete (other, below, missing)))) in
    let here = list_any_at (λ (one : Handed). one.maker.caller == caller) handed j other within (eq-eqb _ _ refl) in
    omega (arith, few, without_one, length-remove_key (λ one. one.maker.caller == caller) handed here)
