-- The end is told once, since it stays reached.
use Rattle.std.proofs.Common.{◌≡◌, ℕ, ◌+◌, ◌≤◌, Bool, true, false, List, [], ◌∷◌, ◌++◌, ◌||◌, ◌&&◌, not, sym, refl, ap, ◌∙◌, append_assoc, append-nil, arith}
use Rattle.std.specs.Prelude.{if◌then◌else◌}
use Rattle.ob_lifecycle.specs.Events.{Event, Opened, all_of, is_over, times_told, times_told_from, was_over}
use Rattle.ob_lifecycle.proofs.Steps.{by_events_from, over_more, over_seen}

-- once reached, it stays so
stays_reached : (opened : Opened) (earlier more : List Event) → was_over opened earlier ≡ true → was_over opened (earlier ++ more) ≡ true
stays_reached opened earlier more was =
    by_events_from (λ events. was_over opened events ≡ true)
    (λ events event before. over_more opened events event ∙ ap (λ b. b || is_over opened (events ++ event ∷ [])) before) earlier more was

abbrev bit : Bool → ℕ
bit b = if b then 1 else 0

-- a call tells the end if it was not reached before and is after
one_call : (was now : Bool) → (was ≡ true → now ≡ true) → bit (now && not was) + bit was ≡ bit now
one_call true true stays = omega arith
one_call true false stays = let never : false ≡ true = stays refl in absurd (cc)
one_call false true stays = omega arith
one_call false false stays = omega arith

along_calls : (opened : Opened) (earlier : List Event) (calls : List (List Event))
    → times_told_from opened earlier calls + bit (was_over opened earlier) ≡ bit (was_over opened (earlier ++ all_of calls))
along_calls opened earlier [] =
    let same : bit (was_over opened earlier) ≡ bit (was_over opened (earlier ++ [])) =
    ap (λ events. bit (was_over opened events)) (sym (append-nil earlier)) in
    omega (arith, same)
along_calls opened earlier (brought ∷ calls) =
    let rest = along_calls opened (earlier ++ brought) calls in
    let one = one_call (was_over opened earlier) (was_over opened (earlier ++ brought)) (stays_reached opened earlier brought) in
    let same : bit (was_over opened ((earlier ++ brought) ++ all_of calls)) ≡ bit (was_over opened (earlier ++ (brought ++ all_of calls))) =
    ap (λ events. bit (was_over opened events)) (append_assoc earlier brought (all_of calls)) in
    omega (arith, rest, one, same)

bit_within : (b : Bool) → bit b ≤ 1
bit_within true = omega arith
bit_within false = omega arith

pub told_once : (opened : Opened) (calls : List (List Event)) → times_told opened calls ≤ 1
told_once opened calls =
    let all = along_calls opened [] calls in omega (arith, all, bit_within (was_over opened (all_of calls)))

pub told_at_last : (opened : Opened) (calls : List (List Event)) → is_over opened (all_of calls) ≡ true → times_told opened calls ≡ 1
told_at_last opened calls over =
    let all = along_calls opened [] calls in
    let reached : bit (was_over opened (all_of calls)) ≡ 1 = ap bit (over_seen opened (all_of calls) over) in
    omega (arith, all, reached)
