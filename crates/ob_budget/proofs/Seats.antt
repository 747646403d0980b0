-- A seat that is cut in two, and two that become one, keep the rule.
use Rattle.std.proofs.Common.{◌≡◌, ℕ, ◌<◌, List, [], ◌∷◌, set, get_or, refl, arith}
use Rattle.std.proofs.lemmas.List.Elements.{All-set, All-append}
use Rattle.std.proofs.lemmas.List.Sums.{sum_by_push}
use Rattle.atomic_table.specs.Table.{Splits, Joins}
use Rattle.ob_budget.specs.Bounds.{BoundsValue}
use Rattle.ob_budget.specs.Account.{kept_account, given_account, joined_account, spent_account}
use Rattle.ob_budget.specs.Ruled.{IsIdle, Ruled}
use Rattle.ob_budget.specs.declared.account.Account.{Account}
use Rattle.ob_budget.proofs.Moves.{held_of, seats_of, began_of, ended_of, knows-bounds}
use Rattle.ob_budget.proofs.Sums.{of-one, All-one, sum-set}

abbrev idle_some : (account : Account) → 0 < account.seats → IsIdle account
idle_some account some_seat = record {
  held = λ none. absurd (omega (arith, none, some_seat));
  began = λ none. absurd (omega (arith, none, some_seat));
  ended = λ none. absurd (omega (arith, none, some_seat));
}

pub may-divide : (bounds : BoundsValue) (id : ℕ) (account : Account) (seats : ℕ) → 0 < seats → seats < account.seats
    → Splits (Ruled bounds) id account (kept_account seats account) (given_account seats account)
may-divide bounds id account seats some_given some_kept s ruled at =
    let word : ℕ = get_or s.words 8 0 in
    let kept = ruled.keeps in
    let mine : Account = kept_account seats account in
    let theirs : Account = given_account seats account in
    let knows = knows-bounds bounds word s.views id account kept at in
    let Same : Account → Type 0 = λ a. a.bounds ≡ bounds in
    let parts : List Account = set s.views id mine in record {
      sixteen = ruled.sixteen;
      keeps = record {
        same = All-append Same parts (theirs ∷ []) (All-set Same s.views id mine knows kept.same) (All-one Same theirs knows);
        sum = omega (arith, kept.sum, sum-set held_of s.views id account mine at, sum_by_push held_of parts theirs);
        within = kept.within;
        marks = kept.marks;
        told =
            omega (
              arith,
              kept.told,
              sum-set began_of s.views id account mine at,
              sum_by_push began_of parts theirs,
              sum-set ended_of s.views id account mine at,
              sum_by_push ended_of parts theirs,
            );
        seats =
            omega (
              arith,
              kept.seats,
              some_kept,
              sum-set seats_of s.views id account mine at,
              sum_by_push seats_of parts theirs,
            );
        idle = All-append IsIdle parts (theirs ∷ [])
            (All-set IsIdle s.views id mine (idle_some mine (omega (arith, some_kept))) kept.idle)
            (All-one IsIdle theirs (idle_some theirs some_given));
      };
    }

pub may-merge : (bounds : BoundsValue) (id other : ℕ) (account theirs : Account) → 0 < account.seats
    → Joins (Ruled bounds) id account other theirs (joined_account account theirs) (spent_account theirs)
may-merge bounds id other account theirs some_seat s ruled at apart their_at =
    let word : ℕ = get_or s.words 8 0 in
    let kept = ruled.keeps in
    let both : Account = joined_account account theirs in
    let spent : Account = spent_account theirs in
    let joined : List Account = set s.views id both in
    let Same : Account → Type 0 = λ a. a.bounds ≡ bounds in
    let knows = knows-bounds bounds word s.views id account kept at in
    let all_same = All-set Same s.views id both knows kept.same in record {
      sixteen = ruled.sixteen;
      keeps = record {
        same = All-set Same joined other spent (of-one Same joined other theirs all_same their_at) all_same;
        sum = omega (arith, kept.sum, sum-set held_of s.views id account both at, sum-set held_of joined other theirs spent their_at);
        within = kept.within;
        marks = kept.marks;
        told =
            omega (
              arith,
              kept.told,
              sum-set began_of s.views id account both at,
              sum-set began_of joined other theirs spent their_at,
              sum-set ended_of s.views id account both at,
              sum-set ended_of joined other theirs spent their_at,
            );
        seats =
            omega (
              arith,
              kept.seats,
              sum-set seats_of s.views id account both at,
              sum-set seats_of joined other theirs spent their_at,
            );
        idle = All-set IsIdle joined other spent
            (record { held = λ _. refl; began = λ _. refl; ended = λ _. refl })
            (All-set IsIdle s.views id both (idle_some both (omega (arith, some_seat))) kept.idle);
      };
    }
