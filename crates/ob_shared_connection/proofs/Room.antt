-- What all connections of a budget hold together.
use Rattle.std.proofs.Common.{◌≤◌, List, [], ◌∷◌, map, arith}
use Rattle.std.specs.List.{All, sum_by}
use Rattle.std.proofs.lemmas.List.Elements.{All-head, All-tail}
use Rattle.std.proofs.lemmas.List.Sums.{sum_by-cons}
use Rattle.ob_budget.specs.declared.account.Account.{Account}
use Rattle.ob_shared_connection.specs.Calls.{AllWithinRoom, Covering, pending_under}

no_more : (seats : List Covering) → All (λ covering. pending_under covering ≤ covering.account.held) seats
    → sum_by pending_under seats ≤ sum_by (λ account. account.held) (map (λ (covering : Covering). covering.account) seats)
no_more [] all = omega arith
no_more (seat ∷ seats) all =
    let one : pending_under seat ≤ seat.account.held = All-head (λ covering. pending_under covering ≤ covering.account.held) seat seats all in
    let others = no_more seats (All-tail (λ covering. pending_under covering ≤ covering.account.held) seat seats all) in
    let accounts = map (λ (covering : Covering). covering.account) seats in
    let held = sum_by-cons (λ (account : Account). account.held) seat.account accounts in
    let pending = sum_by-cons pending_under seat seats in
    omega (arith, one, others, held, pending)

pub all_within_room : AllWithinRoom
all_within_room bounds word seats keeps all =
    let fewer = no_more seats all in
    omega (arith, fewer, keeps.sum, keeps.within)
