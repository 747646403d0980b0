use Rattle.ob_budget.proofs.seat.Seat.join.Given as goal

abbrev pub ghosts-merge_seats : goal.ghosts-merge_seats
ghosts-merge_seats a = record { account = a.other.me.0 }
