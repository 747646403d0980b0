use Rattle.ob_budget.proofs.seat.Seat.give.Given as goal

abbrev pub ghosts-divide_seat : goal.ghosts-divide_seat
ghosts-divide_seat a = record { seats = a._seats }
