use Rattle.ob_lanes.proofs.lane.Lane.join.Given as goal

abbrev pub ghosts-merge_seats : goal.ghosts-merge_seats
ghosts-merge_seats a = record { facts = a.other.me.0 }
