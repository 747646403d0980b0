use Rattle.ob_lanes.proofs.lane.Lane.split.Given as goal

abbrev pub ghosts-divide_seat : goal.ghosts-divide_seat
ghosts-divide_seat a = record { room = a._room; bits = a._bits }
