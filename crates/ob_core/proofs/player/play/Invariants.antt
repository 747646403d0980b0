use Rattle.std.proofs.Common.{◌≡◌, ◌≤◌, ◌++◌, length, drop, vec_len}
use Rattle.std.specs.Vec.{vec_capacity}
use Rattle.ob_core.specs.Turn.{answers_of, core_after_all, last_change_after}
use Rattle.ob_core.proofs.player.play.Given as goal

-- the answers so far and those to come are all, as are the turns so far and those to come, and there is room
abbrev pub invariant-loop-turn : goal.invariant-loop-turn
invariant-loop-turn l = record {
  answered : l.answers.items ++ answers_of l.world.core (drop l.turn-index l.turns)
      ≡ answers_of l.fn.world.core l.turns;
  played : core_after_all l.world.core (drop l.turn-index l.turns) ≡ core_after_all l.fn.world.core l.turns;
  changed : last_change_after l.world (drop l.turn-index l.turns) ≡ last_change_after l.fn.world l.turns;
  counted : vec_len l.answers ≡ l.turn-index;
  room : length l.turns ≤ vec_capacity l.answers;
}
