use Rattle.ob_lanes.proofs.Runs.{turned}
use Rattle.ob_lanes.proofs.laws.the_changes_of_every_run_take_turns.Goals as goal

pub returns : goal.returns
returns c = record {
  turns = λ grant moves core mark fits leads. (turned grant mark fits moves core leads).turns;
  now = λ grant moves core mark fits leads. (turned grant mark fits moves core leads).now;
}
