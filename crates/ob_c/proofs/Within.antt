-- What C is told of a call within a budget: the act is let go.
use Rattle.std.proofs.Common.{List, Option, Result, Ok, Err, refl}
use Rattle.ob_types.specs.declared.command.Command.{Command}
use Rattle.ob_budget.specs.declared.pressure.Pressure.{Pressure}
use Rattle.ob_connection.specs.Connected.{Connected}
use Rattle.ob_covered.specs.declared.fault.Told.{Told}
use Rattle.ob_shared_connection.specs.Calls.{UnderLock, ActsBy, ActsWithin}
use Rattle.ob_shared_connection.specs.Values.{HandleValue, Held}
use Rattle.ob_shared_connection.specs.declared.over.OverBudget.{OverBudget}
use Rattle.ob_c.specs.Within.{DoesWithin, let_go, with_nothing, without_act}

-- a call under the lock is the same call once its act is let go
pub acts_let_go : {A E B : Type 0} (Uncovered : E → Type 0) (Does : Connected → Result A E → Connected → Type 0) (commands : List Command) (act : B)
    (told : Told (Result (Result A E) (OverBudget B))) (old new : HandleValue)
    → UnderLock old (λ before after. ActsWithin Uncovered Does commands act before told after) new
    → UnderLock old (DoesWithin Uncovered Does commands (let_go told)) new
acts_let_go {A} {E} {B} Uncovered Does commands act told old new under = record {
  before = under.before;
  after = under.after;
  locks = under.locks;
  does = by_answer told.answer told.pressure under.before under.after under.does;
  unlocks = under.unlocks;
}
  where
    by_answer : (answer : Result (Result A E) (OverBudget B)) (pressure : Option Pressure) (before after : Held)
        → ActsBy Uncovered Does commands act before answer pressure after
        → ActsBy Uncovered Does commands tt before (with_nothing (without_act answer)) pressure after
    by_answer (Ok result) pressure before after does = does
    by_answer (Err over) pressure before after passes = record {
      back = refl;
      same = passes.same;
      untold = passes.untold;
      tells = passes.tells;
      accepted = passes.accepted;
      lacks = passes.lacks;
    }
