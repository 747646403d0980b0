use Rattle.ob_c.specs.Looks.{promise_or_status}
use Rattle.ob_c.proofs.Trying.{shown_in}
use Rattle.ob_c.proofs.tries.limekeel_shared_promise.Goals as goal

pub returns : goal.returns
returns c = shown_in _ _ promise_or_status _ _ _ c.ask.ensures c.tried.ensures
