use Rattle.ob_c.specs.Looks.{current_or_status}
use Rattle.ob_c.proofs.Trying.{shown_in}
use Rattle.ob_c.proofs.sends.limekeel_transport_current.Goals as goal

pub returns : goal.returns
returns c = shown_in _ _ current_or_status _ _ _ c.ask.ensures c.tried.ensures
