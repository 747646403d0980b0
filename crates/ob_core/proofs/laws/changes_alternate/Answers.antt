use Rattle.ob_core.specs.World.{new_core}
use Rattle.ob_core.proofs.LawLemmas.{changes_go_to_and_fro}
use Rattle.ob_core.proofs.laws.changes_alternate.Goals as goal

pub returns : goal.returns
returns c = record { alternate = λ marks starts turns. changes_go_to_and_fro turns (new_core marks starts) }
