use Rattle.ob_core.proofs.LawLemmas.{sound_above, sound_below, sound_at_rest}
use Rattle.ob_core.proofs.world.World.word.Goals as goal

pub returns-clause-above : goal.returns-clause-above
returns-clause-above c = rw (← c.self.view_is) (sound_above _ c.self.invariant)

pub returns-clause-below : goal.returns-clause-below
returns-clause-below c = rw (← c.self.view_is) (sound_below _ c.self.invariant)

pub returns-clause-at_rest : goal.returns-clause-at_rest
returns-clause-at_rest c = rw (← c.self.view_is) (sound_at_rest _ c.self.invariant)
