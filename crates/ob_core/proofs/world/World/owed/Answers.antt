use Rattle.std.proofs.Common.{ap, arith}
use Rattle.ob_core.specs.World.{sum_owed}
use Rattle.ob_core.specs.Inside.{core_of}
use Rattle.ob_core.proofs.SoundLemmas.{sum_owed-fits}
use Rattle.ob_core.proofs.world.World.owed.Goals as goal

pub overflow_cast-result : goal.overflow_cast-result
overflow_cast-result c =
    let fits = sum_owed-fits (core_of c.self.inside) c.self.invariant in
    omega (arith, c.add_debts.ensures, ap sum_owed c.deref.ensures.value, fits)
