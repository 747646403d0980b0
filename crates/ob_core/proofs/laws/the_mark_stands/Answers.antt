use Rattle.ob_core.specs.Turn.{core_after_all}
use Rattle.ob_core.specs.World.{new_core, grant_of}
use Rattle.ob_core.proofs.LawLemmas.{BytesAgree-all, MarkAgrees-all, set_above, clear_below}
use Rattle.ob_core.proofs.laws.the_mark_stands.Goals as goal

pub returns : goal.returns
returns c = record {
  above = λ marks starts turns ordered above. set_above (grant_of marks starts)
      (core_after_all (new_core marks starts) turns) (BytesAgree-all marks starts turns).marks
      (MarkAgrees-all marks starts turns) ordered above;
  below = λ marks starts turns ordered below. clear_below (grant_of marks starts)
      (core_after_all (new_core marks starts) turns) (BytesAgree-all marks starts turns).marks
      (MarkAgrees-all marks starts turns) ordered below;
}
