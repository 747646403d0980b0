use Rattle.ob_core.specs.Turn.{core_after_all}
use Rattle.ob_core.specs.World.{new_core, grant_of}
use Rattle.ob_core.proofs.LawLemmas.{BytesAgree-all, MarkAgrees-all, clear_at_rest}
use Rattle.ob_core.proofs.laws.bit_zero_is_clear_at_rest.Goals as goal

pub returns : goal.returns
returns c = record {
  clear = λ marks starts turns low nothing. clear_at_rest (grant_of marks starts)
      (core_after_all (new_core marks starts) turns) (BytesAgree-all marks starts turns)
      (MarkAgrees-all marks starts turns) low nothing;
}
