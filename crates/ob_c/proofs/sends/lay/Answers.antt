use Rattle.std.proofs.Common.{◌+◌, ◌++◌, ◌∷◌, [], ℕ, List, take, sym, ap, ◌∙◌, subst, slice_set, arith}
use Rattle.std.proofs.lemmas.Grind.{drop_more_same}
use Rattle.std.proofs.lemmas.List.{drop-set-lt, length-set, take_more}
use Rattle.ob_c.specs.Calls.{AreAt}
use Rattle.ob_c.proofs.Gathered.{laid_more}
use Rattle.ob_c.proofs.sends.lay.Goals as goal

pub lays-preserved : goal.lays-preserved
lays-preserved c =
    let at = c.lays.at in
    let blocks = c.args.blocks.now in record {
      laid = subst (λ (items : List (List ℕ)). AreAt items (take (at + 1) (slice_set c.lays.pieces at c.of.result)))
          (ap (λ (bytes : List ℕ). take at blocks ++ bytes ∷ []) (c.as_slice.ensures ∙ c.index-blocks-at.is)
          ∙ sym (take_more blocks at c.index-blocks-at.result c.lays-test.true))
          (laid_more at c.lays.pieces c.of.result (take at blocks) c.as_slice.result
          (omega (arith, c.lays-test.true, c.requires, c.lays.invariant.same)) c.of.ensures c.lays.invariant.laid);
      same = rw length-set c.lays.invariant.same;
      rest = drop-set-lt (at + 1) c.lays.pieces at _ (omega arith)
          ∙ drop_more_same c.lays.pieces c.args.pieces.now at c.lays.invariant.rest;
    }
