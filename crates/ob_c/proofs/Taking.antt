-- `take` of each holder loads the pointer, and leaves null. Assumes `Logic`.
use Rattle.std.specs.Prelude.{not, IsSome, Option, Some, None}
use lib.Dec.{T}
use seplogic.Ra.Ura.{Ura}
use mir.Syntax.{Fn, ty_ptr, place, seq, assign, rv_opd, copy, int, aggregate, return}
use denote.Param.{layout}
use denote.Triple.Clauses.{Ended, Clauses}
use Rattle.ob_c.proofs.Steps.{Bool, List, [], ◌∷◌, refl, ap, ◌∙◌, subst, lit<, proved, full_share, ftrue, flft, w64, named, Val, vptr, fact, ‵, raw, ◌⊛◌, ◌$◌, ◌∵◌, !, qed, done, move, keep, split, join, fsplit3, rewrite, suffices, frame, group, enter, of_opd, lit, load, stop, fld, no_more, and_then, assigns, returns, alloc_all, pass_all, free_all, look_at, get, through, sets, Ptr, block_ptr, null_ptr, MutRef, mut_vals, mut_Tells, plain, nothing, opens, closes, heard, Stays, walk_of, says, stay_dropped, stay_ref, Goes-dropped, Goes-ref, ends_at, whole, sub, look_in, store_in, agg, cell_at, yes, RattleType, ◌≡◌}
use Rattle.ob_c.proofs.Holder.{Holder, Met, Z, LZ, the_row, loosened, method, signed, self_at, word, apart, together}
use Rattle.ob_c.proofs.Keeping.{either}
use Rattle.ob_c.proofs.Loosened.{both, loose_good, loose_in}
use Rattle.ob_c.specs.Held.{held}
use Rattle.std_heap.proofs.Global.TheLaws as heap_laws
use Rattle.std_heap.specs.contracts.GlobalAllocator.TheImpl.{ghosts}

module _ (S : Holder) where
  abbrev R : RattleType
  R = the_row S

  abbrev code : Fn
  code = method S (layout (loosened S)) (layout Z ∷ []) (ty_ptr ∷ ty_ptr ∷ []) (seq (assign (place 4 []) (rv_opd (copy (self_at S)))) (seq (assign (place 3 []) (rv_opd (copy (place 4 []))))
      (seq (assign (self_at S) (rv_opd (int w64 0))) (seq (assign (place 0 []) (aggregate (copy (place 3 []) ∷ copy (place 2 []) ∷ []))) return))))

  abbrev ended : Ended
  ended = record { signature = signed S (plain (λ κs. Z) ∷ []) (loosened S); kept = (yes, (yes, tt)) }

  abbrev stayed : Stays ended.signature.params ended.kept
  stayed = (stay_ref (0 ∷ []) tt (plain (λ _. R)), (stay_dropped (plain (λ _. Z)) yes, tt))

  abbrev clauses : {M : Type 1} (𝓤 : Ura M) → Clauses 𝓤 ended
  clauses 𝓤 κs a = record {
    ghost = Unit {0};
    requires = λ _. fact 𝓤 (IsSome (S.value a.0.now));
    ensures = λ _ out end. fact 𝓤 ((S.value a.0.now ≡ Some out.value) × (S.value end.0.now ≡ None));
  }

  pub takes : {M : Type 1} → Met M ended (λ 𝓤. clauses 𝓤) code
  takes 𝓤 𝓛 𝓜 𝓡 k closed =
      let c = clauses 𝓤 in let W = walk_of 𝓛 ended stayed c in
      proved 𝓛 ended stayed c 𝓜 𝓡 (Goes-ref 𝓛 1 0 tt (plain (λ _. R)), (Goes-dropped 𝓛 1 (plain (λ _. Z)) yes (λ κs x f. refl), tt)) k code closed
      (λ κs. (mut_vals, ((λ x. heap_laws.lowers.lowered x ∷ []), tt))) (λ κs. (mut_Tells (named 0) κs.0 R, (heap_laws.lowers.val_is, tt))) (λ κs qs bounds a _ are.
      let b = a.0.ref_ptr.0 in let o = a.0.ref_ptr.1 in let d = a.0.now in let vs = mut_vals a.0 in let g = a.1.0 in let hv = heap_laws.lowers.lowered g in
      let empty : S.D = S.make null_ptr None in
      let y : W.Ghost = ((κs, qs, bounds, a, (vs, (hv ∷ [], tt))), tt) in
      qed 𝓛 (((‵ (flft κs.0 qs.0) ⊛ ‵ ftrue) ⊛ ‵ ((MutRef (named 0) κs.0 R).own_val a.0 vs) ⊛ ‵ (Z.own_val g (hv ∷ [])) ⊛ ‵ ftrue) ∷ raw (fact 𝓤 (IsSome (S.value d))) ∷ []) ∵
      move ! (1 ∷ []) $ heard ! _ (λ is_open.
      split ! $ split ! $ move ! (2 ∷ []) $ split ! $ move ! (1 ∷ []) $ split ! $ keep ! (2 ∷ 3 ∷ 0 ∷ []) $
      enter ! _ _ _ _ _ $ alloc_all ! (λ l. pass_all ! refl ((tt, tt), ((tt, ((tt, tt), tt)), tt)) $
      fsplit3 ! $ move ! (1 ∷ 2 ∷ 3 ∷ []) $ opens ! tt R b o (λ us.
      move ! (1 ∷ []) $ apart S ! d us (λ is.
      let Cell = λ (ws : List Val). ‵ (cell_at full_share R.mir ws b o) in
      either S.inner ! (S.at d) (S.value d) (λ null none. absurd (subst (λ (y : Bool). T (not y)) (subst IsSome none is_open) tt))
      (λ b' o' v at_is value_is may.
      rewrite ! 1 Cell (is ∙ ap (λ (p : Ptr). word p ∷ []) at_is) refl $
      rewrite ! 0 (λ (p : Ptr). ‵ (held S.inner p (S.value d))) at_is refl $ rewrite ! 0 (λ (x : Option S.inner.Denot). ‵ (held S.inner (block_ptr b' o') x)) value_is refl $
      sets ! (of_opd ! (load ! (through ! refl (fld ! refl (stop !))) (look_in ! 1 (sub ! 0 refl (whole !))))) refl (tt, tt) $
      sets ! (of_opd ! (get ! refl)) refl (tt, tt) $
      assigns ! (of_opd ! (lit ! tt)) (through ! refl (fld ! refl (stop !))) (store_in ! 1 (sub ! 0 refl (whole !)) (tt, record { fits = lit< tt })) $
      sets ! (agg ! (and_then ! (get ! refl) (and_then ! (get ! refl) (no_more !)))) refl (loose_good S.inner Z LZ ghosts b' o' hv (tt, ((tt, tt), tt))) $
      -- [what was held; the cell; the open borrow, in three entries; self's first part; the allocator]
      move ! (0 ∷ 6 ∷ []) $ loose_in S.inner Z LZ ghosts ! b' o' hv g v $
      nothing ! $ together S ! null_ptr None $ move ! (2 ∷ 0 ∷ 3 ∷ 4 ∷ 5 ∷ []) $ closes ! tt R empty (word null_ptr ∷ []) b o $
      -- [two parts of self; the token; what was taken; self's first part]
      returns ! (look_at ! 0 refl) $ free_all ! refl $ move ! (4 ∷ []) $
      suffices ! _ (ends_at 𝓛 ended stayed c y (both (vptr b' o') hv) (record { at = block_ptr b' o'; alloc = g; value = v }) (empty, (tt, tt)) (tt, (tt, tt))) $ says ! (value_is, S.just.2 null_ptr None) $
      group ! 3 $ nothing ! $ nothing ! $ join ! $ move ! (1 ∷ 0 ∷ []) $ join ! $ nothing ! $ move ! (2 ∷ 0 ∷ []) $ join ! $ frame ! $ frame ! $ done !))))))
