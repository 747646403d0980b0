-- `put` of each holder stores the pointer. Assumes `Logic`.
use Rattle.std.specs.Prelude.{Some}
use seplogic.Ra.Ura.{Ura}
use base.Logic.{emp}
use mir.Syntax.{Fn, ty_ptr, ty_unit, place, field, seq, assign, rv_opd, copy, opd_unit, return}
use denote.Param.{layout}
use denote.Triple.Clauses.{Ended, Clauses}
use Rattle.ob_c.proofs.Steps.{List, [], ◌∷◌, ◌++◌, refl, sym, subst, proved_at, full_share, ftrue, flft, named, Val, vunit, vptr, SProp, ent, id⊢, WpFn, fact, tables, unit, ‵, ◌⊛◌, ◌$◌, ◌∵◌, !, qed, done, move, keep, drop, split, join, fsplit, fsplit3, feq_i, rewrite, suffices, frame, group, enter, of_opd, unit_lit, stop, fld, assigns, returns, alloc_all, pass_all, free_all, look_at, get, get_in, through, sets, block_ptr, MutRef, mut_vals, mut_Tells, plain, owns, types_at, nothing, opens, closes, Stays, walk_of, says, stay_dropped, stay_ref, Goes-ref, ends_at, whole, sub, store_in, cell_at, yes, RattleType, Goes-dropped, ◌≡◌}
use Rattle.ob_c.proofs.Holder.{Holder, Met, Z, LZ, the_row, loosened, method, signed, self_at, word, apart, together}
use Rattle.ob_c.proofs.Loosened.{both, loose_good, loose_out}
use Rattle.std_heap.specs.contracts.GlobalAllocator.TheImpl.{ghosts}

module _ (S : Holder) where
  abbrev R : RattleType
  R = the_row S

  abbrev In : RattleType
  In = loosened S

  abbrev code : Fn
  code = method S ty_unit (layout In ∷ []) (ty_ptr ∷ ty_ptr ∷ []) (seq (assign (place 3 []) (rv_opd (copy (place 2 (field 0 ∷ []))))) (seq (assign (place 4 []) (rv_opd (copy (place 3 []))))
      (seq (assign (self_at S) (rv_opd (copy (place 4 [])))) (seq (assign (place 0 []) (rv_opd opd_unit)) return))))

  abbrev ended : Ended
  ended = record { signature = signed S (plain (λ κs. In) ∷ []) unit; kept = (yes, (yes, tt)) }

  abbrev stayed : Stays ended.signature.params ended.kept
  stayed = (stay_ref (0 ∷ []) tt (plain (λ _. R)), (stay_dropped (plain (λ _. In)) yes, tt))

  abbrev clauses : {M : Type 1} (𝓤 : Ura M) → Clauses 𝓤 ended
  clauses 𝓤 κs a = record { ghost = Unit {0}; requires = λ _. emp 𝓤; ensures = λ _ out end. fact 𝓤 (S.value end.0.now ≡ Some a.1.0.value) }

  pub puts : {M : Type 1} → Met M ended (λ 𝓤. clauses 𝓤) code
  puts 𝓤 𝓛 𝓜 𝓡 k closed =
      let c = clauses 𝓤 in let 𝓣 = tables 𝓤 𝓛.H 𝓜 𝓡 𝓡.env in
      proved_at 𝓛 ended stayed c 𝓜 𝓡 (Goes-ref 𝓛 1 0 tt (plain (λ _. R)), (Goes-dropped 𝓛 1 (plain (λ _. In)) yes (λ κs x w. refl), tt)) k code closed (λ z are.
      let κs = z.0.0 in let qs = z.0.1 in let a = z.0.3 in let r = a.0 in let b = r.ref_ptr.0 in let o = r.ref_ptr.1 in let d = r.now in let v = a.1.0 in
      let Post : Val → SProp 𝓤 = (walk_of 𝓛 ended stayed c).post z in let Run : List Val → SProp 𝓤 = λ ws. WpFn 𝓤 𝓛.H 𝓣.C 𝓣.Λ code ws Post in
      let told : z.0.4.0 ≡ mut_vals r = mut_Tells (named 0) κs.0 R r z.0.4.0 are.0 in
      qed 𝓛 (((‵ (flft κs.0 qs.0) ⊛ ‵ ftrue) ⊛ ‵ (owns (types_at ended.signature.params κs) a z.0.4)) ∷ ‵ ftrue ∷ []) ∵
      split ! $ move ! (1 ∷ []) $ fsplit ! $ move ! (1 ∷ []) $ fsplit ! $ loose_out S.inner Z LZ ghosts ! v z.0.4.1.0 (λ b' o' h at_is ws fits.
      let full : S.D = S.make (block_ptr b' o') (Some v.value) in
      rewrite ! 3 (λ (us : List Val). ‵ ((MutRef (named 0) κs.0 R).own_val r us)) told refl $
      move ! (4 ∷ []) $ split ! $ keep ! (5 ∷ 0 ∷ 2 ∷ 3 ∷ []) $
      let args = mut_vals r ++ (both (vptr b' o') h ∷ []) in
      suffices ! (Run args) (subst (λ (us : List Val). ent 𝓤 (Run args) (Run us)) (sym (λ i. told i ++ (ws i ++ []))) (id⊢ 𝓤 (Run args))) $
      enter ! 𝓣.C 𝓣.Λ code args Post $ alloc_all ! (λ l. pass_all ! refl ((tt, tt), (loose_good S.inner Z LZ ghosts b' o' h fits, tt)) $
      fsplit3 ! $ move ! (1 ∷ 2 ∷ 3 ∷ []) $ opens ! tt R b o (λ us. move ! (1 ∷ []) $ apart S ! d us (λ is. drop ! $
      let Cell = λ (ws : List Val). ‵ (cell_at full_share R.mir ws b o) in
      rewrite ! 0 Cell is refl $
      -- [the cell; the open borrow, in three entries; self's first part; what comes in; the allocator]
      sets ! (of_opd ! (get_in ! (fld ! refl (stop !)) (sub ! 0 refl (whole !)))) refl (tt, tt) $
      sets ! (of_opd ! (get ! refl)) refl (tt, tt) $
      assigns ! (of_opd ! (get ! refl)) (through ! refl (fld ! refl (stop !))) (store_in ! 0 (sub ! 0 refl (whole !)) (tt, tt)) $
      sets ! (of_opd ! (unit_lit !)) refl (tt, tt) $
      move ! (5 ∷ []) $ together S ! (block_ptr b' o') (Some v.value) $ move ! (1 ∷ 0 ∷ []) $ closes ! tt R full (word (block_ptr b' o') ∷ []) b o $
      -- [two parts of self; the token; self's first part; the allocator]
      returns ! (look_at ! 0 refl) $ free_all ! refl $ keep ! (0 ∷ 1 ∷ 2 ∷ []) $
      suffices ! _ (ends_at 𝓛 ended stayed c z vunit tt (full, (tt, tt)) (tt, (tt, tt))) $ says ! (S.just.2 (block_ptr b' o') (Some v.value)) $
      feq_i ! (List Val) z.0.4.0 (mut_vals r) told $ group ! 3 $ nothing ! $ nothing ! $ join ! $ move ! (1 ∷ 0 ∷ []) $ join ! $ nothing ! $ move ! (2 ∷ 0 ∷ []) $ join ! $ frame ! $ frame ! $
      feq_i ! _ (vunit ∷ []) _ refl $ done !)))))
