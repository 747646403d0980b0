-- `is_open` of each holder tests the pointer, which what the holder owns allows. Assumes `Logic`.
use Rattle.std.specs.Prelude.{is_some}
use seplogic.Ra.Ura.{Ura}
use base.Logic.{emp}
use mir.Syntax.{Fn, ty_ptr, ty_bool, place, seq, assign, rv_opd, op2, op1, ptr_eq, bit_not, copy, int, return}
use denote.Triple.Clauses.{Ended, Clauses}
use Rattle.ob_c.proofs.Steps.{true, false, List, [], ◌∷◌, refl, sym, ap, ◌∙◌, lit<, proved, full_share, ftrue, flft, w64, named, Val, vbool, fact, ‵, ◌⊛◌, ◌$◌, ◌∵◌, !, qed, done, move, keep, split, join, fsplit3, rewrite, suffices, frame, group, enter, of_opd, un, bin, lit, load, stop, fld, returns, alloc_all, pass_all, free_all, look_at, get, through, sets, bool, Ptr, block_ptr, null_ptr, tests_null, MutRef, mut_vals, mut_Tells, plain, nothing, owned, opens, closes, Stays, walk_of, says, stay_ref, Goes-ref, ends_at, whole, sub, look_in, cell_at, bool_Makes, yes, RattleType, ◌≡◌}
use Rattle.ob_c.proofs.Holder.{Holder, Met, the_row, method, signed, self_at, word, apart, again}
use Rattle.ob_c.proofs.Keeping.{either}

module _ (S : Holder) where
  abbrev R : RattleType
  R = the_row S

  abbrev code : Fn
  code = method S ty_bool [] (ty_ptr ∷ ty_bool ∷ []) (seq (assign (place 2 []) (rv_opd (copy (self_at S)))) (seq (assign (place 3 []) (op2 ptr_eq (copy (place 2 [])) (int w64 0)))
      (seq (assign (place 0 []) (op1 bit_not (copy (place 3 [])))) return)))

  abbrev ended : Ended
  ended = record { signature = signed S [] bool; kept = (yes, tt) }

  abbrev stayed : Stays ended.signature.params ended.kept
  stayed = (stay_ref (0 ∷ []) tt (plain (λ _. R)), tt)

  abbrev clauses : {M : Type 1} (𝓤 : Ura M) → Clauses 𝓤 ended
  clauses 𝓤 κs a = record { ghost = Unit {0}; requires = λ _. emp 𝓤; ensures = λ _ out end. fact 𝓤 ((out ≡ is_some (S.value a.0.now)) × (end.0.now ≡ a.0.now)) }

  pub tests : {M : Type 1} → Met M ended (λ 𝓤. clauses 𝓤) code
  tests 𝓤 𝓛 𝓜 𝓡 k closed =
      let c = clauses 𝓤 in let W = walk_of 𝓛 ended stayed c in
      proved 𝓛 ended stayed c 𝓜 𝓡 (Goes-ref 𝓛 1 0 tt (plain (λ _. R)), tt) k code closed
      (λ κs. (mut_vals, tt)) (λ κs. (mut_Tells (named 0) κs.0 R, tt)) (λ κs qs bounds a _ are.
      let b = a.0.ref_ptr.0 in let o = a.0.ref_ptr.1 in let d = a.0.now in let vs = mut_vals a.0 in
      let y : W.Ghost = ((κs, qs, bounds, a, (vs, tt)), tt) in
      qed 𝓛 (((‵ (flft κs.0 qs.0) ⊛ ‵ ftrue) ⊛ ‵ ((MutRef (named 0) κs.0 R).own_val a.0 vs) ⊛ ‵ ftrue) ∷ ‵ ftrue ∷ []) ∵
      split ! $ split ! $ move ! (2 ∷ []) $ split ! $ keep ! (0 ∷ 2 ∷ []) $
      enter ! _ _ _ _ _ $ alloc_all ! (λ l. pass_all ! refl ((tt, tt), tt) $
      fsplit3 ! $ move ! (1 ∷ 2 ∷ 3 ∷ []) $ opens ! tt R b o (λ us.
      move ! (1 ∷ []) $ apart S ! d us (λ is.
      let Cell = λ (ws : List Val). ‵ (cell_at full_share R.mir ws b o) in
      let Word = λ (p : Ptr). word p ∷ [] in
      -- [what is held; the cell; the open borrow, in three entries; self's first part]
      either S.inner ! (S.at d) (S.value d)
      (λ null none.
      rewrite ! 1 Cell (is ∙ ap Word null) refl $
      sets ! (of_opd ! (load ! (through ! refl (fld ! refl (stop !))) (look_in ! 1 (sub ! 0 refl (whole !))))) refl (tt, record { fits = lit< tt }) $
      sets ! (bin ! (get ! refl) (lit ! tt) (tests_null null_ptr (lit< tt))) refl (tt, tt) $
      sets ! (un ! (get ! refl) tt) refl (tt, tt) $
      rewrite ! 1 Cell (sym (ap Word null)) refl $ again S ! d $ move ! (1 ∷ 0 ∷ []) $ closes ! tt R d (Word (S.at d)) b o $
      returns ! (look_at ! 0 refl) $ free_all ! refl $ move ! (3 ∷ []) $
      suffices ! _ (ends_at 𝓛 ended stayed c y (vbool false) false (d, tt) (tt, tt)) $ says ! (ap is_some (sym none), refl) $
      group ! 3 $ nothing ! $ move ! (1 ∷ 0 ∷ []) $ join ! $ nothing ! $ move ! (2 ∷ 0 ∷ []) $ join ! $ frame ! $ frame ! $
      owned ! bool _ (bool_Makes 𝓛) false _ refl $ done !)
      (λ b' o' v some_block some_value may.
      rewrite ! 1 Cell (is ∙ ap Word some_block) refl $
      sets ! (of_opd ! (load ! (through ! refl (fld ! refl (stop !))) (look_in ! 1 (sub ! 0 refl (whole !))))) refl (tt, tt) $
      sets ! (bin ! (get ! refl) (lit ! tt) (tests_null (block_ptr b' o') may)) refl (tt, tt) $
      sets ! (un ! (get ! refl) tt) refl (tt, tt) $
      rewrite ! 1 Cell (sym (ap Word some_block)) refl $ again S ! d $ move ! (1 ∷ 0 ∷ []) $ closes ! tt R d (Word (S.at d)) b o $
      returns ! (look_at ! 0 refl) $ free_all ! refl $ move ! (3 ∷ []) $
      suffices ! _ (ends_at 𝓛 ended stayed c y (vbool true) true (d, tt) (tt, tt)) $ says ! (ap is_some (sym some_value), refl) $
      group ! 3 $ nothing ! $ move ! (1 ∷ 0 ∷ []) $ join ! $ nothing ! $ move ! (2 ∷ 0 ∷ []) $ join ! $ frame ! $ frame ! $
      owned ! bool _ (bool_Makes 𝓛) true _ refl $ done !)))))
