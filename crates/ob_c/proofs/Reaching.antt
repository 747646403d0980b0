-- `reach` of each holder lends what is behind the pointer, and the holder follows it. Assumes `Logic`.
use Rattle.std.specs.Prelude.{not, IsSome, Option, Some}
use lib.Dec.{T}
use seplogic.Ra.Ura.{Ura}
use mir.Raw.{raw as bare}
use mir.Syntax.{Fn, ty_ptr, ty_ref, erased, mut, place, deref, seq, block, assign, rv_opd, copy, addr_of, return}
use base.Logic.{sep, id⊢}
use types.ByLocal.{sets_last}
use types.Kit.{split3, fpack}
use types.Logic.{Logic, sem}
use denote.Builtin.{RefMutOf}
use denote.Follow.{follows, Part, lends_Part}
use denote.Memory.{part_at, part_of, mem, lone}
use denote.Param.{layout}
use denote.Signature.{mut_ref_to}
use denote.Triple.Clauses.{Ended, Clauses}
use denote.Triple.Walked.{Goes-spent_ref}
use Rattle.core.proofs.alloc.Shapes.{after}
use Rattle.ob_c.proofs.Steps.{ℕ, later, use1, pick, await, MutBor, Ptr, Bool, tables, List, [], ◌∷◌, refl, sym, ap, ◌∙◌, subst, SProp, ent, Fml, proved, full_share, ftrue, flft, fsep, named, Val, vptr, fact, ‵, raw, some, ◌⊛◌, ◌$◌, ◌∵◌, !, qed, done, move, keep, drop, split, join, fsplit, fsplit3, fjoin, rewrite, suffices, frame, group, enter, of_opd, addr, load, stop, fld, first, blocks, exec, at_ret, env, returns, alloc_all, pass_all, free_all, look_at, get, through, sets, block_ptr, MutRef, mut_vals, mut_Tells, plain, nothing, opens, heard, Stays, walk_of, says, stay_dropped, ends_at, whole, sub, look_in, cell_at, no, RattleType, ◌≡◌}
use Rattle.ob_c.proofs.Holder.{Holder, MetIn, the_row, method, self_at, word, apart, together}
use Rattle.ob_c.proofs.Keeping.{either}
use Rattle.ob_c.specs.Held.{held, may_free}

module _ (S : Holder) where
  abbrev R : RattleType
  R = the_row S

  abbrev code : Fn
  code = method S (ty_ref (named 0) mut S.written) [] (ty_ref erased mut S.written ∷ ty_ptr ∷ ty_ptr ∷ []) (seq (block (seq (assign (place 3 []) (rv_opd (copy (self_at S))))
      (seq (assign (place 4 []) (rv_opd (copy (place 3 [])))) (assign (place 2 []) (addr_of (place 4 (deref (layout S.inner) ∷ []))))))) (seq (assign (place 0 []) (rv_opd (copy (place 2 [])))) return))

  abbrev ended : Ended
  ended = record {
    signature = record { lifetimes = 1; outlives = []; params = RefMutOf (0 ∷ []) tt (plain (λ κs. R)) (λ κs. tt) ∷ []; result = RefMutOf (0 ∷ []) tt (plain (λ κs. S.inner)) (λ κs. S.one) };
    kept = (no, tt);
  }

  abbrev stayed : Stays ended.signature.params ended.kept
  stayed = (stay_dropped (mut_ref_to (0 ∷ []) tt (plain (λ _. R))) no, tt)

  -- a holder at the same place, with this value behind it
  abbrev filled : S.D → S.inner.Denot → S.D
  filled d w = S.make (S.at d) (Some w)

  abbrev clauses : {M : Type 1} (𝓤 : Ura M) (𝓛 : Logic 𝓤) → Clauses 𝓤 ended
  clauses 𝓤 𝓛 κs a = record {
    ghost = Unit {0};
    requires = λ _. fact 𝓤 (IsSome (S.value a.0.now));
    ensures = λ _ out _. sep 𝓤 (sem 𝓛 (follows R S.inner a.0.ghost_name out.ghost_name (filled a.0.now))) (fact 𝓤 (S.value a.0.now ≡ Some out.now));
  }

  module _ {M : Type 1} {𝓤 : Ura M} (𝓛 : Logic 𝓤) (d : S.D) (b o rb ro : ℕ) where
    -- all of the holder but what is behind the pointer
    abbrev Rest : Fml
    Rest = fsep (may_free (bare (lone S.inner.mir)) (block_ptr b o)) (cell_at full_share R.mir (word (block_ptr b o) ∷ []) rb ro)

    back : S.at d ≡ block_ptr b o → (w : S.inner.Denot) → ent 𝓤 (sep 𝓤 (sem 𝓛 ((mem S.inner).own_at w b o)) (sem 𝓛 Rest)) (sem 𝓛 ((mem R).own_at (filled d w) rb ro))
    unfolding part_of
    back at_is w =
        let p = block_ptr b o in let Own : Ptr → Fml = λ q. R.own_val (S.make q (Some w)) (word p ∷ []) in
        qed 𝓛 (‵ (part_at S.inner full_share w b o) ∷ ‵ Rest ∷ []) ∵ move ! (1 ∷ []) $ fsplit ! $ move ! (2 ∷ 0 ∷ []) $ fjoin ! $
        together S ! p (Some w) $ rewrite ! 0 (λ (q : Ptr). ‵ (Own q)) (sym at_is) refl $ move ! (1 ∷ 0 ∷ []) $ fjoin ! $
        fpack ! (List Val) (λ us. fsep (cell_at full_share R.mir us rb ro) (R.own_val (filled d w) us)) (word p ∷ []) $ done !

  pub reaches : {M : Type 1} → MetIn M ended (λ 𝓤 𝓛. clauses 𝓤 𝓛) code
  reaches 𝓤 𝓛 𝓜 𝓡 k closed =
      let c = clauses 𝓤 𝓛 in let W = walk_of 𝓛 ended stayed c in let In = S.inner in let 𝓣 = tables 𝓤 𝓛.H 𝓜 𝓡 𝓡.env in
      proved 𝓛 ended stayed c 𝓜 𝓡 (Goes-spent_ref 𝓛 1 (0 ∷ []) tt (plain (λ _. R)), tt) k code closed
      (λ κs. (mut_vals, tt)) (λ κs. (mut_Tells (named 0) κs.0 R, tt)) (λ κs qs bounds a _ are.
      let rb = a.0.ref_ptr.0 in let ro = a.0.ref_ptr.1 in let d = a.0.now in let γ = a.0.ghost_name in let vs = mut_vals a.0 in
      let y : W.Ghost = ((κs, qs, bounds, a, (vs, tt)), tt) in let Post : Val → SProp 𝓤 = W.post y in
      qed 𝓛 (((‵ (flft κs.0 qs.0) ⊛ ‵ ftrue) ⊛ ‵ ((MutRef (named 0) κs.0 R).own_val a.0 vs) ⊛ ‵ ftrue) ∷ raw (fact 𝓤 (IsSome (S.value d))) ∷ []) ∵
      move ! (1 ∷ []) $ heard ! _ (λ is_open.
      split ! $ split ! $ move ! (2 ∷ []) $ split ! $ keep ! (0 ∷ 2 ∷ []) $
      enter ! _ _ _ _ _ $ alloc_all ! (λ l. pass_all ! refl ((tt, tt), tt) $ let Ev = env code.locals l in
      fsplit3 ! $ drop ! $ opens ! tt R rb ro (λ us.
      move ! (1 ∷ []) $ apart S ! d us (λ is.
      let Cell = λ (ws : List Val). ‵ (cell_at full_share R.mir ws rb ro) in
      either In ! (S.at d) (S.value d) (λ null none. absurd (subst (λ (x : Bool). T (not x)) (subst IsSome none is_open) tt))
      (λ b o v at_is value_is may.
      rewrite ! 1 Cell (is ∙ ap (λ (p : Ptr). word p ∷ []) at_is) refl $
      rewrite ! 0 (λ (p : Ptr). ‵ (held In p (S.value d))) at_is refl $ rewrite ! 0 (λ (x : Option In.Denot). ‵ (held In (block_ptr b o) x)) value_is refl $
      -- [the value; the right to free it; the cell; the open borrow, in three entries]
      fsplit ! $ first ! $ blocks ! $
      sets ! (of_opd ! (load ! (through ! refl (fld ! refl (stop !))) (look_in ! 2 (sub ! 0 refl (whole !))))) refl (tt, tt) $
      sets ! (of_opd ! (get ! refl)) refl (tt, tt) $
      sets_last ! (addr ! (through ! refl (stop !))) refl (tt, tt) $
      exec ! 𝓣.C 𝓣.Λ Ev (after 1 code.body) (at_ret Ev Post) $
      sets ! (of_opd ! (get ! refl)) refl (tt, tt) $
      move ! (1 ∷ 2 ∷ []) $ fjoin ! $ move ! (2 ∷ 3 ∷ 4 ∷ 1 ∷ 0 ∷ []) $ group ! 5 $
      let rest = sem 𝓛 (Rest 𝓛 d b o rb ro) in let again = back 𝓛 d b o rb ro at_is in
      use1 𝓛 (later (some (λ γ'. raw (Part 𝓛 R In (filled d) (named 0) κs.0 qs.0 rb ro b o γ rest again v γ'))))
      (lends_Part 𝓛 R In (filled d) (named 0) κs.0 qs.0 rb ro b o γ rest again (R.coded.code d) (R.coded.code d) v) $ await ! tt $ pick ! (λ γ'.
      returns ! (look_at ! 0 refl) $ free_all ! refl $ keep ! (0 ∷ []) $
      let lent : MutBor In.Denot = record { ref_ptr = (b, o); ghost_name = γ'; now = v } in
      use1 𝓛 (‵ ((MutRef (named 0) κs.0 In).own_val lent (vptr b o ∷ [])) ⊛ ‵ (flft κs.0 qs.0) ⊛ ‵ (follows R In γ γ' (filled d))) (id⊢ 𝓤 _) $ split3 ! $
      suffices ! _ (ends_at 𝓛 ended stayed c y (vptr b o) lent (tt, tt) (tt, tt)) $
      nothing ! $ nothing ! $ fjoin ! $ join ! $ nothing ! $ move ! (2 ∷ 0 ∷ []) $ join ! $ join ! $ frame ! $ says ! value_is $ done !)))))))
