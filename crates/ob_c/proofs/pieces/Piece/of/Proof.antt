-- `of` takes the address of the bytes.
use Rattle.ob_c.proofs.Steps.{owned, usize, RawPtr, uint_Makes, Fits, feq_i, List, [], ◌∷◌, refl, proved, ftrue, flft, named, Val, vptr, vint, w64, ‵, ◌⊛◌, ◌$◌, ◌∵◌, !, qed, done, move, keep, split, join, suffices, frame, enter, of_opd, addr, from, stop, fld, hop, no_more, and_then, returns, alloc_all, pass_all, free_all, look_at, look_in_at, get, get_in, sets, u8, yes, block_ptr, plain, shr_slice_of, ShrSlice, shr_slice_vals, shr_slice_Tells, nothing, Stays, walk_of, says, stay_dropped, Goes-dropped, ends_at, whole, sub, agg}
use Rattle.std.specs.Prelude.{length}
use Rattle.ob_c.proofs.Loosened.{both, two_in}
use Rattle.ob_c.specs.contracts.pieces.Piece.of as f
use Rattle.ob_c.proofs.pieces.Piece.of.Statement.{statement}
use Rattle.ob_c.proofs.pieces.Piece.of.Code as code

abbrev stayed : Stays f.ended.signature.params f.ended.kept
stayed = (stay_dropped (shr_slice_of (0 ∷ []) tt (plain (λ _. u8))) yes, tt)

pub of_spec : {M : Type 1} → statement M
of_spec 𝓤 𝓛 𝓜 𝓡 wired =
    let c = f.clauses 𝓛 𝓜.mem 𝓡.returns in let W = walk_of 𝓛 f.ended stayed c in
    proved 𝓛 f.ended stayed c 𝓜 𝓡 (Goes-dropped 𝓛 1 (shr_slice_of (0 ∷ []) tt (plain (λ _. u8))) yes (λ κs x w. refl), tt)
    f.Key.name code.function (code.unfolded 𝓤 𝓛.H 𝓜 𝓡 wired)
    (λ κs. (shr_slice_vals, tt)) (λ κs. (shr_slice_Tells (named 0) κs.0 u8, tt)) (λ κs qs bounds a _ are.
    let b = a.0.ref_ptr.0 in let o = a.0.ref_ptr.1 in let n = length a.0.now in let vs = shr_slice_vals a.0 in
    let fits : Fits w64 n = record { fits = are.0.0.1.0 } in
    let y : W.Ghost = ((κs, qs, bounds, a, (vs, tt)), tt) in
    qed 𝓛 (((‵ (flft κs.0 qs.0) ⊛ ‵ ftrue) ⊛ ‵ ((ShrSlice (named 0) κs.0 u8).own_val a.0 vs) ⊛ ‵ ftrue) ∷ ‵ ftrue ∷ []) ∵
    split ! $ split ! $ keep ! (0 ∷ []) $
    enter ! _ _ _ _ _ $ alloc_all ! (λ l. pass_all ! refl ((tt, (tt, (fits, tt))), tt) $
    sets ! (addr ! (from ! (fld ! refl (hop ! (look_in_at ! 1 (sub ! 0 refl (whole !))) (stop !))))) refl (tt, tt) $
    sets ! (of_opd ! (get_in ! (fld ! refl (stop !)) (sub ! 1 refl (whole !)))) refl (tt, fits) $
    sets ! (agg ! (and_then ! (get ! refl) (and_then ! (get ! refl) (no_more !)))) refl (tt, (tt, (fits, tt))) $
    returns ! (look_at ! 0 refl) $ free_all ! refl $
    suffices ! _ (ends_at 𝓛 f.ended stayed c y (both (vptr b o) (vint w64 n)) (record { at = block_ptr b o; length = n }) (tt, tt) (tt, tt)) $ says ! refl $
    nothing ! $ move ! (1 ∷ 0 ∷ []) $ join ! $ frame ! $ nothing ! $ nothing ! $ join ! $ frame ! $
    owned ! usize _ (uint_Makes 𝓛 w64) n _ (refl, are.0.0.1.0) $ feq_i ! (List Val) (vptr b o ∷ []) (vptr b o ∷ []) refl $
    two_in RawPtr usize (block_ptr b o) n ! (vptr b o) (vint w64 n) $ done !))
