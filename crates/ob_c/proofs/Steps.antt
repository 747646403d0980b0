-- The names that the walks of this crate cite.
pub use Rattle.std.proofs.Common.{◌≡◌, ℕ, Bool, true, false, List, [], ◌∷◌, ◌++◌, refl, sym, ap, ◌∙◌, subst, lit<, w8, w64, MutBor, arith}
pub use Rattle.std.proofs.raw_atomic.Walks.{proved, proved_at, leaves}
pub use base.Fraction.{full_share}
pub use base.Logic.{SProp, ent, id⊢}
pub use base.Fml.{Fml, ftrue, ffalse, fat, flft, fres, fsep}
pub use mir.Syntax.{ty_int, named}
pub use mir.Val.{Val, Fits, vunit, vint, vptr, vbool}
pub use prog.Wp.{WpFn}
pub use contract.Monad.{fact}
pub use contract.Running.{tables}
pub use types.Kit.{‵, raw, given, learn, ◌⊛◌, some, later, prop, at_ret, Seq, Step, Item, Goal, ◌$◌, ◌∵◌, !, qed, done, by, move, keep, drop, use1, use2, use3, split, join, fsplit, fsplit3, fjoin, feq_i, feq_l, pick, await, rewrite, regoal, suffices, frame, group}
pub use types.Run.{from, enter, of_opd, un, bin, addr, lit, unit_lit, load, look, store, stop, fld, hop, no_more, and_then, assigns, assigns_last, first, blocks, branches, skips, exec, returns, returns_within, well_typed}
pub use types.Part.{whole, sub, look_in, store_in, agg}
pub use types.ByLocal.{look_in_at, alloc_all, pass_all, free_all, look_at, get, get_in, through, sets, lands_as, env}
pub use denote.Builtin.{u8, usize, bool, unit}
pub use denote.Exit.{yes, no}
pub use denote.Laws.{shows}
pub use denote.Memory.{cell_at}
pub use denote.Plain.{uint_Makes, bool_vals, bool_Tells, bool_Makes}
pub use denote.RattleType.{RattleType, owns}
pub use denote.RawPtr.{Ptr, RawPtr, block_ptr, null_ptr, ptr_val, in_a_block, rawptr_vals, rawptr_Tells, Testable, tests_null}
pub use denote.Ref.{MutRef, mut_vals, mut_Tells}
pub use denote.Slice.{ShrSlice, slice_val, shr_slice_vals, shr_slice_Tells}
pub use denote.Signature.{plain, shr_slice_of, types_at, type_at}
pub use denote.Steps.{nothing, owned, opens, closes, tied, ties, heard, peeks, only}
pub use denote.Triple.Walked.{Stays, walk_of, says, stay_dropped, Goes-dropped, stay_ref, Goes-ref, ends_at}
