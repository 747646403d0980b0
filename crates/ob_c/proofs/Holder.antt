-- A struct of one pointer that owns what `held` says of it, apart and together: what a `Handle` and a `Block` have in common. Assumes `Logic`.
use Rattle.std.proofs.Common.{◌≡◌, ◌+◌, List, [], ◌∷◌, ◌++◌, length, map, refl, sym, ap, subst}
use Rattle.std.specs.Prelude.{Option}
use seplogic.Ra.Ura.{Ura}
use mir.Syntax.{Sym, Fn, Callee, Ty, ty_ptr, ty_struct, ty_named, ty_ref, tcons, tnil, named, mut, local, value_local, Place, place, deref, field, Body}
use mir.Val.{Val, vstruct, vcons, vnil, of_list}
use base.Stored.{Coded}
use prog.Model.{Model}
use prog.Wp.{Closed}
use contract.Running.{Running, tables}
use types.Logic.{Logic}
use types.Kit.{Item, Goal, Seq, Step, step, ‵, ◌$◌, drop, fsplit, fjoin, fpick, fpack, feq_i, feq_l, rewrite}
use denote.RattleType.{RattleType, Valss}
use denote.Builtin.{One, RawPtr, RefMutOf}
use denote.Param.Laws.{Laws}
use denote.RawPtr.{Ptr, ptr_val}
use denote.Signature.{Signature, Slot, plain}
use denote.Steps.{nothing}
use denote.Struct.Field.{RawPtr-field}
use denote.Struct.Record.{Record, Also, Done}
use denote.Struct.Struct.{within}
use denote.Struct.Owning.{Owning, owning, row, shape}
use denote.Struct.Values.{Values}
use denote.Triple.Clauses.{Ended, Clauses, closing}
use denote.Triple.Spec.{Meets}
use Rattle.ob_c.specs.Held.{held}
use Rattle.ob_c.proofs.Loosened.{Loose}
use Rattle.std_heap.specs.contracts.Global as heap
use Rattle.std_heap.specs.contracts.GlobalAllocator.TheImpl.{ghosts}
use Rattle.std_heap.proofs.Global.TheLaws as heap_laws

-- the struct's name, the row of what it holds, which is one machine value, and the type that code writes for that, and
-- its values: each is just a pointer and what is held
pub record Holder : Type 2 where
  pub name : Sym
  pub inner : RattleType
  pub written : Ty
  pub one : One inner.mir
  pub D : Type 0
  pub codes : (v : Values (RawPtr-field ∷ [])) → Coded (Also (Option inner.Denot) (λ x. Done))
  pub at : D → Ptr
  pub value : D → Option inner.Denot
  pub make : Ptr → Option inner.Denot → D
  pub just : ((d : D) → make (at d) (value d) ≡ d)
      × ((v : Values (RawPtr-field ∷ [])) (g : Also (Option inner.Denot) (λ x. Done)) → (at (make v.0 g.0), tt) ≡ v)
      × ((p : Ptr) (x : Option inner.Denot) → value (make p x) ≡ x)

-- whatever runs this code meets these clauses
abbrev pub Met : (M : Type 1) (T : Ended) → ((𝓤 : Ura M) → Clauses 𝓤 T) → Fn → Type 2
Met M T clauses code = (𝓤 : Ura M) (𝓛 : Logic 𝓤) (𝓜 : Model 𝓤 𝓛.H) (𝓡 : Running 𝓤 𝓛.H 𝓜) (k : Callee)
    → Closed 𝓤 𝓛.H (tables 𝓤 𝓛.H 𝓜 𝓡 𝓡.env).C (tables 𝓤 𝓛.H 𝓜 𝓡 𝓡.env).Λ k code → Meets 𝓛 T.signature ((tables 𝓤 𝓛.H 𝓜 𝓡 𝓡.env).C k) (closing 𝓛 T (clauses 𝓤))

-- the same of clauses that own memory
abbrev pub MetIn : (M : Type 1) (T : Ended) → ((𝓤 : Ura M) (𝓛 : Logic 𝓤) → Clauses 𝓤 T) → Fn → Type 2
MetIn M T clauses code = (𝓤 : Ura M) (𝓛 : Logic 𝓤) (𝓜 : Model 𝓤 𝓛.H) (𝓡 : Running 𝓤 𝓛.H 𝓜) (k : Callee)
    → Closed 𝓤 𝓛.H (tables 𝓤 𝓛.H 𝓜 𝓡 𝓡.env).C (tables 𝓤 𝓛.H 𝓜 𝓡 𝓡.env).Λ k code → Meets 𝓛 T.signature ((tables 𝓤 𝓛.H 𝓜 𝓡 𝓡.env).C k) (closing 𝓛 T (clauses 𝓤 𝓛))

-- the C library's heap
abbrev pub Z : RattleType
Z = heap.the_row

abbrev pub LZ : Laws Z
LZ = heap_laws.the_row_laws

abbrev pub word : Ptr → Val
word p = vstruct (vcons (ptr_val p) vnil)

module _ (S : Holder) where
  abbrev pub struct : Record
  struct = record {
    name = S.name;
    args = [];
    types = [];
    parts = RawPtr-field ∷ [];
    D = S.D;
    as_values = λ d. (S.at d, tt);
    Ghost = λ v. Also (Option S.inner.Denot) (λ x. Done);
    ghosts = λ d. (S.value d, tt);
    make = λ v g. S.make v.0 g.0;
    eta = S.just.0;
    beta = S.just.1;
  }

  abbrev pub the_type : Owning
  the_type = owning struct S.codes (λ d. held S.inner (S.at d) (S.value d))

  abbrev pub the_row : RattleType
  the_row = row the_type

  -- what it holds, as its pointer
  abbrev pub loosened : RattleType
  loosened = Loose S.inner Z LZ ghosts

  -- a method of it: its code, from the types of the result, of what it is handed beside `&mut self` and of its own locals
  abbrev pub method : Ty → List Ty → List Ty → Body → Fn
  method result others own body = record {
    lifetimes = 1;
    outlives = [];
    ty_params = [];
    givens = 0;
    params = 1 + length others;
    locals = map (λ τ. local τ value_local) (result ∷ ty_ref (named 0) mut (ty_named (S.name, []) tnil) ∷ others ++ own);
    body = body;
  }

  -- the pointer of its `self`
  abbrev pub self_at : Place
  self_at = place 1 (deref (ty_struct S.name (tcons ty_ptr tnil)) ∷ field 0 ∷ [])

  -- its signature
  abbrev pub signed : List (Slot 1) → RattleType → Signature
  signed others result = record { lifetimes = 1; outlives = []; params = RefMutOf (0 ∷ []) tt (plain (λ κs. the_row)) (λ κs. tt) ∷ others; result = plain (λ κs. result) }

  module _ {M : Type 1} {𝓤 : Ura M} {𝓛 : Logic 𝓤} {K : Type 0} {Γ : List (Item 𝓤)} {G : Goal 𝓤 𝓛.H} where
    pub apart : K → (d : S.D) (us : List Val) → (us ≡ word (S.at d) ∷ [] → Seq K 𝓛 (‵ (held S.inner (S.at d) (S.value d)) ∷ Γ) G) → Seq K 𝓛 (‵ (the_row.own_val d us) ∷ Γ) G
    apart t d us k =
        fsplit t $ fpick t (λ vss. fsplit t $ feq_l t (λ ev. fsplit t $ feq_l t (λ ep. drop t $
        k (subst (λ (ps : List Val). us ≡ vstruct (of_list (ps ++ [])) ∷ []) ep ev))))

    pub again : K → (d : S.D) → Step K 𝓛 (‵ (the_row.own_val d (word (S.at d) ∷ [])) ∷ Γ) G (‵ (held S.inner (S.at d) (S.value d)) ∷ Γ) G
    again t d = step (λ s. let p = S.at d in
        nothing t $ feq_i t (List Val) (ptr_val p ∷ []) (ptr_val p ∷ []) refl $ fjoin t $ feq_i t (List Val) (word p ∷ []) (word p ∷ []) refl $ fjoin t $
        fpack t (Valss (RawPtr ∷ [])) (within (shape the_type) (p, tt) (word p ∷ [])) (ptr_val p ∷ [], tt) $ fjoin t $ s)

    pub together : K → (p : Ptr) (x : Option S.inner.Denot) → Step K 𝓛 (‵ (the_row.own_val (S.make p x) (word p ∷ [])) ∷ Γ) G (‵ (held S.inner p x) ∷ Γ) G
    together t p x = step (λ s. let d = S.make p x in let at_is : S.at d ≡ p = ap (λ (v : Values (RawPtr-field ∷ [])). v.0) (S.just.1 (p, tt) (x, tt)) in
        rewrite t 0 (λ (q : Ptr). ‵ (held S.inner q x)) (sym at_is) refl $ rewrite t 0 (λ (y : Option S.inner.Denot). ‵ (held S.inner (S.at d) y)) (sym (S.just.2 p x)) refl $
        again t d $ rewrite t 0 (λ (q : Ptr). ‵ (the_row.own_val d (word q ∷ []))) at_is refl $ s)
