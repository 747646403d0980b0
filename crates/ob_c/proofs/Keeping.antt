-- What the pointer of a handle says of its value. Assumes `Logic`.
use Rattle.std.proofs.Common.{◌≡◌, ℕ, List, ◌∷◌, refl}
use Rattle.std.specs.Prelude.{Option, Some, None}
use seplogic.Ra.Ura.{Ura}
use mir.Raw.{raw as bare}
use base.Logic.{ent, via, snd∗, never_e, guard_i}
use base.Fml.{ftrue}
use types.Logic.{Logic, sem}
use types.Kit.{Item, Goal, Seq, ‵, given, learn, ◌$◌, use1}
use contract.Monad.{fact_use}
use denote.Memory.{lone}
use denote.RattleType.{RattleType}
use denote.RawPtr.{Ptr, block_ptr, null_ptr, lies_at, Testable}
use base.Fraction.{full_share}
use Rattle.std_heap.specs.contracts.GlobalAllocator.TheImpl.{ghosts}
use Rattle.std_heap.proofs.GlobalToken.{dealloc_token-Testable}
use Rattle.ob_c.specs.Held.{held, heap}

module _ {M : Type 1} {𝓤 : Ura M} (𝓛 : Logic 𝓤) (R : RattleType) where
  tested : (b o : ℕ) (x : R.Denot) → ent 𝓤 (sem 𝓛 (held R (block_ptr b o) (Some x))) (base.Logic.guard 𝓤 (Testable (block_ptr b o)) (sem 𝓛 (held R (block_ptr b o) (Some x))))
  tested b o x =
      let p = block_ptr b o in let B = sem 𝓛 (held R p (Some x)) in
      fact_use 𝓤 (Testable p) (via 𝓤 _ (snd∗ 𝓤 (sem 𝓛 (lies_at R full_share p x)) (sem 𝓛 (ghosts.dealloc_token heap (bare (lone R.mir)) p))) (dealloc_token-Testable 𝓛 heap (bare (lone R.mir)) p)) (guard_i 𝓤 (Testable p) B)

module _ {M : Type 1} {𝓤 : Ura M} {𝓛 : Logic 𝓤} (R : RattleType) where
  module _ {K : Type 0} {Γ : List (Item 𝓤)} {G : Goal 𝓤 𝓛.H} where
    -- null and no value, or a pointer that may be tested and a value
    pub either : K → (p : Ptr) (x : Option R.Denot) → (p ≡ null_ptr → x ≡ None → Seq K 𝓛 (‵ (held R p x) ∷ Γ) G)
        → ((b o : ℕ) (v : R.Denot) → p ≡ block_ptr b o → x ≡ Some v → Testable (block_ptr b o) → Seq K 𝓛 (‵ (held R p x) ∷ Γ) G) → Seq K 𝓛 (‵ (held R p x) ∷ Γ) G
    either t null_ptr None none one = none refl refl
    either t null_ptr (Some x) none one = use1 𝓛 (given ⊥ (‵ ftrue)) (never_e 𝓤 _) $ learn t (λ wrong. absurd wrong)
    either t (block_ptr b o) None none one = use1 𝓛 (given ⊥ (‵ ftrue)) (never_e 𝓤 _) $ learn t (λ wrong. absurd wrong)
    either t (block_ptr b o) (Some x) none one =
        use1 𝓛 (given (Testable (block_ptr b o)) (‵ (held R (block_ptr b o) (Some x)))) (tested 𝓛 R b o x) $ learn t (λ may. one b o x refl refl may)
