-- Bells, and what is known of them.
use Rattle.std.proofs.Common.{◌≡◌, ◌≢◌, ◌⊎◌, inl, inr, ⊎_elim, ℕ, true, List, ◌<◌, set, get_or}
use Rattle.std.proofs.Common.{refl, sym, ap, ◌∙◌, arith}
use Rattle.std.proofs.lemmas.List.{get_or-set_other}
use mathlib.Core.Option.{some}
use lib.ListN.{get_elem?}
use Rattle.atomic_table.proofs.Lists.{at_set}
use Rattle.ob_shared_connection.specs.Ruled.{awaited, bell_word, is_owed, is_silent, silent, silenced, unheard, IsBell}
use Rattle.ob_shared_connection.specs.Ruled.{Past}
use Rattle.ob_shared_connection.specs.declared.bell.Waiter.{Waiter}
use Rattle.ob_shared_connection.specs.declared.bell.Waiter.TheVariants.{Writer, Sender}
use Rattle.ob_shared_connection.specs.declared.view.Bells.{Bells}
use Rattle.ob_shared_connection.specs.declared.view.View.{View}

-- the first three words are no bells, and neither is the word of the role
pub bell_apart : (waiter : Waiter) (word : ℕ) → word < 3 → bell_word waiter ≢ word
bell_apart Writer word few = λ e. omega arith
bell_apart Sender word few = λ e. omega arith

pub role_apart : (waiter : Waiter) → bell_word waiter ≢ 5
role_apart Writer = λ e. omega arith
role_apart Sender = λ e. omega arith

-- and one bell is not the other
pub bells_apart : (waiter other : Waiter) → other ≢ waiter → bell_word other ≢ bell_word waiter
bells_apart Writer Writer apart = absurd (apart refl)
bells_apart Writer Sender apart = λ e. omega arith
bells_apart Sender Writer apart = λ e. omega arith
bells_apart Sender Sender apart = absurd (apart refl)

pub bell_within : (waiter : Waiter) → bell_word waiter < 6
bell_within Writer = omega arith
bell_within Sender = omega arith

-- who waits is the same or another
pub same_or_other : (waiter other : Waiter) → (other ≡ waiter) ⊎ (other ≢ waiter)
same_or_other Writer Writer = inl refl
same_or_other Writer Sender = inr (λ e. cc e)
same_or_other Sender Writer = inr (λ e. cc e)
same_or_other Sender Sender = inl refl

-- a word that is no bell is written
pub other_bell : (words : List ℕ) (word next : ℕ) → word < 3 → (waiter : Waiter)
    → get_or (set words word next) (bell_word waiter) 0 ≡ get_or words (bell_word waiter) 0
other_bell words word next few waiter =
    get_or-set_other words word (bell_word waiter) next 0 (bell_apart waiter word few)

-- who knows nothing does not know that a bell is silent
pub none_silent : (waiter : Waiter) → is_silent waiter unheard ≡ true → ⊥
none_silent Writer never = cc never
none_silent Sender never = cc never

pub awaited_now : (waiter : Waiter) (bells : Bells) → is_silent waiter (awaited waiter bells) ≡ true → ⊥
awaited_now Writer bells never = cc never
awaited_now Sender bells never = cc never

-- and of the other one
pub silent_else : (waiter other : Waiter) (bells : Bells) → other ≢ waiter
    → (is_silent other (silent waiter bells) ≡ is_silent other bells)
    × (is_owed other (silent waiter bells) ≡ is_owed other bells)
silent_else Writer Writer bells apart = absurd (apart refl)
silent_else Writer Sender bells apart = (refl, refl)
silent_else Sender Writer bells apart = (refl, refl)
silent_else Sender Sender bells apart = absurd (apart refl)

pub silenced_else : (waiter other : Waiter) (bells : Bells) → other ≢ waiter
    → (is_silent other (silenced waiter bells) ≡ is_silent other bells)
    × (is_owed other (silenced waiter bells) ≡ is_owed other bells)
silenced_else Writer Writer bells apart = absurd (apart refl)
silenced_else Writer Sender bells apart = (refl, refl)
silenced_else Sender Writer bells apart = (refl, refl)
silenced_else Sender Sender bells apart = absurd (apart refl)

pub awaited_else : (waiter other : Waiter) (bells : Bells) → other ≢ waiter
    → is_silent other (awaited waiter bells) ≡ is_silent other bells
awaited_else Writer Writer bells apart = absurd (apart refl)
awaited_else Writer Sender bells apart = refl
awaited_else Sender Writer bells apart = refl
awaited_else Sender Sender bells apart = absurd (apart refl)

-- what seats know of a bell
abbrev pub AreKnown : Waiter → ℕ → List View → Type 0
AreKnown waiter bell views =
    (seat : ℕ) (view : View) → get_elem? views seat ≡ some view → view.holds ≡ true
    → is_silent waiter view.bells ≡ true → bell ≡ 0

-- one seat knows anew, and of the bells no more than it knew
pub known_set : (waiter : Waiter) (bell : ℕ) (views : List View) (id : ℕ) (old new : View)
    → get_elem? views id ≡ some old → (new.holds ≡ true → old.holds ≡ true) → new.bells ≡ old.bells
    → AreKnown waiter bell views → AreKnown waiter bell (set views id new)
known_set waiter bell views id old new at holds same known seat view there has quiet =
    ⊎_elim
    (λ here. known id old at (holds (ap (λ (v : View). v.holds) here.1 ∙ has))
    (ap (λ (bells : Bells). is_silent waiter bells) (sym same)
    ∙ ap (λ (v : View). is_silent waiter v.bells) here.1 ∙ quiet))
    (λ apart. known seat view apart.1 has quiet) (at_set views id seat new view there)

-- and no other word but the lock is written
pub bells_set : (past : Past) (lock : ℕ) (bell : Waiter → ℕ) (views : List View) (id : ℕ) (old new : View)
    → get_elem? views id ≡ some old → (new.holds ≡ true → old.holds ≡ true) → new.bells ≡ old.bells
    → ((waiter : Waiter) → IsBell waiter past lock (bell waiter) views)
    → (waiter : Waiter) → IsBell waiter past lock (bell waiter) (set views id new)
bells_set past lock bell views id old new at holds same bells waiter = record {
  rung = (bells waiter).rung;
  known = known_set waiter (bell waiter) views id old new at holds same (bells waiter).known;
}
