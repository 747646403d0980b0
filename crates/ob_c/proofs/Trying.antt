-- What C is told of a call for which the lock was tried.
use Rattle.std.proofs.Common.{◌≡◌, ℕ, ◌∙◌, ap, refl, sym, subst, Option, Some, None, Result, Ok, List}
use Rattle.ob_types.specs.declared.message.Message.{Message}
use Rattle.ob_types.specs.declared.refusal.Refusal.{Refusal}
use Rattle.ob_connection.specs.Connected.{Connected}
use Rattle.ob_shared_connection.specs.Calls.{UnderLock, IsLook}
use Rattle.ob_shared_connection.specs.Values.{HandleValue, Held}
use Rattle.ob_c.specs.Replies.{accepted}
use Rattle.ob_c.specs.Sharing.{IsLookTried, IsMade, IsTried, MessageOf, Tries, TriesTo, TriesToLook, TriesToWithBlock, TriesToWithMemory}

-- what was done under the lock is told
pub obeyed : {A : Type 0} (value : Option HandleValue) (does : Result A Refusal → Held → Held → Type 0) (told : Result A ℕ)
    (old after : HandleValue) (result : Result A Refusal) → value ≡ Some old → told ≡ accepted (Some result)
    → UnderLock old (does result) after → Tries value does (λ one. one) told (Some after)
obeyed value does told old after result is tells under =
    subst (λ (value : Option HandleValue). Tries value does (λ one. one) told (Some after)) (sym is)
    (Some result, (tells, after, refl, under))

-- what a look showed under the lock is told
pub looked : {A : Type 0} (value : Option HandleValue) (shows : Connected → A → Type 0) (answer : A)
    (old after : HandleValue) → value ≡ Some old → UnderLock old (IsLook shows answer) after
    → TriesToLook value shows (λ one. one) (Ok answer) (Some after)
looked value shows answer old after is under =
    subst (λ (value : Option HandleValue). TriesToLook value shows (λ one. one) (Ok answer) (Some after)) (sym is)
    (Some answer, (refl, after, refl, under))

-- it is told in the words of C
pub told_in : {A C : Type 0} (old : Option HandleValue) (does : Result A Refusal → Held → Held → Type 0) (in_c : Result A ℕ → C)
    (answer : Result A ℕ) (told : C) (new : Option HandleValue) → Tries old does (λ one. one) answer new
    → told ≡ in_c answer → Tries old does in_c told new
told_in None does in_c answer told new tries is = (is ∙ ap in_c tries.0, tries.1)
told_in {A} (Some old) does in_c answer told new tries is = (tries.0, tried tries.0 tries.1)
  where
    tried : (result : Option (Result A Refusal)) → IsTried result old does (λ one. one) answer new → IsTried result old does in_c told new
    tried None it = (is ∙ ap in_c it.0, it.1)
    tried (Some result) it = (is ∙ ap in_c it.0, it.1, it.2, it.3)

-- so is what a look shows
pub shown_in : {A C : Type 0} (old : Option HandleValue) (shows : Connected → A → Type 0) (in_c : Result A ℕ → C)
    (answer : Result A ℕ) (told : C) (new : Option HandleValue) → TriesToLook old shows (λ one. one) answer new
    → told ≡ in_c answer → TriesToLook old shows in_c told new
shown_in None shows in_c answer told new tries is = (is ∙ ap in_c tries.0, tries.1)
shown_in {A} (Some old) shows in_c answer told new tries is = (tries.0, tried tries.0 tries.1)
  where
    tried : (seen : Option A) → IsLookTried seen old shows (λ one. one) answer new → IsLookTried seen old shows in_c told new
    tried None it = (is ∙ ap in_c it.0, it.1)
    tried (Some one) it = (is ∙ ap in_c it.0, it.1, it.2, it.3)

-- a call that was made under the lock is told
pub made : {A : Type 0} (value : Option HandleValue) (does : A → Held → Held → Type 0) (answer : A)
    (old after : HandleValue) → value ≡ Some old → UnderLock old (does answer) after
    → TriesTo value does (λ one. one) (Ok answer) (Some after)
made value does answer old after is under =
    subst (λ (value : Option HandleValue). TriesTo value does (λ one. one) (Ok answer) (Some after)) (sym is)
    (Some answer, (refl, after, refl, under))

-- so it is in the words of C
pub made_in : {A C : Type 0} (old : Option HandleValue) (does : A → Held → Held → Type 0) (in_c : Result A ℕ → C)
    (answer : Result A ℕ) (told : C) (new : Option HandleValue) → TriesTo old does (λ one. one) answer new
    → told ≡ in_c answer → TriesTo old does in_c told new
made_in None does in_c answer told new tries is = (is ∙ ap in_c tries.0, tries.1)
made_in {A} (Some old) does in_c answer told new tries is = (tries.0, tried tries.0 tries.1)
  where
    tried : (one : Option A) → IsMade one old does (λ one. one) answer new → IsMade one old does in_c told new
    tried None it = (is ∙ ap in_c it.0, it.1)
    tried (Some one) it = (is ∙ ap in_c it.0, it.1, it.2, it.3)

-- the same of a message that is this one
pub made_with : {A C : Type 0} (old : Option HandleValue) (does : Message → A → Held → Held → Type 0)
    (in_c : Result A ℕ → C) (answer : Result A ℕ) (told : C) (new : Option HandleValue) (message wanted : Message)
    → message ≡ wanted → TriesTo old (does message) (λ one. one) answer new → told ≡ in_c answer
    → TriesTo old (does wanted) in_c told new
made_with old does in_c answer told new message wanted is tries tells =
    made_in old (does wanted) in_c answer told new
    (subst (λ (one : Message). TriesTo old (does one) (λ one. one) answer new) is tries) tells

-- memory for it was there
pub with_memory : {A C : Type 0} (old : Option HandleValue) (does : A → Held → Held → Type 0)
    (in_c : Result A ℕ → C) (told : C) (new : Option HandleValue) → TriesTo old does in_c told new
    → TriesToWithMemory old does in_c told new
with_memory None does in_c told new tries = tries
with_memory (Some old) does in_c told new tries = (Some tries.0, tries.1)

-- a message of a block was there
pub with_block : {A C : Type 0} (old : Option HandleValue) (block : Option (List ℕ))
    (does : Message → A → Held → Held → Type 0) (in_c : Result A ℕ → C) (answer : Result A ℕ) (told : C)
    (new : Option HandleValue) (message : Message) → MessageOf block (Ok message)
    → TriesTo old (does message) (λ one. one) answer new → told ≡ in_c answer → TriesToWithBlock old block does in_c told new
with_block None block does in_c answer told new message of tries tells = (tells ∙ ap in_c tries.0, tries.1)
with_block (Some old) None does in_c answer told new message of tries tells = absurd of
with_block (Some old) (Some bytes) does in_c answer told new message of tries tells =
    with_memory (Some old) _ in_c told new (made_with (Some old) does in_c answer told new message _ of tries tells)
