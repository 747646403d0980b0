use Rattle.ob_seq.proofs.Words.{◌≡◌, ◌<◌, ◌≤◌, ℕ, List, true, length, get_or, refl, ap, ◌∙◌, ◌+◌, leb, arith, Settings, whole, Unsent}
use Rattle.ob_seq.proofs.Words.{Waiting, Settled, Cancelled, PromiseState, Outcome, Entry, fixed_state, waiting_state}
use Rattle.ob_seq.proofs.Words.{Inside, IsSound, unsent_of, waiting_count}
use Rattle.ob_seq.specs.Steps.Step.{state_at}
use Rattle.ob_seq.proofs.Inside.Fields.{entry_count}
use Rattle.ob_seq.proofs.Inside.States.{kept_cancelled, kept_state, kept_waits}
use Rattle.ob_seq.proofs.contents.Contents.state_at.Goals as goal

-- the state of the promise of the entry at a place at which something waits
module _ (gone : List Outcome) {held : Unsent} {inside : Inside} (view : unsent_of inside ≡ held) (sound : IsSound inside)
    {place : ℕ} {entry : Entry} (some : place < waiting_count held) (is : entry ≡ get_or inside.entries.items place entry) where
  abbrev settings : Settings
  settings = record { marks = inside.opened; estimate = inside.estimate }

  abbrev state_there : PromiseState
  state_there = state_at (whole gone held) (length gone + place)

  seen : state_at (whole gone (unsent_of inside)) (length gone + place) ≡ state_there
  seen = ap (λ (one : Unsent). state_at (whole gone one) (length gone + place)) view

  within : place < length inside.entries.items
  within = omega (arith, entry_count held inside view sound)

  cancelled_there : entry.taken_back ≡ true → Settled Cancelled ≡ state_there
  cancelled_there back =
      kept_cancelled gone settings inside.marks inside.closed inside.entries.items inside.flushed place entry
      inside.word within is back (leb inside.flushed place) refl ∙ seen

  fixed_there : place < inside.flushed → fixed_state entry ≡ state_there
  fixed_there before =
      kept_state gone settings inside.marks inside.closed inside.entries.items inside.flushed place entry
      inside.word within is before ∙ seen

  waits_there : inside.flushed ≤ place → waiting_state entry ≡ state_there
  waits_there behind =
      kept_waits gone settings inside.marks inside.closed inside.entries.items inside.flushed place entry
      inside.word within is behind ∙ seen

pub returns-then-at : goal.returns-then-at
returns-then-at c gone =
    cancelled_there gone c.self.view_is c.self.invariant c.requires c.at.ensures.value c.if-at.true

pub returns-then-place-self : goal.returns-then-place-self
returns-then-place-self c gone = grind (arith, fixed_there)

pub returns-else-place-self : goal.returns-else-place-self
returns-else-place-self c gone =
    let state : Waiting ≡ waiting_state c.at.result.now = rw c.if-at.false in
    state ∙ waits_there gone c.self.view_is c.self.invariant c.requires c.at.ensures.value c.if-place-self.false
