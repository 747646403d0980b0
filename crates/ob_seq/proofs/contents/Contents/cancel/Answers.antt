use Rattle.ob_seq.proofs.Words.{[], ◌≡◌, ◌+◌, ◌-◌, ◌<◌, ◌≤◌, ℕ, Bool, true, List, length, refl, sym, ap, ◌∙◌, arith, ltb}
use Rattle.ob_seq.proofs.Words.{None, nat_tests, is_waiting, Settled, Cancelled, Outcome, PromiseState, Pending, Unsent, whole}
use Rattle.ob_seq.specs.Steps.Commands.{cancel_step}
use Rattle.ob_seq.specs.Steps.Step.{state_at}
use Rattle.ob_seq.specs.Steps.Within.{cancelled_reply}
use Rattle.ob_seq.proofs.Inside.Fields.{entry_count}
use Rattle.ob_seq.proofs.Inside.Steps.{makes_taken, nothing_turned}
use Rattle.ob_seq.proofs.Inside.Rooms.{gone_waits_not, promises_there, set_waiting, waits_behind}
use Rattle.ob_seq.proofs.contents.Contents.cancel.Goals as goal

known : (id : ℕ) (now : Pending) → id < length now.promises → (cancel_step id now).refusal ≡ None
known id now within = let test : ltb id (length now.promises) ≡ true = grind (arith, nat_tests) in rw test refl

replied : (id : ℕ) (now : Pending) (waits : Bool) → waits ≡ is_waiting (state_at now id) →
    cancelled_reply id now.promises waits ≡ (cancel_step id now).reply
replied id now waits is = rw (is, nothing_turned) refl

pub returns-then-id-first-clause-makes : goal.returns-then-id-first-clause-makes
returns-then-id-first-clause-makes c gone is =
    grind (arith, gone_waits_not, makes_taken, known, promises_there, replied)

pub take_back-requires-clause-behind : goal.take_back-requires-clause-behind
take_back-requires-clause-behind c =
    let old = c.args.self.now in
    let place = c.args.id - c.args.first in
    let waits = ap is_waiting (sym (c.state_at.ensures [])) ∙ sym c.is_waiting-waits.ensures ∙ c.if-waits.true in
    let behind = waits_behind [] old (0 + place) waits (ltb (0 + place) (0 + length old.line)) refl in
    omega (arith, behind)

-- a promise at its place, whatever is gone
at : (gone : List Outcome) (id first : ℕ) → length gone ≡ first → first ≤ id → length gone + (id - first) ≡ id
at gone id first is late = omega (arith, is, late)

waits_there : {waits : Bool} {state : PromiseState} (gone : List Outcome) (old : Unsent) (id first : ℕ) →
    length gone ≡ first → first ≤ id → waits ≡ is_waiting state →
    state ≡ state_at (whole gone old) (length gone + (id - first)) → waits ≡ is_waiting (state_at (whole gone old) id)
waits_there gone old id first is late waits there =
    waits ∙ ap is_waiting there ∙ ap (λ (one : ℕ). is_waiting (state_at (whole gone old) one)) (at gone id first is late)

pub returns-then-waits-clause-makes : goal.returns-then-waits-clause-makes
returns-then-waits-clause-makes c gone is =
    grind (arith, waits_there, at, makes_taken, known, promises_there, entry_count, replied)

pub returns-then-waits-clause-as_many : goal.returns-then-waits-clause-as_many
returns-then-waits-clause-as_many c =
    set_waiting (0 + (c.args.id - c.args.first)) (Settled Cancelled) c.args.self.now c.take_back.new.self
    (c.take_back.ensures.after [])

pub returns-else-waits-clause-makes : goal.returns-else-waits-clause-makes
returns-else-waits-clause-makes c gone is =
    grind (arith, waits_there, at, makes_taken, known, promises_there, entry_count, replied)
