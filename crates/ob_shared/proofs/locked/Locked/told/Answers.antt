use Rattle.std.proofs.Common.{◌≡◌, List, None, Some, ap, refl, subst, rules}
use Rattle.std.specs.Prelude.{◌↔◌, IsNone, Result, slice_get}
use Rattle.std.specs.List.{Contains}
use Rattle.std.specs.Result.{is_ok}
use Rattle.ob_types.specs.declared.promise.Outcome.{Outcome}
use Rattle.ob_types.specs.declared.promise.PromiseId.{PromiseId}
use Rattle.ob_types.specs.declared.promise.PromiseState.{PromiseState}
use Rattle.ob_types.specs.declared.promise.PromiseState.TheVariants.{Settled}
use Rattle.ob_types.specs.declared.refusal.Refusal.{Refusal}
use Rattle.ob_history.specs.History.{History, settlements_in}
use Rattle.ob_history.specs.declared.receipt.Receipt.{Receipt}
use Rattle.ob_history.specs.declared.record.Record.{Record}
use Rattle.ob_shared.specs.Calls.{IsUnknown, IsUnsettled}
use Rattle.ob_shared.proofs.Finishing.{copied_freely}
use Rattle.ob_shared.proofs.locked.Locked.told.Goals as goal

-- of a promise whose state is no settlement nothing is reported, and it is known and not settled
is_open : (records : List Record) (id : PromiseId) (state : PromiseState)
    → (IsNone (Some state) ↔ IsUnknown records id)
    → ((outcome : Outcome) → (Some state ≡ Some (Settled outcome)) ↔ Contains (settlements_in records) (id, outcome))
    → ((outcome : Outcome) → ¬ (Some state ≡ Some (Settled outcome)))
    → IsNone {T = Result Receipt Refusal} None ↔ ((¬ IsUnknown records id) × IsUnsettled records id)
is_open records id state unknown settled unsettled = (
  λ _. (λ is. absurd (cc (unknown.1 is)), λ outcome there. unsettled outcome ((settled outcome).1 there)),
  λ _. refl,
)

pub returns-in-Some-Waiting-clause-waits : goal.returns-in-Some-Waiting-clause-waits
returns-in-Some-Waiting-clause-waits g c =
    let its = c.in-Some-Waiting in
    is_open c.args.self.now.records c.args.id its.field-0 its.ensures.unknown its.ensures.settled
    (λ outcome is. absurd (cc (is, its.field-0-is)))

pub returns-in-Some-Fixed-clause-waits : goal.returns-in-Some-Fixed-clause-waits
returns-in-Some-Fixed-clause-waits g c =
    let its = c.in-Some-Fixed in
    is_open c.args.self.now.records c.args.id its.field-0 its.ensures.unknown its.ensures.settled
    (λ outcome is. absurd (cc (is, its.field-0-is)))

pub returns-in_ok-settling-in-Some-Settled-clause-waits : goal.returns-in_ok-settling-in-Some-Settled-clause-waits
returns-in_ok-settling-in-Some-Settled-clause-waits g c =
    let state = c.in-Some-Settled in (
      λ none. absurd (cc none),
      λ waits. absurd
          (waits.1 state.field-0-0 ((state.ensures.settled state.field-0-0).0 (ap Some state.field-0-is))),
    )

pub returns-in_ok-settling-in-Some-Settled-clause-frugal : goal.returns-in_ok-settling-in-Some-Settled-clause-frugal
returns-in_ok-settling-in-Some-Settled-clause-frugal g c = λ freely refused.
    let found = c.in_ok-settling-in-Some-Settled in
    let one = found.settling.now in
    let there : slice_get c.args.self.now.records one.place ≡ Some one =
    subst (λ (history : History). slice_get history.records one.place ≡ Some one) c.self.view_is found.ensures.there in
    let free = copied_freely c.args.self.now.records c.args.id one.place one there found.ensures.settles freely in
    absurd (cc (c.receipt.ensures.succeeds free, ap is_ok refused))

-- Named for the must-fail edits that fail here: `search` finds it unasked (CONTRIBUTING.md).
pub returns-in_ok-settling-in-Some-Settled-clause-told : goal.returns-in_ok-settling-in-Some-Settled-clause-told
returns-in_ok-settling-in-Some-Settled-clause-told g c = search rules
