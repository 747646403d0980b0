use Rattle.ob_connection.proofs.Words.{◌≡◌, ◌<◌, ◌≤◌, ◌+◌, ◌-◌, ◌++◌, ◌∷◌, [], ℕ, zero, suc, List, false, length, map, ltb, arith}
use Rattle.ob_connection.proofs.Words.{nat_tests, sym, ap, ◌∙◌, refl, whole, Some, Past, held, Connected, connected_of}
use Rattle.ob_connection.proofs.Words.{Command, Outcome, PromiseState, Pending, Leaves, StandsFor, accepted_writes}
use Rattle.std.proofs.Common.{get_or}
use Rattle.std.proofs.lemmas.Option.{slice_get-get_or, slice_get-map}
use Rattle.ob_types.specs.declared.promise.PromiseState.TheVariants.{Waiting, Fixed, Settled}
use Rattle.ob_seq.specs.Looks.{promise_after}
use Rattle.ob_seq.specs.Steps.Step.{state_at}
use Rattle.ob_seq.proofs.Inside.Held.{promise_of}
use Rattle.ob_connection.specs.Connected.{status_of, waiting_status}
use Rattle.ob_connection.specs.declared.status.Status.TheVariants.{SettledBefore}
use Rattle.ob_connection.proofs.Steps.{ids_are}
use Rattle.ob_connection.proofs.connection.Connection.promise.Goals as goal

-- what is reported of a promise goes by its state in what is held
told : (gone id : ℕ) (now : Pending) (commands : List Command) → Leaves now commands → id < length now.promises →
    status_of gone id (promise_after now.settings commands (record { 0 = id }))
    ≡ status_of gone id (Some (state_at now id))
told gone id now commands leaves within = grind (arith, slice_get-map, promise_of, slice_get-get_or)

-- the promise of a message that is gone is settled
gone_settled : (past : List Outcome) (rest : List PromiseState) (id : ℕ) → id < length past →
    (outcome : Outcome) × (get_or (map Settled past ++ rest) id Waiting ≡ Settled outcome)
gone_settled [] rest id early = absurd (omega arith)
gone_settled (outcome ∷ past) rest zero early = (outcome, refl)
gone_settled (outcome ∷ past) rest (suc id) early = gone_settled past rest id (omega arith)

before : (gone id : ℕ) (state : PromiseState) (outcome : Outcome) → state ≡ Settled outcome → id < gone →
    Some SettledBefore ≡ status_of gone id (Some state)
before gone id state outcome is early = grind arith

-- one that is not is reported by its state
behind : (gone id : ℕ) → gone ≤ id → (state : PromiseState) →
    Some (waiting_status state) ≡ status_of gone id (Some state)
behind gone id late Waiting = refl
behind gone id late Fixed = refl
behind gone id late (Settled outcome) = let test : ltb id gone ≡ false = grind (arith, nat_tests) in rw test refl

-- the promise of a message that waits, by the state that is found at its place
told_late : (now : Connected) {count : ℕ} (id : ℕ) {state : PromiseState} → now.gone ≤ id → count ≡ accepted_writes now → id < count →
    ((gone : List Outcome) → state ≡ state_at (whole gone now.unsent) (length gone + (id - now.gone))) →
    (commands : List Command) → StandsFor now commands →
    Some (waiting_status state)
    ≡ status_of now.gone id (promise_after now.unsent.settings commands (record { 0 = id }))
told_late now id {state} late all within is commands stands =
    let past : Past now = record { outcomes = stands.past; count = stands.forgotten } in
    let here : length stands.past + (id - now.gone) ≡ id = omega (arith, stands.forgotten, late) in
    let few : id < length (held past).promises = omega (arith, ids_are past, all, within) in
    ap (λ one. Some (waiting_status one)) (is stands.past ∙ ap (state_at (held past)) here)
    ∙ behind now.gone id late (state_at (held past) id)
    ∙ sym (told now.gone id (held past) commands stands.as_buffer.leaves few)

pub returns-then-id-self : goal.returns-then-id-self
returns-then-id-self c = rw (← c.self.view_is) (λ commands stands.
    let past : Past (connected_of c.self.inside) = record { outcomes = stands.past; count = stands.forgotten } in
    let now = held past in
    let early : c.args.id < c.self.inside.gone = omega (arith, c.if-id-self.true) in
    let within : c.args.id < length now.promises =
    omega (arith, ids_are past, c.accepted_writes.ensures.count, ap accepted_writes c.self.view_is, c.if-id-accepted_writes.false) in
    let settled = gone_settled stands.past _ c.args.id (omega (arith, early, stands.forgotten)) in
    before c.self.inside.gone c.args.id (state_at now c.args.id) settled.0 settled.1 early
    ∙ sym (told c.self.inside.gone c.args.id now commands stands.as_buffer.leaves within))

pub returns : goal.returns
returns c = rw (c.of.ensures, ← c.self.view_is)
    (told_late (connected_of c.self.inside) c.args.id (omega (arith, c.if-id-self.false))
    (c.accepted_writes.ensures.count ∙ ap accepted_writes (sym c.self.view_is))
    (omega (arith, c.if-id-accepted_writes.false)) c.state_at.ensures)
