-- A call that makes the step of its command keeps what every call keeps, and obeys the command.
use Rattle.ob_seq.proofs.Words.{◌≡◌, ◌≤◌, ℕ, List, length, refl, arith, false, true, None, SparesMemory, Command, Outcome, Pending, PromiseState, Refusal, Reply, Unsent}
use Rattle.ob_seq.proofs.Words.{◌+◌, PromiseId, waiting_count, whole, step_of, Success, Failed, Cancelled, Some}
use Rattle.std.specs.Prelude.{Result, Ok, Err}
use Rattle.ob_types.specs.Limits.{inline_settlements}
use Rattle.ob_types.specs.declared.refusal.Refusal.TheVariants.{NoMemory}
use Rattle.ob_seq.specs.Answer.{told_by}
use Rattle.ob_seq.specs.Kept.{IsKept, LetsGo, removal}
use Rattle.ob_seq.specs.Outcomes.{Endings}
use Rattle.ob_seq.specs.Pending.{Obeys}
use Rattle.ob_seq.specs.Steps.Commands.{removal_step}
use Rattle.ob_seq.specs.Steps.Step.{Makes}
use Rattle.ob_seq.specs.Steps.Within.{StepsWithin}
use Rattle.ob_seq.proofs.Inside.Steps.{first_where_open, makes_refused, makes_wanting}
use Rattle.ob_seq.proofs.Simulating.Simulated.{obeys, spares, stays}

-- one that lets no message go
module _ (command : Command) {A : Type 0} {tell : List PromiseState → A → Reply} {old new : Unsent} {result : Result A Refusal}
    (steps : StepsWithin (step_of command) tell old result new) where
  pub kept : {gone : Endings} → IsKept gone old → IsKept gone new
  kept {gone} before = record {
    few_writes = omega (arith, before.few_writes, steps.as_many);
    room = omega (arith, before.room, steps.as_many);
    stands = stays command (whole gone.list old) (steps.makes gone.list) before.stands;
  }

  pub obeyed : (gone : List Outcome) {now : Pending} {told : Result Reply Refusal} → whole gone old ≡ now →
      told ≡ told_by (tell (whole gone old).promises) result → Obeys now command told (whole gone new)
  obeyed gone view same = rw same (obeys command (whole gone old) (steps.makes gone) view)

-- one that lets as many go as fewer wait
pub kept_fewer : (command : Command) {gone left : Endings} {old new : Unsent} {outcome : Outcome} {count : ℕ}
    {settled : List (PromiseId × Outcome)} {reply : Reply} → LetsGo outcome count old gone (Ok settled) left →
    waiting_count new + count ≡ waiting_count old →
    Makes (whole gone.list old) (step_of command (whole gone.list old)) (Ok reply) (whole left.list new) →
    IsKept gone old → IsKept left new
kept_fewer command {gone} {old = old} goes fewer made before = record {
  few_writes = omega (arith, before.few_writes, goes.len, fewer);
  room = omega (arith, before.room, goes.room, fewer);
  stands = stays command (whole gone.list old) made before.stands;
}

-- a removal of the front is the command of its outcome
pub removes : (outcome : Outcome) → ¬ (outcome ≡ Cancelled) → {old new : Pending} {result : Result Reply Refusal} →
    Makes old (removal_step outcome old) result new → Makes old (step_of (removal outcome) old) result new
removes Success other made = made
removes (Failed cause) other made = made
removes Cancelled other made = absurd (other refl)

-- one that is refused
pub refused : (command : Command) {now told : Pending} {refusal : Refusal} → now ≡ told → ¬ (refusal ≡ NoMemory) →
    now.closed ≡ false → (step_of command now).refusal ≡ Some refusal → Obeys told command (Err refusal) told
refused command {now} {refusal = refusal} view other unclosed is =
    let first = first_where_open now (step_of command now) unclosed is in
    rw (← view) (obeys command now (makes_refused now (step_of command now) refusal other first) refl)

-- and one that is out of memory, which lists more than fits without an allocation
module _ (command : Command) {now told : Pending} (view : now ≡ told) (unclosed : now.closed ≡ false)
    (none : (step_of command now).refusal ≡ None) {result : Result Reply Refusal} (wants : result ≡ Err NoMemory) where
  pub wanted : {new : Pending} → new ≡ now → Obeys told command result new
  wanted same = rw (same, wants) (obeys command now (makes_wanting now (step_of command now) unclosed none) view)

  pub spared : {count : ℕ} → count ≡ length (step_of command now).reply.settled → (count ≤ inline_settlements → false ≡ true) →
      SparesMemory told command result
  spared size many =
      rw wants (spares command now (makes_wanting now (step_of command now) unclosed none) view
      (λ out. grind (arith, size, many)))
