-- Steps that are refused and steps that are taken; what they refuse, settle and keep, over what is held.
use Rattle.std.proofs.Common.{replicate}
use Rattle.std.proofs.lemmas.List.{length-replicate, length-map, length-take-le}
use Rattle.ob_types.specs.declared.promise.Outcome.TheVariants.{Success}
use Rattle.ob_seq.specs.Steps.Step.{front_id, times}
use Rattle.ob_seq.specs.Steps.Commands.{front_taken}
use Rattle.ob_seq.proofs.Inside.Rooms.{promises_there, front_id_there as there}
use Rattle.ob_seq.proofs.Inside.Steps.{nothing_turned, first_where_open, makes_refused, makes_taken}
use Rattle.ob_seq.specs.Unsent.{ended}
use Rattle.ob_connection.proofs.Words.{◌≡◌, refl, ap, ◌∙◌, ℕ, ◌+◌, Bool, false, length, None, change_between, Outcome}
use Rattle.ob_connection.proofs.Words.{Pending, waiting_count, Past, held, Connected, accepted_writes, zero, suc, sym}
use Rattle.ob_connection.proofs.Words.{subst, List, true, Some, Ok, Err, Refusal, Closed, NoMemory, Reply, PromiseState}
use Rattle.ob_connection.proofs.Words.{Step, Makes, Steps, Command, Moves, step_within, Result, OnErr, Unsent, whole}
use Rattle.ob_connection.proofs.Words.{told_by, connection_limit, ◌++◌, ◌≤◌, arith, length-append, map, take}
use Rattle.ob_connection.specs.Inside.{Becomes, IsFirstRefusal}
use Rattle.ob_connection.specs.Connected.{room_in, roomed}

-- as many promises as ids
pub ids_are : {connection : Connected} (past : Past connection) →
    length (held past).promises ≡ accepted_writes connection
ids_are {connection} past =
    promises_there past.outcomes connection.unsent ∙ ap (λ n. n + waiting_count connection.unsent) past.count

-- equal words turn alike
pub same_change : {before before' after after' : ℕ} → before ≡ before' → after ≡ after' →
    change_between before after ≡ change_between before' after'
same_change before after = cc

-- the promise of the front is that of the first message that waits
pub front_id_there : {connection : Connected} (past : Past connection) → front_id (held past) ≡ connection.gone
front_id_there {connection} past = there past.outcomes connection.unsent ∙ past.count

-- some outcomes of what is gone
pub some_past : (connection : Connected) → Past connection
some_past connection =
    record { outcomes = replicate connection.gone Success; count = length-replicate connection.gone Success }

-- fronts that are taken without notice keep the word, and all keep whether it is closed
pub word_of_times : (outcome : Outcome) (n : ℕ) (now : Pending) → (times n (front_taken false outcome) now).word ≡ now.word
word_of_times outcome zero now = refl
word_of_times outcome (suc n) now = word_of_times outcome n now

pub closed_of_times : (notice : Bool) (outcome : Outcome) (n : ℕ) (now : Pending) →
    (times n (front_taken notice outcome) now).closed ≡ now.closed
closed_of_times notice outcome zero now = refl
closed_of_times notice outcome (suc n) now = closed_of_times notice outcome n now

-- and a word that stays turns nothing
pub nothing_told : {before after : ℕ} → before ≡ after → change_between before after ≡ None
nothing_told {before} same = rw (← same) (nothing_turned before)

-- what waits makes its step, and so does a connection, by a call that lets no message go
pub made_within : {A : Type 0} (step : Pending → Step) (tell : List PromiseState → A → Reply) {old : Connected} (new : Unsent)
    (result : Result A Refusal) →
    ((past : Past old) → Makes (held past) (step (held past)) (told_by (tell (held past).promises) result)
    (whole past.outcomes new)) →
    OnErr result (new ≡ old.unsent) → Steps step old tell result (record { unsent = new; gone = old.gone })
made_within step tell new (Ok value) makes refused = record {
  makes = λ past. (record { outcomes = past.outcomes; count = past.count }, makes past);
  refused = tt;
}
made_within step tell {old} new (Err refusal) makes refused = record {
  makes = λ past. (record { outcomes = past.outcomes; count = past.count }, makes past);
  refused = ap (λ unsent. record { unsent = unsent; gone = old.gone }) refused;
}

module _ {A : Type 0} (step : Pending → Step) (tell : List PromiseState → A → Reply) {old : Connected} where
  -- a call is refused if the connection is closed
  pub closed : old.unsent.closed ≡ true → Steps step old tell (Err Closed) old
  closed is = record {
    makes = λ past. (past, makes_refused (held past) (step (held past)) Closed (λ same. absurd (cc)) (rw is refl));
    refused = refl;
  }

  module _ (unclosed : old.unsent.closed ≡ false) where
    -- or if its step is
    pub refused : (refusal : Refusal) → ¬ (refusal ≡ NoMemory) →
        ((past : Past old) → (step (held past)).refusal ≡ Some refusal) → Steps step old tell (Err refusal) old
    refused refusal other is = record {
      makes = λ past. (
        past,
        makes_refused (held past) (step (held past)) refusal other
            (first_where_open (held past) (step (held past)) unclosed (is past)),
      );
      refused = refl;
    }

    -- and else it takes its step
    pub taken : {new : Connected} (value : A) → ((past : Past old) → (step (held past)).refusal ≡ None) →
        ((past : Past old) → tell (held past).promises value ≡ (step (held past)).reply) →
        Becomes (λ now. (step now).after) old new → Steps step old tell (Ok value) new
    taken {new} value none same becomes = record {
      makes = λ past.
          let there = becomes past in (
            there.0,
            makes_taken (held past) (step (held past)) (tell (held past).promises value) (held there.0) unclosed
                (none past) (same past) there.1,
          );
      refused = tt;
    }

-- a call is refused so if that is the first refusal of its step
pub first_refused : {A : Type 0} (command : Command) (tell : List PromiseState → A → Reply) {old : Connected}
    (refusal : Refusal) → ¬ (refusal ≡ NoMemory) → IsFirstRefusal old command (Some refusal) →
    Moves old command tell (Err refusal) old
first_refused command tell refusal other first = record {
  makes = λ past. (past, makes_refused (held past) (step_within connection_limit command (held past)) refusal other (sym (first past)));
  refused = refl;
}

-- what is held does not tell how much room the ring has
pub becomes_roomed : (step : Pending → Pending) {old : Connected} (now : Connected) {new : Connected} →
    new ≡ roomed new now → Becomes step old now → Becomes step old new
becomes_roomed step {old} now same becomes = subst (λ one. Becomes step old one) (sym same) (λ past.
    let there = becomes past in (record { outcomes = there.0.outcomes; count = there.0.count }, there.1))

-- the first in line leave
pub becomes_left : (step : Pending → Pending) (outcome : Outcome) (count : ℕ) {old : Connected} (left : Unsent) →
    count ≤ length old.unsent.line →
    ((past : List Outcome) →
    whole (past ++ map (ended outcome) (take count old.unsent.line)) left ≡ step (whole past old.unsent)) →
    Becomes step old (record { unsent = left; gone = old.gone + count })
becomes_left step outcome count {old} left few left_is past =
    let ends = map (ended outcome) (take count old.unsent.line) in
    let many : length ends ≡ count =
    length-map (take count old.unsent.line) (ended outcome) ∙ length-take-le count old.unsent.line few in (
      record { outcomes = past.outcomes ++ ends; count = length-append past.outcomes ends ∙ omega (arith, past.count, many) },
      left_is past.outcomes,
    )

pub steps_roomed : {A : Type 0} {step : Pending → Step} {tell : List PromiseState → A → Reply} {value : A}
    {old : Connected} (now : Connected) {new : Connected} → new ≡ roomed new now →
    Steps step old tell (Ok value) now → Steps step old tell (Ok value) new
steps_roomed {step} {tell} {value} {old} now same steps = subst (λ one. Steps step old tell (Ok value) one) (sym same) (record {
  makes = λ past.
      let there = steps.makes past in
      (record { outcomes = there.0.outcomes; count = there.0.count }, there.1);
  refused = tt;
})
