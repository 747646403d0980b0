-- A call that makes the step of its command obeys it.
use Rattle.ob_connection.proofs.Words.{◌≡◌, sym, ap, ◌∙◌, subst, arith, List, [], ◌∷◌, ◌++◌, false, None}
use Rattle.ob_connection.proofs.Words.{Option, Result, Ok, Err, IsErrOf, Refusal, NoMemory, Reply, Command, PromiseState}
use Rattle.ob_connection.proofs.Words.{Pending, Step, answer_by, Past, held, Moves, Connected, told_by, step_within}
use Rattle.ob_connection.proofs.Words.{connection_limit, StandsForWithin, StandsFor, StandsForSome, Answers, Follows, Obeys}
use Rattle.ob_connection.proofs.Words.{commands_with}
use Rattle.ob_connection.proofs.Words.{ℕ, Unsent, Becomes, accepted_writes, most_ids, length, ◌≤◌}
use Rattle.std.proofs.lemmas.List.{length-map}
use Rattle.ob_seq.specs.Effect.{rows_after}
use Rattle.ob_seq.proofs.Rows.Limits.{rows_within}
use Rattle.ob_connection.specs.Connected.{Refuses}
use Rattle.ob_connection.proofs.Steps.{ids_are, some_past, made_within}
use Rattle.ob_seq.specs.Steps.Within.{StepsWithin}
use Rattle.ob_connection.specs.Inside.{IsFirstRefusal}
use Rattle.ob_connection.specs.Obeying.{Accepts}
use Rattle.ob_seq.proofs.Simulating.Simulated.{answer_is, goes_on, simulated}

-- a result as the model's is out of memory exactly if it is
told_wants : {A : Type 0} (tell : A → Reply) (result : Result A Refusal) → IsErrOf (told_by tell result) NoMemory →
    IsErrOf result NoMemory
told_wants tell (Ok value) wants = absurd (cc)
told_wants tell (Err refusal) wants = cc

wants_told : {A : Type 0} (tell : A → Reply) (result : Result A Refusal) → IsErrOf result NoMemory →
    IsErrOf (told_by tell result) NoMemory
wants_told tell (Ok value) wants = absurd (cc)
wants_told tell (Err refusal) wants = cc

-- a step that replies is neither refused as closed nor otherwise
answered : (old : Pending) (step : Step) (reply : Reply) → Ok reply ≡ answer_by old step →
    (old.closed ≡ false) × (step.refusal ≡ None)
answered old step reply said = grind arith

-- the step of a command
abbrev step_at : Command → Pending → Step
step_at command now = step_within connection_limit command now

-- the outcomes of a history
abbrev pub past_of : {connection : Connected} {commands : List Command} → StandsFor connection commands → Past connection
past_of stands = record { outcomes = stands.past; count = stands.forgotten }

-- what a step leaves that is not refused stands for the history with its command
stands_with : (command : Command) {old new : Connected} (commands : List Command) (stands : StandsFor old commands)
    (after : Past new) → old.unsent.closed ≡ false →
    (let step = step_at command (held (past_of stands)) in (step.refusal ≡ None) × (held after ≡ step.after)) →
    StandsFor new (commands ++ command ∷ [])
stands_with command commands stands after unclosed made =
    let now = held (past_of stands) in
    let on = goes_on connection_limit command now commands stands.as_buffer.accepted stands.as_buffer.leaves unclosed made.0 in
    let same : held after ≡ (step_at command now).after = made.1 in record {
      past = after.outcomes;
      forgotten = after.count;
      as_buffer = subst (λ (one : Pending). StandsForWithin connection_limit one (commands ++ command ∷ [])) (sym same)
          (record { accepted = on.0; leaves = on.1 });
    }

-- so it stands for some history
pub stands_after : (command : Command) {old new : Connected} → old.unsent.closed ≡ false →
    ((past : Past old) → (step_at command (held past)).refusal ≡ None) →
    Becomes (λ now. (step_at command now).after) old new → StandsForSome old → StandsForSome new
stands_after command unclosed none becomes some =
    let past = past_of some.1 in
    let there = becomes past in
    (some.0 ++ command ∷ [], stands_with command some.0 some.1 there.0 unclosed (none past, there.1))

-- and its ids are within the limit
pub ids_within : {connection : Connected} → StandsForSome connection → accepted_writes connection ≤ most_ids
ids_within {connection} some =
    omega (
      arith,
      ids_are (past_of some.1),
      ap (λ (states : List PromiseState). length states) some.1.as_buffer.leaves.promises,
      length-map (rows_after connection.unsent.settings.estimate some.0) (λ row. row.promise),
      rows_within connection.unsent.settings most_ids some.0 some.1.as_buffer.accepted,
    )

module _ {A : Type 0} (command : Command) {tell : List PromiseState → A → Reply} {old : Connected} where
  follows : {new : Connected} (result : Result A Refusal) → Moves old command tell result new →
      Follows old command result new
  follows (Ok value) moves commands stands =
      let there = moves.makes (past_of stands) in
      let now = held (past_of stands) in
      let opened = answered now (step_at command now) _ (there.1.answer (λ wants. absurd (cc))) in
      stands_with command commands stands there.0 opened.0 (opened.1, there.1.after)
  follows (Err refusal) moves commands stands = subst (λ one. StandsFor one commands) (sym moves.refused) stands

  -- the settings stay
  settings_by : {new : Connected} (result : Result A Refusal) → Moves old command tell result new → Past old →
      new.unsent.settings ≡ old.unsent.settings
  settings_by (Ok value) moves past =
      let there = moves.makes past in
      ap (λ (one : Pending). one.settings) there.1.after ∙ (simulated connection_limit command (held past)).settings
  settings_by (Err refusal) moves past = ap (λ (one : Pending). one.settings) (moves.makes past).1.after

  module _ {new : Connected} {result : Result A Refusal} (moves : Moves old command tell result new) where
    answers : ¬ IsErrOf result NoMemory → Answers old command tell result
    answers wanted = record {
      says = λ commands stands.
          let past = past_of stands in
          let made = (moves.makes past).1 in
          rw (← stands.as_buffer.leaves.promises)
          (made.answer (λ wants. wanted (told_wants (tell (held past).promises) result wants))
          ∙ answer_is connection_limit command (held past) commands stands.as_buffer.leaves);
    }

    accepts : IsErrOf result NoMemory → Accepts old command
    accepts wants commands stands =
        let past = past_of stands in
        let none = (moves.makes past).1.no_memory_last (wants_told (tell (held past).promises) result wants) in
        rw (← answer_is connection_limit command (held past) commands stands.as_buffer.leaves, none)

    -- some history is still stood for
    pub stays : StandsForSome old → StandsForSome new
    stays some = (commands_with some.0 command result, follows result moves some.0 some.1)

    -- a call that makes the step of its command obeys it
    pub obeys : Obeys old command tell result new
    obeys = record {
      answer = answers;
      stands = follows result moves;
      settings = settings_by result moves (some_past old);
      refused = moves.refused;
      no_memory_last = accepts;
    }

-- so does one that what waits carries out, and that lets no message go
module _ (command : Command) {A : Type 0} {tell : List PromiseState → A → Reply} {unsent new : Unsent} {gone : ℕ}
    {result : Result A Refusal} (steps : StepsWithin (step_at command) tell unsent result new) where
  moved : Moves (record { unsent = unsent; gone = gone }) command tell result (record { unsent = new; gone = gone })
  moved = made_within (step_at command) tell new result (λ past. steps.makes past.outcomes) steps.refused

  pub stays_within : StandsForSome (record { unsent = unsent; gone = gone }) → StandsForSome (record { unsent = new; gone = gone })
  stays_within some = stays command moved some

  pub obeys_within : {now : Connected} → record { unsent = unsent; gone = gone } ≡ now →
      Obeys now command tell result (record { unsent = new; gone = gone })
  obeys_within same = rw (← same) (obeys command moved)

-- the first refusal of a step is that of its command, whatever history the connection stands for
pub refuses : (command : Command) {now : Connected} {refusal : Option Refusal} → IsFirstRefusal now command refusal →
    Refuses now command refusal
refuses command first commands stands =
    let past = past_of stands in
    let closed = stands.as_buffer.leaves.closed in
    let refused = (simulated connection_limit command (held past)).refusal commands stands.as_buffer.leaves in
    let is = first past in
    grind arith
