-- What a call of a connection promises: its answer, as the reply of the model, and how it follows. A call reports ids and
-- intervals of ids, and the model lists settlements; each goes by the promises as they were before the call.
use Rattle.std.specs.List.{concat}
use Rattle.std.specs.Prelude.{ℕ, List, map, suc, ◌-◌, [], ◌∷◌, ◌++◌, take, drop, Option, Some, None, Result, Ok, Err}
use Rattle.std.specs.Prelude.{◌≡◌, ◌+◌, true, IsErrOf, IfOk, false}
use Rattle.ob_types.specs.declared.promise.Outcome.{Outcome}
use Rattle.ob_types.specs.declared.promise.Outcome.TheVariants.{Failed}
use Rattle.ob_types.specs.declared.promise.PromiseId.{PromiseId}
use Rattle.ob_types.specs.declared.promise.PromiseState.{PromiseState}
use Rattle.ob_types.specs.declared.refusal.Refusal.{Refusal}
use Rattle.ob_types.specs.declared.reply.Answer.TheVariants.{Id, Count, Yes}
use Rattle.ob_types.specs.declared.reply.Reply.{Reply}
use Rattle.ob_types.specs.declared.command.Command.{Command}
use Rattle.ob_types.specs.declared.refusal.Refusal.TheVariants.{NoMemory}
use Rattle.ob_types.specs.declared.command.Command.TheVariants.{Close, FailFlushed}
use Rattle.ob_types.specs.declared.promise.Cause.{Cause}
use denote.Ref.{Bor}
pub use Rattle.ob_seq.specs.Answer.{commands_with, told_by}
use Rattle.ob_seq.specs.Answer.{outcome_of, settlement}
pub use Rattle.ob_seq.specs.Steps.Within.{bit_reply, cancelled_reply, done_reply}
use Rattle.ob_connection.specs.declared.replies.Written.{Written}
use Rattle.ob_connection.specs.declared.replies.Flushed.{Flushed}
use Rattle.ob_connection.specs.declared.replies.Removed.{Removed}
use Rattle.ob_connection.specs.declared.replies.Taken.{Taken}
use Rattle.ob_connection.specs.declared.refused.Refused.{Refused}
use Rattle.ob_seq.specs.Effect.{rows_after}
use Rattle.ob_seq.specs.Pending.{FollowsBy, ObeysBy}
use Rattle.ob_seq.specs.Rows.{Settings}
use Rattle.ob_connection.specs.Connected.{Connected, answer_of_connection, connection_accepts, connection_limit}
use Rattle.ob_connection.specs.Connected.{StandsFor, Gives}

-- the bytes of parts, one behind the other
abbrev pub joined : List (Bor (List ℕ)) → List ℕ
joined parts = concat (map (λ part. part.now) parts)

-- an accepted write: its promise
abbrev pub written_reply : List PromiseState → Written → Reply
written_reply promises written =
    record { answer = Id (record { 0 = written.id }); settled = []; change = written.change }

-- a flush: how many messages it reached
abbrev pub flushed_reply : List PromiseState → Flushed → Reply
flushed_reply promises flushed = record { answer = Count flushed.count; settled = []; change = flushed.change }

-- one settlement, if there is one
abbrev pub settled_if : Option (ℕ × Outcome) → List (PromiseId × Outcome)
settled_if None = []
settled_if (Some settled) = (record { 0 = settled.0 }, settled.1) ∷ []

-- a removal of the front: whether there was one, and the promise that is settled by it
abbrev pub removed_reply : List PromiseState → Removed → Reply
removed_reply promises removed =
    record { answer = Yes removed.any; settled = settled_if removed.settled; change = removed.change }

-- what promises settle whose ids go on from this one: those that were not settled before, each with this outcome
abbrev pub settled_from : Outcome → ℕ → List PromiseState → List (PromiseId × Outcome)
settled_from outcome id [] = []
settled_from outcome id (state ∷ states) =
    settlement id (outcome_of state) (Some outcome) ++ settled_from outcome (suc id) states

-- messages that were taken away: how many, and the interval of their promises with the outcome
abbrev pub taken_reply : List PromiseState → Taken → Reply
taken_reply promises taken = record {
  answer = Count taken.count;
  settled = settled_from taken.outcome taken.from (take (taken.to - taken.from) (drop taken.from promises));
  change = taken.change;
}

-- the answer of a write, but for the message that came back
abbrev pub answer_of_write : Result Written Refused → Result Written Refusal
answer_of_write (Ok written) = Ok written
answer_of_write (Err refused) = Err refused.refusal

-- the states of all promises after a history
abbrev pub promises_after : Settings → List Command → List PromiseState
promises_after settings commands = map (λ row. row.promise) (rows_after settings.estimate commands)

-- whatever history the old connection stands for, the result says the model's answer to one more command after it
pub record Answers {A : Type 0} (old : Connected) (command : Command) (tell : List PromiseState → A → Reply)
    (result : Result A Refusal) : Type 0 where
  pub says : (commands : List Command) → StandsFor old commands →
      told_by (tell (promises_after old.unsent.settings commands)) result
      ≡ answer_of_connection old.unsent.settings commands command

-- whatever history the old connection stands for, the new one stands for it with the command, if that was accepted, and
-- else for the same history
abbrev pub Follows : {A : Type 0} → Connected → Command → Result A Refusal → Connected → Type 0
Follows old command result new = FollowsBy (StandsFor old) command result (StandsFor new)

-- whatever history the connection stands for, the command is accepted after it
abbrev pub Accepts : Connected → Command → Type 0
Accepts old command = Gives old (λ settings commands. connection_accepts settings commands command) true

-- a connection obeys a command, as what stands for histories does, if its result says the answer of a connection
abbrev pub Obeys : {A : Type 0} → Connected → Command → (List PromiseState → A → Reply) → Result A Refusal → Connected
    → Type 0
Obeys old command tell result new =
    ObeysBy StandsFor (λ connection. connection.unsent.settings) connection_limit (Answers old command tell result)
    old command result new

-- what a call took away begins where those that were gone end, is as long as it says, ends where those that are gone
-- end now, and has this outcome
abbrev pub IsNext : Connected → Outcome → Result Taken Refusal → Connected → Type 0
IsNext old outcome result new =
    IfOk result (λ taken.
    (taken ≡ record taken { from = old.gone; to = old.gone + taken.count; outcome = outcome }) × (new.gone ≡ taken.to))

-- a call that took messages away without notice reported no change of writability
abbrev pub IsQuiet : Result Taken Refusal → Type 0
IsQuiet result = IfOk result (λ taken. taken.change ≡ None)

-- the result of a call that was not refused
abbrev pub as_result : Taken → Result Taken Refusal
as_result taken = Ok taken

-- a connection is given up: what is flushed fails without notice, and then it closes, each by a call that obeys its
-- command; what both took away is one interval, and no change of writability is reported
pub record GivesUp (old : Connected) (cause : Cause) (taken : Taken) (new : Connected) : Type 0 where
  pub between : Connected
  pub failed : Taken
  pub closed : Taken
  pub fails : Obeys old (FailFlushed cause false) taken_reply (as_result failed) between
  pub closes : Obeys between (Close cause) taken_reply (as_result closed) new
  pub failed_next : IsNext old (Failed cause) (as_result failed) between
  pub closed_next : IsNext between (Failed cause) (as_result closed) new
  pub failed_quiet : IsQuiet (as_result failed)
  pub closed_quiet : IsQuiet (as_result closed)
  pub all : taken ≡ record {
    count = new.gone - old.gone;
    change = None;
    from = old.gone;
    to = new.gone;
    outcome = Failed cause;
  }
