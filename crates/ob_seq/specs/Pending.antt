-- What a contract sees of a buffer, the history that it stands for, and what commands settle.
use Rattle.std.specs.Prelude.{ℕ, Bool, List, ◌≡◌, map, true, not, [], Result, Option, IsErrOf, OnErr, ◌≤◌, ◌==◌, ◌∷◌}
use Rattle.std.specs.Prelude.{◌++◌, count_by, length, Ok, Err}
use Rattle.ob_types.specs.Marks.{Marks}
use Rattle.ob_types.specs.declared.promise.PromiseState.{PromiseState}
use Rattle.ob_types.specs.declared.command.Command.{Command}
use Rattle.ob_types.specs.Traits.{traits_of}
use Rattle.ob_types.specs.declared.promise.PromiseId.{PromiseId}
use Rattle.ob_types.specs.declared.reply.Reply.{Reply}
use Rattle.ob_types.specs.declared.refusal.Refusal.{Refusal}
use Rattle.ob_types.specs.declared.refusal.Refusal.TheVariants.{NoMemory}
use Rattle.ob_types.specs.Limits.{inline_settlements}
use Rattle.ob_types.specs.declared.promise.Outcome.{Outcome}
use Rattle.ob_seq.specs.Answer.{answer_to, commands_with, is_accepted, answer_within, buffer_limit}
use Rattle.ob_seq.specs.Answer.{are_accepted_within, commands_after_within, is_accepted_within}
use Rattle.ob_seq.specs.Effect.{rows_after}
use Rattle.ob_seq.specs.Looks.{PendingEntry, entry_of}
use Rattle.ob_seq.specs.Rows.{Settings, line, unflushed}
use Rattle.ob_seq.specs.State.{marks_after, is_closed, word_after}

-- what a buffer holds: what it was opened with, the marks in force, the entries in line and those that no flush has
-- reached, each oldest first, the state of each promise that it ever gave, the word, and whether it is closed
pub record Pending : Type 0 where
  pub settings : Settings
  pub marks : Marks
  pub line : List PendingEntry
  pub unflushed : List PendingEntry
  pub promises : List PromiseState
  pub word : ℕ
  pub closed : Bool

-- a buffer is what these commands leave if it holds the marks in force, and what the rows and the moments say, after
-- them, and it is closed exactly if one of them is a close
pub record Leaves (buffer : Pending) (commands : List Command) : Type 0 where
  pub closed : buffer.closed ≡ is_closed commands
  pub marks : buffer.marks ≡ marks_after buffer.settings commands
  pub line : buffer.line ≡ map entry_of (line (rows_after buffer.settings.estimate commands))
  pub unflushed : buffer.unflushed ≡ map entry_of (unflushed (rows_after buffer.settings.estimate commands))
  pub promises : buffer.promises ≡ map (λ row. row.promise) (rows_after buffer.settings.estimate commands)
  pub word : buffer.word ≡ word_after buffer.settings commands

-- a buffer stands for a history under a limit on writes exactly if each command of it was accepted, and the buffer is
-- what they leave
pub record StandsForWithin (limit : Option ℕ) (buffer : Pending) (commands : List Command) : Type 0 where
  pub accepted : are_accepted_within limit buffer.settings [] commands ≡ true
  pub leaves : Leaves buffer commands

-- a buffer stands for a history under the limit of a buffer
abbrev pub StandsFor : Pending → List Command → Type 0
StandsFor buffer commands = StandsForWithin buffer_limit buffer commands

-- whatever history stands so, under these settings, the value is what this gives after it
abbrev pub GivesBy : {A : Type 0} → (List Command → Type 0) → Settings → (Settings → List Command → A) → A → Type 0
GivesBy Stands settings after value = (commands : List Command) → Stands commands → value ≡ after settings commands

-- whatever history stood so, with the command, if the result is no refusal, and else without it, it stands so now
abbrev pub FollowsBy : {A : Type 0} → (List Command → Type 0) → Command → Result A Refusal → (List Command → Type 0)
    → Type 0
FollowsBy Stood command result Stands =
    (commands : List Command) → Stood commands → Stands (commands_with commands command result)

-- what stands for histories obeys a command if it gives the answer to it, unless it is out of memory, and then stands for
-- what follows; its settings stay, a refusal changes nothing, and it is out of memory only if the command is accepted
-- under its limit on writes
pub record ObeysBy {S A : Type 0} (Stands : S → List Command → Type 0) (settings_of : S → Settings) (limit : Option ℕ)
    (Answers : Type 0) (old : S) (command : Command) (result : Result A Refusal) (new : S)
    : Type 0 where
  pub answer : ¬ IsErrOf result NoMemory → Answers
  pub stands : FollowsBy (Stands old) command result (Stands new)
  pub settings : settings_of new ≡ settings_of old
  pub refused : OnErr result (new ≡ old)
  pub no_memory_last : IsErrOf result NoMemory
      → GivesBy (Stands old) (settings_of old)
      (λ settings commands. is_accepted_within limit settings commands command) true

-- whatever history the buffer stands for, the value is what this gives after it
abbrev pub Gives : {A : Type 0} → Pending → (Settings → List Command → A) → A → Type 0
Gives buffer after value = GivesBy (StandsFor buffer) buffer.settings after value

-- whatever history the old buffer stands for, the result is the answer to one more command after it
abbrev pub Answers : Pending → Command → Result Reply Refusal → Type 0
Answers old command result = Gives old (λ settings commands. answer_to settings commands command) result

-- whatever history the old buffer stands for, the command is accepted after it
abbrev pub Accepts : Pending → Command → Type 0
Accepts old command = Gives old (λ settings commands. is_accepted settings commands command) true

-- whatever history the old buffer stands for, the new one stands for it with the command, if the result is a reply, and
-- else for the same history
abbrev pub Follows : Pending → Command → Result Reply Refusal → Pending → Type 0
Follows old command result new = FollowsBy (StandsFor old) command result (StandsFor new)

-- a buffer obeys a command, as what stands for histories does, if its result is the answer of a buffer
abbrev pub Obeys : Pending → Command → Result Reply Refusal → Pending → Type 0
Obeys old command result new =
    ObeysBy StandsFor (λ buffer. buffer.settings) buffer_limit (Answers old command result) old command result new

-- whether a command never runs out of memory
abbrev pub takes_no_memory : Command → Bool
takes_no_memory command = not (traits_of command).wants_memory

-- what an answer settles: the settlements of a reply, and nothing if the command was refused
abbrev pub settled_by : Result Reply Refusal → List (PromiseId × Outcome)
settled_by (Ok reply) = reply.settled
settled_by (Err refusal) = []

-- how many promises one more command settles after a history
abbrev pub settled_after : Settings → List Command → Command → ℕ
settled_after settings commands command = length (settled_by (answer_to settings commands command))

-- whatever history the buffer stands for, one more command settles `count` promises after it
abbrev pub Settles : Pending → Command → ℕ → Type 0
Settles buffer command count = Gives buffer (λ settings commands. settled_after settings commands command) count

-- whatever history the old buffer stands for, if the command settles no more promises after it than fit without an
-- allocation, its result is not NoMemory
abbrev pub SparesMemory : Pending → Command → Result Reply Refusal → Type 0
SparesMemory old command result =
    (commands : List Command) → StandsFor old commands
    → settled_after old.settings commands command ≤ inline_settlements → ¬ IsErrOf result NoMemory

-- what commands settle that are given one after another after a history under a limit on writes; a refused one settles
-- nothing and has no effect
abbrev pub settled_along_within : Option ℕ → Settings → List Command → List Command → List (PromiseId × Outcome)
settled_along_within limit settings earlier [] = []
settled_along_within limit settings earlier (command ∷ commands) =
    settled_by (answer_within limit settings earlier command)
    ++ settled_along_within limit settings (commands_after_within limit settings earlier command) commands

-- what commands settle that a buffer is given one after another after a history
abbrev pub settled_along : Settings → List Command → List Command → List (PromiseId × Outcome)
settled_along settings earlier commands = settled_along_within buffer_limit settings earlier commands

-- how often a promise stands among settlements
abbrev pub times_settled : PromiseId → List (PromiseId × Outcome) → ℕ
times_settled id settlements = count_by (λ settlement. settlement.0.0 == id.0) settlements
