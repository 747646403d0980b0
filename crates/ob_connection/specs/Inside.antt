-- How a connection is kept, what a call does to it step by step, and what a socket is offered and made of that. No
-- public clause cites this module.
use Rattle.std.specs.Prelude.{◌≡◌, ◌≤◌, ℕ, List, length, drop, Option, Some, Result, OnErr, ◌<◌, [], take, None, Ok}
use Rattle.std.specs.Prelude.{Err}
use Rattle.ob_types.specs.declared.command.Command.{Command}
use Rattle.ob_types.specs.declared.promise.Outcome.{Outcome}
use Rattle.ob_types.specs.declared.promise.PromiseState.{PromiseState}
use Rattle.ob_types.specs.declared.refusal.Refusal.{Refusal}
use Rattle.ob_types.specs.declared.reply.Reply.{Reply}
use Rattle.ob_seq.specs.Looks.{blocks_left, first_blocks, with_bytes}
use Rattle.ob_seq.specs.Pending.{Pending}
use Rattle.ob_seq.specs.Steps.Commands.{step_within, bytes_removed, cut_of, first_length, whole_cut, admitted}
use Rattle.ob_seq.specs.Steps.Step.{Step, Makes, first_of_step}
use Rattle.ob_seq.specs.Unsent.{Unsent, pending_entries, whole}
use Rattle.ob_seq.specs.declared.contents.cut.Cut.{Cut}
use Rattle.ob_connection.specs.Connected.{Connected, connection_limit, accepted_writes}
use Rattle.ob_connection.specs.Obeying.{told_by}
use Rattle.std.specs.List.{concat}
use Rattle.ob_seq.specs.Effect.{bytes_in}
use Rattle.ob_connection.specs.declared.ending.Ending.{Ending}
use Rattle.ob_connection.specs.declared.ending.Ending.TheVariants.{Drained, Blocked as EndsBlocked, OtherInFront}
use Rattle.ob_connection.specs.declared.ending.Ending.TheVariants.{TurnsUsed, Broken as EndsBroken}
use Rattle.ob_connection.specs.Calls.{Call, calls_with, most_pieces, with_more}
use Rattle.ob_connection.specs.declared.socket.SocketFault.{SocketFault}
use Rattle.ob_connection.specs.declared.socket.SocketFault.TheVariants.{Blocked as HasNoRoom, Broken as IsBroken}
use Rattle.ob_connection.specs.declared.connection.offer.Offer.{Offer}
use Rattle.ob_connection.specs.declared.connection.offer.Offer.TheVariants.{Nothing, Took, Blocked, Broken}
use Rattle.ob_types.specs.PendingSize.{pending_size_of}
use Rattle.ob_types.specs.declared.message.Message.{Message}
use Rattle.ob_connection.specs.declared.connection.Connection.TheInside.{Inside}

-- outcomes of as many messages as are gone
pub record Past (connection : Connected) : Type 0 where
  pub outcomes : List Outcome
  pub count : length outcomes ≡ connection.gone

-- what is held with these outcomes
abbrev pub held : {connection : Connected} → Past connection → Pending
held {connection = connection} past = whole past.outcomes connection.unsent

-- whatever outcomes the messages had that were gone, with some for those that are gone now this step was taken
abbrev pub Becomes : (Pending → Pending) → Connected → Connected → Type 0
Becomes step old new = (past : Past old) → (after : Past new) × (held after ≡ step (held past))

-- where a removal of *n* bytes ends in what is held
abbrev pub cut_at : ℕ → Pending → Cut
cut_at n now = whole_cut n (blocks_left now.line)

-- what is held once *n* bytes are removed
abbrev pub removed : ℕ → Pending → Pending
removed n now = bytes_removed (cut_at n now) now

-- and with some for those that are gone now this step was made, and the result says what it replies; a refusal leaves
-- what is gone too
pub record Steps {A : Type 0} (step : Pending → Step) (old : Connected) (tell : List PromiseState → A → Reply)
    (result : Result A Refusal) (new : Connected) : Type 0 where
  pub makes : (past : Past old) → (after : Past new)
      × Makes (held past) (step (held past)) (told_by (tell (held past).promises) result) (held after)
  pub refused : OnErr result (new ≡ old)

-- the same of the step of a command
abbrev pub Moves : {A : Type 0} → Connected → Command → (List PromiseState → A → Reply) → Result A Refusal →
    Connected → Type 0
Moves old command tell result new = Steps (step_within connection_limit command) old tell result new

-- a removal of some bytes ends there
pub record IsCut (unsent : Unsent) (cut : Cut) : Type 0 where
  pub bytes : ℕ
  pub found : Some cut ≡ cut_of bytes (blocks_left (pending_entries unsent.line))
  pub whole : cut.whole ≤ length unsent.line
  pub rest : cut.rest ≤ first_length (drop cut.whole (pending_entries unsent.line))

-- whatever outcomes the messages had that are gone, this is the first refusal of the command's step, or there is none
abbrev pub IsFirstRefusal : Connected → Command → Option Refusal → Type 0
IsFirstRefusal connection command refusal =
    (past : Past connection) → refusal ≡ first_of_step (held past) (step_within connection_limit command (held past))

-- the bytes left in each message in line before the first that is no block
abbrev pub run_of : Unsent → List (List ℕ)
run_of unsent = blocks_left (pending_entries unsent.line)

-- the blocks that a socket is offered, if that many may be
abbrev pub offered : ℕ → ℕ → Unsent → List (List ℕ)
offered max_count max_bytes unsent = first_blocks max_count max_bytes (with_bytes (run_of unsent))

-- how many bytes it took
abbrev pub bytes_taken : Offer → ℕ
bytes_taken Nothing = 0
bytes_taken (Took bytes) = bytes
bytes_taken Blocked = 0
bytes_taken (Broken error) = 0

-- what the socket returned, if it was asked
abbrev pub answer_of : Offer → Option (Result ℕ SocketFault)
answer_of Nothing = None
answer_of (Took bytes) = Some (Ok bytes)
answer_of Blocked = Some (Err HasNoRoom)
answer_of (Broken error) = Some (Err (IsBroken error))

-- a socket that had these bytes took the first of those that it was offered, and was not asked only if there were none
pub record Offers (max_count max_bytes : ℕ) (unsent : Unsent) (sent_before : Option (List ℕ))
    (calls_before : Option (List Call)) (offer : Offer) (sent_after : Option (List ℕ)) (calls_after : Option (List Call))
    : Type 0 where
  pub within : bytes_taken offer ≤ length (concat (offered max_count max_bytes unsent))
  pub sent : sent_after ≡ with_more sent_before (take (bytes_taken offer) (concat (offered max_count max_bytes unsent)))
  pub calls : calls_after
      ≡ with_more calls_before (calls_with (offered max_count max_bytes unsent) (answer_of offer))
  pub nothing : offer ≡ Nothing → offered max_count max_bytes unsent ≡ []
  pub something : ¬ (offer ≡ Nothing) → 0 < length (offered max_count max_bytes unsent)

-- these pieces are what a turn offers once `taken` of those in front were taken away, whatever outcomes the messages had
-- that are gone
pub record IsLeft (max_bytes : ℕ) (old : Connected) (taken : ℕ) (pieces : List (List ℕ)) : Type 0 where
  pub some : 0 < length (concat pieces)
  pub within : taken ≤ bytes_in (run_of old.unsent)
  pub left : (past : Past old) →
      pieces ≡ first_blocks most_pieces max_bytes (with_bytes (blocks_left (removed taken (held past)).line))

-- what is left when a sending ended so
abbrev pub EndsAt : Unsent → Ending → Type 0
EndsAt unsent Drained = length unsent.line ≡ 0
EndsAt unsent EndsBlocked = 0 < length unsent.line
EndsAt unsent OtherInFront = (0 < length unsent.line) × (bytes_in (run_of unsent) ≡ 0)
EndsAt unsent TurnsUsed = 0 < length unsent.line
EndsAt unsent (EndsBroken error) = 0 < length unsent.line

-- what a contract sees of what is kept
abbrev pub connected_of : Inside → Connected
connected_of inside = record { unsent = inside.contents; gone = inside.gone }

-- what this message counts, unless anything but lack of memory refuses its write
abbrev pub admission : Connected → Message → Result ℕ Refusal
admission connection message =
    admitted connection_limit (accepted_writes connection) (pending_size_of connection.unsent.settings.estimate message)
    (whole [] connection.unsent)
