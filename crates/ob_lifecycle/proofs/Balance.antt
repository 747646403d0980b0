-- What was accepted is sent, failed, cancelled or pending: command by command, and so event by event.
use Rattle.std.proofs.Common.{◌≡◌, ℕ, ◌+◌, ◌≤◌, false, List, [], ◌∷◌, ◌++◌, refl, ap, ◌∙◌, append-nil, arith}
use Rattle.std.specs.Prelude.{count_by, sum_by}
use Rattle.std.proofs.lemmas.List.Sums.{fold-append, sum_by_push}
use Rattle.ob_types.specs.PendingSize.{counted_bytes}
use Rattle.ob_types.specs.Traits.{is_write}
use Rattle.ob_types.specs.declared.command.Command.{Command}
use Rattle.ob_types.specs.declared.command.Command.TheVariants.{Write, Progress}
use Rattle.ob_types.specs.declared.command.Command.TheVariants.{Cancel, UserBit, SetMarks}
use Rattle.ob_types.specs.declared.estimate.Estimate.{Estimate}
use Rattle.ob_types.specs.declared.message.Message.{Message}
use Rattle.ob_seq.specs.Effect.{effect, progressed_row, rows_after}
use Rattle.ob_seq.specs.Rows.{Settings, new_row, counted_size, total}
use Rattle.ob_types.specs.Replies.{is_cancelled, is_failed, is_success}
use Rattle.ob_lifecycle.specs.Events.{accepted_after, ended_after, ended_by, ended_of, is_pending, none, pending_after}
use Rattle.ob_lifecycle.specs.Events.{together, written_by, written_of, Event, Accepted, Refused, Finishing, Ticked}
use Rattle.ob_lifecycle.specs.Events.{Opened, along, commands_in}
use Rattle.ob_lifecycle.specs.declared.count.Count.{Count}
use Rattle.ob_lifecycle.proofs.Ages.{alike_cancelled, alike_front, as_many_bytes, as_many_messages, effect_ages, fewer_bytes, fewer_messages, one_if, AllAlike}
use Rattle.ob_lifecycle.proofs.Steps.{along_more, by_events, commands_more}

pub rows_more : (estimate : Estimate) (commands : List Command) (command : Command)
    → rows_after estimate (commands ++ command ∷ []) ≡ effect estimate (rows_after estimate commands) command
rows_more estimate commands command = fold-append (effect estimate) [] commands (command ∷ [])

pub fewer_messages_after : (settings : Settings) (commands : List Command) (command : Command) → is_write command ≡ false
    → (pending_after settings (commands ++ command ∷ [])).messages ≤ (pending_after settings commands).messages
fewer_messages_after settings commands command other =
    rw (rows_more settings.estimate commands command)
    (fewer_messages ⊥ (rows_after settings.estimate commands) (effect settings.estimate (rows_after settings.estimate commands) command)
    (effect_ages ⊥ settings.estimate (rows_after settings.estimate commands) command (λ never. absurd never) other))

pub fewer_bytes_after : (settings : Settings) (commands : List Command) (command : Command) → is_write command ≡ false
    → (pending_after settings (commands ++ command ∷ [])).bytes ≤ (pending_after settings commands).bytes
fewer_bytes_after settings commands command other =
    rw (rows_more settings.estimate commands command)
    (fewer_bytes ⊥ (rows_after settings.estimate commands) (effect settings.estimate (rows_after settings.estimate commands) command)
    (effect_ages ⊥ settings.estimate (rows_after settings.estimate commands) command (λ never. absurd never) other))

-- a write is pending
pub written_messages : (settings : Settings) (commands : List Command) (message : Message)
    → (pending_after settings (commands ++ Write message ∷ [])).messages ≡ (pending_after settings commands).messages + 1
written_messages settings commands message =
    rw (rows_more settings.estimate commands (Write message))
    (sum_by_push one_if (rows_after settings.estimate commands) (new_row settings.estimate message))

pub written_bytes : (settings : Settings) (commands : List Command) (message : Message)
    → (pending_after settings (commands ++ Write message ∷ [])).bytes
    ≡ (pending_after settings commands).bytes + counted_bytes settings.estimate message
written_bytes settings commands message =
    rw (rows_more settings.estimate commands (Write message))
    (sum_by_push counted_size (rows_after settings.estimate commands) (new_row settings.estimate message))

-- these leave just as much pending
pub alike_after : (settings : Settings) (commands : List Command) (command : Command)
    → AllAlike (rows_after settings.estimate commands) (effect settings.estimate (rows_after settings.estimate commands) command)
    → pending_after settings (commands ++ command ∷ []) ≡ pending_after settings commands
alike_after settings commands command each =
    rw (rows_more settings.estimate commands command)
    (rw (as_many_messages (rows_after settings.estimate commands) (effect settings.estimate (rows_after settings.estimate commands) command) each)
    (rw (as_many_bytes (rows_after settings.estimate commands) (effect settings.estimate (rows_after settings.estimate commands) command) each) refl))

pub alike_progress : (settings : Settings) (commands : List Command) (n : ℕ)
    → pending_after settings (commands ++ Progress n ∷ []) ≡ pending_after settings commands
alike_progress settings commands n =
    alike_after settings commands (Progress n) (alike_front (progressed_row n) (λ row. grind arith) (rows_after settings.estimate commands))

-- what a command writes and what was pending is what it ends and what is pending then
messages_balance : (settings : Settings) (commands : List Command) (command : Command)
    → (written_of settings command).messages + (pending_after settings commands).messages
    ≡ (((ended_of is_success settings commands command).messages + (ended_of is_failed settings commands command).messages)
    + (ended_of is_cancelled settings commands command).messages) + (pending_after settings (commands ++ command ∷ [])).messages
messages_balance settings commands (Write message) = omega (arith, written_messages settings commands message)
messages_balance settings commands (Progress n) =
    omega (arith, ap (λ count. count.messages) (alike_progress settings commands n))
messages_balance settings commands (Cancel id) =
    omega (arith, ap (λ count. count.messages) (alike_after settings commands (Cancel id) (alike_cancelled id.0 (rows_after settings.estimate commands))))
messages_balance settings commands (UserBit index writable) =
    omega (arith, ap (λ rows. count_by is_pending rows) (rows_more settings.estimate commands (UserBit index writable)))
messages_balance settings commands (SetMarks marks) =
    omega (arith, ap (λ rows. count_by is_pending rows) (rows_more settings.estimate commands (SetMarks marks)))
messages_balance settings commands command = omega (arith, fewer_messages_after settings commands command refl)

bytes_balance : (settings : Settings) (commands : List Command) (command : Command)
    → (written_of settings command).bytes + (pending_after settings commands).bytes
    ≡ (((ended_of is_success settings commands command).bytes + (ended_of is_failed settings commands command).bytes)
    + (ended_of is_cancelled settings commands command).bytes) + (pending_after settings (commands ++ command ∷ [])).bytes
bytes_balance settings commands (Write message) = omega (arith, written_bytes settings commands message)
bytes_balance settings commands (Progress n) =
    omega (arith, ap (λ count. count.bytes) (alike_progress settings commands n))
bytes_balance settings commands (Cancel id) =
    omega (arith, ap (λ count. count.bytes) (alike_after settings commands (Cancel id) (alike_cancelled id.0 (rows_after settings.estimate commands))))
bytes_balance settings commands (UserBit index writable) =
    omega (arith, ap (λ rows. total rows) (rows_more settings.estimate commands (UserBit index writable)))
bytes_balance settings commands (SetMarks marks) =
    omega (arith, ap (λ rows. total rows) (rows_more settings.estimate commands (SetMarks marks)))
bytes_balance settings commands command = omega (arith, fewer_bytes_after settings commands command refl)

-- a sum over events, and one more
pub messages_more : (value : List Event → Event → Count) (events : List Event) (event : Event)
    → (together (along value (events ++ event ∷ []))).messages ≡ (together (along value events)).messages + (value events event).messages
messages_more value events event =
    ap (λ counts. sum_by (λ count. count.messages) counts) (along_more value events event)
    ∙ sum_by_push (λ count. count.messages) (along value events) (value events event)

pub bytes_more : (value : List Event → Event → Count) (events : List Event) (event : Event)
    → (together (along value (events ++ event ∷ []))).bytes ≡ (together (along value events)).bytes + (value events event).bytes
bytes_more value events event =
    ap (λ counts. sum_by (λ count. count.bytes) counts) (along_more value events event)
    ∙ sum_by_push (λ count. count.bytes) (along value events) (value events event)

-- so what was accepted is sent, failed, cancelled or pending
abbrev pub MessagesBalance : Opened → List Event → Type 0
MessagesBalance opened events = (accepted_after opened events).messages
    ≡ (((ended_after is_success opened events).messages + (ended_after is_failed opened events).messages)
    + (ended_after is_cancelled opened events).messages) + (pending_after opened.settings (commands_in events)).messages

abbrev pub BytesBalance : Opened → List Event → Type 0
BytesBalance opened events = (accepted_after opened events).bytes
    ≡ (((ended_after is_success opened events).bytes + (ended_after is_failed opened events).bytes)
    + (ended_after is_cancelled opened events).bytes) + (pending_after opened.settings (commands_in events)).bytes

pub none_more : (events : List Event) (event : Event) → commands_in (event ∷ []) ≡ [] → commands_in (events ++ event ∷ []) ≡ commands_in events
none_more events event none = commands_more events (event ∷ []) ∙ ap (λ more. commands_in events ++ more) none ∙ append-nil (commands_in events)

messages_by : (opened : Opened) (earlier : List Event) (event : Event)
    → (written_by opened earlier event).messages + (pending_after opened.settings (commands_in earlier)).messages
    ≡ (((ended_by is_success opened earlier event).messages + (ended_by is_failed opened earlier event).messages)
    + (ended_by is_cancelled opened earlier event).messages) + (pending_after opened.settings (commands_in (earlier ++ event ∷ []))).messages
messages_by opened earlier (Accepted command) =
    rw (commands_more earlier (Accepted command ∷ [])) (messages_balance opened.settings (commands_in earlier) command)
messages_by opened earlier (Refused fault) = rw (none_more earlier (Refused fault) refl) (omega arith)
messages_by opened earlier Finishing = rw (none_more earlier Finishing refl) (omega arith)
messages_by opened earlier (Ticked now) = rw (none_more earlier (Ticked now) refl) (omega arith)

bytes_by : (opened : Opened) (earlier : List Event) (event : Event)
    → (written_by opened earlier event).bytes + (pending_after opened.settings (commands_in earlier)).bytes
    ≡ (((ended_by is_success opened earlier event).bytes + (ended_by is_failed opened earlier event).bytes)
    + (ended_by is_cancelled opened earlier event).bytes) + (pending_after opened.settings (commands_in (earlier ++ event ∷ []))).bytes
bytes_by opened earlier (Accepted command) =
    rw (commands_more earlier (Accepted command ∷ [])) (bytes_balance opened.settings (commands_in earlier) command)
bytes_by opened earlier (Refused fault) = rw (none_more earlier (Refused fault) refl) (omega arith)
bytes_by opened earlier Finishing = rw (none_more earlier Finishing refl) (omega arith)
bytes_by opened earlier (Ticked now) = rw (none_more earlier (Ticked now) refl) (omega arith)

pub messages_balanced : (opened : Opened) (events : List Event) → MessagesBalance opened events
messages_balanced opened events =
    by_events (MessagesBalance opened) refl
    (λ earlier event before. omega (
      arith,
      before,
      messages_by opened earlier event,
      messages_more (written_by opened) earlier event,
      messages_more (ended_by is_success opened) earlier event,
      messages_more (ended_by is_failed opened) earlier event,
      messages_more (ended_by is_cancelled opened) earlier event,
    )) events

pub bytes_balanced : (opened : Opened) (events : List Event) → BytesBalance opened events
bytes_balanced opened events =
    by_events (BytesBalance opened) refl
    (λ earlier event before. omega (
      arith,
      before,
      bytes_by opened earlier event,
      bytes_more (written_by opened) earlier event,
      bytes_more (ended_by is_success opened) earlier event,
      bytes_more (ended_by is_failed opened) earlier event,
      bytes_more (ended_by is_cancelled opened) earlier event,
    )) events
