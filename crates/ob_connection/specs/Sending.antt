-- What a sending promises, at once and in turns.
use Rattle.std.specs.List.{concat, All, sum_by}
use Rattle.std.specs.Prelude.{◌≡◌, IfOk, ◌<◌, ℕ, Bool, not, nat_lt, length, ◌&&◌, List, [], ◌∷◌, ◌++◌, take, min, max}
use Rattle.std.specs.Prelude.{true, false, Option, Some, None, is_some, Result, Ok, Err, ◌≤◌, ◌+◌, zero, suc, map, ⊤}
use Rattle.ob_types.specs.declared.command.Command.{Command}
use Rattle.ob_types.specs.declared.command.Command.TheVariants.{RemoveBytes}
use Rattle.ob_types.specs.declared.promise.Outcome.TheVariants.{Success}
use Rattle.ob_types.specs.declared.refusal.Refusal.{Refusal}
use Rattle.ob_seq.specs.Effect.{byte_run, rows_after, bytes_in}
use Rattle.ob_seq.specs.Looks.{gathered_after}
use Rattle.ob_seq.specs.Rows.{Settings}
use Rattle.ob_seq.specs.State.{closed_after, empty_after}
use Rattle.ob_connection.specs.Calls.{Call, calls_with, had_no_room, most_pieces, with_more, bytes_of}
use Rattle.ob_connection.specs.Connected.{Connected, Gives}
use Rattle.ob_connection.specs.Obeying.{IsNext, Obeys, taken_reply}
use Rattle.ob_connection.specs.declared.connection.sending.SendFault.{SendFault}
use Rattle.ob_connection.specs.declared.connection.sending.SendFault.TheVariants.{Closed, Broken}
use Rattle.ob_connection.specs.declared.connection.sending.Sent.{Sent}
use Rattle.ob_connection.specs.declared.ending.Ending.{Ending}
use Rattle.ob_connection.specs.declared.ending.Ending.TheVariants.{Drained, Blocked, OtherInFront, TurnsUsed}
use Rattle.ob_connection.specs.declared.ending.Ending.TheVariants.{Broken as IsBroken}
use Rattle.ob_connection.specs.declared.replies.SentTurns.{SentTurns}
use Rattle.ob_connection.specs.declared.socket.SocketFault.{SocketFault}
use Rattle.ob_connection.specs.declared.socket.SocketFault.TheVariants.{Blocked as HasNoRoom, Broken as FailedForGood}
use Rattle.ob_connection.specs.declared.replies.Taken.{Taken}

-- how a socket ends a sending by an answer, unless that reports bytes
abbrev pub ended_by : Result ℕ SocketFault → Option Ending
ended_by (Ok zero) = Some Blocked
ended_by (Ok (suc more)) = None
ended_by (Err HasNoRoom) = Some Blocked
ended_by (Err (FailedForGood error)) = Some (IsBroken error)

-- each of these answers reported bytes
abbrev pub AllTook : List (Result ℕ SocketFault) → Type 0
AllTook answers = All (λ answer. ended_by answer ≡ None) answers

-- the last of these answers ended the sending so, and each before it reported bytes
pub record Stopped (answers : List (Result ℕ SocketFault)) (ending : Ending) : Type 0 where
  pub earlier : List (Result ℕ SocketFault)
  pub last : Result ℕ SocketFault
  pub all : answers ≡ earlier ++ last ∷ []
  pub took : AllTook earlier
  pub ends : ended_by last ≡ Some ending

-- a sending of at most `turns` turns ended so by what the socket returned: it took bytes in each turn, but in the last
-- if it is blocked or broken; and the turns are used up once it took bytes in as many
abbrev pub EndsWithin : ℕ → List (Result ℕ SocketFault) → Ending → Type 0
EndsWithin turns answers Drained = AllTook answers × (length answers ≤ turns)
EndsWithin turns answers OtherInFront = AllTook answers × (length answers < turns)
EndsWithin turns answers TurnsUsed = AllTook answers × (length answers ≡ turns)
EndsWithin turns answers Blocked = Stopped answers Blocked × (length answers ≤ turns)
EndsWithin turns answers (IsBroken error) = Stopped answers (IsBroken error) × (length answers ≤ turns)

-- the calls of a socket after it took `taken` bytes: each was offered what is due past the bytes that it took until
-- then
abbrev pub OffersInTurns : (ℕ → List (List ℕ) → Type 0) → ℕ → List Call → Type 0
OffersInTurns IsDue taken [] = ⊤
OffersInTurns IsDue taken (call ∷ calls) =
    IsDue taken call.offered × OffersInTurns IsDue (taken + bytes_of call.answer) calls

-- the calls of a socket that a sending of at most `turns` turns made: each was offered what is due, together they took
-- the bytes that it reports, and it ended so by what they returned
pub record AsksInTurns (IsDue : ℕ → List (List ℕ) → Type 0) (turns sent : ℕ) (before : Option (List Call)) (ending : Ending)
    (after : Option (List Call)) : Type 0 where
  pub made : List Call
  pub calls : after ≡ with_more before made
  pub offers : OffersInTurns IsDue 0 made
  pub bytes : sum_by (λ call. bytes_of call.answer) made ≡ sent
  pub ends : EndsWithin turns (map (λ call. call.answer) made) ending

-- how many bytes stand in front of the first message that is no block, after a history
abbrev pub bytes_in_front_after : Settings → List Command → ℕ
bytes_in_front_after settings commands = bytes_in (byte_run (rows_after settings.estimate commands))

-- what was sent are the first bytes of what is gathered, as many as are reported; as many were taken away, with the
-- reply that is reported; and it is reported whether a flushed message is left
pub record Sends (max_count max_bytes : ℕ) (old : Connected) (sent_before : Option (List ℕ)) (done : Sent)
    (new : Connected) (sent_after : Option (List ℕ)) : Type 0 where
  pub sent : Gives old
      (λ settings commands.
      with_more sent_before (take done.bytes (concat (gathered_after settings commands max_count max_bytes)))) sent_after
  pub obeys : (let result : Result Taken Refusal = Ok done.taken in
      Obeys old (RemoveBytes done.bytes) taken_reply result new)
  pub next : (let result : Result Taken Refusal = Ok done.taken in IsNext old Success result new)
  pub more : Gives new (λ settings commands. not (empty_after settings commands)) done.more

-- what a socket is offered at once: what is gathered, and at most 1024 blocks
abbrev pub offered_after : ℕ → ℕ → Settings → List Command → List (List ℕ)
offered_after max_count max_bytes settings commands =
    gathered_after settings commands (min most_pieces max_count) max_bytes

-- how many bytes are sent, or why none, by whether the connection is closed and by what the socket returned, if it was
-- asked
abbrev pub sent_or_fault : Bool → Option (Result ℕ SocketFault) → Result ℕ SendFault
sent_or_fault true answer = Err Closed
sent_or_fault false None = Ok 0
sent_or_fault false (Some (Ok count)) = Ok count
sent_or_fault false (Some (Err HasNoRoom)) = Ok 0
sent_or_fault false (Some (Err (FailedForGood error))) = Err (Broken error)

-- how many bytes a sending at once reported, or its fault
abbrev pub bytes_or_fault : Result Sent SendFault → Result ℕ SendFault
bytes_or_fault (Ok done) = Ok done.bytes
bytes_or_fault (Err fault) = Err fault

-- a sending at once asks the socket if the connection is open and there is something to offer, once, and offers it all,
-- a piece for each block; and it reports what the socket returned, and whether it has no room
pub record Asks (max_count max_bytes : ℕ) (old : Connected) (before : Option (List Call)) (result : Result Sent SendFault)
    (after : Option (List Call)) : Type 0 where
  pub answer : Option (Result ℕ SocketFault)
  pub asked : Gives old
      (λ settings commands.
      not (closed_after settings commands) && nat_lt 0 (length (offered_after max_count max_bytes settings commands)))
      (is_some answer)
  pub calls : Gives old
      (λ settings commands.
      with_more before (calls_with (offered_after max_count max_bytes settings commands) answer)) after
  pub told : Gives old (λ settings commands. sent_or_fault (closed_after settings commands) answer) (bytes_or_fault result)
  pub blocked : IfOk result (λ done. done.blocked ≡ had_no_room answer)

-- how a sending of several turns ended, by what is left
abbrev pub Ends : Connected → Ending → Type 0
Ends new Drained = Gives new empty_after true
Ends new Blocked = Gives new empty_after false
Ends new OtherInFront = Gives new empty_after false × Gives new bytes_in_front_after 0
Ends new TurnsUsed = Gives new empty_after false
Ends new (IsBroken error) = Gives new empty_after false

-- these pieces are what a turn offers once `taken` bytes were taken away: what is gathered then, and that is not nothing
pub record IsDue (max_bytes : ℕ) (old : Connected) (taken : ℕ) (pieces : List (List ℕ)) : Type 0 where
  pub some : 0 < length (concat pieces)
  pub gathered : Gives old
      (λ settings commands. gathered_after settings (commands ++ RemoveBytes taken ∷ []) most_pieces max_bytes) pieces

-- all turns together took the first bytes of those in front, as many as are reported; they were taken away as by one
-- removal, with the reply that is reported; each turn offered what is gathered past the bytes of those before it; and
-- it is reported how they ended
pub record SendsInTurns (max_turns max_bytes : ℕ) (old : Connected) (sent_before : Option (List ℕ))
    (calls_before : Option (List Call)) (done : SentTurns) (new : Connected) (sent_after : Option (List ℕ))
    (calls_after : Option (List Call)) : Type 0 where
  pub sent : Gives old
      (λ settings commands.
      with_more sent_before (take done.bytes (concat (byte_run (rows_after settings.estimate commands)))))
      sent_after
  pub obeys : (let result : Result Taken Refusal = Ok done.taken in
      Obeys old (RemoveBytes done.bytes) taken_reply result new)
  pub next : (let result : Result Taken Refusal = Ok done.taken in IsNext old Success result new)
  pub asks : AsksInTurns (IsDue max_bytes old) (max 1 max_turns) done.bytes calls_before done.ending calls_after
  pub ends : Ends new done.ending

-- a connection that is closed sends nothing, and no other reports that it is
abbrev pub EndsSending : {A : Type 0} → Connected → Result A SendFault → Type 0
EndsSending old (Ok done) = Gives old closed_after false
EndsSending old (Err Closed) = Gives old closed_after true
EndsSending old (Err (Broken error)) = Gives old closed_after false
