-- How what is urgent is sent before all else, but for the rest of a message that is cut.
use Rattle.std.specs.Prelude.{◌≡◌, ◌⊎◌, ℕ, Bool, true, false, List, [], Option, Some, None, Result, Ok, Err}
use Rattle.std.specs.Prelude.{◌&&◌, length, nat_lt, take}
use Rattle.ob_types.specs.declared.command.Command.{Command}
use Rattle.ob_types.specs.declared.message.Message.{Message}
use Rattle.ob_types.specs.declared.message.Message.TheVariants.{Block, Region, Other}
use Rattle.ob_seq.specs.Effect.{block_bytes}
use Rattle.ob_seq.specs.Looks.{current_after, look_after}
use Rattle.ob_seq.specs.Rows.{Settings}
use Rattle.ob_seq.specs.State.{empty_after}
use Rattle.ob_connection.specs.Calls.{Call, with_more}
use Rattle.ob_connection.specs.Connected.{Connected, Gives}
use Rattle.ob_connection.specs.Sending.{Asks, Sends}
use Rattle.ob_connection.specs.declared.connection.sending.SendFault.{SendFault}
use Rattle.ob_connection.specs.declared.connection.sending.SendFault.TheVariants.{Closed as IsClosed}
use Rattle.ob_connection.specs.declared.connection.sending.SendFault.TheVariants.{Broken as IsBroken}
use Rattle.ob_connection.specs.declared.connection.sending.Sent.{Sent}
use Rattle.ob_patterns.specs.Sending.{Says, IsGivenUp, Spins, broken, most_bytes}
use Rattle.ob_patterns.specs.declared.next.Next.{Next}
use Rattle.ob_patterns.specs.declared.next.Next.TheVariants.{Rest, WaitForRoom, ComeAgain, SendFront, Closed, Broken}

-- whether something is left of the message in front
abbrev pub is_left : Option Message → Bool
is_left None = false
is_left (Some (Block bytes)) = nat_lt 0 (length bytes)
is_left (Some (Region units)) = true
is_left (Some (Other value)) = true

-- whether the front is cut after a history: it has made progress, and something of it is left
abbrev pub cut_after : Settings → List Command → Bool
cut_after settings commands =
    nat_lt 0 (look_after settings commands).current_progress && is_left (current_after settings commands)

-- the bytes that are left of a message, if it is a block
abbrev pub rest_of : Option Message → List ℕ
rest_of None = []
rest_of (Some message) = block_bytes message

-- the bytes that are left of the front alone after a history
abbrev pub rest_after : Settings → List Command → List ℕ
rest_after settings commands = rest_of (current_after settings commands)

-- the front was cut, and its rest was offered once: the bytes that were sent are the first of that rest alone, and as
-- many were taken away
pub record SendsRest (old : Connected) (sent_before : Option (List ℕ)) (calls_before : Option (List Call)) (done : Sent)
    (new : Connected) (sent_after : Option (List ℕ)) (calls_after : Option (List Call)) : Type 0 where
  pub cut : Gives old cut_after true
  pub alone : Gives old
      (λ settings commands. with_more sent_before (take done.bytes (rest_after settings commands))) sent_after
  pub sends : Sends 1 most_bytes old sent_before done new sent_after
  pub asks : (let result : Result Sent SendFault = Ok done in Asks 1 most_bytes old calls_before result calls_after)

-- nothing was done
pub record KeepsAll (old : Connected) (sent_before : Option (List ℕ)) (calls_before : Option (List Call))
    (new : Connected) (sent_after : Option (List ℕ)) (calls_after : Option (List Call)) : Type 0 where
  pub kept : new ≡ old
  pub unsent : sent_after ≡ sent_before
  pub unasked : calls_after ≡ calls_before

-- no front is cut now: none was, and nothing was done, or the rest of the one that was cut was sent
pub record EndsCut (old : Connected) (sent_before : Option (List ℕ)) (calls_before : Option (List Call))
    (new : Connected) (sent_after : Option (List ℕ)) (calls_after : Option (List Call)) : Type 0 where
  pub uncut : Gives new cut_after false
  pub by : KeepsAll old sent_before calls_before new sent_after calls_after
      ⊎ ((done : Sent) × SendsRest old sent_before calls_before done new sent_after calls_after)

-- what is next if the front is still cut, by whether the socket has no room, and by what is left of the front
abbrev pub next_by : Bool → Option Message → Next
next_by true front = WaitForRoom
next_by false None = SendFront
next_by false (Some (Block bytes)) = ComeAgain
next_by false (Some (Region units)) = SendFront
next_by false (Some (Other value)) = SendFront

-- the same after a history
abbrev pub next_of_cut : Bool → Settings → List Command → Next
next_of_cut blocked settings commands = next_by blocked (current_after settings commands)

-- the rest of the front was offered, and the front is still cut; it is said what is next
pub record StaysCut (old : Connected) (sent_before : Option (List ℕ)) (calls_before : Option (List Call)) (next : Next)
    (new : Connected) (sent_after : Option (List ℕ)) (calls_after : Option (List Call)) : Type 0 where
  pub done : Sent
  pub rest : SendsRest old sent_before calls_before done new sent_after calls_after
  pub still : Gives new cut_after true
  pub says : Gives new (next_of_cut done.blocked) next

-- what is next after such a fault
abbrev pub next_after_fault : SendFault → Next
next_after_fault IsClosed = Closed
next_after_fault (IsBroken error) = Broken error

-- what such a fault makes of a connection: it is given up if the socket is broken, and else as it was
abbrev pub LeavesAtFault : SendFault → Connected → Connected → Type 0
LeavesAtFault IsClosed old new = new ≡ old
LeavesAtFault (IsBroken error) old new = IsGivenUp old broken new

-- the front was cut, and nothing was sent of its rest, for this fault; it is said what is next
pub record FailsAtCut (old : Connected) (sent_before : Option (List ℕ)) (calls_before : Option (List Call))
    (next : Next) (new : Connected) (sent_after : Option (List ℕ)) (calls_after : Option (List Call)) : Type 0 where
  pub fault : SendFault
  pub cut : Gives old cut_after true
  pub asks : (let result : Result Sent SendFault = Err fault in Asks 1 most_bytes old calls_before result calls_after)
  pub unsent : sent_after ≡ sent_before
  pub says : next ≡ next_after_fault fault
  pub leaves : LeavesAtFault fault old new

-- a message that was cut is not sent whole, and at most its rest was sent
abbrev pub LeavesCut : Connected → Option (List ℕ) → Option (List Call) → Next → Connected → Option (List ℕ) →
    Option (List Call) → Type 0
LeavesCut old sent_before calls_before next new sent_after calls_after =
    StaysCut old sent_before calls_before next new sent_after calls_after
    ⊎ FailsAtCut old sent_before calls_before next new sent_after calls_after

-- no byte of what is urgent is sent while the front of the other is cut
pub record WaitsForCut (urgent_old other_old : Connected) (sent_before : Option (List ℕ))
    (calls_before : Option (List Call)) (next : Next) (urgent_new other_new : Connected) (sent_after : Option (List ℕ))
    (calls_after : Option (List Call)) : Type 0 where
  pub left : LeavesCut other_old sent_before calls_before next other_new sent_after calls_after
  pub urgent_kept : urgent_new ≡ urgent_old

-- once no front of the other was cut, what is urgent was sent; that is not at rest, so no byte of the other was sent
-- after that
pub record WaitsForUrgent (turns : ℕ) (urgent_old other_old : Connected) (sent_before : Option (List ℕ))
    (calls_before : Option (List Call)) (next : Next) (urgent_new other_new : Connected) (sent_after : Option (List ℕ))
    (calls_after : Option (List Call)) : Type 0 where
  pub sent_between : Option (List ℕ)
  pub calls_between : Option (List Call)
  pub other_ends_cut : EndsCut other_old sent_before calls_before other_new sent_between calls_between
  pub urgent_spins : Spins turns urgent_old sent_between calls_between next urgent_new sent_after calls_after
  pub unrest : ¬ (next ≡ Rest)

-- once no front of the other was cut, what is urgent was sent until nothing flushed was left of it, and the other was
-- sent after that
pub record SendsBoth (turns : ℕ) (urgent_old other_old : Connected) (sent_before : Option (List ℕ))
    (calls_before : Option (List Call)) (next : Next) (urgent_new other_new : Connected) (sent_after : Option (List ℕ))
    (calls_after : Option (List Call)) : Type 0 where
  pub other_between : Connected
  pub sent_between : Option (List ℕ)
  pub calls_between : Option (List Call)
  pub sent_then : Option (List ℕ)
  pub calls_then : Option (List Call)
  pub other_ends_cut : EndsCut other_old sent_before calls_before other_between sent_between calls_between
  pub urgent_spins : Spins turns urgent_old sent_between calls_between Rest urgent_new sent_then calls_then
  pub urgent_empty : Gives urgent_new empty_after true
  pub other_spins : Spins turns other_between sent_then calls_then next other_new sent_after calls_after

-- what is urgent goes before all else of a socket, but for the rest of the one message of the other that is cut
abbrev pub SendsUrgentFirst : ℕ → Connected → Connected → Option (List ℕ) → Option (List Call) → Next → Connected →
    Connected → Option (List ℕ) → Option (List Call) → Type 0
SendsUrgentFirst turns urgent_old other_old sent_before calls_before next urgent_new other_new sent_after calls_after =
    WaitsForCut urgent_old other_old sent_before calls_before next urgent_new other_new sent_after calls_after
    ⊎ (WaitsForUrgent turns urgent_old other_old sent_before calls_before next urgent_new other_new sent_after
    calls_after
    ⊎ SendsBoth turns urgent_old other_old sent_before calls_before next urgent_new other_new sent_after calls_after)

-- what is next is so of one of two connections; at rest it is so of both
abbrev pub SaysOfBoth : Connected → Connected → Next → Type 0
SaysOfBoth urgent other Rest = Says urgent Rest × Says other Rest
SaysOfBoth urgent other WaitForRoom = Says urgent WaitForRoom ⊎ Says other WaitForRoom
SaysOfBoth urgent other ComeAgain = Says urgent ComeAgain ⊎ Says other ComeAgain
SaysOfBoth urgent other SendFront = Says urgent SendFront ⊎ Says other SendFront
SaysOfBoth urgent other Closed = Says urgent Closed ⊎ Says other Closed
SaysOfBoth urgent other (Broken error) = Says urgent (Broken error) ⊎ Says other (Broken error)
