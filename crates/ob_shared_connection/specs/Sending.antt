-- What a transport sends, without the lock: once, and turn by turn; and what stays in front meanwhile.
use Rattle.std.specs.Prelude.{◌≡◌, ◌≤◌, ◌<◌, ℕ, true, List, ◌++◌, ◌⊎◌, false, not, length, [], ◌∷◌, take, Option, Some}
use Rattle.std.specs.Prelude.{Result, Ok, Err, min, max, None}
use Rattle.std.specs.List.{list_all, concat, All, sum_by}
use Rattle.std.specs.declared.io.Error.{Error}
use Rattle.std.specs.Option.{option_or}
use Rattle.ob_types.specs.declared.command.Command.{Command}
use Rattle.ob_types.specs.declared.command.Command.TheVariants.{RemoveBytes}
use Rattle.ob_types.specs.declared.promise.Outcome.TheVariants.{Success}
use Rattle.ob_types.specs.declared.refusal.Refusal.{Refusal}
use Rattle.ob_types.specs.declared.reply.Change.{Change}
use Rattle.ob_seq.specs.Effect.{byte_run, rows_after, bytes_in}
use Rattle.ob_seq.specs.Rows.{Settings}
use Rattle.ob_seq.specs.State.{closed_after, empty_after}
use Rattle.ob_connection.specs.Calls.{Call, bytes_of, had_no_room, with_more, most_pieces}
use Rattle.ob_connection.specs.Connected.{connection_accepts, connection_accepts_all}
use Rattle.ob_connection.specs.Sending.{offered_after}
use Rattle.ob_connection.specs.declared.connection.sending.Sent.{Sent}
use Rattle.ob_connection.specs.declared.ending.Ending.{Ending}
use Rattle.ob_connection.specs.declared.ending.Ending.TheVariants.{Drained, Blocked, OtherInFront, TurnsUsed}
use Rattle.ob_connection.specs.declared.ending.Ending.TheVariants.{Broken as IsBroken}
use Rattle.ob_connection.specs.declared.replies.SentTurns.{SentTurns}
use Rattle.ob_connection.specs.declared.replies.Taken.{Taken}
use Rattle.ob_connection.specs.declared.socket.SocketFault.{SocketFault}
use Rattle.ob_connection.specs.declared.socket.SocketFault.TheVariants.{Broken as FailedForGood}
use Rattle.ob_shared_connection.specs.Calls.{Makes, Taking, UnderLock}
use Rattle.ob_shared_connection.specs.Values.{commands_of, leaves_flushed, HandleValue, Held}
use Rattle.ob_shared_connection.specs.declared.offered.Offered.{Offered}
use Rattle.ob_shared_connection.specs.declared.offered.Offered.TheVariants.{Nothing, Blocks}
use Rattle.ob_shared_connection.specs.declared.transport.sending.SendFault.{SendFault}
use Rattle.ob_shared_connection.specs.declared.transport.sending.SendFault.TheVariants.{Closed, Broken, NoMemory}

-- the blocks in front after commands, each without its bytes that were skipped
abbrev pub blocks_after : Settings → List Command → List (List ℕ)
blocks_after settings commands = byte_run (rows_after settings.estimate commands)

-- the bytes in front still are, in front of what came to them, and any number of them can be taken away as sent
pub record Stays (settings : Settings) (before after : List Command) : Type 0 where
  pub more : List (List ℕ)
  pub kept : blocks_after settings after ≡ blocks_after settings before ++ more
  pub accepted : (n : ℕ) → n ≤ bytes_in (blocks_after settings before)
      → connection_accepts settings after (RemoveBytes n) ≡ true

-- if there are bytes in front, they stay there whatever other commands it accepts that take no
-- flushed message away
abbrev pub BytesStay : Type 0
BytesStay =
    (settings : Settings) (before between : List Command) → connection_accepts_all settings (before ++ between) ≡ true
    → list_all leaves_flushed between ≡ true → 0 < bytes_in (blocks_after settings before) → Stays settings before (before ++ between)

-- after what a handle has seen there are bytes in front, and as many as this at least
pub record AreInFront (handle : HandleValue) (n : ℕ) : Type 0 where
  pub some : 0 < bytes_in (blocks_after handle.settings (commands_of handle.seen))
  pub enough : n ≤ bytes_in (blocks_after handle.settings (commands_of handle.seen))

-- what a socket reported of itself: the bytes that it took, and its calls
abbrev pub Told : Type 0
Told = Option (List ℕ) × Option (List Call)

-- under the lock the connection is closed, and nothing changes
pub record IsClosed (before after : Held) : Type 0 where
  pub closed : closed_after before.handle.settings (commands_of before.handle.seen) ≡ true
  pub same : after ≡ before

-- under the lock the connection is open, these pieces are what is gathered, at most 1024, and nothing changes
pub record Offers (max_count max_bytes : ℕ) (pieces : List (List ℕ)) (before after : Held) : Type 0 where
  pub is_open : closed_after before.handle.settings (commands_of before.handle.seen) ≡ false
  pub gathered : pieces ≡ offered_after max_count max_bytes before.handle.settings (commands_of before.handle.seen)
  pub same : after ≡ before

-- under the lock a command is accepted
abbrev pub Accepts : Held → Command → Type 0
Accepts held command = connection_accepts held.handle.settings (commands_of held.handle.seen) command ≡ true

-- under the lock as many bytes are taken away, as sent, as are reported, with the reply that is reported; and it is
-- reported whether a flushed message is left
pub record TakesAway (done : Sent) (before after : Held) : Type 0 where
  pub takes : (let result : Result Taken Refusal = Ok done.taken in
      Makes (Taking Success) (RemoveBytes done.bytes) result before after)
  pub more : done.more ≡ not (empty_after after.handle.settings (commands_of after.handle.seen))

-- under the lock nothing is gathered, and the empty messages in front are taken away
pub record OffersNothing (max_count max_bytes : ℕ) (done : Sent) (before after : Held) : Type 0 where
  pub offers : Offers max_count max_bytes [] before before
  pub takes : TakesAway done before after
  pub none : done.bytes ≡ 0
  pub unblocked : done.blocked ≡ false

-- there is something to offer, and no memory for it
pub record HasNoMemory (max_count max_bytes : ℕ) (before after : Held) : Type 0 where
  pub pieces : List (List ℕ)
  pub offers : Offers max_count max_bytes pieces before after
  pub some : 0 < length pieces

-- what a transport finds to offer, under the lock
abbrev pub Offering : ℕ → ℕ → Result Offered SendFault → Held → Held → Type 0
Offering max_count max_bytes (Ok (Nothing done)) before after = OffersNothing max_count max_bytes done before after
Offering max_count max_bytes (Ok (Blocks blocks)) before after =
    Offers max_count max_bytes blocks.items before after × (0 < length blocks.items)
Offering max_count max_bytes (Err Closed) before after = IsClosed before after
Offering max_count max_bytes (Err NoMemory) before after = HasNoMemory max_count max_bytes before after
Offering max_count max_bytes (Err (Broken error)) before after = ⊥

-- a socket that was offered these pieces once took the first of their bytes, as many as its answer says
pub record Asked (pieces : List (List ℕ)) (before : Told) (answer : Result ℕ SocketFault) (after : Told) : Type 0 where
  pub within : bytes_of answer ≤ length (concat pieces)
  pub sent : after.0 ≡ with_more before.0 (take (bytes_of answer) (concat pieces))
  pub calls : after.1 ≡ with_more before.1 (record { offered = pieces; answer = answer } ∷ [])

-- how a socket was asked: what it was offered under one lock, and what it returned
pub record Asks (max_count max_bytes : ℕ) (old : HandleValue) (before : Told) (looked : HandleValue) (after : Told)
    : Type 0 where
  pub pieces : List (List ℕ)
  pub answer : Result ℕ SocketFault
  pub offers : UnderLock old (Offers max_count max_bytes pieces) looked
  pub some : 0 < length pieces
  pub asked : Asked pieces before answer after

-- a socket was asked without the lock, and under the next one what it took was taken away
pub record SendsSome (max_count max_bytes : ℕ) (old : HandleValue) (before : Told) (done : Sent) (new : HandleValue)
    (after : Told) : Type 0 where
  pub looked : HandleValue
  pub asks : Asks max_count max_bytes old before looked after
  pub sent : done.bytes ≡ bytes_of asks.answer
  pub blocked : done.blocked ≡ had_no_room (Some asks.answer)
  pub takes : UnderLock looked (TakesAway done) new

-- a socket was asked without the lock, and is broken, with this error
pub record FindsBroken (max_count max_bytes : ℕ) (error : Error) (old : HandleValue) (before : Told) (new : HandleValue)
    (after : Told) : Type 0 where
  pub asks : Asks max_count max_bytes old before new after
  pub says : asks.answer ≡ Err (FailedForGood error)

-- the fault of a sending is that of its socket, which says that it is broken
pub record IsOfBroken (answer : Result ℕ SocketFault) (fault : SendFault) : Type 0 where
  pub error : Error
  pub says : answer ≡ Err (FailedForGood error)
  pub told : fault ≡ Broken error

-- a sending at once: what is gathered under the lock is offered to the socket without it, and what that took is taken away
-- under the next one; if there is nothing to offer the socket is not asked, and one lock is enough
abbrev pub SendsOnce : ℕ → ℕ → HandleValue → Told → Result Sent SendFault → HandleValue → Told → Type 0
SendsOnce max_count max_bytes old before (Ok done) new after =
    SendsSome max_count max_bytes old before done new after
    ⊎ (UnderLock old (OffersNothing max_count max_bytes done) new × (after ≡ before))
SendsOnce max_count max_bytes old before (Err Closed) new after = UnderLock old IsClosed new × (after ≡ before)
SendsOnce max_count max_bytes old before (Err NoMemory) new after =
    UnderLock old (HasNoMemory max_count max_bytes) new × (after ≡ before)
SendsOnce max_count max_bytes old before (Err (Broken error)) new after =
    FindsBroken max_count max_bytes error old before new after

-- the greatest number of 64 bits
abbrev pub most_counted : ℕ
most_counted = 18446744073709551615

-- each of these turns is a sending at once of at most 1024 blocks, and begins where the one before it ended
abbrev pub SendsEach : ℕ → List Sent → HandleValue → Told → HandleValue → Told → Type 0
SendsEach max_bytes [] old before new after = (new ≡ old) × (after ≡ before)
SendsEach max_bytes (sent ∷ turns) old before new after =
    (between : HandleValue) × (told : Told)
    × SendsOnce most_pieces max_bytes old before (Ok sent) between told
    × SendsEach max_bytes turns between told new after

-- a turn that another may follow: the socket had room and took bytes, and a flushed message is left
pub record GoesOn (turn : Sent) : Type 0 where
  pub some : 0 < turn.bytes
  pub unblocked : turn.blocked ≡ false
  pub left : turn.more ≡ true

-- a sending ended so with this turn: nothing was left; the socket had no room; it was not asked, since no block is in
-- front; or another turn might have followed
abbrev pub EndsWith : Sent → Ending → Type 0
EndsWith turn Drained = turn.more ≡ false
EndsWith turn Blocked = (turn.more ≡ true) × (turn.blocked ≡ true)
EndsWith turn OtherInFront = (turn.more ≡ true) × (turn.blocked ≡ false) × (turn.bytes ≡ 0)
EndsWith turn TurnsUsed = GoesOn turn
EndsWith turn (IsBroken error) = ⊥

-- how a sending ended by a further turn that sent nothing: a connection that was closed meanwhile had nothing left
abbrev pub ended_by : SendFault → Ending
ended_by Closed = Drained
ended_by (Broken error) = IsBroken error
ended_by NoMemory = TurnsUsed

-- the first change of writability that a turn reported, if one did
abbrev pub first_change : List Sent → Option Change
first_change [] = None
first_change (turn ∷ turns) = option_or turn.taken.change (first_change turns)

-- what is reported of turns: the bytes and the messages of all, as far as 64 bits count, and the first change of
-- writability; the messages are those from where the first turn began to where the last one ended, with its outcome
pub record Reports (turns : List Sent) (first last : Sent) (done : SentTurns) : Type 0 where
  pub bytes : done.bytes ≡ min (sum_by (λ turn. turn.bytes) turns) most_counted
  pub count : done.taken.count ≡ min (sum_by (λ turn. turn.taken.count) turns) most_counted
  pub change : done.taken.change ≡ first_change turns
  pub from : done.taken.from ≡ first.taken.from
  pub to : done.taken.to ≡ last.taken.to
  pub outcome : done.taken.outcome ≡ last.taken.outcome

-- turns, of which each but the last might be followed, and what is reported of them
pub record MakesTurns (max_bytes : ℕ) (old : HandleValue) (before : Told) (done : SentTurns) (new : HandleValue)
    (after : Told) : Type 0 where
  pub turns : List Sent
  pub each : SendsEach max_bytes turns old before new after
  pub first : Sent
  pub later : List Sent
  pub begins : turns ≡ first ∷ later
  pub earlier : List Sent
  pub last : Sent
  pub ends : turns ≡ earlier ++ last ∷ []
  pub went_on : All GoesOn earlier
  pub reports : Reports turns first last done

-- a sending of at most `limit` turns made these, and ended with the last of them; if another might have followed, they
-- are as many as it was to make
pub record StopsAfter (limit : ℕ) (turns : List Sent) (last : Sent) (ending : Ending) : Type 0 where
  pub within : length turns ≤ limit
  pub ends : EndsWith last ending
  pub used_up : ending ≡ TurnsUsed → length turns ≡ limit

-- it made these, and then a further one, which sent nothing
pub record FailsAfter (limit max_bytes : ℕ) (turns : List Sent) (last : Sent) (old : HandleValue) (before : Told)
    (ending : Ending) (new : HandleValue) (after : Told) : Type 0 where
  pub fewer : length turns < limit
  pub goes_on : GoesOn last
  pub fault : SendFault
  pub sends : SendsOnce most_pieces max_bytes old before (Err fault) new after
  pub ends : ending ≡ ended_by fault

-- a sending of at most `limit` turns made turns that sent something, and ended with the last of them, or by a further one
-- that sent nothing
pub record SendsWithin (limit max_bytes : ℕ) (old : HandleValue) (before : Told) (done : SentTurns) (new : HandleValue)
    (after : Told) : Type 0 where
  pub between : HandleValue
  pub told : Told
  pub makes : MakesTurns max_bytes old before done between told
  pub ends : (StopsAfter limit makes.turns makes.last done.ending × (new ≡ between) × (after ≡ told))
      ⊎ FailsAfter limit max_bytes makes.turns makes.last between told done.ending new after

-- a sending in turns makes one turn at least, and at most as many as are asked for; a fault of the first is its own
abbrev pub SendsInTurns : ℕ → ℕ → HandleValue → Told → Result SentTurns SendFault → HandleValue → Told → Type 0
SendsInTurns max_turns max_bytes old before (Ok done) new after =
    SendsWithin (max 1 max_turns) max_bytes old before done new after
SendsInTurns max_turns max_bytes old before (Err fault) new after =
    SendsOnce most_pieces max_bytes old before (Err fault) new after
