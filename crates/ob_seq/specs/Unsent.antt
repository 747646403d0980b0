-- What waits to be sent, each message with its promise, and for how many messages there is room.
use Rattle.std.specs.Prelude.{ℕ, ◌+◌, Bool, false, List, [], ◌++◌, length, map, if◌then◌else◌, ◌≡◌, ◌≤◌, true, ◌==◌, nat_lt}
use Rattle.ob_types.specs.Marks.{Marks}
use Rattle.ob_types.specs.declared.promise.Outcome.{Outcome}
use Rattle.ob_types.specs.declared.promise.Outcome.TheVariants.{Cancelled}
use Rattle.ob_types.specs.declared.promise.PromiseState.{PromiseState}
use Rattle.ob_types.specs.declared.promise.PromiseState.TheVariants.{Waiting, Fixed, Settled}
use Rattle.ob_seq.specs.Looks.{PendingEntry}
use Rattle.ob_seq.specs.Pending.{Pending}
use Rattle.ob_seq.specs.Rows.{Settings}
use Rattle.ob_seq.specs.declared.entry.Entry.{Entry}

-- what was opened, the marks in force, the entries in line and those that no flush has reached, each oldest first and
-- with whether its promise was taken back, the word, whether it is closed, how many entries there may be before memory is
-- taken for one more, and for how many memory is held
pub record Unsent : Type 0 where
  pub settings : Settings
  pub marks : Marks
  pub line : List Entry
  pub unflushed : List Entry
  pub word : ℕ
  pub closed : Bool
  pub room : ℕ
  pub capacity : ℕ

-- nothing, as after the opening, and no memory
abbrev pub nothing_unsent : Settings → Unsent
nothing_unsent settings = record {
  settings = settings;
  marks = settings.marks;
  line = [];
  unflushed = [];
  word = 0;
  closed = false;
  room = 0;
  capacity = 0;
}

-- how many messages wait
abbrev pub waiting_count : Unsent → ℕ
waiting_count unsent = length unsent.line + length unsent.unflushed

-- an entry in line as a contract sees it: it was voided if its promise was taken back
abbrev pub pending_entry : Entry → PendingEntry
pending_entry entry =
    record { message = entry.message; size = entry.size; progress = entry.progress; voided = entry.taken_back }

-- entries in line as a contract sees them
abbrev pub pending_entries : List Entry → List PendingEntry
pending_entries entries = map pending_entry entries

-- all entries, oldest first, each as if it stood in line
abbrev pub all_entries : Unsent → List PendingEntry
all_entries unsent = pending_entries (unsent.line ++ unsent.unflushed)

-- an entry that no flush has reached as a contract sees it: none is voided
abbrev pub unreached_entry : Entry → PendingEntry
unreached_entry entry =
    record { message = entry.message; size = entry.size; progress = entry.progress; voided = false }

-- the state of the promise of an entry in line
abbrev pub fixed_state : Entry → PromiseState
fixed_state entry = if entry.taken_back then Settled Cancelled else Fixed

-- the state of the promise of an entry that no flush has reached
abbrev pub waiting_state : Entry → PromiseState
waiting_state entry = if entry.taken_back then Settled Cancelled else Waiting

-- the states of the promises of all entries, oldest first
abbrev pub states_of : Unsent → List PromiseState
states_of unsent = map fixed_state unsent.line ++ map waiting_state unsent.unflushed

-- what a buffer holds whose messages that are gone had these outcomes, and that has this to be sent
abbrev pub whole : List Outcome → Unsent → Pending
whole gone unsent = record {
  settings = unsent.settings;
  marks = unsent.marks;
  line = pending_entries unsent.line;
  unflushed = map unreached_entry unsent.unflushed;
  promises = map Settled gone ++ states_of unsent;
  word = unsent.word;
  closed = unsent.closed;
}

-- how the promise of an entry ends that leaves with this outcome: it was settled before if it was taken back
abbrev pub ended : Outcome → Entry → Outcome
ended outcome entry = if entry.taken_back then Cancelled else outcome

-- whether a place is to spare
abbrev pub spares : Unsent → Bool
spares unsent = nat_lt (waiting_count unsent) unsent.room

-- how many places a ring for more than 16 leaves when it gives room back: as many messages as came are likely to come again
abbrev pub left_room : ℕ
left_room = 3

-- the room for one more than *n* that are fewer than 128 and fill their ring: 32 if that was left by a larger one, and else the
-- least of 4, 16, 32, 64 and 128 that is above *n*
abbrev pub ring_room : ℕ → ℕ
ring_room count =
    if count == left_room then 32
    else if nat_lt count 4 then 4 else if nat_lt count 16 then 16 else if nat_lt count 32 then 32
    else if nat_lt count 64 then 64 else 128

-- the room for one more than these, if there was room for *n*: as much if one place is to spare, else that of a ring for fewer
-- than 128, and for 128 more of others
abbrev pub grown_room : ℕ → ℕ → ℕ
grown_room count room = if nat_lt count room then room else if nat_lt count 128 then ring_room count else count + 128

-- for how many messages it has room once it takes in one more
abbrev pub room_for_one_more : Unsent → ℕ
room_for_one_more unsent = grown_room (waiting_count unsent) unsent.room

-- for how many entries memory may be held at most beside those for which there is room: the places in front that were left
abbrev pub most_left_behind : ℕ
most_left_behind = 128

-- while *n* wait, memory is held for those for which there is room and for few more, and for no more if nothing waits
pub record HoldsLittleMore (waiting room capacity : ℕ) : Type 0 where
  pub all : room ≤ capacity
  pub few : capacity ≤ room + most_left_behind
  pub empty : waiting ≡ 0 → capacity ≡ room

-- *n* that waited are gone: there may be less room, but no place to spare is lost, and no memory is taken
pub record LeavesRoom (n room_before capacity_before room capacity : ℕ) : Type 0 where
  pub less : room ≤ room_before
  pub spare : room_before ≤ room + n
  pub memory : capacity ≤ capacity_before

-- all is as it was but for the room and the memory
abbrev pub KeepsAll : Unsent → Unsent → Type 0
KeepsAll old new = new ≡ record old { room = new.room; capacity = new.capacity }

-- all is as it was, but there may be less room, and there is none if it is closed and nothing waits
pub record GivesBack (old new : Unsent) : Type 0 where
  pub same : KeepsAll old new
  pub less : new.room ≤ old.room
  pub memory : new.capacity ≤ old.capacity
  pub closed : old.closed ≡ true → waiting_count old ≡ 0 → new.room ≡ 0

-- all is as it was, but there may be less room, and there is none if nothing waits
pub record Shrinks (old new : Unsent) : Type 0 where
  pub same : KeepsAll old new
  pub less : new.room ≤ old.room
  pub memory : new.capacity ≤ old.capacity
  pub empty : waiting_count old ≡ 0 → new.room ≡ 0
