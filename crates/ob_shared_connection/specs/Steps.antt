-- What a seat is between two steps, what a step tells it, and what a caller is. No public clause cites it.
use Rattle.std.specs.Prelude.{◌≡◌, ◌≢◌, ◌<◌, ℕ, Bool, true, false, List, [], ◌∷◌, ◌++◌, Option, None}
use Rattle.atomic_table.specs.Seated.{TableId}
use Rattle.atomic_table.specs.Table.{Me}
use Rattle.ob_seq.specs.Unsent.{nothing_unsent}
use Rattle.ob_connection.specs.Connected.{Connected}
use Rattle.ob_covered.specs.Cover.{CoverValue}
use Rattle.ob_shared_connection.specs.Ruled.{awaited, is_owed, is_silent, silent, unheard, hearing_view, held_view}
use Rattle.ob_shared_connection.specs.Ruled.{named_view, seeing_view, sending_view, settings_of, shown_view, vacant}
use Rattle.ob_shared_connection.specs.Values.{IsCovered, cover_of, IsBeginning, commands_by, commands_of, NoneRemoves}
use Rattle.ob_shared_connection.specs.Values.{HandleValue, Held, IsLeftBy, IsLegal, glance_after, packed_glance, is_due}
use Rattle.ob_shared_connection.specs.Values.{moment_after}
use Rattle.ob_shared_connection.specs.Calls.{IsEnd}
use Rattle.ob_shared_connection.specs.declared.bell.Waiter.{Waiter}
use Rattle.ob_shared_connection.specs.declared.call.Call.{Call}
use Rattle.ob_shared_connection.specs.declared.caller.Caller.{Caller}
use Rattle.ob_shared_connection.specs.declared.carried.Carried.{Carried}
use Rattle.ob_shared_connection.specs.declared.ended.Ended.{Ended}
use Rattle.ob_shared_connection.specs.declared.view.View.{View}

-- what a seat knows, and the slots that it has
abbrev pub Knows : Type 0
Knows = Me Carried View

-- a connection that is none
abbrev pub no_connection : Connected
no_connection = record {
  unsent = nothing_unsent (record { marks = record { low = 0; high = 0 }; estimate = record { overhead = 0; unknown = 0 } });
  gone = 0;
}

-- what a seat has taken out of the slot
abbrev pub carried_in : List (ℕ × Carried) → Carried
carried_in [] = record { connection = no_connection; cover = None }
carried_in (slot ∷ slots) = slot.1

-- the connection that a seat has
abbrev pub connected_in : List (ℕ × Carried) → Connected
connected_in slots = (carried_in slots).connection

-- the cover that lies beside it
abbrev pub cover_in : List (ℕ × Carried) → Option CoverValue
cover_in slots = cover_of (carried_in slots)

-- what contracts see of a seat
abbrev pub handle_of : TableId → View → HandleValue
handle_of table view = record {
  connection = table;
  settings = settings_of view;
  budget = view.budget;
  caller = view.caller;
  sends = view.sends;
  mine = view.mine;
  seen = view.seen;
  others = view.others;
  handed = view.handed;
  share = view.share;
}

abbrev pub held_of : TableId → Knows → Held
held_of table me = record { connected = connected_in me.1; cover = cover_in me.1; handle = handle_of table me.0 }

-- a seat is that of a handle
pub record IsNamed (view : View) : Type 0 where
  pub named : view.named ≡ true
  pub there : view.spent ≡ false
  pub own : view.mine ≡ commands_by view.caller view.seen

-- and does not have the lock
pub record Rests (me : Knows) : Type 0 where
  pub seat : IsNamed me.0
  pub free : me.0.holds ≡ false
  pub slots : me.1 ≡ []

-- and has the lock with the connection
pub record HasLock (me : Knows) : Type 0 where
  pub seat : IsNamed me.0
  pub holds : me.0.holds ≡ true
  pub slot : me.1 ≡ (0, carried_in me.1) ∷ []

-- and the connection is what all calls leave, what is pending is covered, and of the bells nothing is known yet
pub record Holds (me : Knows) : Type 0 where
  pub lock : HasLock me
  pub left : IsLeftBy (settings_of me.0) me.0.seen (connected_in me.1)
  pub covered : IsCovered me.0.budget (connected_in me.1) (cover_in me.1)
  pub unheard_yet : me.0.bells ≡ unheard

-- who waits at the bell and may go on does not any more, as the seat knows that has the lock
abbrev pub IsRung : Waiter → View → Type 0
IsRung waiter view =
    is_due (moment_after waiter (settings_of view) (commands_of view.seen)) ≡ true → is_silent waiter view.bells ≡ true

-- and may let it go: it is told that all is published, and all bells have rung
pub record MayLeave (me : Knows) : Type 0 where
  pub lock : HasLock me
  pub left : IsLeftBy (settings_of me.0) me.0.seen (connected_in me.1)
  pub covered : IsCovered me.0.budget (connected_in me.1) (cover_in me.1)
  pub shows : me.0.shows ≡ true
  pub rung : (waiter : Waiter) → IsRung waiter me.0

-- the seat that has the lock hears that nobody waits at the bell, or not
pub record Hears (waiter : Waiter) (old : Knows) (found : ℕ) (new : Knows) : Type 0 where
  pub none : found ≡ 0 → new ≡ (hearing_view (silent waiter old.0.bells) old.0, old.1)
  pub some_one : found ≢ 0 → new ≡ old

-- it tells there that someone is to wait, by this number
pub record Awaits (waiter : Waiter) (old : Knows) (number : ℕ) (new : Knows) : Type 0 where
  pub is : new ≡ (hearing_view (awaited waiter old.0.bells) old.0, old.1)
  pub told : number ≡ 1

-- what it knows of the bells once it had this one ring if it had to: of the other it knows what it knew
pub record Hushes (waiter : Waiter) (due owed : Bool) (old new : Knows) : Type 0 where
  pub is : new ≡ (hearing_view new.0.bells old.0, old.1)
  pub quiet : due ≡ true → is_silent waiter new.0.bells ≡ true
  pub owes : owed ≡ is_owed waiter new.0.bells
  pub others : (other : Waiter) → other ≢ waiter → (is_silent other new.0.bells ≡ is_silent other old.0.bells)
      × (is_owed other new.0.bells ≡ is_owed other old.0.bells)

-- a seat takes the lock: it has the connection then, which is what all calls leave, and its cover
pub record Locks (old new : Knows) : Type 0 where
  pub between : List Call
  pub view : new.0 ≡ held_view (old.0.seen ++ between) old.0
  pub slot : new.1 ≡ (0, carried_in new.1) ∷ old.1
  pub own : old.0.named ≡ true → old.0.spent ≡ false → old.0.mine ≡ commands_by old.0.caller (old.0.seen ++ between)
  pub untouched : old.0.sends ≡ true → NoneRemoves between
  pub left : old.0.spent ≡ false → IsLeftBy (settings_of old.0) (old.0.seen ++ between) (connected_in new.1)
  pub covered : old.0.spent ≡ false → IsCovered old.0.budget (connected_in new.1) (cover_in new.1)

-- a try to take it: it is taken if it was free, and else nothing changes
pub record Tries (old : Knows) (found : ℕ) (new : Knows) : Type 0 where
  pub taken : found ≡ 0 → Locks old new
  pub missed : found ≢ 0 → new ≡ old

-- this number is the glance after all calls that a seat has seen
pub record IsNow (view : View) (number : ℕ) : Type 0 where
  pub legal : IsLegal (settings_of view) view.seen
  pub is : number ≡ packed_glance (glance_after (settings_of view) view.seen)
  pub small : (glance_after (settings_of view) view.seen).total < 4294967296

-- the seat that has the lock finds that the glance after all calls is published already, or not
pub record Finds (number : ℕ) (old : Knows) (found : ℕ) (new : Knows) : Type 0 where
  pub shown : found ≡ number → new ≡ (shown_view old.0, old.1)
  pub other : found ≢ number → new ≡ old

-- the seat that has the lock sends from now on if it found that nobody does, and else nothing changes
pub record Appoints (old : Knows) (found : ℕ) (new : Knows) : Type 0 where
  pub sends : found ≡ vacant → new ≡ (sending_view old.0, old.1)
  pub kept : found ≢ vacant → new ≡ old

-- a seat gets its number if it found what it had expected, and else nothing changes
pub record Names (expected : ℕ) (old : Knows) (found : ℕ) (new : Knows) : Type 0 where
  pub named : found ≡ expected → new ≡ (named_view new.0.caller old.0, old.1)
  pub own : found ≡ expected → old.0.spent ≡ false → old.0.mine ≡ [] → commands_by new.0.caller old.0.seen ≡ []
  pub missed : found ≢ expected → new ≡ old

-- a read finds the glance after what is seen then: legal calls, which begin with all that was seen before, and with what
-- the seat was told of
pub record Reads (old : Knows) (found : ℕ) (new : Knows) : Type 0 where
  pub between : List Call
  pub is : new ≡ (seeing_view (old.0.seen ++ between) old.0, old.1)
  pub shows : old.0.spent ≡ false
      → found ≡ packed_glance (glance_after (settings_of old.0) (old.0.seen ++ between))
  pub small : old.0.spent ≡ false → (glance_after (settings_of old.0) (old.0.seen ++ between)).total < 4294967296
  pub legal : old.0.spent ≡ false → IsLegal (settings_of old.0) (old.0.seen ++ between)
  pub told : IsBeginning old.0.told (old.0.seen ++ between)
  pub untouched : old.0.sends ≡ true → NoneRemoves between
  pub later : List Call
  pub own : old.0.named ≡ true → old.0.spent ≡ false
      → old.0.mine ≡ commands_by old.0.caller ((old.0.seen ++ between) ++ later)

-- the end of a table, as a seat knows it
abbrev pub IsEndOf : View → Ended → Type 0
IsEndOf view ended = (table : TableId) → IsEnd (handle_of table view) ended

-- what contracts see of a caller
abbrev pub caller_handle : Caller → HandleValue
caller_handle caller = handle_of caller.seat.table_id caller.seat.me.0

abbrev pub caller_held : Caller → Held
caller_held caller = held_of caller.seat.table_id caller.seat.me

-- a caller does not have the lock
abbrev pub IsFree : Caller → Type 0
IsFree caller = Rests caller.seat.me

-- a caller has it
abbrev pub IsHolder : Caller → Type 0
IsHolder caller = Holds caller.seat.me
