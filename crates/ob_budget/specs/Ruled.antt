-- What holds of the one word and of the accounts of all seats between any two steps of any threads, what a step tells
-- the seat that makes it, and how a budget, a seat and a glance are kept. No public clause cites it.
use Rattle.std.specs.Prelude.{◌≡◌, ◌≤◌, ◌+◌, ℕ, List, All, length, slice_index, sum_by, ◌≢◌, ◌<◌, []}
use mathlib.Core.Option.{some}
use lib.ListN.{get_elem?}
use Rattle.atomic_table.specs.Table.{State, Me, Step}
use Rattle.atomic_table.specs.declared.shared.Seat.{Seat as TableSeat}
use Rattle.ob_budget.specs.Account.{MarksStand, most_seats, MayFind, after_read, after_loss, after_move, BudgetValue}
use Rattle.ob_budget.specs.Account.{SeatValue, GlanceValue, is_pressed, total_of, standing}
use Rattle.ob_budget.specs.Bounds.{BoundsValue, AreBounds}
use Rattle.ob_budget.specs.declared.account.Account.{Account}
use Rattle.ob_budget.specs.declared.budget.Budget.TheInside.{Inside as BudgetInside}
use Rattle.ob_budget.specs.declared.glance.Glance.TheInside.{Inside as GlanceInside}
use Rattle.ob_budget.specs.declared.seat.Seat.TheInside.{Inside as SeatInside}

-- an account of no seat holds nothing and has told nothing
pub record IsIdle (account : Account) : Type 0 where
  pub held : account.seats ≡ 0 → account.held ≡ 0
  pub began : account.seats ≡ 0 → account.began ≡ 0
  pub ended : account.seats ≡ 0 → account.ended ≡ 0

-- of sixteen words the ninth is the one word, and these are the accounts: the total is the sum of what they hold, and at
-- most the room; the bit of pressure is as the marks say; all together have told that pressure began as often as that it
-- ended, and once more if it stands; and they have all seats
pub record Keeps (bounds : BoundsValue) (word : ℕ) (accounts : List Account) : Type 0 where
  pub same : All (λ account. account.bounds ≡ bounds) accounts
  pub sum : total_of word ≡ sum_by (λ account. account.held) accounts
  pub within : total_of word ≤ bounds.room
  pub marks : MarksStand bounds word
  pub told : sum_by (λ account. account.began) accounts
      ≡ sum_by (λ account. account.ended) accounts + standing (is_pressed word)
  pub seats : sum_by (λ account. account.seats) accounts ≡ most_seats
  pub idle : All IsIdle accounts

pub record Ruled (bounds : BoundsValue) (state : State (Unit {0}) Account) : Type 0 where
  pub sixteen : length state.words ≡ 16
  pub keeps : Keeps bounds (slice_index state.words 8) state.views

-- what a seat knows, and the slots that it has
abbrev pub Knows : Type 0
Knows = Me (Unit {0}) Account

-- a read is one step more
pub record ToldRead (old : Knows) (found : ℕ) (new : Knows) : Type 0 where
  pub after : new ≡ (after_read found old.0, old.1)
  pub may : MayFind old.0 found
  pub few : old.0.seats ≤ most_seats

-- an exchange that finds what it expects moves the total, and one that finds anything else is lost
pub record ToldMove (by : Step (Unit {0})) (old : Knows) (found : ℕ) (new : Knows) : Type 0 where
  pub won : found ≡ by.first → new ≡ (after_move by.second old.0, old.1)
  pub lost : found ≢ by.first → new ≡ (after_loss found old.0, old.1)
  pub may : MayFind old.0 found

-- the account of a seat that has done nothing but read this word
abbrev pub glanced : BoundsValue → ℕ → Account
glanced bounds found =
    record { bounds = bounds; held = 0; seats = 0; began = 0; ended = 0; last = found; steps = 1; lost = 0 }

-- a read by a new seat
pub record ToldGlance (first : Account) (found : ℕ) (new : Account) : Type 0 where
  pub after : new ≡ glanced first.bounds found
  pub may : MayFind new found

-- the seat may put this word in the place of the one that it knows last
pub record MayMove (account : Account) (next : ℕ) : Type 0 where
  pub no_less : total_of account.last ≤ account.held + total_of next
  pub no_more : total_of next ≤ account.bounds.room
  pub marks : MarksStand account.bounds next
  pub some_seat : 0 < account.seats

-- the seat is the same, whatever it knows
abbrev pub IsSameSeat : TableSeat (Unit {0}) Account → TableSeat (Unit {0}) Account → Type 0
IsSameSeat old new = (new.table_id ≡ old.table_id) × (new.id ≡ old.id)

-- the seat is of this budget
abbrev pub IsSeatOf : BudgetValue → TableSeat (Unit {0}) Account → Type 0
IsSeatOf budget seat = (seat.table_id ≡ budget.table_id) × (seat.me.0.bounds ≡ budget.bounds)

-- an exchange was lost: it found another word than the seat knew, which the seat knows now
pub record HasLost (old new : Account) : Type 0 where
  pub after : new ≡ after_loss new.last old
  pub other : new.last ≢ old.last
  pub may : MayFind old new.last

-- what every seat is between two calls
pub record IsSound (seat : SeatValue) : Type 0 where
  pub known : seat.account.bounds ≡ seat.budget.bounds
  pub bounds : AreBounds seat.budget.bounds
  pub some_seat : 0 < seat.account.seats
  pub may : MayFind seat.account seat.account.last

abbrev pub budget_of : BudgetInside → BudgetValue
budget_of budget = record { table_id = budget.table.shared.table_id; bounds = budget.bounds }

-- the table has sixteen words and no slot, and was told the bounds
pub record IsBudget (budget : BudgetInside) : Type 0 where
  pub sixteen : budget.table.shared.table_id.words ≡ 16
  pub no_slots : budget.table.shared.table_id.slots ≡ 0
  pub key : budget.table.shared.key ≡ budget.bounds
  pub bounds : AreBounds budget.table.shared.key

abbrev pub seat_of : SeatInside → SeatValue
seat_of seat = record {
  budget = record { table_id = seat.seat.table_id; bounds = seat.seat.me.0.bounds };
  account = seat.seat.me.0;
}

-- what the fields say is what the table's seat knows, and the word that it knows last is one that it may find
pub record IsSeat (seat : SeatInside) : Type 0 where
  pub no_slot : seat.seat.me.1 ≡ []
  pub held : seat.seat.me.0.held ≡ seat.held
  pub seats : seat.seat.me.0.seats ≡ seat.seats
  pub last : seat.seat.me.0.last ≡ seat.last
  pub some_seat : 0 < seat.seats
  pub few : seat.seats ≤ most_seats
  pub bounds : AreBounds seat.seat.me.0.bounds
  pub may : MayFind seat.seat.me.0 seat.last

abbrev pub glance_of : GlanceInside → GlanceValue
glance_of glance = record {
  budget = record { table_id = glance.seat.table_id; bounds = glance.seat.me.0.bounds };
  account = glance.seat.me.0;
}

-- the word is the one that the seat has read
pub record IsGlance (glance : GlanceInside) : Type 0 where
  pub last : glance.seat.me.0.last ≡ glance.word

-- the word ended as this, in a state of which still holds what holds between any two steps
pub record IsEnd (bounds : BoundsValue) (seat : TableSeat (Unit {0}) Account) (word : ℕ) : Type 0 where
  pub state : State (Unit {0}) Account
  pub ruled : Ruled bounds state
  pub at : get_elem? state.views seat.id ≡ some seat.me.0
  pub word_is : slice_index state.words 8 ≡ word
