-- The one word: the bytes that all seats hold, and above them the bit of pressure. The account of a seat: how its own
-- steps change it, how it is cut in two, and how two are put together. What a contract sees of a budget, of a seat and
-- of a glance.
use Rattle.std.specs.Prelude.{ℕ, ◌+◌, ◌-◌, ◌||◌, ◌&&◌, Bool, true, false, nat_le, nat_lt, if◌then◌else◌, Option, Some}
use Rattle.std.specs.Prelude.{None, ◌≡◌, ◌≤◌, ◌<◌}
use Rattle.atomic_table.specs.Seated.{TableId}
use Rattle.ob_budget.specs.Bounds.{BoundsValue}
use Rattle.ob_budget.specs.declared.account.Account.{Account}
use Rattle.ob_budget.specs.declared.pressure.Pressure.{Pressure}
use Rattle.ob_budget.specs.declared.pressure.Pressure.TheVariants.{Began, Ended}

-- the bit of pressure, which is above all totals
abbrev pub flag : ℕ
flag = 9223372036854775808

-- whether a word shows pressure
abbrev pub is_pressed : ℕ → Bool
is_pressed word = nat_le flag word

-- the bytes that all seats hold
abbrev pub total_of : ℕ → ℕ
total_of word = if nat_le flag word then word - flag else word

-- the word of a total, with the bit of pressure or without
abbrev pub word_of : ℕ → Bool → ℕ
word_of total pressed = if pressed then total + flag else total

-- the word after a raise: pressure begins if the total is above the high mark then
abbrev pub raised : BoundsValue → ℕ → ℕ → ℕ
raised bounds found amount =
    word_of (total_of found + amount) (is_pressed found || nat_lt bounds.high (total_of found + amount))

-- the word after a fall: pressure ends if the total is below the low mark then
abbrev pub lowered : BoundsValue → ℕ → ℕ → ℕ
lowered bounds found amount =
    word_of (total_of found - amount) (is_pressed found && nat_le bounds.low (total_of found - amount))

-- how pressure changed between two words
abbrev pub change_between : Bool → Bool → Option Pressure
change_between true true = None
change_between true false = Some Ended
change_between false true = Some Began
change_between false false = None

-- 1 if pressure began between the two, and else 0
abbrev pub begins : Bool → Bool → ℕ
begins true after = 0
begins false true = 1
begins false false = 0

-- 1 for pressure that stands, and else 0
abbrev pub standing : Bool → ℕ
standing true = 1
standing false = 0

-- how many seats there are: 2^62, so that a server that gives one to each connection never runs out
abbrev pub most_seats : ℕ
most_seats = 4611686018427387904

-- a word whose total is above the high mark is pressed, and one whose total is below the low mark is not
pub record MarksStand (bounds : BoundsValue) (word : ℕ) : Type 0 where
  pub above : bounds.high < total_of word → is_pressed word ≡ true
  pub below : total_of word < bounds.low → is_pressed word ≡ false

-- the account that a budget is opened with: it has all seats
abbrev pub first_account : BoundsValue → Account
first_account bounds =
    record { bounds = bounds; held = 0; seats = most_seats; began = 0; ended = 0; last = 0; steps = 0; lost = 0 }

-- a word that a seat may find: its total is at least what the seat holds and at most the room, and its bit of pressure is
-- as the marks say
pub record MayFind (account : Account) (word : ℕ) : Type 0 where
  pub no_less : account.held ≤ total_of word
  pub no_more : total_of word ≤ account.bounds.room
  pub marks : MarksStand account.bounds word

-- an account after a read that found this word
abbrev pub after_read : ℕ → Account → Account
after_read word account = record account { last = word; steps = account.steps + 1 }

-- an account after an exchange that found another word than the seat's own step before had left
abbrev pub after_loss : ℕ → Account → Account
after_loss word account = record account { last = word; steps = account.steps + 1; lost = account.lost + 1 }

-- an account after an exchange that put this word in the place of the one that its own step before had left
abbrev pub after_move : ℕ → Account → Account
after_move next account = record account {
  held = (account.held + total_of next) - total_of account.last;
  began = account.began + begins (is_pressed account.last) (is_pressed next);
  ended = account.ended + begins (is_pressed next) (is_pressed account.last);
  last = next;
  steps = account.steps + 1;
}

-- one account is another, but for what it read
pub record HoldsAlike (old new : Account) : Type 0 where
  pub bounds : new.bounds ≡ old.bounds
  pub held : new.held ≡ old.held
  pub seats : new.seats ≡ old.seats
  pub began : new.began ≡ old.began
  pub ended : new.ended ≡ old.ended

-- what is left of an account that gives this many seats away
abbrev pub kept_account : ℕ → Account → Account
kept_account seats account = record account { seats = account.seats - seats }

-- the account that gets them: it holds nothing, has told nothing, and knows the word that the other knows
abbrev pub given_account : ℕ → Account → Account
given_account seats account = record {
  bounds = account.bounds;
  held = 0;
  seats = seats;
  began = 0;
  ended = 0;
  last = account.last;
  steps = 0;
  lost = 0;
}

-- an account that has taken in another: it holds what both held, and has told what both told
abbrev pub joined_account : Account → Account → Account
joined_account account other = record account {
  held = account.held + other.held;
  seats = account.seats + other.seats;
  began = account.began + other.began;
  ended = account.ended + other.ended;
}

-- what is left of an account that was taken in
abbrev pub spent_account : Account → Account
spent_account account = record account { held = 0; seats = 0; began = 0; ended = 0 }

abbrev pub no_account : Account
no_account = spent_account (first_account (record { room = 0; low = 0; high = 0 }))

-- which budget it is, and what it was opened with
pub record BudgetValue : Type 0 where
  pub table_id : TableId
  pub bounds : BoundsValue

-- the budget of a seat, and its account
pub record SeatValue : Type 0 where
  pub budget : BudgetValue
  pub account : Account

-- the budget of a glance, and the account of the seat that read, which is for nothing else
pub record GlanceValue : Type 0 where
  pub budget : BudgetValue
  pub account : Account
