-- What the calls on a seat promise.
use Rattle.std.specs.Prelude.{◌≡◌, ◌≤◌, ◌<◌, ◌+◌, ℕ, Option}
use Rattle.ob_budget.specs.Account.{MayFind, HoldsAlike, after_move, after_read, joined_account, SeatValue, is_pressed}
use Rattle.ob_budget.specs.Account.{total_of, raised, change_between}
use Rattle.ob_budget.specs.declared.account.Account.{Account}
use Rattle.ob_budget.specs.declared.fault.RaiseFault.{RaiseFault}
use Rattle.ob_budget.specs.declared.fault.RaiseFault.TheVariants.{Full, Busy}
use Rattle.ob_budget.specs.declared.pressure.Pressure.{Pressure}

-- how many exchanges a call loses before it gives up
abbrev pub most_tries : ℕ
most_tries = 65536

-- after this many lost exchanges, and maybe a read, an account holds what it held, and knows a word that it may find
pub record HasTried (losses : ℕ) (old now : Account) : Type 0 where
  pub alike : HoldsAlike old now
  pub lost : now.lost ≡ old.lost + losses
  pub steps : old.steps + losses ≤ now.steps
  pub may : MayFind now now.last

-- a seat was moved in one step: after fewer lost exchanges than a call may lose, it put the word that this makes of what it
-- knew last in the place of that, and the change of pressure is that of these two words
pub record IsMoved (next : ℕ → ℕ) (old : SeatValue) (told : Option Pressure) (new : SeatValue) : Type 0 where
  pub losses : ℕ
  pub few : losses < most_tries
  pub before : Account
  pub tried : HasTried losses old.account before
  pub after : new.account ≡ after_move (next before.last) before
  pub budget : new.budget ≡ old.budget
  pub told_is : told ≡ change_between (is_pressed before.last) (is_pressed (next before.last))

-- a seat was raised by this amount: what it found left the room for that
pub record IsRaised (amount : ℕ) (old : SeatValue) (told : Option Pressure) (new : SeatValue) : Type 0 where
  pub moved : IsMoved (λ found. raised old.budget.bounds found amount) old told new
  pub room : total_of moved.before.last + amount ≤ old.budget.bounds.room

-- the last of one step or more of this call found no room for the amount
pub record WasFull (amount : ℕ) (old new : SeatValue) : Type 0 where
  pub losses : ℕ
  pub tried : HasTried losses old.account new.account
  pub stepped : old.account.steps < new.account.steps
  pub budget : new.budget ≡ old.budget
  pub full : old.budget.bounds.room < total_of new.account.last + amount

-- as many exchanges were lost as a call may lose: each time another seat had come in between
pub record WasBusy (old new : SeatValue) : Type 0 where
  pub tried : HasTried most_tries old.account new.account
  pub budget : new.budget ≡ old.budget

-- why a raise was refused, and that the seat holds what it held
abbrev pub IsRefused : ℕ → RaiseFault → SeatValue → SeatValue → Type 0
IsRefused amount Full old new = WasFull amount old new
IsRefused amount Busy old new = WasBusy old new

-- a seat has made one step, which read the word
pub record HasLooked (old new : SeatValue) : Type 0 where
  pub budget : new.budget ≡ old.budget
  pub after : new.account ≡ after_read new.account.last old.account
  pub may : MayFind new.account new.account.last

-- a seat has taken in another, and has made one step, which read the word
pub record IsJoined (old other new : SeatValue) : Type 0 where
  pub budget : new.budget ≡ old.budget
  pub after : new.account ≡ after_read new.account.last (joined_account old.account other.account)
  pub may : MayFind new.account new.account.last
