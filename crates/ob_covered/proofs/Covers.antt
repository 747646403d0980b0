-- What a cover lacks, and what it holds after raises that were refused.
use Rattle.std.proofs.Common.{◌≡◌, ℕ, ◌-◌, ◌<◌, Option, refl, ◌∙◌, subst}
use Rattle.std.specs.Prelude.{Result, Ok, Err, IfErr}
use Rattle.ob_budget.specs.Account.{HoldsAlike, SeatValue}
use Rattle.ob_budget.specs.Calls.{IsRefused}
use Rattle.ob_budget.specs.declared.account.Account.{Account}
use Rattle.ob_budget.specs.declared.fault.RaiseFault.{RaiseFault}
use Rattle.ob_budget.specs.declared.fault.RaiseFault.TheVariants.{Full, Busy}
use Rattle.ob_budget.specs.declared.pressure.Pressure.{Pressure}
use Rattle.ob_covered.specs.Cover.{CoverValue, IsShort}

alike_itself : (account : Account) → HoldsAlike account account
alike_itself account = record { bounds = refl; held = refl; seats = refl; began = refl; ended = refl }

alike_both : (first second third : Account) → HoldsAlike first second → HoldsAlike second third → HoldsAlike first third
alike_both first second third one other = record {
  bounds = other.bounds ∙ one.bounds;
  held = other.held ∙ one.held;
  seats = other.seats ∙ one.seats;
  began = other.began ∙ one.began;
  ended = other.ended ∙ one.ended;
}

-- a raise that was refused leaves what is held
pub refused_alike : (amount : ℕ) (fault : RaiseFault) (old new : SeatValue) → IsRefused amount fault old new
    → HoldsAlike old.account new.account
refused_alike amount Full old new refused = refused.tried.alike
refused_alike amount Busy old new refused = refused.tried.alike

short_of : (needed lacks : ℕ) (old : CoverValue) (before after : SeatValue) (quantum : ℕ) (fault : RaiseFault)
    → HoldsAlike old.seat.account before.account → old.seat.account.held < needed → lacks ≡ needed - old.seat.account.held
    → IsRefused lacks fault before after → IsShort needed fault old (record { seat = after; quantum = quantum })
short_of needed lacks old before after quantum fault tried less is refused = record {
  lacks = less;
  before = before;
  tried = tried;
  refused = subst (λ amount. IsRefused amount fault before after) is refused;
  alike = alike_both _ _ _ tried (refused_alike lacks fault before after refused);
}

pub short_later : (needed lacks : ℕ) (old : CoverValue) (before after : SeatValue) (quantum : ℕ)
    (result : Result (Option Pressure) RaiseFault) → HoldsAlike old.seat.account before.account
    → old.seat.account.held < needed → lacks ≡ needed - old.seat.account.held
    → IfErr result (λ fault. IsRefused lacks fault before after)
    → IfErr result (λ fault. IsShort needed fault old (record { seat = after; quantum = quantum }))
short_later needed lacks old before after quantum (Ok told) tried less is refused = refused
short_later needed lacks old before after quantum (Err fault) tried less is refused =
    short_of needed lacks old before after quantum fault tried less is refused

pub short_at_once : (needed lacks : ℕ) (old : CoverValue) (after : SeatValue) (quantum : ℕ)
    (result : Result (Option Pressure) RaiseFault) → old.seat.account.held < needed
    → lacks ≡ needed - old.seat.account.held → IfErr result (λ fault. IsRefused lacks fault old.seat after)
    → IfErr result (λ fault. IsShort needed fault old (record { seat = after; quantum = quantum }))
short_at_once needed lacks old after quantum result less is refused =
    short_later needed lacks old old.seat after quantum result (alike_itself old.seat.account) less is refused
