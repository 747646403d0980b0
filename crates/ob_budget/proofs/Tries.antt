-- Exchanges of one seat, one after another, until one is won.
use Rattle.std.proofs.Common.{◌≡◌, ℕ, ◌+◌, ◌-◌, ◌≤◌, ◌<◌, Option, sym, refl, ap, ◌∙◌, subst, arith}
use Rattle.ob_budget.specs.Account.{MarksStand, MayFind, HoldsAlike, after_move, SeatValue, is_pressed, total_of}
use Rattle.ob_budget.specs.Account.{raised, lowered, change_between}
use Rattle.ob_budget.specs.Bounds.{BoundsValue, AreBounds, greatest_room}
use Rattle.ob_budget.specs.Calls.{HasTried, IsMoved, IsRaised, HasLooked, most_tries}
use Rattle.ob_budget.specs.Ruled.{MayMove, HasLost, IsSound}
use Rattle.ob_budget.specs.declared.account.Account.{Account}
use Rattle.ob_budget.specs.declared.pressure.Pressure.{Pressure}
use Rattle.ob_budget.proofs.Words.{raised-marks, raised-total, lowered-marks, lowered-total}

-- a seat has lost this many exchanges so far, and is as it was
pub record IsTrying (losses : ℕ) (old now : SeatValue) : Type 0 where
  pub tried : HasTried losses old.account now.account
  pub budget : now.budget ≡ old.budget
  pub sound : IsSound now

sound_after : (old now : SeatValue) → IsSound old → HoldsAlike old.account now.account → now.budget ≡ old.budget
    → MayFind now.account now.account.last → IsSound now
sound_after old now sound alike budget may = record {
  known = alike.bounds ∙ sound.known ∙ ap (λ b. b.bounds) (sym budget);
  bounds = subst (λ b. AreBounds b.bounds) (sym budget) sound.bounds;
  some_seat = omega (arith, sound.some_seat, alike.seats);
  may = may;
}

pub begun : (old : SeatValue) → IsSound old → IsTrying 0 old old
begun old sound = record {
  tried = record {
    alike = record { bounds = refl; held = refl; seats = refl; began = refl; ended = refl };
    lost = omega arith;
    steps = omega arith;
    may = sound.may;
  };
  budget = refl;
  sound = sound;
}

looked_alike : (old now : SeatValue) → HasLooked old now → HoldsAlike old.account now.account
looked_alike old now looked = record {
  bounds = ap (λ (a : Account). a.bounds) looked.after;
  held = ap (λ (a : Account). a.held) looked.after;
  seats = ap (λ (a : Account). a.seats) looked.after;
  began = ap (λ (a : Account). a.began) looked.after;
  ended = ap (λ (a : Account). a.ended) looked.after;
}

pub looked_begun : (old now : SeatValue) → IsSound old → HasLooked old now → IsTrying 0 old now
looked_begun old now sound looked = record {
  tried = record {
    alike = looked_alike old now looked;
    lost = omega (arith, ap (λ (a : Account). a.lost) looked.after);
    steps = omega (arith, ap (λ (a : Account). a.steps) looked.after);
    may = looked.may;
  };
  budget = looked.budget;
  sound = sound_after old now sound (looked_alike old now looked) looked.budget looked.may;
}

-- the seat has made a step of its own then
pub looked_stepped : (old now : SeatValue) → HasLooked old now → old.account.steps < now.account.steps
looked_stepped old now looked = omega (arith, ap (λ (a : Account). a.steps) looked.after)

module _ (losses : ℕ) (old now new : SeatValue) (trying : IsTrying losses old now) (budget : new.budget ≡ now.budget) where
  -- one exchange more is lost
  pub again : HasLost now.account new.account → IsTrying (losses + 1) old new
  again lost =
      let alike : HoldsAlike old.account new.account = record {
        bounds = ap (λ (a : Account). a.bounds) lost.after ∙ trying.tried.alike.bounds;
        held = ap (λ (a : Account). a.held) lost.after ∙ trying.tried.alike.held;
        seats = ap (λ (a : Account). a.seats) lost.after ∙ trying.tried.alike.seats;
        began = ap (λ (a : Account). a.began) lost.after ∙ trying.tried.alike.began;
        ended = ap (λ (a : Account). a.ended) lost.after ∙ trying.tried.alike.ended;
      } in
      let may : MayFind new.account new.account.last =
      subst (λ a. MayFind a new.account.last) (sym lost.after)
      (record { no_less = lost.may.no_less; no_more = lost.may.no_more; marks = lost.may.marks }) in record {
        tried = record {
          alike = alike;
          lost = omega (arith, ap (λ (a : Account). a.lost) lost.after, trying.tried.lost);
          steps = omega (arith, ap (λ (a : Account). a.steps) lost.after, trying.tried.steps);
          may = may;
        };
        budget = budget ∙ trying.budget;
        sound = sound_after now new trying.sound (record {
          bounds = ap (λ (a : Account). a.bounds) lost.after;
          held = ap (λ (a : Account). a.held) lost.after;
          seats = ap (λ (a : Account). a.seats) lost.after;
          began = ap (λ (a : Account). a.began) lost.after;
          ended = ap (λ (a : Account). a.ended) lost.after;
        }) budget may;
      }

  pub again_stepped : HasLost now.account new.account → old.account.steps < new.account.steps
  again_stepped lost = omega (arith, ap (λ (a : Account). a.steps) lost.after, trying.tried.steps)

  -- an exchange is won
  pub won : (next : ℕ → ℕ) (told : Option Pressure) → losses < most_tries
      → new.account ≡ after_move (next now.account.last) now.account
      → told ≡ change_between (is_pressed now.account.last) (is_pressed (next now.account.last))
      → IsMoved next old told new
  won next told few after told_is = record {
    losses = losses;
    few = few;
    before = now.account;
    tried = trying.tried;
    after = after;
    budget = budget ∙ trying.budget;
    told_is = told_is;
  }

  -- and that is a raise, if the room was there
  pub won_raise : (amount : ℕ) (told : Option Pressure) → losses < most_tries
      → new.account ≡ after_move (raised old.budget.bounds now.account.last amount) now.account
      → told ≡ change_between (is_pressed now.account.last) (is_pressed (raised old.budget.bounds now.account.last amount))
      → total_of now.account.last + amount ≤ old.budget.bounds.room
      → IsRaised amount old told new
  unfolding won
  won_raise amount told few after told_is room = record {
    moved = won (λ found. raised old.budget.bounds found amount) told few after told_is;
    room = room;
  }

-- what a sound seat may put in the place of what it knows last
module _ (seat : SeatValue) (sound : IsSound seat) (bounds : BoundsValue) (same : seat.budget.bounds ≡ bounds) (amount : ℕ) where
  here : seat.account.bounds ≡ bounds
  here = sound.known ∙ same

  are : AreBounds bounds
  are = subst AreBounds same sound.bounds

  room_here : seat.account.bounds.room ≡ bounds.room
  room_here = ap (λ (b : BoundsValue). b.room) here

  marks_here : MarksStand bounds seat.account.last
  marks_here = subst (λ b. MarksStand b seat.account.last) here sound.may.marks

  pub last_fits : total_of seat.account.last ≤ greatest_room
  last_fits = omega (arith, sound.may.no_more, room_here, are.fits)

  module _ (room : total_of seat.account.last + amount ≤ bounds.room) where
    pub raise_fits : total_of seat.account.last + amount ≤ greatest_room
    raise_fits = omega (arith, room, are.fits)

    raise_total : total_of (raised bounds seat.account.last amount) ≡ total_of seat.account.last + amount
    raise_total = raised-total bounds seat.account.last amount raise_fits

    pub may_raise : MayMove seat.account (raised bounds seat.account.last amount)
    may_raise = record {
      no_less = omega (arith, raise_total);
      no_more = omega (arith, raise_total, room, room_here);
      marks =
          subst (λ b. MarksStand b (raised bounds seat.account.last amount)) (sym here)
          (raised-marks bounds seat.account.last amount are marks_here raise_fits);
      some_seat = sound.some_seat;
    }

    pub raise_held : (new : SeatValue) → new.account ≡ after_move (raised bounds seat.account.last amount) seat.account
        → new.account.held ≡ seat.account.held + amount
    raise_held new after = omega (arith, ap (λ (a : Account). a.held) after, raise_total)

  module _ (held : amount ≤ seat.account.held) where
    pub fall_held_fits : amount ≤ total_of seat.account.last
    fall_held_fits = omega (arith, held, sound.may.no_less)

    fall_total : total_of (lowered bounds seat.account.last amount) ≡ total_of seat.account.last - amount
    fall_total = lowered-total bounds seat.account.last amount last_fits

    pub may_lower : MayMove seat.account (lowered bounds seat.account.last amount)
    may_lower = record {
      no_less = omega (arith, fall_total, held, sound.may.no_less);
      no_more = omega (arith, fall_total, sound.may.no_more);
      marks =
          subst (λ b. MarksStand b (lowered bounds seat.account.last amount)) (sym here)
          (lowered-marks bounds seat.account.last amount are marks_here last_fits);
      some_seat = sound.some_seat;
    }

    pub lower_held : (new : SeatValue) → new.account ≡ after_move (lowered bounds seat.account.last amount) seat.account
        → new.account.held ≡ seat.account.held - amount
    lower_held new after = omega (arith, ap (λ (a : Account). a.held) after, fall_total, held, sound.may.no_less)
