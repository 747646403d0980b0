-- Totals, marks and turns of pressure of the one word.
use Rattle.std.proofs.Common.{◌≡◌, ℕ, ◌+◌, ◌-◌, ◌≤◌, ◌<◌, Bool, true, false, nat_le, nat_lt, ◌||◌, ◌&&◌, refl, ◌∙◌, arith}
use Rattle.std.proofs.lemmas.Bool.Decides.{nat_tests}
use Rattle.ob_budget.specs.Account.{MarksStand, is_pressed, total_of, word_of, raised, lowered, begins, standing}
use Rattle.ob_budget.specs.Bounds.{BoundsValue, AreBounds, greatest_room}

pub total-word : (total : ℕ) (pressed : Bool) → total ≤ greatest_room → total_of (word_of total pressed) ≡ total
total-word total true fits = grind (arith, nat_tests)
total-word total false fits = grind (arith, nat_tests)

pub pressed-word : (total : ℕ) (pressed : Bool) → total ≤ greatest_room → is_pressed (word_of total pressed) ≡ pressed
pressed-word total true fits = grind (arith, nat_tests)
pressed-word total false fits = grind (arith, nat_tests)

-- the word of a total and a bit that are as the marks say
pub marks-word : (bounds : BoundsValue) (total : ℕ) (pressed : Bool) → total ≤ greatest_room
    → (bounds.high < total → pressed ≡ true) → (total < bounds.low → pressed ≡ false)
    → MarksStand bounds (word_of total pressed)
marks-word bounds total pressed fits above below =
    let is = total-word total pressed fits in
    let bit = pressed-word total pressed fits in
    record {
      above = λ over. bit ∙ above (omega (arith, over, is));
      below = λ under. bit ∙ below (omega (arith, under, is));
    }

raised-above : (pressed : Bool) (high total : ℕ) → high < total → (pressed || nat_lt high total) ≡ true
raised-above true high total over = refl
raised-above false high total over = grind (arith, nat_tests)

raised-below : (pressed : Bool) (low high total : ℕ) → low ≤ high → pressed ≡ false → total < low
    → (pressed || nat_lt high total) ≡ false
raised-below true low high total ordered none under = none
raised-below false low high total ordered none under = grind (arith, nat_tests)

lowered-above : (pressed : Bool) (low high total : ℕ) → low ≤ high → pressed ≡ true → high < total
    → (pressed && nat_le low total) ≡ true
lowered-above true low high total ordered is over = grind (arith, nat_tests)
lowered-above false low high total ordered is over = is

lowered-below : (pressed : Bool) (low total : ℕ) → total < low → (pressed && nat_le low total) ≡ false
lowered-below true low total under = grind (arith, nat_tests)
lowered-below false low total under = refl

-- a raise and a fall leave the bit as the marks say
pub raised-marks : (bounds : BoundsValue) (found amount : ℕ) → AreBounds bounds → MarksStand bounds found
    → total_of found + amount ≤ greatest_room → MarksStand bounds (raised bounds found amount)
raised-marks bounds found amount are marks fits =
    let total : ℕ = total_of found + amount in
    marks-word bounds total (is_pressed found || nat_lt bounds.high total) fits
    (raised-above (is_pressed found) bounds.high total)
    (λ under. raised-below (is_pressed found) bounds.low bounds.high total are.ordered (marks.below (omega (arith, under))) under)

pub lowered-marks : (bounds : BoundsValue) (found amount : ℕ) → AreBounds bounds → MarksStand bounds found
    → total_of found ≤ greatest_room → MarksStand bounds (lowered bounds found amount)
lowered-marks bounds found amount are marks fits =
    let total : ℕ = total_of found - amount in
    marks-word bounds total (is_pressed found && nat_le bounds.low total) (omega (arith, fits))
    (λ over. lowered-above (is_pressed found) bounds.low bounds.high total are.ordered (marks.above (omega (arith, over))) over)
    (lowered-below (is_pressed found) bounds.low total)

pub raised-total : (bounds : BoundsValue) (found amount : ℕ) → total_of found + amount ≤ greatest_room
    → total_of (raised bounds found amount) ≡ total_of found + amount
raised-total bounds found amount fits = total-word (total_of found + amount) _ fits

pub lowered-total : (bounds : BoundsValue) (found amount : ℕ) → total_of found ≤ greatest_room
    → total_of (lowered bounds found amount) ≡ total_of found - amount
lowered-total bounds found amount fits = total-word (total_of found - amount) _ (omega (arith, fits))

-- what is told of two words is how pressure changed between them
pub turned : (before after : Bool) → begins before after + standing before ≡ begins after before + standing after
turned true true = refl
turned true false = refl
turned false true = refl
turned false false = refl
