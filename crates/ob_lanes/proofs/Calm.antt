-- Words whose whole room is at most their high mark: bit 0 stays clear, so a charge is an addition and no more, and a
-- discharge a subtraction.
use Rattle.std.proofs.Common.{◌≡◌, ℕ, List, [], ◌∷◌, ◌+◌, ◌-◌, ◌%◌, ◌^◌, ◌<◌, ◌≤◌, Bool, true, false}
use Rattle.std.proofs.Common.{nat_lt, if◌then◌else◌, refl, sym, ap, ◌∙◌, arith}
use Rattle.std.specs.Int.{bit_at}
use Rattle.std.proofs.lemmas.Bool.Decides.{nat_tests}
use Rattle.ob_types.specs.Marks.{packed, word_half, total_half, Marks}
use Rattle.ob_core.specs.World.{AccountsHold, is_set, without_bit, Grant, one_lane, CoreState}
use Rattle.ob_core.specs.Step.{total_after, raised_word, lowered_word, word_after, CanMake}
use Rattle.ob_core.specs.declared.lane.Lane.{Lane}
use Rattle.ob_core.specs.declared.lane_step.LaneStep.{LaneStep}
use Rattle.ob_core.specs.declared.lane_step.LaneStep.TheVariants.{Add, Subtract, SetBit, ClearBit, Load}
use Rattle.ob_core.proofs.AccountsLemmas.{total-le-room}
use Rattle.ob_core.proofs.BitLemmas.{SetsBit-with_bit, ClearsBit-without_bit}
use Rattle.ob_core.proofs.StepLemmas.{is_held-above, zero-clear}
use Rattle.ob_lanes.specs.Run.{IsMove, Leads}
use Rattle.ob_lanes.specs.Ruled.{packed_after}
use Rattle.ob_lanes.specs.declared.facts.Move.{Move}
use Rattle.ob_lanes.specs.declared.facts.Move.TheVariants.{Steps, Divides, Merges}
use Rattle.ob_lanes.proofs.KeptAccounts.{accounts_after_run}

-- a word that moves only if something holds stays if that does not hold
unmoved : (word moved : ℕ) (holds : Bool) → holds ≡ false → (if holds then moved else word) ≡ word
unmoved word moved true none = absurd (cc)
unmoved word moved false none = refl

-- a total that is not above the high mark sets no bit
raised_calm : (marks : Marks) (total word : ℕ) → total ≤ marks.high → raised_word marks total word ≡ word
raised_calm marks total word low = unmoved word _ (nat_lt marks.high total) (grind (arith, nat_tests))

-- and a bit that is clear is cleared no more
lowered_if : (word : ℕ) (below : Bool) → bit_at word 0 ≡ 0 → (if below then without_bit word 0 else word) ≡ word
lowered_if word true clear = unmoved word _ (is_set word 0) (zero-clear word 0 clear)
lowered_if word false clear = refl

lowered_calm : (marks : Marks) (total word : ℕ) → bit_at word 0 ≡ 0 → lowered_word marks total word ≡ word
lowered_calm marks total word clear = lowered_if word (nat_lt total marks.low) clear

-- so a step that comes to no such total leaves bit 0 clear
word_clear : (step : LaneStep) (marks : Marks) (total word : ℕ) (lane : Lane) → CanMake lane step
    → total_after step total ≤ marks.high → bit_at word 0 ≡ 0 → bit_at (word_after step marks total word) 0 ≡ 0
word_clear (Add amount) marks total word lane may low clear =
    ap (λ w. bit_at w 0) (raised_calm marks (total + amount) word low) ∙ clear
word_clear (Subtract amount) marks total word lane may low clear =
    ap (λ w. bit_at w 0) (lowered_calm marks (total - amount) word clear) ∙ clear
word_clear (SetBit index) marks total word lane may low clear =
    (SetsBit-with_bit word index).others 0 (λ at. absurd (omega (arith, at, is_held-above lane index may))) ∙ clear
word_clear (ClearBit index) marks total word lane may low clear =
    (ClearsBit-without_bit word index).others 0 (λ at. absurd (omega (arith, at, is_held-above lane index may))) ∙ clear
word_clear Load marks total word lane may low clear = clear

clear_after_move : (grant : Grant) (old new : CoreState) (move : Move) → IsMove old move new → AccountsHold grant new
    → grant.room ≤ grant.marks.high → bit_at old.word 0 ≡ 0 → bit_at new.word 0 ≡ 0
clear_after_move grant old new (Steps seat step found) is holds calm clear =
    let after = is.0.after in
    let total : new.total ≡ total_after step old.total = ap (λ (c : CoreState). c.total) after in
    let high : new.marks.high ≡ old.marks.high = ap (λ (c : CoreState). c.marks.high) after in
    let whole : new.marks.high ≡ grant.marks.high = ap (λ (m : Marks). m.high) holds.bytes.marks in
    let least : new.total ≤ grant.room = total-le-room grant new holds.bytes in
    ap (λ (c : CoreState). bit_at c.word 0) after
    ∙ word_clear step old.marks old.total old.word is.0.lane is.0.allowed
    (omega (arith, total, high, whole, least, calm)) clear
clear_after_move grant old new (Divides seat kept given name) is holds calm clear =
    ap (λ (c : CoreState). bit_at c.word 0) is.after ∙ clear
clear_after_move grant old new (Merges seat other both) is holds calm clear =
    ap (λ (c : CoreState). bit_at c.word 0) is.after ∙ clear

-- and a run
pub clear_after_run : (grant : Grant) (moves : List Move) (core : CoreState) → is_set grant.bits 0 ≡ false
    → grant.room ≤ grant.marks.high → Leads (one_lane grant) moves core → bit_at core.word 0 ≡ 0
clear_after_run grant [] core mark calm leads = ap (λ (c : CoreState). bit_at c.word 0) leads
clear_after_run grant (move ∷ earlier) core mark calm leads =
    clear_after_move grant leads.0 core move leads.2 (accounts_after_run grant (move ∷ earlier) core mark leads) calm
    (clear_after_run grant earlier leads.0 mark calm leads.1)

-- ---- what the machine makes of the one word

pub sum_calm : (marks : Marks) (found amount : ℕ) → word_half found < 4294967296
    → total_half found + amount ≤ marks.high → total_half found + amount < 4294967296
    → (found + amount) % 2 ^ 64 ≡ packed_after (Add amount) marks found
sum_calm marks found amount fits low small =
    let sum : (found + amount) % 2 ^ 64 ≡ packed (word_half found) (total_half found + amount) = omega (arith, fits, small) in
    sum ∙ sym (ap (λ w. packed w (total_half found + amount)) (raised_calm marks (total_half found + amount) (word_half found) low))

pub rest_calm : (marks : Marks) (found amount : ℕ) → word_half found < 4294967296 → amount ≤ total_half found
    → bit_at (word_half found) 0 ≡ 0
    → (found + (2 ^ 64 - amount)) % 2 ^ 64 ≡ packed_after (Subtract amount) marks found
rest_calm marks found amount fits least clear =
    let rest : (found + (2 ^ 64 - amount)) % 2 ^ 64 ≡ packed (word_half found) (total_half found - amount) =
    omega (arith, fits, least) in
    rest ∙ sym (ap (λ w. packed w (total_half found - amount)) (lowered_calm marks (total_half found - amount) (word_half found) clear))
