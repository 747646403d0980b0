-- The accounts, kept by each move, and what they say of a word of 32 bits.
use Rattle.std.proofs.Common.{◌≡◌, ℕ, List, [], ◌∷◌, false, ◌+◌, ◌*◌, ◌/◌, ◌%◌, ◌^◌, ◌<◌, ◌≤◌, ⊎_elim, subst, sym, ap}
use Rattle.std.proofs.Common.{◌∙◌, arith}
use Rattle.std.specs.List.{All}
use Rattle.std.specs.Int.{bit_at}
use Rattle.std.proofs.Math.Nat.{mod-lt}
use Rattle.std.proofs.lemmas.Bool.{cases_lt}
use Rattle.std.proofs.lemmas.Nat.{div-add-mod', pow_pos}
use Rattle.std.proofs.lemmas.Nat.Bits.{bit_at_above, bit_at_cat_low, same_from_bits}
use Rattle.ob_core.proofs.AccountsLemmas.{AccountsHold-step}
use Rattle.ob_core.proofs.BeginningLemmas.{AccountsHold-one_lane}
use Rattle.ob_lanes.specs.Run.{IsMove, Leads}
use Rattle.ob_lanes.specs.declared.facts.Move.{Move}
use Rattle.ob_lanes.specs.declared.facts.Move.TheVariants.{Steps, Divides, Merges}
use Rattle.ob_core.specs.World.{is_set, AccountsHold, CoreState, Grant, one_lane}
use Rattle.ob_core.proofs.LaneSums.{sum_by-le-each}
use Rattle.ob_core.proofs.PartLemmas.{AccountsHold-division, AccountsHold-merger}
use Rattle.ob_core.specs.Step.{IsCoreStep, IsDivision, IsMerger}
use Rattle.ob_core.specs.declared.lane.Lane.{Lane}
use Rattle.ob_core.specs.declared.lane_step.LaneStep.{LaneStep}

pub accounts_after_step : (grant : Grant) (old new : CoreState) (index : ℕ) (step : LaneStep)
    → IsCoreStep old index step new → AccountsHold grant old → AccountsHold grant new
accounts_after_step grant old new index step is holds =
    subst (AccountsHold grant) (sym is.after)
    (AccountsHold-step grant old index is.lane step is.is_lane is.allowed holds)

pub accounts_after_division : (grant : Grant) (old new : CoreState) (index : ℕ) (kept given : Lane)
    → IsDivision old index kept given new → AccountsHold grant old → AccountsHold grant new
accounts_after_division grant old new index kept given is holds =
    subst (AccountsHold grant) (sym is.after) (AccountsHold-division grant old index is.lane kept given is.is_lane
    is.parts holds)

pub accounts_after_merger : (grant : Grant) (old new : CoreState) (index other : ℕ) (both : Lane)
    → IsMerger old index other both new → AccountsHold grant old → AccountsHold grant new
accounts_after_merger grant old new index other both is holds =
    subst (AccountsHold grant) (sym is.after)
    (AccountsHold-merger grant old index other is.lane is.other_lane both
    (record { is_lane = is.is_lane; is_other = is.is_other; apart = is.apart }) is.parts holds)

-- so each move keeps them, and a run
accounts_after_move : (grant : Grant) (old new : CoreState) (move : Move) → IsMove old move new
    → AccountsHold grant old → AccountsHold grant new
accounts_after_move grant old new (Steps seat step found) is holds =
    accounts_after_step grant old new seat step is.0 holds
accounts_after_move grant old new (Divides seat kept given name) is holds =
    accounts_after_division grant old new seat kept given is holds
accounts_after_move grant old new (Merges seat other both) is holds =
    accounts_after_merger grant old new seat other both is holds

pub accounts_after_run : (grant : Grant) (moves : List Move) (core : CoreState) → is_set grant.bits 0 ≡ false
    → Leads (one_lane grant) moves core → AccountsHold grant core
accounts_after_run grant [] core mark leads =
    subst (AccountsHold grant) (sym leads) (AccountsHold-one_lane grant mark)
accounts_after_run grant (move ∷ earlier) core mark leads =
    accounts_after_move grant leads.0 core move leads.2 (accounts_after_run grant earlier leads.0 mark leads.1)

-- no lane has raised a bit that the grant has not, so the word does not show it
pub not_opened : (grant : Grant) (core : CoreState) (index : ℕ) → AccountsHold grant core → 0 < index
    → bit_at grant.bits index ≡ 0 → bit_at core.word index ≡ 0
not_opened grant core index holds user none =
    let each : All (λ (l : Lane). bit_at l.raised index ≤ bit_at l.held index) core.lanes =
    λ k d within. holds.bits.among k d within index in
    omega (
      arith,
      holds.bits.shown index user,
      holds.bits.held index,
      sum_by-le-each (λ l. bit_at l.raised index) (λ l. bit_at l.held index) core.lanes each,
      none,
    )

-- a number with no bit from k on is below 2 ^ k
below_power : (n k : ℕ) → ((index : ℕ) → k ≤ index → bit_at n index ≡ 0) → n < 2 ^ k
below_power n k none =
    let whole : n / 2 ^ k * 2 ^ k + n % 2 ^ k ≡ n = div-add-mod' n (2 ^ k) in
    let small : n % 2 ^ k < 2 ^ k = mod-lt n (pow_pos k) in
    let low : (i : ℕ) → i < k → bit_at n i ≡ bit_at (n % 2 ^ k) i =
    λ i below. ap (λ m. bit_at m i) (sym whole) ∙ bit_at_cat_low (n / 2 ^ k) k (n % 2 ^ k) i below in
    let high : (i : ℕ) → k ≤ i → bit_at n i ≡ bit_at (n % 2 ^ k) i =
    λ i above. none i above ∙ sym (bit_at_above (n % 2 ^ k) k i small above) in
    let same : n ≡ n % 2 ^ k = same_from_bits n (n % 2 ^ k) (λ i. ⊎_elim (low i) (high i) (cases_lt i k)) in
    omega (arith, same, small)

-- the word fits 32 bits if the grant's bits do
pub word_fits : (grant : Grant) (core : CoreState) → AccountsHold grant core → grant.bits < 2 ^ 32
    → core.word < 2 ^ 32
word_fits grant core holds bits =
    below_power core.word 32 (λ index above. not_opened grant core index holds (omega arith)
    (bit_at_above grant.bits 32 index bits above))
