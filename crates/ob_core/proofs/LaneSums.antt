-- Sums over lanes, and one lane among them.
use Rattle.std.proofs.Common.{◌≡◌, ◌≢◌, ℕ, zero, suc, ◌+◌, ◌<◌, ◌≤◌, List, [], ◌∷◌, length, get_or, set, Some}
use Rattle.std.proofs.Common.{slice_get, refl, ap, subst, arith}
use Rattle.std.specs.List.{All, sum_by}
use Rattle.std.proofs.lemmas.List.Elements.{All-head, All-tail}
use Rattle.std.proofs.lemmas.List.Sums.{sum_by-set, sum_by-cons, get_or-le-sum_by}
use Rattle.std.proofs.lemmas.Option.{slice_get_within, get_or_from_slice_get, same_Some}
use Rattle.ob_core.specs.declared.lane.Lane.{Lane}

-- what holds of each lane holds of the one
pub all_at : (P : Lane → Type 0) (lanes : List Lane) (index : ℕ) (lane : Lane) → slice_get lanes index ≡ Some lane
    → All P lanes → P lane
all_at P lanes index lane is_lane all =
    subst P (get_or_from_slice_get lanes index lane lane is_lane)
    (all index lane (slice_get_within lanes index lane is_lane))

-- a sum moves by what the lane that is put in the place of another has more
pub sum_by-put : (f : Lane → ℕ) (lanes : List Lane) (index : ℕ) (lane new : Lane) → slice_get lanes index ≡ Some lane
    → sum_by f (set lanes index new) + f lane ≡ sum_by f lanes + f new
sum_by-put f lanes index lane new is_lane =
    let within : index < length lanes = slice_get_within lanes index lane is_lane in
    let here : f (get_or lanes index lane) ≡ f lane = ap f (get_or_from_slice_get lanes index lane lane is_lane) in
    omega (arith, sum_by-set f lanes index new lane within, here)

-- a lane has no more than all have together
pub at-le-sum_by : (f : Lane → ℕ) (lanes : List Lane) (index : ℕ) (lane : Lane) → slice_get lanes index ≡ Some lane
    → f lane ≤ sum_by f lanes
at-le-sum_by f lanes index lane is_lane =
    let within : index < length lanes = slice_get_within lanes index lane is_lane in
    let here : f (get_or lanes index lane) ≡ f lane = ap f (get_or_from_slice_get lanes index lane lane is_lane) in
    omega (arith, get_or-le-sum_by f lanes index lane within, here)

-- two lanes have together no more than all
pub two-le-sum_by : (f : Lane → ℕ) (lanes : List Lane) (index other : ℕ) (lane second : Lane) → index ≢ other
    → slice_get lanes index ≡ Some lane → slice_get lanes other ≡ Some second → f lane + f second ≤ sum_by f lanes
two-le-sum_by f [] index other lane second apart is_lane is_second = absurd (cc)
two-le-sum_by f (first ∷ lanes) zero zero lane second apart is_lane is_second = absurd (apart refl)
two-le-sum_by f (first ∷ lanes) zero (suc other) lane second apart is_lane is_second =
    omega (
      arith,
      sum_by-cons f first lanes,
      ap f (same_Some first lane is_lane),
      at-le-sum_by f lanes other second is_second,
    )
two-le-sum_by f (first ∷ lanes) (suc index) zero lane second apart is_lane is_second =
    omega (
      arith,
      sum_by-cons f first lanes,
      ap f (same_Some first second is_second),
      at-le-sum_by f lanes index lane is_lane,
    )
two-le-sum_by f (first ∷ lanes) (suc index) (suc other) lane second apart is_lane is_second =
    omega (
      arith,
      sum_by-cons f first lanes,
      two-le-sum_by f lanes index other lane second (λ same. apart (ap suc same)) is_lane is_second,
    )

-- if each lane has of the one no more than of the other, so have all
pub sum_by-le-each : (f g : Lane → ℕ) (lanes : List Lane) → All (λ l. f l ≤ g l) lanes → sum_by f lanes ≤ sum_by g lanes
sum_by-le-each f g [] each = omega arith
sum_by-le-each f g (lane ∷ lanes) each =
    let later : sum_by f lanes ≤ sum_by g lanes =
    sum_by-le-each f g lanes (All-tail (λ l. f l ≤ g l) lane lanes each) in
    omega (arith, sum_by-cons f lane lanes, sum_by-cons g lane lanes, All-head (λ l. f l ≤ g l) lane lanes each, later)

-- if no lane has any, all have none
pub sum_by-none : (f : Lane → ℕ) (lanes : List Lane) → All (λ l. f l ≡ 0) lanes → sum_by f lanes ≡ 0
sum_by-none f [] none = refl
sum_by-none f (lane ∷ lanes) none =
    let later : sum_by f lanes ≡ 0 = sum_by-none f lanes (All-tail (λ l. f l ≡ 0) lane lanes none) in
    omega (arith, sum_by-cons f lane lanes, All-head (λ l. f l ≡ 0) lane lanes none, later)

-- and so have all outside one lane
pub sum_by-le-outside : (f g : Lane → ℕ) (lanes : List Lane) (index : ℕ) (lane : Lane)
    → slice_get lanes index ≡ Some lane → All (λ l. f l ≤ g l) lanes
    → sum_by f lanes + g lane ≤ sum_by g lanes + f lane
sum_by-le-outside f g [] index lane is_lane each = absurd (cc)
sum_by-le-outside f g (first ∷ lanes) zero lane is_lane each =
    let same : first ≡ lane = same_Some first lane is_lane in
    let later : sum_by f lanes ≤ sum_by g lanes =
    sum_by-le-each f g lanes (All-tail (λ l. f l ≤ g l) first lanes each) in
    omega (arith, sum_by-cons f first lanes, sum_by-cons g first lanes, later, ap f same, ap g same)
sum_by-le-outside f g (first ∷ lanes) (suc index) lane is_lane each =
    let later = sum_by-le-outside f g lanes index lane is_lane (All-tail (λ l. f l ≤ g l) first lanes each) in
    omega (
      arith,
      sum_by-cons f first lanes,
      sum_by-cons g first lanes,
      All-head (λ l. f l ≤ g l) first lanes each,
      later,
    )

-- a lane that is put somewhere leaves the others
pub slice_get-put_other : (lanes : List Lane) (index other : ℕ) (new lane : Lane) → other ≢ index
    → slice_get lanes other ≡ Some lane → slice_get (set lanes index new) other ≡ Some lane
slice_get-put_other [] index other new lane apart is_lane = is_lane
slice_get-put_other (first ∷ lanes) zero zero new lane apart is_lane = absurd (apart refl)
slice_get-put_other (first ∷ lanes) zero (suc other) new lane apart is_lane = is_lane
slice_get-put_other (first ∷ lanes) (suc index) zero new lane apart is_lane = is_lane
slice_get-put_other (first ∷ lanes) (suc index) (suc other) new lane apart is_lane =
    slice_get-put_other lanes index other new lane (λ same. apart (ap suc same)) is_lane
