-- Lanes that are divided or merged keep the accounts.
use Rattle.std.proofs.Common.{◌≡◌, ◌≢◌, ℕ, ◌+◌, ◌-◌, ◌^◌, ◌<◌, ◌≤◌, bit_and, List, [], ◌∷◌, ◌++◌, set, Some, None}
use Rattle.std.proofs.Common.{slice_get, unwrap_or, refl, ap, arith}
use Rattle.std.specs.Int.{bit_at, bit_not, Width}
use mir.Val.{bits}
use Rattle.std.specs.List.{All, sum_by}
use Rattle.std.proofs.lemmas.List.Elements.{All-set, All-push}
use Rattle.std.proofs.lemmas.List.Sums.{sum_by_push}
use Rattle.std.proofs.lemmas.Nat.Bits.{bit_at-zero}
use Rattle.ob_core.specs.World.{AccountsHold, IsWithinRoom, holders, raisers, sum_of_rooms, owed_by, sum_owed, AreAmong}
use Rattle.ob_core.specs.World.{CoreState, Grant}
use Rattle.ob_core.specs.Step.{IsFree, AreParts, spent_lane}
use Rattle.ob_core.specs.declared.lane.Lane.{Lane}
use Rattle.ob_core.proofs.AccountsLemmas.{MarkAgrees-lanes}
use Rattle.ob_core.proofs.BitLemmas.{AreAmong-and, MakeUp-and}
use Rattle.ob_core.proofs.LaneSums.{sum_by-put, slice_get-put_other}

abbrev Among : Lane → Type 0
Among lane = AreAmong lane.raised lane.held

-- ---- free lanes

owes_nothing : (lane : Lane) → IsFree lane → owed_by lane ≡ 0
owes_nothing lane free = ap (λ debt. unwrap_or debt 0) free.debt

within_free : (lane : Lane) → IsFree lane → IsWithinRoom lane
within_free lane free = omega (arith, owes_nothing lane free)

spent_free : IsFree spent_lane
spent_free = record { debt = refl }

-- a lane cut in two by a room and a mask: it keeps its other room and its bits outside the mask, and the rest is given
abbrev pub lane_kept : Width → Lane → ℕ → ℕ → Lane
lane_kept w lane room mask = record {
  room = lane.room - room;
  debt = None;
  held = bit_and lane.held (bit_not w mask);
  raised = bit_and lane.raised (bit_not w mask);
}

abbrev pub lane_given : Lane → ℕ → ℕ → Lane
lane_given lane room mask = record {
  room = room;
  debt = None;
  held = bit_and lane.held mask;
  raised = bit_and lane.raised mask;
}

pub AreParts-cut : (w : Width) (lane : Lane) (room mask : ℕ) → IsFree lane → AreAmong lane.raised lane.held
    → room ≤ lane.room → lane.held < 2 ^ bits w → lane.raised < 2 ^ bits w → mask < 2 ^ bits w
    → AreParts lane (lane_kept w lane room mask) (lane_given lane room mask)
AreParts-cut w lane room mask free among within held_fits raised_fits mask_fits = record {
  whole_free = free;
  first_free = record { debt = refl };
  second_free = record { debt = refl };
  rooms = omega (arith, within);
  held = MakeUp-and w lane.held mask held_fits mask_fits;
  raised = MakeUp-and w lane.raised mask raised_fits mask_fits;
  first_among = AreAmong-and lane.raised lane.held (bit_not w mask) among;
  second_among = AreAmong-and lane.raised lane.held mask among;
}

-- ---- what is shared out

owed_shared : (whole first second : Lane) → AreParts whole first second
    → owed_by first + owed_by second ≡ owed_by whole
owed_shared whole first second parts =
    omega (
      arith,
      owes_nothing whole parts.whole_free,
      owes_nothing first parts.first_free,
      owes_nothing second parts.second_free,
    )

-- a sum in which the parts stand for the lane: one in its place, one behind all
sum_by-divided : (f : Lane → ℕ) (lanes : List Lane) (index : ℕ) (lane kept given : Lane)
    → slice_get lanes index ≡ Some lane → f kept + f given ≡ f lane
    → sum_by f (set lanes index kept ++ given ∷ []) ≡ sum_by f lanes
sum_by-divided f lanes index lane kept given is_lane same =
    omega (arith, sum_by_push f (set lanes index kept) given, sum_by-put f lanes index lane kept is_lane, same)

-- the places of the two lanes in a core state
pub record Meet (core : CoreState) (index other : ℕ) (lane other_lane : Lane) : Type 0 where
  pub is_lane : slice_get core.lanes index ≡ Some lane
  pub is_other : slice_get core.lanes other ≡ Some other_lane
  pub apart : other ≢ index

-- a sum in which a lane has what two had, and one that has nothing stands for the second
sum_by-merged : (f : Lane → ℕ) (core : CoreState) (index other : ℕ) (lane other_lane both : Lane)
    → Meet core index other lane other_lane → f lane + f other_lane ≡ f both → f spent_lane ≡ 0
    → sum_by f (set (set core.lanes index both) other spent_lane) ≡ sum_by f core.lanes
sum_by-merged f core index other lane other_lane both meet same none =
    let put : List Lane = set core.lanes index both in
    let still : slice_get put other ≡ Some other_lane =
    slice_get-put_other core.lanes index other both other_lane meet.apart meet.is_other in
    omega (
      arith,
      sum_by-put f core.lanes index lane both meet.is_lane,
      sum_by-put f put other other_lane spent_lane still,
      same,
      none,
    )

-- new lanes have together what the old ones had, and each is as a lane has to be if each old one was
record HaveTogether (old new : List Lane) : Type 0 where
  owed : sum_owed new ≡ sum_owed old
  rooms : sum_of_rooms new ≡ sum_of_rooms old
  held : (i : ℕ) → holders new i ≡ holders old i
  raised : (i : ℕ) → raisers new i ≡ raisers old i
  within : All IsWithinRoom old → All IsWithinRoom new
  among : All Among old → All Among new

-- so their accounts hold
AccountsHold-together : (grant : Grant) (core : CoreState) (lanes : List Lane) → HaveTogether core.lanes lanes
    → AccountsHold grant core → AccountsHold grant (record core { lanes = lanes })
AccountsHold-together grant core lanes have accounts = record {
  bytes = record {
    marks = accounts.bytes.marks;
    total = omega (arith, have.owed, accounts.bytes.total);
    rooms = omega (arith, have.rooms, accounts.bytes.rooms);
    within = have.within accounts.bytes.within;
  };
  mark = MarkAgrees-lanes core lanes accounts.mark;
  bits = record {
    mark = accounts.bits.mark;
    held = λ i. omega (arith, have.held i, accounts.bits.held i);
    among = have.among accounts.bits.among;
    shown = λ i above. omega (arith, have.raised i, accounts.bits.shown i above);
  };
}

pub AccountsHold-division : (grant : Grant) (core : CoreState) (index : ℕ) (lane kept given : Lane)
    → slice_get core.lanes index ≡ Some lane → AreParts lane kept given → AccountsHold grant core
    → AccountsHold grant (record core { lanes = set core.lanes index kept ++ given ∷ [] })
AccountsHold-division grant core index lane kept given is_lane parts =
    let put : List Lane = set core.lanes index kept in
    let divided : (f : Lane → ℕ) → f kept + f given ≡ f lane → sum_by f (put ++ given ∷ []) ≡ sum_by f core.lanes =
    λ f same. sum_by-divided f core.lanes index lane kept given is_lane same in
    AccountsHold-together grant core (put ++ given ∷ []) (record {
      owed = divided owed_by (owed_shared lane kept given parts);
      rooms = divided (λ l. l.room) parts.rooms;
      held = λ i. divided (λ l. bit_at l.held i) (parts.held i);
      raised = λ i. divided (λ l. bit_at l.raised i) (parts.raised i);
      within = λ within. All-push IsWithinRoom put given
          (All-set IsWithinRoom core.lanes index kept (within_free kept parts.first_free) within)
          (within_free given parts.second_free);
      among = λ among. All-push Among put given (All-set Among core.lanes index kept parts.first_among among)
          parts.second_among;
    })

pub AccountsHold-merger : (grant : Grant) (core : CoreState) (index other : ℕ) (lane other_lane both : Lane)
    → Meet core index other lane other_lane → AreParts both lane other_lane → AccountsHold grant core
    → AccountsHold grant (record core { lanes = set (set core.lanes index both) other spent_lane })
AccountsHold-merger grant core index other lane other_lane both meet parts =
    let put : List Lane = set core.lanes index both in
    let merged : (f : Lane → ℕ) → f lane + f other_lane ≡ f both → f spent_lane ≡ 0
    → sum_by f (set put other spent_lane) ≡ sum_by f core.lanes =
    λ f same none. sum_by-merged f core index other lane other_lane both meet same none in
    let among_both : Among both =
    λ i. omega (arith, parts.held i, parts.raised i, parts.first_among i, parts.second_among i) in
    AccountsHold-together grant core (set put other spent_lane) (record {
      owed = merged owed_by (owed_shared both lane other_lane parts) refl;
      rooms = merged (λ l. l.room) parts.rooms refl;
      held = λ i. merged (λ l. bit_at l.held i) (parts.held i) (bit_at-zero i);
      raised = λ i. merged (λ l. bit_at l.raised i) (parts.raised i) (bit_at-zero i);
      within = λ within. All-set IsWithinRoom put other spent_lane (within_free spent_lane spent_free)
          (All-set IsWithinRoom core.lanes index both (within_free both parts.whole_free) within);
      among = λ among. All-set Among put other spent_lane (λ i. omega (arith, bit_at-zero i))
          (All-set Among core.lanes index both among_both among);
    })
