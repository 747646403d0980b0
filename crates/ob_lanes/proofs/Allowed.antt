-- Which steps a seat may make on the one word: what the table asks of each.
use Rattle.std.proofs.Common.{◌≡◌, ℕ, ◌+◌, ◌-◌, ◌%◌, ◌^◌, ◌<◌, get_or, ap, subst, sym, ◌∙◌, refl, arith}
use Rattle.std.proofs.Common.{Bool, true, false, eqb, bit_and, bit_or, unwrap_or, ◌≤◌}
use Rattle.std.specs.Int.{w64, bit_not}
use mathlib.Core.Option.{some, none}
use lib.ListN.{get_elem?}
use Rattle.std.proofs.lemmas.Bool.{eqb-true, eqb-false}
use Rattle.atomic_table.specs.Table.{Step, step, Allows}
use Rattle.atomic_table.specs.declared.shared.Seat.{Seat}
use prog.Atomic.{either}
use Rattle.ob_types.specs.Marks.{total_half, Marks}
use Rattle.ob_core.specs.World.{owed_by, Grant}
use Rattle.ob_core.proofs.StepLemmas.{total_half-packed}
use Rattle.ob_core.specs.declared.lane_step.LaneStep.{LaneStep}
use Rattle.ob_core.specs.declared.lane_step.LaneStep.TheVariants.{Add, Subtract, SetBit, ClearBit, Load}
use Rattle.ob_core.proofs.AccountsLemmas.{owed_by-le-total, total-le-outside, shown-held}
use Rattle.ob_core.proofs.BitLemmas.{or-is-with_bit, and-is-without_bit}
use Rattle.ob_lanes.specs.Inside.{AreWords, words_of}
use Rattle.ob_lanes.specs.Ruled.{Ruled, packed_after, Knows, MayMake, Told, ToldTry, ToldOfBit, IsCalm, Makes}
use Rattle.ob_lanes.specs.Ruled.{MayExpect, PackedTold, MakesOrReads}
use Rattle.ob_lanes.specs.Run.{WordsValue}
use Rattle.ob_lanes.specs.declared.facts.Facts.{Facts}
use Rattle.ob_lanes.specs.declared.words.Words.TheInside.{Inside as WordsInside}
use Rattle.ob_lanes.proofs.Calm.{clear_after_run, sum_calm, rest_calm}
use Rattle.ob_lanes.proofs.KeptAccounts.{word_fits}
use Rattle.ob_lanes.proofs.Moves.{St, core, may_make, grant_known}
use Rattle.ob_lanes.proofs.Packs.{halves_packed, with_bit-halves, without_bit-halves}
use Rattle.ob_lanes.proofs.Views.{slice_get_map}

-- what a seat learns from what it finds
packed_told : (grant : Grant) (s : St) (id : ℕ) (facts : Facts) → grant.bits < 2 ^ 32 → Ruled grant s
    → get_elem? s.views id ≡ some facts → PackedTold facts (get_or s.words 8 0)
packed_told grant s id facts bits ruled at =
    let here = slice_get_map (λ (f : Facts). f.lane) s.views id facts at in
    let room : facts.grant.room ≡ grant.room =
    ap (λ (o : Grant). o.room) (grant_known grant s id facts ruled at) in
    record {
      no_less = owed_by-le-total grant (core grant s) id facts.lane ruled.accounts.bytes here;
      no_more = omega (arith, total-le-outside grant (core grant s) id facts.lane ruled.accounts.bytes here, room);
      fits = word_fits grant (core grant s) ruled.accounts bits;
      shows = λ index. shown-held grant (core grant s) id facts.lane index ruled.accounts.bits here;
    }

module _ (words : WordsInside) (are : AreWords words) (value : WordsValue) (view_is : words_of words ≡ value)
    (seat : Seat (Unit {0}) Facts) where
  abbrev grant : Grant
  grant = words.table.shared.key

  abbrev me : Knows
  me = seat.me

  -- the seat may make a step that makes this of the word, and is told this
  abbrev pub MayDo : (ℕ → ℕ) → (ℕ → Knows → Type 0) → Type 0
  MayDo makes then =
      (seat.table_id ≡ words.table.shared.table_id)
      × (8 < words.table.shared.table_id.words)
      × Allows (Ruled grant) words.table.shared.table_id.slots seat.id me 8 makes then

  -- what is computed under the marks that the words tell is computed under those of their table
  pub under_marks : (step : LaneStep) (marks : Marks) (found next : ℕ) → marks ≡ value.grant.marks
      → next ≡ packed_after step marks found → next ≡ packed_after step grant.marks found
  under_marks step marks found next is computes =
      let same = are.key ∙ ap (λ (v : WordsValue). v.grant) view_is in
      computes ∙ ap (λ m. packed_after step m found) (is ∙ sym (ap (λ (o : Grant). o.marks) same))

  -- if the lane may make the step, and it makes of the word what the core says
  always : (step : LaneStep) → MayMake value seat step → (makes : ℕ → ℕ)
      → ((found : ℕ) → found < 2 ^ 64 → makes found ≡ packed_after step grant.marks found)
      → MayDo makes (Told step me)
  always step asked makes computes =
      let sixteen = are.sixteen in (
        asked.of.0 ∙ sym (ap (λ (v : WordsValue). v.table_id) view_is),
        omega (arith, sixteen),
        λ s ruled homes at small.
            let told = packed_told grant s seat.id me.0 are.bits_fit ruled at in
            let found = get_or s.words 8 0 in
            may_make grant s seat.id (makes found) me step are.room_fits ruled at asked.of.2 asked.may (computes found small) told,
      )

  pub may_load : MayMake value seat Load → MayDo (λ n. n) (Told Load me)
  may_load asked = always Load asked (λ n. n) (λ found small. sym (halves_packed found))

  -- if no total is above the high mark, the table may let the lane add at once, and subtract
  module _ (calm : IsCalm value.grant) where
    calm_here : grant.room ≤ grant.marks.high
    calm_here =
        let same = are.key ∙ ap (λ (v : WordsValue). v.grant) view_is in
        let room : grant.room ≡ value.grant.room = ap (λ (o : Grant). o.room) same in
        let high : grant.marks.high ≡ value.grant.marks.high = ap (λ (o : Grant). o.marks.high) same in
        omega (arith, room, high, calm)

    at_once : (step : LaneStep) → MayMake value seat step → (makes : ℕ → ℕ)
        → ((s : St) → Ruled grant s → PackedTold me.0 (get_or s.words 8 0)
        → makes (get_or s.words 8 0) ≡ packed_after step grant.marks (get_or s.words 8 0))
        → MayDo makes (Told step me)
    at_once step asked makes computes =
        let sixteen = are.sixteen in (
          asked.of.0 ∙ sym (ap (λ (v : WordsValue). v.table_id) view_is),
          omega (arith, sixteen),
          λ s ruled homes at small.
              let told = packed_told grant s seat.id me.0 are.bits_fit ruled at in
              may_make grant s seat.id (makes (get_or s.words 8 0)) me step are.room_fits ruled at asked.of.2 asked.may
              (computes s ruled told) told,
        )

    pub may_add : (amount k : ℕ) → k ≡ amount → MayMake value seat (Add amount)
        → MayDo (λ n. (n + k) % 2 ^ 64) (Told (Add k) me)
    may_add amount k is asked =
        subst (λ n. MayDo (λ m. (m + n) % 2 ^ 64) (Told (Add n) me)) (sym is)
        (at_once (Add amount) asked (λ n. (n + amount) % 2 ^ 64) (λ s ruled told.
        let nothing : owed_by me.0.lane ≡ 0 = ap (λ debt. unwrap_or debt 0) asked.may.0 in
        let room : me.0.grant.room ≡ value.grant.room = ap (λ (o : Grant). o.room) asked.of.1 in
        let whole = ap (λ (o : Grant). o.room) (are.key ∙ ap (λ (v : WordsValue). v.grant) view_is) in
        let fits = are.room_fits in
        sum_calm grant.marks (get_or s.words 8 0) amount told.fits
        (omega (arith, nothing, room, whole, told.no_more, asked.may.2, calm_here))
        (omega (arith, nothing, room, whole, told.no_more, asked.may.2, fits))))

    pub may_subtract : (amount k : ℕ) → k ≡ amount → MayMake value seat (Subtract amount)
        → MayDo (λ n. (n + (2 ^ 64 - k)) % 2 ^ 64) (Told (Subtract k) me)
    may_subtract amount k is asked =
        subst (λ n. MayDo (λ m. (m + (2 ^ 64 - n)) % 2 ^ 64) (Told (Subtract n) me)) (sym is)
        (at_once (Subtract amount) asked (λ n. (n + (2 ^ 64 - amount)) % 2 ^ 64) (λ s ruled told.
        let all_of_it : owed_by me.0.lane ≡ amount = ap (λ debt. unwrap_or debt 0) asked.may.0 in
        rest_calm grant.marks (get_or s.words 8 0) amount told.fits (omega (arith, all_of_it, told.no_less))
        (clear_after_run grant ruled.run.moves (core grant s) ruled.accounts.bits.mark calm_here ruled.run.leads)))

  -- an exchange is the step if it finds what it expects, and a read otherwise
  module _ (step : LaneStep) (asked : MayMake value seat step) (expected next : ℕ)
      (computes : next ≡ packed_after step grant.marks expected) where
    by_case : (s : St) (ruled : Ruled grant s) (at : get_elem? s.views seat.id ≡ some me.0) (same : Bool)
        → eqb (get_or s.words 8 0) expected ≡ same
        → (new : Facts) × (act : Rattle.atomic_table.specs.Table.Act (Unit {0}))
        × Rattle.atomic_table.specs.Table.Valid s.homes me.1 act
        × Ruled grant
        (Rattle.atomic_table.specs.Table.stepped s 8 (either same next (get_or s.words 8 0)) seat.id me.1 new act)
        × ToldTry step expected me (get_or s.words 8 0) (new, Rattle.atomic_table.specs.Table.carried_after me.1 act)
    by_case s ruled at true is =
        let found = get_or s.words 8 0 in
        let same : found ≡ expected = eqb-true found expected is in
        let told = packed_told grant s seat.id me.0 are.bits_fit ruled at in
        let t = may_make grant s seat.id next me step are.room_fits ruled at asked.of.2 asked.may
        (computes ∙ ap (packed_after step grant.marks) (sym same)) told in
        (t.0, t.1, t.2, t.3, record { made = λ _. t.4; read = λ other. absurd (other same) })
    by_case s ruled at false is =
        let found = get_or s.words 8 0 in
        let told = packed_told grant s seat.id me.0 are.bits_fit ruled at in
        let t = may_make grant s seat.id found me Load are.room_fits ruled at asked.of.2 tt (sym (halves_packed found)) told in
        (t.0, t.1, t.2, t.3, record { made = λ same. absurd (eqb-false found expected is same); read = λ _. t.4 })

    pub may_try : MayDo (λ n. either (eqb n expected) next n) (ToldTry step expected me)
    may_try =
        let sixteen = are.sixteen in (
          asked.of.0 ∙ sym (ap (λ (v : WordsValue). v.table_id) view_is),
          omega (arith, sixteen),
          λ s ruled homes at small. by_case s ruled at (eqb (get_or s.words 8 0) expected) refl,
        )

  -- an exchange that moves the total is told by how much
  pub may_move : (step_of : ℕ → LaneStep) (amount moved found next : ℕ) (marks : Marks)
      → MayMake value seat (step_of amount) → marks ≡ value.grant.marks
      → next ≡ packed_after (step_of amount) marks found → moved ≡ amount
      → MayDo (λ n. either (eqb n found) next n) (ToldTry (step_of moved) found me)
  may_move step_of amount moved found next marks asked are_marks computes is =
      subst (λ n. MayDo (λ m. either (eqb m found) next m) (ToldTry (step_of n) found me)) (sym is)
      (may_try (step_of amount) asked found next (under_marks (step_of amount) marks found next are_marks computes))

  -- a step of a bit is told of the bit that its mask is of
  of_bit : (bit_step : ℕ → LaneStep) (mask_of : ℕ → ℕ) (index mask : ℕ) (makes : ℕ → ℕ) → mask ≡ mask_of index
      → index < 32 → MayDo makes (Told (bit_step index) me)
      → MayDo makes (ToldOfBit bit_step mask_of (step words.table.shared.table_id.slots 8 mask 0 none) me)
  of_bit bit_step mask_of index mask makes is within may = (
    may.0,
    may.1,
    λ s ruled homes at small.
        let t = may.2 s ruled homes at small in
        (t.0, t.1, t.2, t.3, record { index = index; within = within; mask = is; told = t.4 }),
  )

  pub may_set : (index mask : ℕ) → mask ≡ 2 ^ (index + 32) → index < 32 → MayMake value seat (SetBit index)
      → MayDo (λ n. bit_or n mask)
      (ToldOfBit SetBit (λ i. 2 ^ (i + 32)) (step words.table.shared.table_id.slots 8 mask 0 none) me)
  may_set index mask is within may =
      of_bit SetBit (λ i. 2 ^ (i + 32)) index mask (λ n. bit_or n mask) is within
      (always (SetBit index) may (λ n. bit_or n mask) (λ found small.
      ap (bit_or found) is ∙ or-is-with_bit found (index + 32) ∙ with_bit-halves found index))

  pub may_clear : (index mask : ℕ) → mask ≡ bit_not w64 (2 ^ (index + 32)) → index < 32
      → MayMake value seat (ClearBit index) → MayDo (λ n. bit_and n mask)
      (ToldOfBit ClearBit (λ i. bit_not w64 (2 ^ (i + 32))) (step words.table.shared.table_id.slots 8 mask 0 none) me)
  may_clear index mask is within may =
      of_bit ClearBit (λ i. bit_not w64 (2 ^ (i + 32))) index mask (λ n. bit_and n mask) is within
      (always (ClearBit index) may (λ n. bit_and n mask) (λ found small.
      ap (bit_and found) is ∙ and-is-without_bit w64 found (index + 32) small (omega (arith, within))
      ∙ without_bit-halves found index))

-- by how much an exchange moves the total is read off its two values: a charge that a lane may make fits
pub added_is : {value : WordsValue} (seat : Seat (Unit {0}) Facts) (amount found next : ℕ) (marks : Marks)
    → value.grant.room < 4294967296 → MayMake value seat (Add amount) → MayExpect seat.me.0 found
    → next ≡ packed_after (Add amount) marks found → total_half next - total_half found ≡ amount
added_is seat amount found next marks room asked told computes =
    let nothing : owed_by seat.me.0.lane ≡ 0 = ap (λ debt. unwrap_or debt 0) asked.may.0 in
    let same = ap (λ (o : Grant). o.room) asked.of.1 in
    let fits : total_half found + amount < 4294967296 = omega (arith, nothing, told.no_more, asked.may.2, room, same) in
    omega (arith, ap total_half computes ∙ total_half-packed _ _ fits)

-- and what it owes is there
pub taken_is : {value : WordsValue} (seat : Seat (Unit {0}) Facts) (amount found next : ℕ) (marks : Marks)
    → MayMake value seat (Subtract amount) → MayExpect seat.me.0 found
    → next ≡ packed_after (Subtract amount) marks found → total_half found - total_half next ≡ amount
taken_is seat amount found next marks asked told computes =
    let all_of_it : owed_by seat.me.0.lane ≡ amount = ap (λ debt. unwrap_or debt 0) asked.may.0 in
    let least : amount ≤ total_half found = omega (arith, all_of_it, told.no_less) in
    let fits : total_half found - amount < 4294967296 = omega arith in
    omega (arith, ap total_half computes ∙ total_half-packed _ _ fits, least)

-- so that the seat has made the step of the amount, or has read
pub made_or_read : (step_of : ℕ → LaneStep) {amount moved found now : ℕ} {old new : Seat (Unit {0}) Facts}
    → moved ≡ amount
    → (new.table_id ≡ old.table_id) × (new.id ≡ old.id) × ToldTry (step_of moved) found old.me now new.me
    → MakesOrReads (step_of amount) found old now new
made_or_read step_of {found = found} {now = now} {old = old} {new = new} is ensured = record {
  same = (ensured.0, ensured.1);
  told = subst (λ n. ToldTry (step_of n) found old.me now new.me) is ensured.2;
}

-- or that it has made the step at once
pub made_at_once : (step_of : ℕ → LaneStep) {amount moved found : ℕ} {old new : Seat (Unit {0}) Facts} → moved ≡ amount
    → (new.table_id ≡ old.table_id) × (new.id ≡ old.id) × Told (step_of moved) old.me found new.me
    → Makes (step_of amount) old found new
made_at_once step_of {found = found} {old = old} {new = new} is ensured = record {
  same = (ensured.0, ensured.1);
  told = subst (λ n. Told (step_of n) old.me found new.me) is ensured.2;
}

-- a charge that a lane may make fits what it finds
pub added_fits : {value : WordsValue} (seat : Seat (Unit {0}) Facts) (amount found : ℕ)
    → value.grant.room < 4294967296 → MayMake value seat (Add amount) → PackedTold seat.me.0 found
    → total_half found + amount < 4294967296
added_fits seat amount found room asked told =
    let nothing : owed_by seat.me.0.lane ≡ 0 = ap (λ debt. unwrap_or debt 0) asked.may.0 in
    let same = ap (λ (o : Grant). o.room) asked.of.1 in
    omega (arith, nothing, told.no_more, asked.may.2, room, same)

-- and what it owes is in what it finds
pub taken_fits : {value : WordsValue} (seat : Seat (Unit {0}) Facts) (amount found : ℕ)
    → MayMake value seat (Subtract amount) → PackedTold seat.me.0 found → amount ≤ total_half found
taken_fits seat amount found asked told =
    let all_of_it : owed_by seat.me.0.lane ≡ amount = ap (λ debt. unwrap_or debt 0) asked.may.0 in
    omega (arith, all_of_it, told.no_less)

-- if no two bits have one mask, a step that is told of the bit of its mask is told of its bit
pub told_of : (bit_step : ℕ → LaneStep) (mask_of : ℕ → ℕ)
    → ((a b : ℕ) → a < 32 → b < 32 → mask_of a ≡ mask_of b → a ≡ b) → (index : ℕ) → index < 32
    → (by : Step (Unit {0})) (old : Knows) (found : ℕ) (new : Knows) → by.first ≡ mask_of index
    → ToldOfBit bit_step mask_of by old found new → Told (bit_step index) old found new
told_of bit_step mask_of apart index within by old found new is told =
    subst (λ i. Told (bit_step i) old found new) (apart told.index index told.within within (sym told.mask ∙ is)) told.told
