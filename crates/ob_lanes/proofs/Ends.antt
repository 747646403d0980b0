-- What the words hold when one lane has the whole room.
use Rattle.std.proofs.Common.{◌≡◌, ℕ, ◌<◌, ◌≤◌, false, List, map, Some, sym, ap, ◌∙◌}
use Rattle.std.specs.Int.{bit_at}
use Rattle.std.specs.List.{slice_get}
use Rattle.atomic_table.specs.declared.shared.Seat.{Seat}
use Rattle.ob_types.specs.Marks.{word_half, total_half}
use Rattle.ob_core.specs.World.{is_set, Grant}
use Rattle.ob_core.specs.declared.lane.Lane.{Lane}
use Rattle.ob_core.specs.Step.{IsFree}
use Rattle.ob_lanes.specs.Run.{EndsRun, EndedAt, EndedIn, RunningLane, ShowsHeld}
use Rattle.ob_lanes.specs.Ruled.{HasEnded}
use Rattle.std.proofs.lemmas.List.Elements.{All-weaker}
use Rattle.ob_lanes.specs.Inside.{IsEnd}
use Rattle.ob_lanes.specs.declared.facts.Facts.{Facts}
use Rattle.ob_core.proofs.AccountsLemmas.{shown-held, nothing_left, mark_clear}
use Rattle.ob_lanes.proofs.KeptAccounts.{not_opened}
use Rattle.ob_lanes.proofs.Moves.{core, stands, begins_seen}
use Rattle.ob_lanes.proofs.Views.{slice_get_map, made_at-here, spent-apart}

abbrev lane_of : Facts → Lane
lane_of facts = facts.lane

module _ (grant : Grant) (seat : Seat (Unit {0}) Facts) (both : ℕ) (end : IsEnd grant seat both) where
  abbrev facts : Facts
  facts = seat.me.0

  abbrev lanes : List Lane
  lanes = map lane_of end.state.views

  at_lane : slice_get lanes seat.id ≡ Some facts.lane
  at_lane = slice_get_map lane_of end.state.views seat.id facts end.at

  pub held_shown : ShowsHeld facts.lane (word_half both)
  held_shown index held =
      ap (λ n. bit_at n index) (ap word_half (sym end.both_is))
      ∙ shown-held grant (core grant end.state) seat.id facts.lane index end.ruled.accounts.bits at_lane held

  -- the lanes that the seat has taken in stand in the run, each at a place of its own
  all_ended : facts.spent ≡ false → EndedIn end.ruled.run.moves seat.id facts.taken
  all_ended live =
      let run = end.ruled.run in
      let views = end.state.views in
      let have = end.ruled.taken seat.id facts end.at in
      record {
        placed = have.placed;
        all_of_them = have.all_of_them;
        apart = have.apart;
        stand = All-weaker (HasEnded views end.ruled.owner seat.id) (EndedAt run.moves seat.id) (λ its has. record {
          elsewhere = spent-apart views seat.id its.0 facts has.facts end.at live has.at has.spent;
          is_named = ap (λ names. slice_get names its.0) (sym run.named)
              ∙ slice_get_map (λ (f : Facts). f.name) views its.0 has.facts has.at ∙ ap Some has.name;
          is_made = run.own its.0 ∙ made_at-here views its.0 has.facts has.at ∙ has.made;
        }) have.placed have.ended;
      }

  pub runs : (lane : RunningLane) → lane.words.grant ≡ grant → lane.lane ≡ facts.lane → lane.made ≡ facts.made
      → lane.seen ≡ facts.seen → lane.name ≡ facts.name → lane.taken ≡ facts.taken → facts.spent ≡ false → EndsRun lane (total_half both) (word_half both)
  runs lane same_grant same_lane same_made same_seen same_name same_taken live =
      let here = stands grant end.state seat.id facts end.ruled end.at in
      record {
        core = core grant end.state;
        moves = end.ruled.run.moves;
        seat = seat.id;
        in_run = rw (same_grant, same_lane, same_made, same_name) here;
        begins = rw same_seen (begins_seen grant end.state seat.id facts end.ruled end.at);
        ended = rw same_taken (all_ended live);
        total_is = ap total_half end.both_is;
        word_is = ap word_half end.both_is;
      }

  -- no lane has raised a bit that the grant has not
  pub foreign_clear : (index : ℕ) → 0 < index → bit_at grant.bits index ≡ 0 → bit_at (word_half both) index ≡ 0
  foreign_clear index user none =
      ap (λ n. bit_at n index) (ap word_half (sym end.both_is))
      ∙ not_opened grant (core grant end.state) index end.ruled.accounts user none

  module _ (free : IsFree facts.lane) (whole : grant.room ≤ facts.lane.room) where
    pub none_left : total_half both ≡ 0
    none_left =
        ap total_half (sym end.both_is) ∙ nothing_left grant (core grant end.state) seat.id facts.lane end.ruled.accounts at_lane
        free whole

    pub mark_is_clear : 0 < grant.marks.low → is_set (word_half both) 0 ≡ false
    mark_is_clear positive =
        ap (λ n. is_set n 0) (ap word_half (sym end.both_is))
        ∙ mark_clear grant (core grant end.state) seat.id facts.lane end.ruled.accounts at_lane free whole positive
