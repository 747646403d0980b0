use Rattle.std.proofs.Common.{sym, arith, rules}
use Rattle.std.proofs.lemmas.Option.{slice_get_within}
use Rattle.ob_core.specs.Inside.{core_of}
use Rattle.ob_core.proofs.SoundLemmas.{IsSound-turn_step, IsSound-turn_nothing, FitsTotal-turn}
use Rattle.ob_core.proofs.TurnLemmas.{HasTurn-found}
use Rattle.ob_core.proofs.world.World.turn.Goals as goal

pub invariant_of-self-in_default-step : goal.invariant_of-self-in_default-step
invariant_of-self-in_default-step c =
    let core = core_of c.self.inside in
    let has = HasTurn-found core c.args.turn c.in-Some.ensures c.deref.ensures.value c.in_default-refusal.ensures in
    let no_step = sym c.in_default-step.ensures in
    rw c.after_nothing.ensures (IsSound-turn_nothing core c.args.turn c.in-Some.lane has no_step c.self.invariant)

pub word_after-self-inside-requires-clause-total : goal.word_after-self-inside-requires-clause-total
word_after-self-inside-requires-clause-total c =
    let core = core_of c.self.inside in
    let has = HasTurn-found core c.args.turn c.in-Some.ensures c.deref.ensures.value c.in_default-refusal.ensures in
    let is_step = sym c.in-Some-step.ensures in
    FitsTotal-turn core c.args.turn c.in-Some.lane c.in-Some-step.step has is_step c.self.invariant

pub total_after-self-inside-requires : goal.total_after-self-inside-requires
total_after-self-inside-requires c =
    let core = core_of c.self.inside in
    let has = HasTurn-found core c.args.turn c.in-Some.ensures c.deref.ensures.value c.in_default-refusal.ensures in
    let is_step = sym c.in-Some-step.ensures in
    FitsTotal-turn core c.args.turn c.in-Some.lane c.in-Some-step.step has is_step c.self.invariant

pub index_mut-requires-2 : goal.index_mut-requires-2
index_mut-requires-2 c =
    let core = core_of c.self.inside in
    let has = HasTurn-found core c.args.turn c.in-Some.ensures c.deref.ensures.value c.in_default-refusal.ensures in
    let within = slice_get_within core.lanes c.args.turn.lane c.in-Some.lane has.is_lane in
    omega (arith, within, c.self.inside.lanes.ok.0)

pub invariant_of-self-2 : goal.invariant_of-self-2
invariant_of-self-2 c =
    let core = core_of c.self.inside in
    let has = HasTurn-found core c.args.turn c.in-Some.ensures c.deref.ensures.value c.in_default-refusal.ensures in
    let is_step = sym c.in-Some-step.ensures in
    let sound = IsSound-turn_step core c.args.turn c.in-Some.lane c.in-Some-step.step has is_step c.self.invariant in
    rw (c.lane_after.ensures, c.word_after-self-inside.ensures, c.total_after-self-inside.ensures) sound

-- Named for the must-fail edits that fail here: `search` finds it unasked (CONTRIBUTING.md).
pub returns-in_default-clause-change : goal.returns-in_default-clause-change
returns-in_default-clause-change c = search rules

pub returns-in-Some-refusal-clause-change : goal.returns-in-Some-refusal-clause-change
returns-in-Some-refusal-clause-change c = search rules

pub returns-in_default-step-clause-change : goal.returns-in_default-step-clause-change
returns-in_default-step-clause-change c = search rules

pub returns-clause-change : goal.returns-clause-change
returns-clause-change c = search rules
