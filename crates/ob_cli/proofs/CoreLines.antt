-- What a core session has carried out, one line after another.
use Rattle.std.proofs.Common.{◌≡◌, ◌∙◌, ◌++◌, Bool, true, false, cond, List, [], ◌∷◌, Option, None, Some, Result, Ok}
use Rattle.std.proofs.Common.{Err, IfOk, refl, ap, sym}
use Rattle.std.specs.Prelude.{option_map}
use Rattle.ob_types.specs.Marks.{Marks}
use Rattle.ob_core.specs.World.{sum_owed, CoreState, WorldState, new_core}
use Rattle.ob_core.specs.Turn.{core_after_all, core_after}
use Rattle.ob_core.specs.declared.ask.Turn.{Turn}
use Rattle.ob_core.specs.declared.lane_start.LaneStart.{LaneStart}
use Rattle.ob_cli.specs.Inside.{HasPlayed, core_once}
use Rattle.ob_cli.specs.Turns.{core_behind, core_last_text, has_any, has_lane, has_turn, lanes_of, turns_of, end_text}
use Rattle.ob_cli.specs.declared.turns.line.CoreLine.{CoreLine}
use Rattle.ob_cli.specs.declared.turns.line.CoreLine.TheVariants as line
use Rattle.ob_cli.specs.declared.turns.session.CoreSession.{CoreSession}

-- a turn more brings no lane, and stands behind the other turns
lanes_of-turn : (lines : List CoreLine) (turn : Turn) → lanes_of (lines ++ line.Turn turn ∷ []) ≡ lanes_of lines
lanes_of-turn [] turn = refl
lanes_of-turn (line.Lane start ∷ lines) turn = ap (λ s. start ∷ s) (lanes_of-turn lines turn)
lanes_of-turn (line.Turn first ∷ lines) turn = refl

turns_of-turn : (lines : List CoreLine) (turn : Turn)
    → turns_of (lines ++ line.Turn turn ∷ []) ≡ turns_of lines ++ turn ∷ []
turns_of-turn [] turn = refl
turns_of-turn (line.Lane start ∷ lines) turn = turns_of-turn lines turn
turns_of-turn (line.Turn first ∷ lines) turn = ap (λ t. first ∷ t) (turns_of-turn lines turn)

-- a lane more brings no turn, and if there is none it stands behind the other lanes
turns_of-lane : (lines : List CoreLine) (start : LaneStart) → turns_of (lines ++ line.Lane start ∷ []) ≡ turns_of lines
turns_of-lane [] start = refl
turns_of-lane (line.Lane first ∷ lines) start = turns_of-lane lines start
turns_of-lane (line.Turn turn ∷ lines) start = ap (λ t. turn ∷ t) (turns_of-lane lines start)

lanes_of-lane : (lines : List CoreLine) (start : LaneStart) → has_turn lines ≡ false
    → lanes_of (lines ++ line.Lane start ∷ []) ≡ lanes_of lines ++ start ∷ []
lanes_of-lane [] start none = refl
lanes_of-lane (line.Lane first ∷ lines) start none = ap (λ s. first ∷ s) (lanes_of-lane lines start none)
lanes_of-lane (line.Turn turn ∷ lines) start none = absurd cc

-- one more is something, and a list with nothing is empty
has_any-more : {A : Type 0} (xs : List A) (x : A) → has_any (xs ++ x ∷ []) ≡ true
has_any-more [] x = refl
has_any-more (first ∷ xs) x = refl

has_any-none : {A : Type 0} (xs : List A) → has_any xs ≡ false → xs ≡ []
has_any-none [] none = refl
has_any-none (x ∷ xs) none = absurd cc

-- the core after one turn more
core_after_all-more : (core : CoreState) (turns : List Turn) (turn : Turn)
    → core_after_all core (turns ++ turn ∷ []) ≡ core_after (core_after_all core turns) turn
core_after_all-more core [] turn = refl
core_after_all-more core (first ∷ turns) turn = core_after_all-more (core_after core first) turns turn

-- the core of lanes after turns, if there is a lane
abbrev once : Marks → List LaneStart → List Turn → Option CoreState
once marks starts turns = cond (has_any starts) (Some (core_after_all (new_core marks starts) turns)) None

once-lane : (marks : Marks) (starts : List LaneStart) (start : LaneStart)
    → once marks (starts ++ start ∷ []) [] ≡ Some (new_core marks (starts ++ start ∷ []))
once-lane marks [] start = refl
once-lane marks (first ∷ starts) start = refl

once-turn : (marks : Marks) (starts : List LaneStart) (turns : List Turn) (turn : Turn)
    → option_map (λ core. core_after core turn) (once marks starts turns) ≡ once marks starts (turns ++ turn ∷ [])
once-turn marks [] turns turn = refl
once-turn marks (first ∷ starts) turns turn =
    ap Some (sym (core_after_all-more (new_core marks (first ∷ starts)) turns turn))

core_once-lane : (marks : Marks) (lines : List CoreLine) (start : LaneStart) → has_turn lines ≡ false
    → core_once marks (lines ++ line.Lane start ∷ []) ≡ Some (new_core marks (lanes_of lines ++ start ∷ []))
core_once-lane marks lines start none =
    let turns = turns_of-lane lines start ∙ has_any-none (turns_of lines) none in
    ap (λ s. once marks s (turns_of (lines ++ line.Lane start ∷ []))) (lanes_of-lane lines start none)
    ∙ ap (once marks (lanes_of lines ++ start ∷ [])) turns
    ∙ once-lane marks (lanes_of lines) start

core_once-turn : (marks : Marks) (lines : List CoreLine) (turn : Turn)
    → option_map (λ core. core_after core turn) (core_once marks lines) ≡ core_once marks (lines ++ line.Turn turn ∷ [])
core_once-turn marks lines turn =
    once-turn marks (lanes_of lines) (turns_of lines) turn
    ∙ ap (λ s. once marks s (turns_of lines ++ turn ∷ [])) (sym (lanes_of-turn lines turn))
    ∙ ap (once marks (lanes_of (lines ++ line.Turn turn ∷ []))) (sym (turns_of-turn lines turn))

core_of-turn : (world : Option WorldState) (turn : Turn)
    → option_map (λ (w : WorldState). core_after w.core turn) world
    ≡ option_map (λ core. core_after core turn) (option_map (λ (w : WorldState). w.core) world)
core_of-turn None turn = refl
core_of-turn (Some world) turn = refl

-- a session that took a lane has carried it out
pub lane_done : {E : Type 0} (result : Result Bool E) (old new : CoreSession) (start : LaneStart)
    → new.marks ≡ old.marks
    → IfOk result (λ fits. fits ≡ true → new.starts.items ≡ old.starts.items ++ start ∷ [])
    → IfOk result (λ fits. fits ≡ true
    → option_map (λ world. world.core) new.world ≡ Some (new_core old.marks (old.starts.items ++ start ∷ [])))
    → IfOk result (λ fits. fits ≡ true → (old.turned ≡ false) × (new.turned ≡ false))
    → IfOk result (λ fits. fits ≡ true → (before : List CoreLine) → HasPlayed old before
    → HasPlayed new (before ++ line.Lane start ∷ []))
lane_done (Err error) old new start marks starts core turned = tt
lane_done (Ok fits) old new start marks starts core turned = λ yes before played.
    let none : has_turn before ≡ false = sym played.2 ∙ (turned yes).0 in (
      starts yes ∙ ap (λ s. s ++ start ∷ []) played.0 ∙ sym (lanes_of-lane before start none),
      core yes ∙ ap (λ s. Some (new_core old.marks (s ++ start ∷ []))) played.0
          ∙ sym (core_once-lane old.marks before start none)
          ∙ ap (λ m. core_once m (before ++ line.Lane start ∷ [])) (sym marks),
      (turned yes).1 ∙ sym (ap has_any (turns_of-lane before start) ∙ none),
    )

-- and so has one that gave a turn
pub turn_done : {E : Type 0} (result : Result Bool E) (old new : CoreSession) (turn : Turn) → new.marks ≡ old.marks
    → IfOk result (λ fits. fits ≡ true → new.starts.items ≡ old.starts.items)
    → IfOk result (λ fits. fits ≡ true
    → option_map (λ world. world.core) new.world ≡ option_map (λ world. core_after world.core turn) old.world)
    → IfOk result (λ fits. fits ≡ true → new.turned ≡ true)
    → IfOk result (λ fits. fits ≡ true → (before : List CoreLine) → HasPlayed old before
    → HasPlayed new (before ++ line.Turn turn ∷ []))
turn_done (Err error) old new turn marks starts core turned = tt
turn_done (Ok fits) old new turn marks starts core turned = λ yes before played. (
  starts yes ∙ played.0 ∙ sym (lanes_of-turn before turn),
  core yes ∙ core_of-turn old.world turn ∙ ap (option_map (λ c. core_after c turn)) played.1
      ∙ core_once-turn old.marks before turn
      ∙ ap (λ m. core_once m (before ++ line.Turn turn ∷ [])) (sym marks),
  turned yes ∙ sym (ap has_any (turns_of-turn before turn) ∙ has_any-more (turns_of before) turn),
)

-- the last text, by the core that a session has
last_at : (has : Bool) (core behind : CoreState) → Some core ≡ cond has (Some behind) None
    → end_text (sum_owed core.lanes) ≡ cond has (end_text (sum_owed behind.lanes)) []
last_at true core behind e =
    let same : core ≡ behind = cc in ap (λ (c : CoreState). end_text (sum_owed c.lanes)) same
last_at false core behind e = absurd cc

pub last_text-once : (marks : Marks) (lines : List CoreLine) (core : CoreState) → Some core ≡ core_once marks lines
    → end_text (sum_owed core.lanes) ≡ core_last_text marks lines
last_text-once marks lines core e = last_at (has_lane lines) core (core_behind marks lines) e
