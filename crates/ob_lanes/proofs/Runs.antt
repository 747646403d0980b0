-- Runs that begin with one another, and that the changes of a run take turns.
use Rattle.std.proofs.Common.{◌≡◌, ◌⊎◌, inl, inr, List, [], ◌∷◌, ◌++◌, refl, sym, ap, ◌∙◌, append_assoc, ℕ, ◌<◌, ◌^◌}
use Rattle.std.proofs.Common.{Bool, true, false, arith}
use Rattle.std.proofs.lemmas.List.Elements.{All-weaker, All-cons, All-nil, All-head}
use Rattle.std.specs.List.{cons_option}
use Rattle.ob_types.specs.Marks.{is_writable, turn, change_between}
use Rattle.ob_types.specs.declared.reply.Change.{Change}
use Rattle.ob_core.specs.World.{is_set, CoreState, Grant, one_lane}
use Rattle.ob_core.specs.Step.{IsCoreStep, change_found, value_found}
use Rattle.ob_core.specs.declared.lane_step.LaneStep.{LaneStep}
use Rattle.ob_core.proofs.AccountsLemmas.{total-le-room}
use Rattle.ob_core.proofs.StepLemmas.{change_found-between}
use Rattle.ob_lanes.specs.Run.{BeginsWith, BeginsWithAll, changes_of, writable_after, TakeTurns, Leads}
use Rattle.ob_lanes.specs.declared.facts.Move.{Move}
use Rattle.ob_lanes.specs.declared.facts.Move.TheVariants.{Steps, Divides, Merges}
use Rattle.ob_lanes.proofs.KeptAccounts.{accounts_after_run}

-- a run begins with itself, and with what one begins with that it begins with
pub begins_itself : (run : List Move) → BeginsWith run run
begins_itself run = record { later = []; run_is = refl }

pub begins_through : (run middle earlier : List Move) → BeginsWith run middle → BeginsWith middle earlier
    → BeginsWith run earlier
begins_through run middle earlier late early = record {
  later = late.later ++ early.later;
  run_is = late.run_is ∙ ap (λ ms. late.later ++ ms) early.run_is
      ∙ sym (append_assoc late.later early.later earlier);
}

-- a move more leaves what a run begins with
pub begins_more : (move : Move) (run earlier : List Move) → BeginsWith run earlier → BeginsWith (move ∷ run) earlier
begins_more move run earlier begins = record { later = move ∷ begins.later; run_is = ap (λ ms. move ∷ ms) begins.run_is }

pub begins_all_more : (move : Move) (run : List Move) (runs : List (List Move)) → BeginsWithAll run runs
    → BeginsWithAll (move ∷ run) runs
begins_all_more move run runs begins =
    All-weaker (BeginsWith run) (BeginsWith (move ∷ run)) (begins_more move run) runs begins

-- it begins with one run alone
pub begins_one : (run earlier : List Move) → BeginsWith run earlier → BeginsWithAll run (earlier ∷ [])
begins_one run earlier begins = All-cons (BeginsWith run) earlier [] begins (All-nil (BeginsWith run))

-- what begins with a run and a move more begins with all that the run begins with
pub begins_behind : (move : Move) (before : List Move) (runs : List (List Move)) (run : List Move)
    → BeginsWithAll before runs → BeginsWithAll run ((move ∷ before) ∷ []) → BeginsWithAll run runs
begins_behind move before runs run begins whole =
    let late = All-head (BeginsWith run) (move ∷ before) [] whole in
    All-weaker (BeginsWith before) (BeginsWith run)
    (λ earlier early. begins_through run (move ∷ before) earlier late (begins_more move before earlier early)) runs begins

-- of two beginnings of one run, one is a beginning of the other
in_line_by : (a b first second : List Move) → a ++ first ≡ b ++ second
    → BeginsWith first second ⊎ BeginsWith second first
in_line_by [] b first second same = inl (record { later = b; run_is = same })
in_line_by (x ∷ a) [] first second same = inr (record { later = x ∷ a; run_is = sym same })
in_line_by (x ∷ a) (y ∷ b) first second same = in_line_by a b first second (tails same)
  where
    tail_of : List Move → List Move
    tail_of [] = []
    tail_of (z ∷ zs) = zs

    tails : {p q : Move} {ps qs : List Move} → p ∷ ps ≡ q ∷ qs → ps ≡ qs
    tails whole = ap tail_of whole

pub in_line : (run first second : List Move) → BeginsWith run first → BeginsWith run second
    → BeginsWith first second ⊎ BeginsWith second first
in_line run first second one other =
    in_line_by one.later other.later first second (sym one.run_is ∙ other.run_is)

-- changes that take turns, and say whether the word is 0
pub record Turned (changes : List Change) (writable : Bool) : Type 0 where
  pub turns : TakeTurns changes
  pub now : writable ≡ writable_after changes

-- one turn more
turned_more : (before after : Bool) (changes : List Change) → Turned changes before
    → Turned (cons_option (turn before after) changes) after
turned_more true true changes turned = turned
turned_more true false changes turned = record { turns = (rw (← turned.now) refl, turned.turns); now = refl }
turned_more false true changes turned = record { turns = (rw (← turned.now) refl, turned.turns); now = refl }
turned_more false false changes turned = turned

module _ (grant : Grant) (mark : is_set grant.bits 0 ≡ false) (fits : grant.room < 2 ^ 32) where
  -- the change of a step of a run is that between the words before and after it
  step_change : (earlier : List Move) (before after : CoreState) (seat : ℕ) (step : LaneStep) (found : ℕ)
      → Leads (one_lane grant) earlier before → IsCoreStep before seat step after → found ≡ value_found before
      → change_found step grant.marks found ≡ change_between before.word after.word
  step_change earlier before after seat step found leads is finds =
      let accounts = accounts_after_run grant earlier before mark leads in
      let small : before.total < 4294967296 =
      omega (arith, total-le-room grant before accounts.bytes, fits) in
      ap (λ n. change_found step grant.marks n) finds
      ∙ ap (λ marks. change_found step marks (value_found before)) (sym accounts.bytes.marks)
      ∙ change_found-between step before small
      ∙ sym (ap (λ (core : CoreState). change_between before.word core.word) is.after)

  pub turned : (moves : List Move) (core : CoreState) → Leads (one_lane grant) moves core
      → Turned (changes_of grant.marks moves) (is_writable core.word)
  turned [] core leads = record { turns = tt; now = ap (λ (c : CoreState). is_writable c.word) leads }
  turned (Steps seat step found ∷ earlier) core leads =
      let before = leads.0 in
      rw (step_change earlier before core seat step found leads.1 leads.2.0 leads.2.1)
      (turned_more (is_writable before.word) (is_writable core.word) (changes_of grant.marks earlier)
      (turned earlier before leads.1))
  turned (Divides seat kept given name ∷ earlier) core leads =
      let early = turned earlier leads.0 leads.1 in
      record { turns = early.turns; now = ap (λ (c : CoreState). is_writable c.word) leads.2.after ∙ early.now }
  turned (Merges seat other both ∷ earlier) core leads =
      let early = turned earlier leads.0 leads.1 in
      record { turns = early.turns; now = ap (λ (c : CoreState). is_writable c.word) leads.2.after ∙ early.now }
