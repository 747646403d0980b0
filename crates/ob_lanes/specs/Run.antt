-- The run: the moves that lead from the beginning of the one word to a state of it, whose own steps they are, what all
-- lanes report along it, and the facts of a seat, as its own steps change them. What a contract sees of a running
-- lane, and of the word that it steps on; the run in which the lane stands, which is no invention of its own; and what
-- it sees by a step.
use Rattle.std.specs.Int.{bit_at}
use Rattle.std.specs.List.{cons_option}
use Rattle.std.specs.Prelude.{ℕ, zero, suc, false, List, [], ◌∷◌, ◌++◌, ◌≡◌, ◌==◌, if◌then◌else◌, All, Bool, true, ◌-◌}
use Rattle.std.specs.Prelude.{◌≢◌, AllPairs, Some, map, slice_get}
use Rattle.atomic_table.specs.Seated.{TableId}
use Rattle.ob_types.specs.Marks.{Marks, word_half, total_half}
use Rattle.ob_types.specs.declared.reply.Change.{Change}
use Rattle.ob_types.specs.declared.reply.Change.TheVariants.{Unwritable, Writable}
use Rattle.ob_core.specs.Step.{IsDivision, IsMerger, lane_after, IsCoreStep, value_found, change_found}
use Rattle.ob_core.specs.World.{new_lane, Grant, CoreState, one_lane}
use Rattle.ob_core.specs.declared.lane.Lane.{Lane}
use Rattle.ob_core.specs.declared.lane_step.LaneStep.{LaneStep}
use Rattle.ob_lanes.specs.declared.facts.Ended.{Ended}
use Rattle.ob_lanes.specs.declared.facts.Facts.{Facts}
use Rattle.ob_lanes.specs.declared.facts.Made.{Made}
use Rattle.ob_lanes.specs.declared.facts.Move.{Move}
use Rattle.ob_lanes.specs.declared.facts.Move.TheVariants.{Steps, Divides, Merges}

-- the lane that the one word is opened with: it has the whole room and all bits
abbrev pub first_lane : Grant → Lane
first_lane grant = new_lane (record { room = grant.room; bits = grant.bits })

-- what the first seat knows
abbrev pub first_facts : Grant → Facts
first_facts grant = record {
  grant = grant;
  lane = first_lane grant;
  made = [];
  seen = [];
  name = [];
  splits = 0;
  taken = [];
  spent = false;
}

-- one step that found this value
abbrev pub one_step : LaneStep → ℕ → List Made
one_step step found = (record { step = step; found = found }) ∷ []

-- what a seat knows after a step of its own that found this value, once it has seen these runs
abbrev pub facts_after : LaneStep → ℕ → List (List Move) → Facts → Facts
facts_after step found seen facts =
    record facts { lane = lane_after step facts.lane; made = facts.made ++ one_step step found; seen = seen }

-- the own steps of the seat with this number, none if there is no such seat
abbrev pub made_at : List Facts → ℕ → List Made
made_at [] seat = []
made_at (facts ∷ others) zero = facts.made
made_at (facts ∷ others) (suc seat) = made_at others seat

-- the move leads from the old core state to the new one
abbrev pub IsMove : CoreState → Move → CoreState → Type 0
IsMove old (Steps seat step found) new = IsCoreStep old seat step new × (found ≡ value_found old)
IsMove old (Divides seat kept given name) new = IsDivision old seat kept given new
IsMove old (Merges seat other both) new = IsMerger old seat other both new

-- moves, the latest of which comes first in the list, lead from the first core state to the last
abbrev pub Leads : CoreState → List Move → CoreState → Type 0
Leads first [] last = last ≡ first
Leads first (move ∷ earlier) last = (before : CoreState) × Leads first earlier before × IsMove before move last

-- the step of this seat that a move is, if it is one
abbrev pub own_step : ℕ → Move → List Made
own_step seat (Steps other step found) = if other == seat then one_step step found else []
own_step seat (Divides other kept given name) = []
own_step seat (Merges first second both) = []

-- the own steps of a seat among moves, the latest of which comes first; the steps are in order
abbrev pub own_steps : ℕ → List Move → List Made
own_steps seat [] = []
own_steps seat (move ∷ earlier) = own_steps seat earlier ++ own_step seat move

-- the name of the lane in each place after these moves, the latest of which comes first: the first lane has the empty
-- name, and a division puts the name of the new lane behind the others
abbrev pub names_in : List Move → List (List ℕ)
names_in [] = [] ∷ []
names_in (Steps seat step found ∷ earlier) = names_in earlier
names_in (Divides seat kept given name ∷ earlier) = names_in earlier ++ name ∷ []
names_in (Merges seat other both ∷ earlier) = names_in earlier

-- a run, the latest move of which comes first, begins with another: it has some moves more, after those
pub record BeginsWith (run earlier : List Move) : Type 0 where
  pub later : List Move
  pub run_is : run ≡ later ++ earlier

-- it begins with each of these runs
abbrev pub BeginsWithAll : List Move → List (List Move) → Type 0
BeginsWithAll run runs = All (λ earlier. BeginsWith run earlier) runs

-- the changes of the steps of a run, each read off what the step found; the latest comes first, as in the run
abbrev pub changes_of : Marks → List Move → List Change
changes_of marks [] = []
changes_of marks (Steps seat step found ∷ earlier) =
    cons_option (change_found step marks found) (changes_of marks earlier)
changes_of marks (Divides seat kept given name ∷ earlier) = changes_of marks earlier
changes_of marks (Merges seat other both ∷ earlier) = changes_of marks earlier

-- whether the writers may go on after these changes: at first they may
abbrev pub writable_after : List Change → Bool
writable_after [] = true
writable_after (Unwritable ∷ earlier) = false
writable_after (Writable ∷ earlier) = true

-- the changes go to and fro, and the first is Unwritable
abbrev pub TakeTurns : List Change → Type 0
TakeTurns [] = Unit {0}
TakeTurns (change ∷ earlier) =
    (change ≡ (if writable_after earlier then Unwritable else Writable)) × TakeTurns earlier

-- the one word: which it is, and what it was opened with
pub record WordsValue : Type 0 where
  pub table_id : TableId
  pub grant : Grant

-- a lane: the word that it steps on, what the core knows of it, its own steps in order, the runs that it has seen, its
-- name, how many lanes it has split off, and those that it has taken in
pub record RunningLane : Type 0 where
  pub words : WordsValue
  pub lane : Lane
  pub made : List Made
  pub seen : List (List Move)
  pub name : List ℕ
  pub splits : ℕ
  pub taken : List Ended

-- the room that is not the lane's
abbrev pub room_outside : RunningLane → ℕ
room_outside lane = lane.words.grant.room - lane.lane.room

-- of the bits that a lane holds, the word shows exactly those that it has raised
abbrev pub ShowsHeld : Lane → ℕ → Type 0
ShowsHeld lane word = (index : ℕ) → bit_at lane.held index ≡ 1 → bit_at word index ≡ bit_at lane.raised index

-- a lane has the name of another, has split off as many, and has taken in the same
pub record IsSameLane (old new : RunningLane) : Type 0 where
  pub name : new.name ≡ old.name
  pub splits : new.splits ≡ old.splits
  pub taken : new.taken ≡ old.taken

-- these moves lead from the beginning to this core state, in which the lane stands at this place, under this name, and these
-- are its own steps among the moves
pub record IsInRun (grant : Grant) (moves : List Move) (core : CoreState) (seat : ℕ) (name : List ℕ) (lane : Lane)
    (made : List Made) : Type 0 where
  pub leads : Leads (one_lane grant) moves core
  pub is_lane : slice_get core.lanes seat ≡ Some lane
  pub is_named : slice_get (names_in moves) seat ≡ Some name
  pub is_made : own_steps seat moves ≡ made

-- a lane that was taken in stands at a place other than this, under its name, and its own steps are those among the moves
pub record EndedAt (moves : List Move) (seat : ℕ) (its : ℕ × Ended) : Type 0 where
  pub elsewhere : its.0 ≢ seat
  pub is_named : slice_get (names_in moves) its.0 ≡ Some its.1.name
  pub is_made : own_steps its.0 moves ≡ its.1.made

-- the lanes that were taken in have places of their own, no two the same one
pub record EndedIn (moves : List Move) (seat : ℕ) (taken : List Ended) : Type 0 where
  pub placed : List (ℕ × Ended)
  pub all_of_them : map (λ its. its.1) placed ≡ taken
  pub apart : AllPairs (λ its others. its.0 ≢ others.0) placed
  pub stand : All (EndedAt moves seat) placed

-- these are the total and the word of a core state that some run leads to, and of which the running lane is one; the run
-- begins with each that the lane has seen, and has the own steps of each lane that it has taken in, at a place of its own
pub record EndsRun (lane : RunningLane) (total word : ℕ) : Type 0 where
  pub core : CoreState
  pub moves : List Move
  pub seat : ℕ
  pub in_run : IsInRun lane.words.grant moves core seat lane.name lane.lane lane.made
  pub begins : BeginsWithAll moves lane.seen
  pub ended : EndedIn moves seat lane.taken
  pub total_is : core.total ≡ total
  pub word_is : core.word ≡ word

-- a lane has made this step as the last of one run, which is what it has seen then; the moves before it begin with each
-- run that the lane had seen, and lead to the core state whose two halves the step found
pub record Sees (grant : Grant) (had_seen : List (List Move)) (step : LaneStep) (found : ℕ) (name : List ℕ)
    (lane : Lane) (made : List Made) (seen : List (List Move)) : Type 0 where
  pub seat : ℕ
  pub before : List Move
  pub at : CoreState
  pub core : CoreState
  pub leads : Leads (one_lane grant) before at
  pub total_found : total_half found ≡ at.total
  pub word_found : word_half found ≡ at.word
  pub seen_is : seen ≡ (Steps seat step found ∷ before) ∷ []
  pub begins : BeginsWithAll before had_seen
  pub in_run : IsInRun grant (Steps seat step found ∷ before) core seat name lane made

-- a running lane has made this step, and sees the run up to it
abbrev pub SeesStep : LaneStep → ℕ → RunningLane → RunningLane → Type 0
SeesStep step found old new = Sees new.words.grant old.seen step found new.name new.lane new.made new.seen
