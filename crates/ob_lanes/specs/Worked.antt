-- Small runs and calls, with what the definitions have to say of them.
use Rattle.std.specs.Prelude.{◌≡◌, ◌+◌, ◌^◌, ℕ, List, [], ◌∷◌, ◌++◌, false, Option, Some, None}
use mathlib.Core.Option.{none}
use Rattle.atomic_table.specs.Seated.{TableId}
use Rattle.atomic_table.specs.Table.{step}
use Rattle.ob_types.specs.declared.reply.Change.TheVariants.{Unwritable, Writable}
use Rattle.ob_core.specs.Worked.{free_lane}
use Rattle.ob_core.specs.World.{CoreState, Grant, one_lane}
use Rattle.ob_core.specs.declared.lane.Lane.{Lane}
use Rattle.ob_core.specs.declared.lane_step.LaneStep.TheVariants.{Add, SetBit, Load}
use Rattle.ob_lanes.specs.Calls.{IsBit, ChangesDebt, debt_of, IsJoined, HasMade, IsTotalRead, IsWordRead, split_fault}
use Rattle.ob_lanes.specs.Calls.{IsSplit}
use Rattle.ob_lanes.specs.Run.{BeginsWith, changes_of, TakeTurns, one_step, Leads, own_steps, IsInRun, EndedIn, EndsRun}
use Rattle.ob_lanes.specs.Run.{RunningLane, ShowsHeld}
use Rattle.ob_lanes.specs.Ruled.{Knows, ToldOfBit}
use Rattle.ob_lanes.specs.declared.facts.Ended.{Ended}
use Rattle.ob_lanes.specs.declared.facts.Made.{Made}
use Rattle.ob_lanes.specs.declared.facts.Move.{Move}
use Rattle.ob_lanes.specs.declared.facts.Move.TheVariants.{Steps, Divides, Merges}
use Rattle.ob_lanes.specs.declared.fault.SplitFault.TheVariants.{NoRoom, NotHeld}

-- ---- two lanes that meet

-- marks of 50 and 100, a room of 120, and no bit
abbrev pub grant : Grant
grant = record { marks = record { low = 50; high = 100 }; room = 120; bits = 0 }

-- a lane with half of the room
abbrev pub half : Option ℕ → Lane
half debt = record { room = 60; debt = debt; held = 0; raised = 0 }

-- two lanes that owe 60 each, with this word
abbrev pub met : ℕ → CoreState
met word = record {
  total = 120;
  word = word;
  marks = grant.marks;
  lanes = half (Some 60) ∷ half (Some 60) ∷ [];
}

-- the lane is divided, and the first half adds 60
abbrev pub first_run : List Move
first_run = Steps 0 (Add 60) 0 ∷ Divides 0 (half None) (half None) (0 ∷ []) ∷ []

-- the second half adds 60 too, which raises
abbrev pub meeting : List Move
meeting = Steps 1 (Add 60) 60 ∷ first_run

-- this is a run, and the steps of each lane are its own
abbrev pub Meets : Type 0
Meets = Leads (one_lane grant) meeting (met 1)

abbrev pub OwnSteps : Type 0
OwnSteps =
    (own_steps 0 meeting ≡ one_step (Add 60) 0)
    × (own_steps 1 meeting ≡ one_step (Add 60) 60)
    × (own_steps 2 meeting ≡ [])

-- no run has an add to above the high mark that leaves bit 0 clear
abbrev pub RaisedNothing : Type 0
RaisedNothing = Leads (one_lane grant) meeting (met 0) → ⊥

-- in the run of both the second add alone has a change, and no run has two such changes one after the other
abbrev pub OneChange : Type 0
OneChange =
    (changes_of grant.marks meeting ≡ Unwritable ∷ [])
    × (changes_of grant.marks first_run ≡ [])
    × TakeTurns (Writable ∷ Unwritable ∷ [])
    × (TakeTurns (Unwritable ∷ Unwritable ∷ []) → ⊥)
    × (TakeTurns (Writable ∷ []) → ⊥)

-- the run of both begins with that of the first half, and with itself; not the other way round, and not with an add before
-- the division
abbrev pub Begins : Type 0
Begins =
    BeginsWith meeting first_run
    × BeginsWith meeting meeting
    × (BeginsWith first_run meeting → ⊥)
    × (BeginsWith meeting (Divides 0 (half None) (half None) (0 ∷ []) ∷ Steps 0 (Add 60) 0 ∷ []) → ⊥)

-- a lane with room 10 and bits 1 and 2 has no room of 11 and no bit 3, and refuses the room first; it has room 10, each
-- of its bits alone, and all of both; bit 31 is a bit as the others
abbrev pub Splits : Type 0
Splits =
    (split_fault (free_lane 10 6 0) 11 8 ≡ Some NoRoom)
    × (split_fault (free_lane 10 6 0) 0 12 ≡ Some NotHeld)
    × (split_fault (free_lane 10 6 0) 10 2 ≡ None)
    × (split_fault (free_lane 10 6 0) 10 6 ≡ None)
    × (split_fault (free_lane 10 6 0) 10 2147483648 ≡ Some NotHeld)
    × (split_fault (free_lane 10 2147483648 0) 10 2147483648 ≡ None)

-- ---- the steps of one lane

-- marks of 50 and 100, a room of 120, and bits 1 and 2
abbrev pub with_bits : Grant
with_bits = record grant { bits = 6 }

-- a lane that has all of it, raised or not, with a debt or without
abbrev pub lone : ℕ → Option ℕ → Lane
lone raised debt = record { room = 120; debt = debt; held = 6; raised = raised }

-- the same on one word, whichever it is, with its own steps and what it has seen
abbrev pub runs_alone : TableId → ℕ → Option ℕ → List Made → List (List Move) → RunningLane
runs_alone id raised debt made seen = record {
  words = record { table_id = id; grant = with_bits };
  lane = lone raised debt;
  made = made;
  seen = seen;
  name = [];
  splits = 0;
  taken = [];
}

-- it has set bit 2 in a word of 0
abbrev pub bit_2_set : List Made
bit_2_set = one_step (SetBit 2) 0

abbrev pub bit_2_run : List Move
bit_2_run = Steps 0 (SetBit 2) 0 ∷ []

-- a word of 4 beside a total of 0, and a word of 1 beside one of 120
abbrev pub shows_bit_2 : ℕ
shows_bit_2 = 17179869184

abbrev pub shows_mark : ℕ
shows_mark = 4294967416

-- that stops the writers; it is no bit that was set with no change, without the step, without being raised, or without
-- being seen, and it is not bit 1
abbrev pub SetsBit2 : Type 0
SetsBit2 =
    (id : TableId) →
    IsBit (SetBit 2) (runs_alone id 0 None [] []) (runs_alone id 4 None bit_2_set (bit_2_run ∷ [])) (Some Unwritable)
    × (IsBit (SetBit 2) (runs_alone id 0 None [] []) (runs_alone id 4 None bit_2_set (bit_2_run ∷ [])) None → ⊥)
    × (IsBit (SetBit 2) (runs_alone id 0 None [] []) (runs_alone id 4 None [] (bit_2_run ∷ []))
    (Some Unwritable) → ⊥)
    × (IsBit (SetBit 2) (runs_alone id 0 None [] []) (runs_alone id 0 None bit_2_set (bit_2_run ∷ []))
    (Some Unwritable) → ⊥)
    × (IsBit (SetBit 2) (runs_alone id 0 None [] []) (runs_alone id 4 None bit_2_set []) (Some Unwritable) → ⊥)
    × (IsBit (SetBit 1) (runs_alone id 0 None [] []) (runs_alone id 4 None bit_2_set (bit_2_run ∷ []))
    (Some Unwritable) → ⊥)

-- a lane that has set bit 2 and seen that, and the same once it has read
abbrev pub has_set : TableId → RunningLane
has_set id = runs_alone id 4 None bit_2_set (bit_2_run ∷ [])

abbrev pub reads_then : TableId → List Made → List Move → RunningLane
reads_then id made run = runs_alone id 4 None made (run ∷ [])

abbrev pub read_run : List Move
read_run = Steps 0 Load shows_bit_2 ∷ bit_2_run

-- it reads after that; not before it, not in its place, not on a word that was opened without a bit, and not in a
-- run that forgets what it has seen
abbrev pub ReadsBehind : Type 0
ReadsBehind =
    (id : TableId) →
    HasMade Load shows_bit_2 (has_set id) (reads_then id (bit_2_set ++ one_step Load shows_bit_2) read_run)
    × (HasMade Load shows_bit_2 (has_set id) (reads_then id (one_step Load shows_bit_2 ++ bit_2_set) read_run) → ⊥)
    × (HasMade Load shows_bit_2 (has_set id) (reads_then id (one_step Load shows_bit_2) read_run) → ⊥)
    × (HasMade Load shows_bit_2 (record (has_set id) { words = record { table_id = id; grant = grant } })
    (reads_then id (bit_2_set ++ one_step Load shows_bit_2) read_run) → ⊥)
    × (HasMade Load shows_bit_2 (has_set id)
    (reads_then id (bit_2_set ++ one_step Load shows_bit_2) (Steps 0 Load shows_bit_2 ∷ [])) → ⊥)

-- of bits 1 and 2, of which it raised bit 2, a word shows bit 2 and not bit 1, whatever it shows of other bits
abbrev pub ShowsBit2 : Type 0
ShowsBit2 =
    ShowsHeld (lone 4 None) 4
    × ShowsHeld (lone 4 None) 13
    × (ShowsHeld (lone 4 None) 6 → ⊥)
    × (ShowsHeld (lone 4 None) 0 → ⊥)

-- a lane that raised bit 2 reads a word of 4; it gets no other word than it found, none without its bit, and stays as
-- it was
abbrev pub ReadsWord : Type 0
ReadsWord =
    (id : TableId) →
    IsWordRead (has_set id) 4 (reads_then id (bit_2_set ++ one_step Load shows_bit_2) read_run)
    × (IsWordRead (has_set id) 5 (reads_then id (bit_2_set ++ one_step Load shows_bit_2) read_run) → ⊥)
    × (IsWordRead (has_set id) 0 (reads_then id (bit_2_set ++ one_step Load 0) read_run) → ⊥)
    × (IsWordRead (has_set id) 4 (runs_alone id 0 None (bit_2_set ++ one_step Load shows_bit_2) (read_run ∷ [])) → ⊥)

-- it reads a total of 0, and adds 60
abbrev pub adds_60 : List Made
adds_60 = one_step Load 0 ++ one_step (Add 60) 0

abbrev pub adding_run : List Move
adding_run = Steps 0 (Add 60) 0 ∷ Steps 0 Load 0 ∷ []

-- a charge of 60 is a read and its add, and leaves the debt; it does not leave the debt out, nor the step, it has no
-- change, and it raises no bit
abbrev pub Owes : Type 0
Owes =
    (id : TableId) →
    ChangesDebt (debt_of 60) 60 (Add 60) (runs_alone id 0 None [] [])
    (runs_alone id 0 (Some 60) adds_60 (adding_run ∷ [])) None
    × (ChangesDebt (debt_of 60) 60 (Add 60) (runs_alone id 0 None [] [])
    (runs_alone id 0 None adds_60 (adding_run ∷ [])) None → ⊥)
    × (ChangesDebt (debt_of 60) 60 (Add 60) (runs_alone id 0 None [] [])
    (runs_alone id 0 (Some 60) [] (adding_run ∷ [])) None → ⊥)
    × (ChangesDebt (debt_of 60) 60 (Add 60) (runs_alone id 0 None [] [])
    (runs_alone id 0 (Some 60) adds_60 (adding_run ∷ [])) (Some Unwritable) → ⊥)
    × (ChangesDebt (debt_of 60) 60 (Add 60) (runs_alone id 0 None [] [])
    (runs_alone id 4 (Some 60) adds_60 (adding_run ∷ [])) None → ⊥)

-- a charge of 0 makes no step, owes nothing, and has no change
abbrev pub OwesNothing : Type 0
OwesNothing =
    (id : TableId) →
    ChangesDebt (debt_of 0) 0 (Add 0) (runs_alone id 0 None [] []) (runs_alone id 0 None [] []) None
    × (ChangesDebt (debt_of 0) 0 (Add 0) (runs_alone id 0 None [] [])
    (runs_alone id 0 None (one_step (Add 0) 0) []) None → ⊥)
    × (ChangesDebt (debt_of 0) 0 (Add 0) (runs_alone id 0 None [] [])
    (runs_alone id 0 None [] []) (Some Unwritable) → ⊥)
    × (ChangesDebt (debt_of 0) 0 (Add 0) (runs_alone id 0 None [] [])
    (runs_alone id 0 (Some 0) [] []) None → ⊥)

-- ---- one of two lanes

-- one of two lanes with half of the room each
abbrev pub runs_beside : List ℕ → ℕ → TableId → Option ℕ → List Made → List (List Move) → RunningLane
runs_beside name splits id debt made seen = record {
  words = record { table_id = id; grant = grant };
  lane = half debt;
  made = made;
  seen = seen;
  name = name;
  splits = splits;
  taken = [];
}

-- the second half adds 60 to 60, which stops the writers; it does not keep still of that
abbrev pub Raises : Type 0
Raises =
    (id : TableId) →
    ChangesDebt (debt_of 60) 60 (Add 60) (runs_beside (0 ∷ []) 0 id None [] [])
    (runs_beside (0 ∷ []) 0 id (Some 60) (one_step (Add 60) 60) (meeting ∷ [])) (Some Unwritable)
    × (ChangesDebt (debt_of 60) 60 (Add 60) (runs_beside (0 ∷ []) 0 id None [] [])
    (runs_beside (0 ∷ []) 0 id (Some 60) (one_step (Add 60) 60) (meeting ∷ [])) None → ⊥)

-- the first half has added 60, and the same after it has read this in this run
abbrev pub has_added : TableId → RunningLane
has_added id = runs_beside [] 1 id (Some 60) (one_step (Add 60) 0) (first_run ∷ [])

abbrev pub has_read : TableId → ℕ → List Move → RunningLane
has_read id found run =
    runs_beside [] 1 id (Some 60) (one_step (Add 60) 0 ++ one_step Load found) ((Steps 0 Load found ∷ run) ∷ [])

-- it reads at least the 60 that it owes, and at most the 60 of the other lane more, and gets what it found
abbrev pub ReadsTotal : Type 0
ReadsTotal =
    (id : TableId) →
    IsTotalRead (has_added id) 60 (has_read id 60 first_run)
    × IsTotalRead (has_added id) 120 (has_read id shows_mark meeting)
    × (IsTotalRead (has_added id) 59 (has_read id 59 first_run) → ⊥)
    × (IsTotalRead (has_added id) 121 (has_read id 121 first_run) → ⊥)
    × (IsTotalRead (has_added id) 119 (has_read id shows_mark meeting) → ⊥)

-- the lane that the one word is opened with reads a total of 0 first, and no other
abbrev pub ReadsNothing : Type 0
ReadsNothing =
    (id : TableId) →
    IsTotalRead (runs_alone id 0 None [] []) 0
    (runs_alone id 0 None (one_step Load 0) ((Steps 0 Load 0 ∷ []) ∷ []))
    × (IsTotalRead (runs_alone id 0 None [] []) 1
    (runs_alone id 0 None (one_step Load 1) ((Steps 0 Load 1 ∷ []) ∷ [])) → ⊥)

-- ---- lanes split and joined

-- room 3 and bits 2 and 3 go from a lane with room 10 and bits 1 to 3 of which bits 1 and 2 are raised; the two lanes do
-- not change places, no room is made, no bit is kept that goes, a bit goes as it was, and the new lane owes nothing
abbrev pub SplitInTwo : Type 0
SplitInTwo =
    IsSplit 3 12 (free_lane 10 14 6) (free_lane 7 2 2) (free_lane 3 12 4)
    × (IsSplit 3 12 (free_lane 10 14 6) (free_lane 3 12 4) (free_lane 7 2 2) → ⊥)
    × (IsSplit 3 12 (free_lane 10 14 6) (free_lane 8 2 2) (free_lane 3 12 4) → ⊥)
    × (IsSplit 3 12 (free_lane 10 14 6) (free_lane 7 14 2) (free_lane 3 12 4) → ⊥)
    × (IsSplit 3 12 (free_lane 10 14 6) (free_lane 7 2 2) (free_lane 3 12 12) → ⊥)
    × (IsSplit 3 12 (free_lane 10 14 6) (free_lane 7 2 6) (free_lane 3 12 0) → ⊥)
    × (IsSplit 3 12 (free_lane 10 14 6) (free_lane 7 2 2) (record (free_lane 3 12 4) { debt = Some 1 }) → ⊥)

-- rooms of 7 and 3 join to 10, or to a whole room of 8 and no more; no room and no bit of the second lane is lost, raised
-- or not, and the lane owes nothing
abbrev pub JoinedInOne : Type 0
JoinedInOne =
    IsJoined 120 (free_lane 7 2 2) (free_lane 3 12 4) (free_lane 10 14 6)
    × IsJoined 8 (free_lane 7 2 2) (free_lane 3 12 4) (free_lane 8 14 6)
    × (IsJoined 8 (free_lane 7 2 2) (free_lane 3 12 4) (free_lane 10 14 6) → ⊥)
    × (IsJoined 120 (free_lane 7 2 2) (free_lane 3 12 4) (free_lane 7 14 6) → ⊥)
    × (IsJoined 120 (free_lane 7 2 2) (free_lane 3 12 4) (free_lane 10 2 6) → ⊥)
    × (IsJoined 120 (free_lane 7 2 2) (free_lane 3 12 4) (free_lane 10 14 2) → ⊥)
    × (IsJoined 120 (free_lane 7 2 2) (free_lane 3 12 4) (record (free_lane 10 14 6) { debt = Some 1 }) → ⊥)

-- ---- lanes in a run

-- the second half has added in a run; there is no half in it that owes nothing, no run shows a bit that was not opened,
-- and no lane has read such a bit
abbrev pub SecondHalfInRun : Type 0
SecondHalfInRun =
    IsInRun grant meeting (met 1) 1 (0 ∷ []) (half (Some 60)) (one_step (Add 60) 60)
    × ((moves : List Move) (seat : ℕ) (name : List ℕ) → IsInRun grant moves (met 1) seat name (half None) (one_step (Add 60) 60) → ⊥)
    × ((moves : List Move) (seat : ℕ) (name : List ℕ) →
    IsInRun grant moves (met 3) seat name (half (Some 60)) (one_step (Add 60) 60) → ⊥)
    × ((moves : List Move) (seat : ℕ) (name : List ℕ) →
    IsInRun grant moves (met 1) seat name (half (Some 60)) (one_step Load shows_bit_2) → ⊥)

-- a lane with all of the room that raised bit 2 ends with a total of 0 and a word of 4: not the other way round, with
-- nothing owed, with bit 1 clear, and in a run that begins with what it has seen
abbrev pub EndsWithBit2 : Type 0
EndsWithBit2 =
    (id : TableId) →
    EndsRun (has_set id) 0 4
    × (EndsRun (has_set id) 4 0 → ⊥)
    × (EndsRun (has_set id) 1 4 → ⊥)
    × (EndsRun (has_set id) 0 6 → ⊥)
    × (EndsRun (runs_alone id 4 None bit_2_set (first_run ∷ [])) 0 4 → ⊥)

-- the second half reads a total of 0, and is taken in by the first
abbrev pub joining : List Move
joining = Merges 0 1 (free_lane 120 0 0) ∷ Steps 1 Load 0 ∷ Divides 0 (half None) (half None) (0 ∷ []) ∷ []

-- the second half, with these steps
abbrev pub second_half : List Made → Ended
second_half made = record { name = 0 ∷ []; made = made }

-- the lane that took it in
abbrev pub has_joined : TableId → List Made → RunningLane
has_joined id made = record {
  words = record { table_id = id; grant = grant };
  lane = free_lane 120 0 0;
  made = [];
  seen = [];
  name = [];
  splits = 1;
  taken = second_half made ∷ [];
}

-- the lane that took it in ends in a run that has what the second half read, which is no bit that was not opened; in the
-- run of both the second half stands once, and not where the first does
abbrev pub EndsJoined : Type 0
EndsJoined =
    (id : TableId) →
    EndsRun (has_joined id (one_step Load 0)) 0 0
    × (EndsRun (has_joined id (one_step Load shows_bit_2)) 0 0 → ⊥)
    × EndedIn joining 0 (second_half (one_step Load 0) ∷ [])
    × (EndedIn joining 0 (second_half (one_step Load 0) ∷ second_half (one_step Load 0) ∷ []) → ⊥)
    × (EndedIn joining 1 (second_half (one_step Load 0) ∷ []) → ⊥)

-- ---- what a step tells its lane

-- what a lane with all of the room knows
abbrev pub knows : ℕ → List Made → List (List Move) → Knows
knows raised made seen = (record { grant = with_bits; lane = lone raised None; made = made; seen = seen; name = []; splits = 0; taken = []; spent = false }, [])

-- to set bit 34 of the number of total and word tells of bit 2 of the word; to set bit 33 does not, nor to set it and keep no step, and nothing
-- that is found shows bit 1, which the lane holds and has not raised
abbrev pub TellsOfBit2 : Type 0
TellsOfBit2 =
    ToldOfBit SetBit (λ index. 2 ^ (index + 32)) (step 0 0 17179869184 0 none) (knows 0 [] []) 0
    (knows 4 bit_2_set (bit_2_run ∷ []))
    × (ToldOfBit SetBit (λ index. 2 ^ (index + 32)) (step 0 0 8589934592 0 none) (knows 0 [] []) 0
    (knows 4 bit_2_set (bit_2_run ∷ [])) → ⊥)
    × (ToldOfBit SetBit (λ index. 2 ^ (index + 32)) (step 0 0 17179869184 0 none) (knows 0 [] []) 0
    (knows 4 [] (bit_2_run ∷ [])) → ⊥)
    × (ToldOfBit SetBit (λ index. 2 ^ (index + 32)) (step 0 0 17179869184 0 none) (knows 0 [] []) 8589934592
    (knows 4 (one_step (SetBit 2) 8589934592) (bit_2_run ∷ [])) → ⊥)
