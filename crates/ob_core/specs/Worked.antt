-- Small core states and steps, with what the definitions have to say of them.
use Rattle.std.specs.Prelude.{◌≡◌, ℕ, ◌+◌, ◌*◌, ◌^◌, List, [], ◌∷◌, Some, None}
use Rattle.ob_types.specs.declared.reply.Change.TheVariants.{Unwritable, Writable}
use Rattle.ob_core.specs.World.{AccountsHold, MarkAgrees, with_bit, without_bit, SetsBit, ClearsBit, CoreState, Grant}
use Rattle.ob_core.specs.Step.{AreParts, IsDivision, IsMerger, spent_lane, value_found, change_found, word_after}
use Rattle.ob_core.specs.Step.{LeavesRest}
use Rattle.ob_core.specs.declared.lane.Lane.{Lane}
use Rattle.ob_core.specs.declared.lane_step.LaneStep.TheVariants.{Add, Subtract, SetBit, ClearBit, Load}

-- ---- accounts

-- marks of 50 and 100, a room of 120, bits 1 and 2
abbrev pub grant : Grant
grant = record { marks = record { low = 50; high = 100 }; room = 120; bits = 6 }

-- a lane that holds bit 1 and one that holds bit 2, with half of the room each
abbrev pub first_lane : ℕ → Lane
first_lane raised = record { room = 60; debt = Some 60; held = 2; raised = raised }

abbrev pub second_lane : Lane
second_lane = record { room = 60; debt = None; held = 4; raised = 0 }

abbrev pub state : ℕ → ℕ → List Lane → CoreState
state total word lanes = record { total = total; word = word; marks = grant.marks; lanes = lanes }

-- the first lane owes 60 and has raised bit 1
abbrev pub GoodAccounts : Type 0
GoodAccounts = AccountsHold grant (state 60 2 (first_lane 2 ∷ second_lane ∷ []))

-- none of these accounts holds: the total is not what is owed; bit 2 is shown, and no lane raised it; bit 1 is raised,
-- and not shown; both lanes hold bit 1; a lane raises bit 2, which it does not hold; a lane is missing, and its room
abbrev pub WrongTotal : Type 0
WrongTotal = AccountsHold grant (state 61 2 (first_lane 2 ∷ second_lane ∷ [])) → ⊥

abbrev pub ShownAndNotRaised : Type 0
ShownAndNotRaised = AccountsHold grant (state 60 6 (first_lane 2 ∷ second_lane ∷ [])) → ⊥

abbrev pub RaisedAndNotShown : Type 0
RaisedAndNotShown = AccountsHold grant (state 60 0 (first_lane 2 ∷ second_lane ∷ [])) → ⊥

abbrev pub HeldTwice : Type 0
HeldTwice = AccountsHold grant (state 60 0 (first_lane 0 ∷ (record second_lane { held = 2 }) ∷ [])) → ⊥

abbrev pub RaisedAndNotHeld : Type 0
RaisedAndNotHeld = AccountsHold grant (state 60 4 (first_lane 4 ∷ second_lane ∷ [])) → ⊥

abbrev pub LostRoom : Type 0
LostRoom = AccountsHold grant (state 60 2 (first_lane 2 ∷ [])) → ⊥

-- bit 0 is set at a total of 0
abbrev pub ForgottenMark : Type 0
ForgottenMark = AccountsHold grant (state 0 1 ((record second_lane { room = 120 }) ∷ [])) → ⊥

-- bit 0 is clear at a total of 120
abbrev pub LostMark : Type 0
LostMark = AccountsHold grant (state 120 0 ((record second_lane { room = 120; debt = Some 120 }) ∷ [])) → ⊥

-- bit 0 is set above 100 and clear below 50, and from 50 to 100 it may be either
abbrev pub Marked : Type 0
Marked =
    MarkAgrees (state 101 1 [])
    × (MarkAgrees (state 101 0 []) → ⊥)
    × MarkAgrees (state 100 0 [])
    × MarkAgrees (state 50 1 [])
    × MarkAgrees (state 49 4 [])
    × (MarkAgrees (state 49 5 []) → ⊥)

-- a lane owes more than its room
abbrev pub OwingMoreThanRoom : Type 0
OwingMoreThanRoom =
    AccountsHold grant (state 61 2 ((record (first_lane 2) { debt = Some 61 }) ∷ second_lane ∷ [])) → ⊥

-- ---- parts

-- a free lane with this room, these bits, and these of them raised
abbrev pub free_lane : ℕ → ℕ → ℕ → Lane
free_lane room held raised = record { room = room; debt = None; held = held; raised = raised }

-- a lane with room 10 that holds bits 1 and 2 and raised bit 1 gives bit 2 and no room
abbrev pub BitGiven : Type 0
BitGiven = AreParts (free_lane 10 6 2) (free_lane 10 2 2) (free_lane 0 4 0)

-- it can't give bit 2 and keep it
abbrev pub BitGivenAndKept : Type 0
BitGivenAndKept = AreParts (free_lane 10 6 2) (free_lane 10 6 2) (free_lane 0 4 0) → ⊥

-- a free lane with half of the room gives 20 of it and no bit to a new lane behind all lanes
abbrev pub Divided : Type 0
Divided =
    IsDivision (state 60 2 (first_lane 2 ∷ second_lane ∷ [])) 1
    (record second_lane { room = 40 }) (record second_lane { room = 20; held = 0 })
    (state 60 2
    (first_lane 2 ∷ (record second_lane { room = 40 }) ∷ (record second_lane { room = 20; held = 0 }) ∷ []))

-- and takes it back, with a spent lane left where the other was
abbrev pub Merged : Type 0
Merged =
    IsMerger (state 60 2
    (first_lane 2 ∷ (record second_lane { room = 40 }) ∷ (record second_lane { room = 20; held = 0 }) ∷ []))
    1 2 second_lane (state 60 2 (first_lane 2 ∷ second_lane ∷ spent_lane ∷ []))

-- ---- steps

-- a step finds a total of 60 and a word of 5 in one number
abbrev pub Finds : Type 0
Finds = value_found (state 60 5 []) ≡ 21474836540

-- an add to above 100 sets bit 0 and one to 100 does not; a subtract to below 50 clears it and one to 50 does not; the
-- other bits stay
abbrev pub WordsAfter : Type 0
WordsAfter =
    (word_after (Add 41) grant.marks 60 4 ≡ 5)
    × (word_after (Add 40) grant.marks 60 4 ≡ 4)
    × (word_after (Subtract 11) grant.marks 60 5 ≡ 4)
    × (word_after (Subtract 10) grant.marks 60 5 ≡ 5)

-- the writers stop if a bit was set in a word of 0, and go on if the one bit that was set was cleared, whatever
-- the total beside it
abbrev pub Changes : Type 0
Changes =
    (change_found (Add 41) grant.marks 60 ≡ Some Unwritable)
    × (change_found (Add 40) grant.marks 60 ≡ None)
    × (change_found (Add 41) grant.marks (4 * 2 ^ 32 + 60) ≡ None)
    × (change_found (Subtract 60) grant.marks (2 ^ 32 + 109) ≡ Some Writable)
    × (change_found (Subtract 60) grant.marks (2 ^ 32 + 110) ≡ None)
    × (change_found (Subtract 60) grant.marks (5 * 2 ^ 32 + 109) ≡ None)
    × (change_found (SetBit 2) grant.marks 60 ≡ Some Unwritable)
    × (change_found (SetBit 2) grant.marks (2 ^ 32 + 60) ≡ None)
    × (change_found (ClearBit 2) grant.marks (4 * 2 ^ 32 + 60) ≡ Some Writable)
    × (change_found (ClearBit 2) grant.marks (6 * 2 ^ 32) ≡ None)
    × (change_found (ClearBit 2) grant.marks (2 * 2 ^ 32) ≡ None)
    × (change_found Load grant.marks 60 ≡ None)

-- bits 31, 32 and 33 of a word of more than 32 bits
abbrev pub WideBits : Type 0
WideBits =
    (with_bit (5 * 2 ^ 32 + 1) 32 ≡ 5 * 2 ^ 32 + 1)
    × (with_bit (5 * 2 ^ 32 + 1) 33 ≡ 7 * 2 ^ 32 + 1)
    × (with_bit 1 31 ≡ 2147483649)
    × (without_bit (5 * 2 ^ 32 + 1) 32 ≡ 4 * 2 ^ 32 + 1)
    × (without_bit (5 * 2 ^ 32 + 1) 33 ≡ 5 * 2 ^ 32 + 1)
    × (without_bit (5 * 2 ^ 32 + 1) 0 ≡ 5 * 2 ^ 32)

-- a word with bit 1 put is this word; not one that has another bit more, not one that has another bit less, and not the
-- word as it was
abbrev pub PutsBit1 : (ℕ → ℕ → ℕ → Type 0) → ℕ → ℕ → ℕ → ℕ → Type 0
PutsBit1 Puts old new more less =
    Puts old 1 new × (Puts old 1 more → ⊥) × (Puts old 1 less → ⊥) × (Puts old 1 old → ⊥)

-- 6 is 4 with bit 1 set; 7 has another bit more, 2 one less, and 4 has not that bit
abbrev pub BitSet : Type 0
BitSet = PutsBit1 SetsBit 4 6 7 2

-- 4 is 6 with bit 1 cleared; 5 has another bit more, 0 one less, and 6 has that bit still
abbrev pub BitCleared : Type 0
BitCleared = PutsBit1 ClearsBit 6 4 5 0

-- an add leaves bits 1 and 2, and may set bit 0; to set a bit leaves the total; a load leaves both
abbrev pub RestLeft : Type 0
RestLeft =
    LeavesRest (Add 1) (state 60 6 []) (state 61 7 [])
    × (LeavesRest (Add 1) (state 60 6 []) (state 61 4 []) → ⊥)
    × LeavesRest (SetBit 1) (state 60 4 []) (state 60 6 [])
    × (LeavesRest (SetBit 1) (state 60 4 []) (state 61 6 []) → ⊥)
    × (LeavesRest Load (state 60 4 []) (state 60 5 []) → ⊥)
