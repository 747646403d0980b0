-- What is seen of a buffer after small histories: its state, its looks, the marks in force, and its rows, worked out by hand.
use Rattle.std.specs.Prelude.{◌≡◌, true, false, List, [], ◌∷◌, map, Some, None, ℕ, ◌++◌}
use Rattle.ob_types.specs.declared.command.Command.{Command}
use Rattle.ob_types.specs.declared.command.Command.TheVariants.{Write, Flush, Remove, RemoveWith, RemoveBytes}
use Rattle.ob_types.specs.declared.command.Command.TheVariants.{Progress, Cancel, FailFlushed, Close, UserBit}
use Rattle.ob_types.specs.declared.command.Command.TheVariants.{SetMarks}
use Rattle.ob_types.specs.declared.message.Message.TheVariants.{Region, Block}
use Rattle.ob_types.specs.declared.promise.Outcome.TheVariants.{Failed, Success, Cancelled}
use Rattle.ob_types.specs.declared.refusal.Refusal.TheVariants.{Closed}
use Rattle.ob_types.specs.declared.reply.Answer.TheVariants.{Id, Count, Yes, Done}
use Rattle.ob_types.specs.declared.reply.Change.TheVariants.{Unwritable, Writable}
use Rattle.ob_types.specs.declared.promise.PromiseState.TheVariants.{Waiting, Settled}
use Rattle.ob_seq.specs.Answer.{accepted_among}
use Rattle.ob_seq.specs.Effect.{rows_after, taken_row, with_first}
use Rattle.ob_seq.specs.Looks.{before_writable, front_promise_after, look_after}
use Rattle.ob_seq.specs.Pending.{takes_no_memory, settled_along}
use Rattle.ob_seq.specs.Rows.{FitsItsPlace, StandInOrder, Row, Place, Unflushed, Flushed, Voided, Gone}
use Rattle.ob_seq.specs.State.{writable_after, empty_after, closed_after, user_writable_after, writes_left_after}
use Rattle.ob_seq.specs.State.{writes_in, marks_after}
use Rattle.ob_seq.specs.Unsent.{grown_room}
use Rattle.ob_seq.specs.Worked.{block, marked, refused, replied, settles, shown, succeeds}

-- two blocks that bring the pending bytes above the high mark
abbrev pub above_high : List Command
above_high = block 304 ∷ block 0 ∷ []

-- the mark alone makes a buffer unwritable, and so does one user bit alone
abbrev pub UnwritableByEither : Type 0
UnwritableByEither =
    (writable_after (marked 200 400) [] ≡ true)
    × (writable_after (marked 200 400) (block 304 ∷ []) ≡ true)
    × (writable_after (marked 200 400) above_high ≡ false)
    × (writable_after (marked 200 400) (UserBit 5 false ∷ []) ≡ false)

-- unflushed messages alone leave a buffer empty; a voided one in line does not
abbrev pub EmptyWithoutALine : Type 0
EmptyWithoutALine =
    (empty_after (marked 200 400) [] ≡ true)
    × (empty_after (marked 200 400) (block 4 ∷ []) ≡ true)
    × (empty_after (marked 200 400) (block 4 ∷ Flush ∷ []) ≡ false)
    × (empty_after (marked 200 400) (block 4 ∷ Cancel (record { 0 = 0 }) ∷ Flush ∷ []) ≡ false)
    × (empty_after (marked 200 400) (block 4 ∷ Flush ∷ Remove ∷ []) ≡ true)

-- a buffer is closed after a close and not before
abbrev pub ClosedByAClose : Type 0
ClosedByAClose =
    (closed_after (marked 200 400) (block 4 ∷ []) ≡ false)
    × (closed_after (marked 200 400) (block 4 ∷ Close (record { 0 = 3 }) ∷ []) ≡ true)

-- a user bit is shown by its index; at 0 and at 32 there is none, even with the mark set
abbrev pub UserBitsTold : Type 0
UserBitsTold =
    (user_writable_after 5 (marked 200 400) (UserBit 5 false ∷ []) ≡ false)
    × (user_writable_after 6 (marked 200 400) (UserBit 5 false ∷ []) ≡ true)
    × (user_writable_after 5 (marked 200 400) (UserBit 5 false ∷ UserBit 5 true ∷ []) ≡ true)
    × (user_writable_after 0 (marked 200 400) above_high ≡ true)
    × (user_writable_after 32 (marked 200 400) above_high ≡ true)

-- each accepted write leaves one fewer, a removal gives none back, and a close leaves none
abbrev pub WritesLeft : Type 0
WritesLeft =
    (writes_left_after (marked 200 400) [] ≡ 1048576)
    × (writes_left_after (marked 200 400) (block 4 ∷ Flush ∷ Remove ∷ []) ≡ 1048575)
    × (writes_left_after (marked 200 400) (block 4 ∷ Close (record { 0 = 3 }) ∷ []) ≡ 0)

-- one command of each kind
abbrev pub one_of_each : List Command
one_of_each =
    Write (Region 1) ∷ Flush ∷ Remove ∷ RemoveWith (record { 0 = 1 }) ∷ RemoveBytes 1 ∷ Progress 1
    ∷ Cancel (record { 0 = 0 }) ∷ FailFlushed (record { 0 = 1 }) true ∷ Close (record { 0 = 1 }) ∷ UserBit 1 true
    ∷ SetMarks (record { low = 1; high = 2 }) ∷ []

-- a write, a removal of bytes, a failing and a close may allocate, and no other command
abbrev pub WantsOfMemory : Type 0
WantsOfMemory =
    map takes_no_memory one_of_each
    ≡ false ∷ true ∷ true ∷ true ∷ false ∷ true ∷ true ∷ false ∷ false ∷ true ∷ true ∷ []

-- the room for one more than these numbers of messages that have no place to spare
abbrev pub RoomsAsTheyGrow : Type 0
RoomsAsTheyGrow =
    map (λ full. grown_room full full) (0 ∷ 2 ∷ 3 ∷ 4 ∷ 15 ∷ 16 ∷ 31 ∷ 32 ∷ 63 ∷ 64 ∷ 127 ∷ 128 ∷ 300 ∷ [])
    ≡ 4 ∷ 4 ∷ 32 ∷ 16 ∷ 16 ∷ 32 ∷ 32 ∷ 64 ∷ 64 ∷ 128 ∷ 128 ∷ 256 ∷ 428 ∷ []

-- a writable buffer at the low mark and at the high mark: the next byte above high makes it unwritable
abbrev pub WritableAtTheMarks : Type 0
WritableAtTheMarks =
    (look_after (marked 200 400) (block 104 ∷ [])
    ≡ record { total = 200; word = 0; size = 0; before_unwritable = 201; before_writable = 0; current_progress = 0 })
    × (look_after (marked 200 400) (block 304 ∷ [])
    ≡ record { total = 400; word = 0; size = 0; before_unwritable = 1; before_writable = 0; current_progress = 0 })

-- an unwritable buffer at the high mark and at the low mark: the next byte below low makes it writable
abbrev pub UnwritableAtTheMarks : Type 0
UnwritableAtTheMarks =
    (look_after (marked 200 400) (block 4 ∷ block 304 ∷ Flush ∷ Remove ∷ [])
    ≡ record { total = 400; word = 1; size = 1; before_unwritable = 0; before_writable = 201; current_progress = 0 })
    × (look_after (marked 200 400) (block 204 ∷ block 104 ∷ Flush ∷ Remove ∷ [])
    ≡ record { total = 200; word = 1; size = 1; before_unwritable = 0; before_writable = 1; current_progress = 0 })

-- below the low mark with the mark still set, after a failing without notice, both numbers are 0
abbrev pub UnwritableBelowLow : Type 0
UnwritableBelowLow =
    look_after (marked 200 400) (block 400 ∷ Flush ∷ block 103 ∷ FailFlushed (record { 0 = 7 }) false ∷ [])
    ≡ record { total = 199; word = 1; size = 0; before_unwritable = 0; before_writable = 0; current_progress = 0 }

-- under a user bit the numbers are those of an unwritable buffer, though the mark is clear
abbrev pub UnderAUserBit : Type 0
UnderAUserBit =
    (look_after (marked 200 400) (UserBit 5 false ∷ block 103 ∷ [])
    ≡ record { total = 199; word = 32; size = 0; before_unwritable = 0; before_writable = 0; current_progress = 0 })
    × (look_after (marked 200 400) (UserBit 5 false ∷ block 104 ∷ [])
    ≡ record { total = 200; word = 32; size = 0; before_unwritable = 0; before_writable = 1; current_progress = 0 })
    × (look_after (marked 200 400) (UserBit 5 false ∷ block 304 ∷ [])
    ≡ record { total = 400; word = 32; size = 0; before_unwritable = 0; before_writable = 201; current_progress = 0 })
    × (look_after (marked 200 400) (UserBit 5 false ∷ block 305 ∷ [])
    ≡ record { total = 401; word = 33; size = 0; before_unwritable = 0; before_writable = 202; current_progress = 0 })

-- under a low mark of 0 no fall is enough: the number is one more than is pending, up to its own limit
abbrev pub UnderALowMarkOfZero : Type 0
UnderALowMarkOfZero =
    (look_after (marked 0 400) (block 400 ∷ [])
    ≡ record { total = 496; word = 1; size = 0; before_unwritable = 0; before_writable = 497; current_progress = 0 })
    × (before_writable (record { low = 0; high = 400 }) 1 4294967294 ≡ 4294967295)
    × (before_writable (record { low = 0; high = 400 }) 1 4294967295 ≡ 4294967295)

-- with nothing in line no promise is in front; once messages are flushed it is the oldest of theirs, and the next one
-- once that is removed
abbrev pub OldestInFront : Type 0
OldestInFront =
    (front_promise_after (marked 200 400) [] ≡ None)
    × (front_promise_after (marked 200 400) (block 1 ∷ block 2 ∷ []) ≡ None)
    × (front_promise_after (marked 200 400) (block 1 ∷ block 2 ∷ Flush ∷ block 3 ∷ []) ≡ Some (record { 0 = 0 }))
    × (front_promise_after (marked 200 400) (block 1 ∷ block 2 ∷ Flush ∷ block 3 ∷ Remove ∷ [])
    ≡ Some (record { 0 = 1 }))
    × (front_promise_after (marked 200 400) (block 1 ∷ block 2 ∷ Flush ∷ block 3 ∷ Remove ∷ Remove ∷ []) ≡ None)

-- a message whose promise was taken back keeps its place in line, and so in front
abbrev pub VoidedInFront : Type 0
VoidedInFront =
    (front_promise_after (marked 200 400) (block 1 ∷ block 2 ∷ Cancel (record { 0 = 0 }) ∷ Flush ∷ [])
    ≡ Some (record { 0 = 0 }))
    × (front_promise_after (marked 200 400) (block 1 ∷ block 2 ∷ Cancel (record { 0 = 0 }) ∷ Flush ∷ Remove ∷ [])
    ≡ Some (record { 0 = 1 }))

-- a message stays in front while a part of it is sent and its progress grows
abbrev pub PartlySentInFront : Type 0
PartlySentInFront =
    (front_promise_after (marked 200 400) (block 1 ∷ block 2 ∷ Flush ∷ RemoveBytes 2 ∷ []) ≡ Some (record { 0 = 1 }))
    × (front_promise_after (marked 200 400) (block 1 ∷ block 2 ∷ Flush ∷ RemoveBytes 2 ∷ Progress 5 ∷ [])
    ≡ Some (record { 0 = 1 }))

-- a failing of the line leaves nothing in front until the next flush, and a close leaves nothing for good
abbrev pub NoneInFrontAtAnEnd : Type 0
NoneInFrontAtAnEnd =
    (front_promise_after (marked 200 400) (block 1 ∷ Flush ∷ block 2 ∷ FailFlushed (record { 0 = 7 }) true ∷ [])
    ≡ None)
    × (front_promise_after (marked 200 400)
    (block 1 ∷ Flush ∷ block 2 ∷ FailFlushed (record { 0 = 7 }) true ∷ Flush ∷ []) ≡ Some (record { 0 = 1 }))
    × (front_promise_after (marked 200 400)
    (block 1 ∷ Flush ∷ block 2 ∷ FailFlushed (record { 0 = 7 }) true ∷ Close (record { 0 = 3 }) ∷ []) ≡ None)

-- the marks set to these
abbrev set : ℕ → ℕ → Command
set low high = SetMarks (record { low = low; high = high })

-- marks raised above what is pending leave the buffer unwritable until a fall below the new low mark
abbrev pub MarksRaised : Type 0
MarksRaised =
    (shown (marked 200 400) [] (block 304 ∷ block 0 ∷ set 600 700 ∷ block 0 ∷ Flush ∷ Remove ∷ [])
    ≡ replied (Id (record { 0 = 0 })) [] None 400 0 ∷ replied (Id (record { 0 = 1 })) [] (Some Unwritable) 496 1
    ∷ replied Done [] None 496 1 ∷ replied (Id (record { 0 = 2 })) [] None 592 1 ∷ replied (Count 3) [] None 592 1
    ∷ replied (Yes true) (succeeds 0) (Some Writable) 192 0 ∷ [])
    × (look_after (marked 200 400) (block 304 ∷ block 0 ∷ set 600 700 ∷ [])
    ≡ record { total = 496; word = 1; size = 0; before_unwritable = 0; before_writable = 0; current_progress = 0 })

-- marks lowered below what is pending leave the buffer writable until the next rise
abbrev pub MarksLowered : Type 0
MarksLowered =
    (shown (marked 200 400) [] (block 304 ∷ set 0 100 ∷ block 0 ∷ [])
    ≡ replied (Id (record { 0 = 0 })) [] None 400 0 ∷ replied Done [] None 400 0
    ∷ replied (Id (record { 0 = 1 })) [] (Some Unwritable) 496 1 ∷ [])
    × (look_after (marked 200 400) (block 304 ∷ set 0 100 ∷ [])
    ≡ record { total = 400; word = 0; size = 0; before_unwritable = 0; before_writable = 0; current_progress = 0 })

-- of marks set twice before one moment those that were set last decide, whether they are the higher or the lower ones
abbrev pub MarksSetTwice : Type 0
MarksSetTwice =
    (shown (marked 200 400) [] (block 304 ∷ set 0 100 ∷ set 500 600 ∷ block 0 ∷ [])
    ≡ replied (Id (record { 0 = 0 })) [] None 400 0 ∷ replied Done [] None 400 0 ∷ replied Done [] None 400 0
    ∷ replied (Id (record { 0 = 1 })) [] None 496 0 ∷ [])
    × (shown (marked 200 400) [] (block 204 ∷ set 500 600 ∷ set 0 350 ∷ block 0 ∷ [])
    ≡ replied (Id (record { 0 = 0 })) [] None 300 0 ∷ replied Done [] None 300 0 ∷ replied Done [] None 300 0
    ∷ replied (Id (record { 0 = 1 })) [] (Some Unwritable) 396 1 ∷ [])

-- of two falls each goes by the marks of its time: the first, which decided nothing under the old marks, is not judged
-- again, and the second clears the mark, though it would not have under the old ones
abbrev pub MarksSetBetweenFalls : Type 0
MarksSetBetweenFalls =
    shown (marked 200 400) [] (block 304 ∷ block 104 ∷ block 104 ∷ Flush ∷ Remove ∷ set 500 600 ∷ Remove ∷ [])
    ≡ replied (Id (record { 0 = 0 })) [] None 400 0 ∷ replied (Id (record { 0 = 1 })) [] (Some Unwritable) 600 1
    ∷ replied (Id (record { 0 = 2 })) [] None 800 1 ∷ replied (Count 3) [] None 800 1
    ∷ replied (Yes true) (succeeds 0) None 400 1 ∷ replied Done [] None 400 1
    ∷ replied (Yes true) (succeeds 1) (Some Writable) 200 0 ∷ []

-- of two rises the first, which decided nothing under the old marks, is not judged again, though the bytes then pass
-- the new high mark; and one that set the mark stays when the new high mark is above it
abbrev pub MarksSetBetweenRises : Type 0
MarksSetBetweenRises =
    (shown (marked 200 400) [] (block 204 ∷ set 100 250 ∷ UserBit 3 false ∷ UserBit 3 true ∷ block 0 ∷ [])
    ≡ replied (Id (record { 0 = 0 })) [] None 300 0 ∷ replied Done [] None 300 0
    ∷ replied Done [] (Some Unwritable) 300 8 ∷ replied Done [] (Some Writable) 300 0
    ∷ replied (Id (record { 0 = 1 })) [] (Some Unwritable) 396 1 ∷ [])
    × (shown (marked 200 400) [] (block 404 ∷ set 200 900 ∷ block 0 ∷ [])
    ≡ replied (Id (record { 0 = 0 })) [] (Some Unwritable) 500 1 ∷ replied Done [] None 500 1
    ∷ replied (Id (record { 0 = 1 })) [] None 596 1 ∷ [])

-- marks that are equal: a total equal to both decides nothing, neither as it rises nor as it falls
abbrev pub EqualMarksSet : Type 0
EqualMarksSet =
    shown (marked 200 400) [] (set 300 300 ∷ block 4 ∷ block 104 ∷ block 4 ∷ Flush ∷ Remove ∷ Remove ∷ [])
    ≡ replied Done [] None 0 0 ∷ replied (Id (record { 0 = 0 })) [] None 100 0
    ∷ replied (Id (record { 0 = 1 })) [] None 300 0 ∷ replied (Id (record { 0 = 2 })) [] (Some Unwritable) 400 1
    ∷ replied (Count 3) [] None 400 1 ∷ replied (Yes true) (succeeds 0) None 300 1
    ∷ replied (Yes true) (succeeds 1) (Some Writable) 100 0 ∷ []

-- under a user bit marks that are set leave that bit and the mark as they are, and the mark goes on beside it
abbrev pub MarksSetUnderAUserBit : Type 0
MarksSetUnderAUserBit =
    shown (marked 200 400) []
    (UserBit 5 false ∷ block 304 ∷ set 0 100 ∷ block 0 ∷ Flush ∷ set 200 500 ∷ Remove ∷ UserBit 5 true ∷ [])
    ≡ replied Done [] (Some Unwritable) 0 32 ∷ replied (Id (record { 0 = 0 })) [] None 400 32
    ∷ replied Done [] None 400 32 ∷ replied (Id (record { 0 = 1 })) [] None 496 33
    ∷ replied (Count 2) [] None 496 33 ∷ replied Done [] None 496 33
    ∷ replied (Yes true) (succeeds 0) None 96 32 ∷ replied Done [] (Some Writable) 96 0 ∷ []

-- marks set to what they are change nothing
abbrev pub MarksSetAsTheyAre : Type 0
MarksSetAsTheyAre =
    shown (marked 200 400) [] (block 304 ∷ set 200 400 ∷ block 0 ∷ set 200 400 ∷ Flush ∷ Remove ∷ [])
    ≡ replied (Id (record { 0 = 0 })) [] None 400 0 ∷ replied Done [] None 400 0
    ∷ replied (Id (record { 0 = 1 })) [] (Some Unwritable) 496 1 ∷ replied Done [] None 496 1
    ∷ replied (Count 2) [] None 496 1 ∷ replied (Yes true) (succeeds 0) (Some Writable) 96 0 ∷ []

-- a fall without notice clears nothing below the new low mark either, and a closed buffer takes no marks
abbrev pub MarksSetAtAnEnd : Type 0
MarksSetAtAnEnd =
    (shown (marked 200 400) [] (block 404 ∷ Flush ∷ set 600 700 ∷ FailFlushed (record { 0 = 7 }) false ∷ [])
    ≡ replied (Id (record { 0 = 0 })) [] (Some Unwritable) 500 1 ∷ replied (Count 1) [] None 500 1
    ∷ replied Done [] None 500 1 ∷ replied (Count 1) (settles 0 (Failed (record { 0 = 7 }))) None 0 1 ∷ [])
    × (shown (marked 200 400) [] (Close (record { 0 = 1 }) ∷ set 1 2 ∷ [])
    ≡ replied (Count 0) [] None 0 0 ∷ refused Closed 0 0 ∷ [])

-- the two numbers of a look go by the marks that were set last
abbrev pub LooksUnderNewMarks : Type 0
LooksUnderNewMarks =
    (look_after (marked 200 400) (block 204 ∷ set 100 350 ∷ [])
    ≡ record { total = 300; word = 0; size = 0; before_unwritable = 51; before_writable = 0; current_progress = 0 })
    × (look_after (marked 200 400) (block 304 ∷ block 0 ∷ set 10 20 ∷ set 300 500 ∷ [])
    ≡ record { total = 496; word = 1; size = 0; before_unwritable = 0; before_writable = 197; current_progress = 0 })

-- the marks in force are those of the opening, then those that were set last
abbrev pub LastMarks : Type 0
LastMarks =
    (marks_after (marked 200 400) (block 4 ∷ Flush ∷ []) ≡ record { low = 200; high = 400 })
    × (marks_after (marked 200 400) (set 1 2 ∷ set 3 4 ∷ block 4 ∷ []) ≡ record { low = 3; high = 4 })

-- four messages, of which the first is removed, the second voided in line, the third in line and the last unflushed;
-- progress before the flush and the cancellation of a promise that nobody was given are refused
abbrev pub four_messages : List Command
four_messages =
    block 1 ∷ Progress 5 ∷ block 2 ∷ block 3 ∷ Cancel (record { 0 = 1 }) ∷ Cancel (record { 0 = 3 }) ∷ Flush ∷ Remove
    ∷ block 4 ∷ []

-- the same without the refused ones
abbrev pub AcceptedOfThem : Type 0
AcceptedOfThem =
    accepted_among (marked 200 500) four_messages
    ≡ block 1 ∷ block 2 ∷ block 3 ∷ Cancel (record { 0 = 1 }) ∷ Flush ∷ Remove ∷ block 4 ∷ []

-- of which four are writes
abbrev pub FourWrites : Type 0
FourWrites = writes_in (accepted_among (marked 200 500) four_messages) ≡ 4

-- what they settle, and then a failing of the line
abbrev pub SettledInTurn : Type 0
SettledInTurn =
    settled_along (marked 200 500) [] (four_messages ++ FailFlushed (record { 0 = 7 }) true ∷ [])
    ≡ settles 1 Cancelled ++ (succeeds 0 ++ settles 2 (Failed (record { 0 = 7 })))

-- where their rows stand: one is gone, two are in line, one is unflushed
abbrev pub OneOfEachPlace : Type 0
OneOfEachPlace =
    map (λ (row : Row). row.place)
    (rows_after (marked 200 500).estimate (accepted_among (marked 200 500) four_messages))
    ≡ Gone ∷ Voided ∷ Flushed ∷ Unflushed ∷ []

-- a row of an empty block at a place
abbrev pub row_at : Place → Row
row_at place = record { message = Block []; size = 96; place = place; skipped = 0; progress = 0; promise = Waiting }

-- an unflushed row in front of one in line is out of order, and so is one in line in front of one that is gone
abbrev pub OutOfOrder : Type 0
OutOfOrder =
    (¬ StandInOrder (row_at Unflushed ∷ row_at Flushed ∷ []))
    × (¬ StandInOrder (row_at Voided ∷ row_at Gone ∷ []))
    × StandInOrder (row_at Gone ∷ row_at Flushed ∷ row_at Voided ∷ row_at Unflushed ∷ [])

-- of rows in line the first two go, wherever rows that are not in line stand
abbrev pub TheFirstTwo : Type 0
TheFirstTwo =
    map (λ (row : Row). row.place)
    (with_first 2 (taken_row Success)
    (row_at Gone ∷ row_at Flushed ∷ row_at Unflushed ∷ row_at Voided ∷ row_at Flushed ∷ row_at Unflushed ∷ []))
    ≡ Gone ∷ Gone ∷ Unflushed ∷ Gone ∷ Flushed ∷ Unflushed ∷ []

-- a promise that waits fits an unflushed message, and none that is flushed, voided or gone
abbrev pub WaitsUnflushedAlone : Type 0
WaitsUnflushedAlone =
    FitsItsPlace (row_at Unflushed) × (¬ FitsItsPlace (row_at Flushed)) × (¬ FitsItsPlace (row_at Voided))
    × (¬ FitsItsPlace (row_at Gone))

-- a row at a place whose promise succeeded
abbrev pub sent_at : Place → Row
sent_at place = record (row_at place) { promise = Settled Success }

-- a promise that succeeded fits a message that is gone, and none that is unflushed, flushed or voided
abbrev pub SentOnlyWhenGone : Type 0
SentOnlyWhenGone =
    FitsItsPlace (sent_at Gone) × (¬ FitsItsPlace (sent_at Unflushed)) × (¬ FitsItsPlace (sent_at Flushed))
    × (¬ FitsItsPlace (sent_at Voided))
