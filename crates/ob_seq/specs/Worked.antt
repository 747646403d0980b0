-- What commands answer and leave on small histories, at their ends and at the limits, worked out by hand.
use Rattle.std.specs.Prelude.{◌≡◌, ℕ, true, false, List, [], ◌∷◌, ◌++◌, replicate, Option, Some, None, Result, Ok}
use Rattle.std.specs.Prelude.{Err}
use Rattle.ob_types.specs.declared.command.Command.{Command}
use Rattle.ob_types.specs.declared.command.Command.TheVariants.{Write, Flush, Remove, RemoveWith, RemoveBytes}
use Rattle.ob_types.specs.declared.command.Command.TheVariants.{Progress, Cancel, FailFlushed, Close, UserBit}
use Rattle.ob_types.specs.declared.command.Command.TheVariants.{SetMarks}
use Rattle.ob_types.specs.declared.message.Message.TheVariants.{Block, Region, Other}
use Rattle.ob_types.specs.declared.promise.PromiseId.{PromiseId}
use Rattle.ob_types.specs.declared.promise.Outcome.{Outcome}
use Rattle.ob_types.specs.declared.promise.Outcome.TheVariants.{Success, Failed, Cancelled}
use Rattle.ob_types.specs.declared.refusal.Refusal.{Refusal}
use Rattle.ob_types.specs.declared.refusal.Refusal.TheVariants.{Oversize, Closed, NothingFlushed, TooFar}
use Rattle.ob_types.specs.declared.refusal.Refusal.TheVariants.{TooManyBytes, BadIndex, FlushedLeft, UnknownPromise}
use Rattle.ob_types.specs.declared.refusal.Refusal.TheVariants.{TooMuch}
use Rattle.ob_types.specs.declared.reply.Answer.{Answer}
use Rattle.ob_types.specs.declared.reply.Answer.TheVariants.{Id, Count, Yes, Done}
use Rattle.ob_types.specs.declared.reply.Change.{Change}
use Rattle.ob_types.specs.declared.reply.Change.TheVariants.{Unwritable, Writable}
use Rattle.ob_types.specs.declared.reply.Reply.{Reply}
use Rattle.ob_types.specs.declared.promise.PromiseState.TheVariants.{Waiting, Fixed, Settled}
use Rattle.ob_seq.specs.declared.look.Look.{Look}
use Rattle.ob_seq.specs.Answer.{answer_to, commands_after}
use Rattle.ob_seq.specs.Effect.{rows_after}
use Rattle.ob_seq.specs.Looks.{look_after, flushed_after, gathered_after, current_after, promise_after}
use Rattle.ob_seq.specs.Rows.{Settings, total}
use Rattle.ob_seq.specs.State.{word_after}

-- marks low and high, 96 bytes for each entry and 8 for an unknown message
abbrev pub marked : ℕ → ℕ → Settings
marked low high = record { marks = record { low = low; high = high }; estimate = record { overhead = 96; unknown = 8 } }

-- a write of a block of *n* bytes
abbrev pub block : ℕ → Command
block n = Write (Block (replicate n 0))

-- the answer to a command, and the pending bytes and the word after it
pub record Shown : Type 0 where
  pub answer : Result Reply Refusal
  pub total : ℕ
  pub word : ℕ

-- what the commands of a list show, one after another
abbrev pub shown : Settings → List Command → List Command → List Shown
shown settings earlier [] = []
shown settings earlier (command ∷ commands) =
    let after = commands_after settings earlier command in
    record {
      answer = answer_to settings earlier command;
      total = total (rows_after settings.estimate after);
      word = word_after settings after;
    } ∷ shown settings after commands

-- a reply to an accepted command
abbrev pub replied : Answer → List (PromiseId × Outcome) → Option Change → ℕ → ℕ → Shown
replied answer settled change sum word =
    record { answer = Ok (record { answer = answer; settled = settled; change = change }); total = sum; word = word }

-- a promise that succeeds
abbrev pub succeeds : ℕ → List (PromiseId × Outcome)
succeeds id = (record { 0 = id }, Success) ∷ []

-- a rise to the high mark sets nothing, one above it does, and a fall below the low mark clears it
abbrev pub TheFirstRun : Type 0
TheFirstRun =
    shown (marked 200 400) [] (block 304 ∷ block 0 ∷ Flush ∷ Remove ∷ [])
    ≡ replied (Id (record { 0 = 0 })) [] None 400 0 ∷ replied (Id (record { 0 = 1 })) [] (Some Unwritable) 496 1
    ∷ replied (Count 2) [] None 496 1 ∷ replied (Yes true) (succeeds 0) (Some Writable) 96 0 ∷ []

-- a fall to the low mark clears nothing
abbrev pub EqualityWithLow : Type 0
EqualityWithLow =
    shown (marked 200 400) [] (block 204 ∷ block 104 ∷ Flush ∷ Remove ∷ Remove ∷ Remove ∷ [])
    ≡ replied (Id (record { 0 = 0 })) [] None 300 0 ∷ replied (Id (record { 0 = 1 })) [] (Some Unwritable) 500 1
    ∷ replied (Count 2) [] None 500 1 ∷ replied (Yes true) (succeeds 0) None 200 1
    ∷ replied (Yes true) (succeeds 1) (Some Writable) 0 0
    ∷ replied (Yes false) [] None 0 0 ∷ []

-- with a low mark of 0 a buffer stays unwritable when it is empty again
abbrev pub LowZero : Type 0
LowZero =
    shown (marked 0 400) [] (block 400 ∷ Flush ∷ Remove ∷ [])
    ≡ replied (Id (record { 0 = 0 })) [] (Some Unwritable) 496 1 ∷ replied (Count 1) [] None 496 1
    ∷ replied (Yes true) (succeeds 0) None 0 1 ∷ []

-- a region that is too long is refused and leaves no trace
abbrev pub LongRegion : Type 0
LongRegion =
    shown (marked 200 400) [] (Write (Region 9223372036854775808) ∷ Write (Other 7) ∷ [])
    ≡ record { answer = Err Oversize; total = 0; word = 0 } ∷ replied (Id (record { 0 = 0 })) [] None 104 0 ∷ []

-- a promise that is settled in this way
abbrev pub settles : ℕ → Outcome → List (PromiseId × Outcome)
settles id outcome = (record { 0 = id }, outcome) ∷ []

-- a cancelled entry counts until the flush voids it, and stands in line until it is removed
abbrev pub CancelledEntry : Type 0
CancelledEntry =
    shown (marked 200 400) [] (block 304 ∷ block 4 ∷ Cancel (record { 0 = 0 }) ∷ Flush ∷ Remove ∷ Remove ∷ [])
    ≡ replied (Id (record { 0 = 0 })) [] None 400 0 ∷ replied (Id (record { 0 = 1 })) [] (Some Unwritable) 500 1
    ∷ replied (Yes true) (settles 0 Cancelled) None 500 1 ∷ replied (Count 2) [] (Some Writable) 100 0
    ∷ replied (Yes true) [] None 100 0 ∷ replied (Yes true) (succeeds 1) None 0 0 ∷ []

-- a promise that a flush has fixed stays, and an unknown one is refused
abbrev pub FixedPromise : Type 0
FixedPromise =
    shown (marked 200 400) [] (block 4 ∷ Flush ∷ Cancel (record { 0 = 0 }) ∷ Cancel (record { 0 = 1 }) ∷ [])
    ≡ replied (Id (record { 0 = 0 })) [] None 100 0 ∷ replied (Count 1) [] None 100 0
    ∷ replied (Yes false) [] None 100 0
    ∷ record { answer = Err UnknownPromise; total = 100; word = 0 } ∷ []

-- progress wants something flushed, stops at its top, and a removal with a cause fails the promise
abbrev pub ProgressTold : Type 0
ProgressTold =
    shown (marked 200 400) [] (block 4 ∷ Progress 3 ∷ Flush ∷ Progress 3 ∷ Progress 9223372036854775805
    ∷ Progress 9223372036854775804 ∷ RemoveWith (record { 0 = 9 }) ∷ RemoveWith (record { 0 = 9 }) ∷ [])
    ≡ replied (Id (record { 0 = 0 })) [] None 100 0 ∷ record { answer = Err NothingFlushed; total = 100; word = 0 }
    ∷ replied (Count 1) [] None 100 0
    ∷ replied Done [] None 100 0 ∷ record { answer = Err TooFar; total = 100; word = 0 } ∷ replied Done [] None 100 0
    ∷ replied (Yes true) (settles 0 (Failed (record { 0 = 9 }))) None 0 0 ∷ replied (Yes false) [] None 0 0 ∷ []

-- a look at an empty buffer with Netty's marks
abbrev pub empty_look : Look
empty_look =
    record { total = 0; word = 0; size = 0; before_unwritable = 65537; before_writable = 0; current_progress = 0 }

-- a look at an empty buffer, and at one that is unwritable
abbrev pub Looks : Type 0
Looks =
    (look_after (marked 32768 65536) [] ≡ empty_look)
    × (look_after (marked 200 400) (block 304 ∷ block 0 ∷ [])
    ≡ record { total = 496; word = 1; size = 0; before_unwritable = 0; before_writable = 297; current_progress = 0 })

-- a removal of bytes takes the empty block behind the last whole one along, and skips the rest in the next
abbrev pub RemovedBytes : Type 0
RemovedBytes =
    (shown (marked 200 400) [] (block 3 ∷ block 0 ∷ block 5 ∷ Flush ∷ RemoveBytes 3 ∷ RemoveBytes 2 ∷ [])
    ≡ replied (Id (record { 0 = 0 })) [] None 99 0 ∷ replied (Id (record { 0 = 1 })) [] None 195 0
    ∷ replied (Id (record { 0 = 2 })) [] None 296 0
    ∷ replied (Count 3) [] None 296 0 ∷ replied (Count 2) (settles 0 Success ++ settles 1 Success) None 101 0
    ∷ replied (Count 0) [] None 101 0 ∷ [])
    × (look_after (marked 200 400) (block 3 ∷ block 0 ∷ block 5 ∷ Flush ∷ RemoveBytes 3 ∷ RemoveBytes 2 ∷ [])
    ≡ record { total = 101; word = 0; size = 1; before_unwritable = 300; before_writable = 0; current_progress = 2 })

-- no bytes at all remove an empty block in front
abbrev pub EmptyFront : Type 0
EmptyFront =
    shown (marked 200 400) [] (block 0 ∷ Flush ∷ RemoveBytes 0 ∷ RemoveBytes 0 ∷ [])
    ≡ replied (Id (record { 0 = 0 })) [] None 96 0 ∷ replied (Count 1) [] None 96 0
    ∷ replied (Count 1) (succeeds 0) None 0 0 ∷ replied (Count 0) [] None 0 0 ∷ []

-- a region ends the byte run, and so does any other message
abbrev pub EndOfTheByteRun : Type 0
EndOfTheByteRun =
    (shown (marked 200 400) [] (block 3 ∷ Write (Region 9) ∷ Flush ∷ RemoveBytes 4 ∷ [])
    ≡ replied (Id (record { 0 = 0 })) [] None 99 0 ∷ replied (Id (record { 0 = 1 })) [] None 195 0
    ∷ replied (Count 2) [] None 195 0
    ∷ record { answer = Err TooManyBytes; total = 195; word = 0 } ∷ [])
    × (shown (marked 200 400) [] (Write (Other 5) ∷ Flush ∷ RemoveBytes 0 ∷ RemoveBytes 1 ∷ Remove ∷ [])
    ≡ replied (Id (record { 0 = 0 })) [] None 104 0 ∷ replied (Count 1) [] None 104 0 ∷ replied (Count 0) [] None 104 0
    ∷ record { answer = Err TooManyBytes; total = 104; word = 0 } ∷ replied (Yes true) (succeeds 0) None 0 0 ∷ [])

-- marks of 0, and no overhead
abbrev pub bare : Settings
bare = record { marks = record { low = 0; high = 0 }; estimate = record { overhead = 0; unknown = 8 } }

-- with marks of 0 one byte makes a buffer unwritable for good, and an empty block counts nothing
abbrev pub MarksOfZero : Type 0
MarksOfZero =
    shown bare [] (block 0 ∷ block 1 ∷ Flush ∷ RemoveBytes 1 ∷ [])
    ≡ replied (Id (record { 0 = 0 })) [] None 0 0 ∷ replied (Id (record { 0 = 1 })) [] (Some Unwritable) 1 1
    ∷ replied (Count 2) [] None 1 1
    ∷ replied (Count 2) (settles 0 Success ++ settles 1 Success) None 0 1 ∷ []

-- three blocks in line, of which the second was voided
abbrev pub one_voided : List Command
one_voided = block 3 ∷ block 4 ∷ block 5 ∷ Cancel (record { 0 = 1 }) ∷ Flush ∷ []

-- what is gathered, and what is flushed, passes over a voided entry
abbrev pub GatheredBlocks : Type 0
GatheredBlocks =
    (gathered_after (marked 200 400) one_voided 8 6 ≡ replicate 3 0 ∷ [])
    × (gathered_after (marked 200 400) one_voided 8 8 ≡ replicate 3 0 ∷ replicate 5 0 ∷ [])
    × (gathered_after (marked 200 400) one_voided 1 100 ≡ replicate 3 0 ∷ [])
    × (gathered_after (marked 200 400) one_voided 8 1 ≡ replicate 3 0 ∷ [])
    × (gathered_after (marked 200 400) one_voided 0 100 ≡ [])
    × (flushed_after (marked 200 400) one_voided ≡ Block (replicate 3 0) ∷ Block (replicate 5 0) ∷ [])

-- a refused command
abbrev pub refused : Refusal → ℕ → ℕ → Shown
refused refusal sum word = record { answer = Err refusal; total = sum; word = word }

-- the mark and a user bit share the word, and the indexes are 1 to 31
abbrev pub SharedWord : Type 0
SharedWord =
    shown (marked 200 400) [] (UserBit 5 false ∷ block 400 ∷ Flush ∷ Remove ∷ UserBit 5 true ∷ UserBit 0 false
    ∷ UserBit 32 false ∷ [])
    ≡ replied Done [] (Some Unwritable) 0 32 ∷ replied (Id (record { 0 = 0 })) [] None 496 33
    ∷ replied (Count 1) [] None 496 33
    ∷ replied (Yes true) (succeeds 0) None 0 32 ∷ replied Done [] (Some Writable) 0 0 ∷ refused BadIndex 0 0
    ∷ refused BadIndex 0 0 ∷ []

-- of several user bits each stands for itself
abbrev pub SeveralUserBits : Type 0
SeveralUserBits =
    shown (marked 200 400) [] (UserBit 1 false ∷ UserBit 2 false ∷ UserBit 1 true ∷ UserBit 1 true ∷ UserBit 2 true
    ∷ UserBit 31 false ∷ [])
    ≡ replied Done [] (Some Unwritable) 0 2 ∷ replied Done [] None 0 6 ∷ replied Done [] None 0 4
    ∷ replied Done [] None 0 4
    ∷ replied Done [] (Some Writable) 0 0 ∷ replied Done [] (Some Unwritable) 0 2147483648 ∷ []

-- a failing without notice keeps the mark, though the pending bytes fall below low; a close waits for the line to be
-- empty, keeps the word, and is the last command that is not refused
abbrev pub FailedWithoutNotice : Type 0
FailedWithoutNotice =
    shown (marked 200 400) []
    (block 400 ∷ Flush ∷ block 4 ∷ Close (record { 0 = 7 }) ∷ FailFlushed (record { 0 = 7 }) false
    ∷ Close (record { 0 = 7 }) ∷ block 1 ∷ [])
    ≡ replied (Id (record { 0 = 0 })) [] (Some Unwritable) 496 1 ∷ replied (Count 1) [] None 496 1
    ∷ replied (Id (record { 0 = 1 })) [] None 596 1
    ∷ refused FlushedLeft 596 1 ∷ replied (Count 1) (settles 0 (Failed (record { 0 = 7 }))) None 100 1
    ∷ replied (Count 1) (settles 1 (Failed (record { 0 = 7 }))) None 0 1 ∷ refused Closed 0 1 ∷ []

-- with notice it clears the mark
abbrev pub FailedWithNotice : Type 0
FailedWithNotice =
    shown (marked 200 400) [] (block 400 ∷ Flush ∷ block 4 ∷ FailFlushed (record { 0 = 7 }) true ∷ [])
    ≡ replied (Id (record { 0 = 0 })) [] (Some Unwritable) 496 1 ∷ replied (Count 1) [] None 496 1
    ∷ replied (Id (record { 0 = 1 })) [] None 596 1
    ∷ replied (Count 1) (settles 0 (Failed (record { 0 = 7 }))) (Some Writable) 100 0 ∷ []

-- a failing takes voided entries along, and leaves their promises alone
abbrev pub FailedVoided : Type 0
FailedVoided =
    shown (marked 200 400) [] (block 4 ∷ block 5 ∷ Cancel (record { 0 = 0 }) ∷ Flush
    ∷ FailFlushed (record { 0 = 7 }) true ∷ FailFlushed (record { 0 = 7 }) true ∷ [])
    ≡ replied (Id (record { 0 = 0 })) [] None 100 0 ∷ replied (Id (record { 0 = 1 })) [] None 201 0
    ∷ replied (Yes true) (settles 0 Cancelled) None 201 0
    ∷ replied (Count 2) [] None 101 0 ∷ replied (Count 2) (settles 1 (Failed (record { 0 = 7 }))) None 0 0
    ∷ replied (Count 0) [] None 0 0 ∷ []

-- a close leaves a cancelled promise alone, and refuses each later command
abbrev pub ClosedOnce : Type 0
ClosedOnce =
    (shown (marked 200 400) [] (block 4 ∷ Cancel (record { 0 = 0 }) ∷ Close (record { 0 = 3 })
    ∷ Close (record { 0 = 3 }) ∷ UserBit 0 false ∷ SetMarks (record { low = 1; high = 2 }) ∷ [])
    ≡ replied (Id (record { 0 = 0 })) [] None 100 0 ∷ replied (Yes true) (settles 0 Cancelled) None 100 0
    ∷ replied (Count 1) [] None 0 0
    ∷ refused Closed 0 0 ∷ refused Closed 0 0 ∷ refused Closed 0 0 ∷ [])
    × (look_after (marked 200 400) (block 4 ∷ Cancel (record { 0 = 0 }) ∷ Close (record { 0 = 3 }) ∷ [])
    ≡ record { total = 0; word = 0; size = 0; before_unwritable = 401; before_writable = 0; current_progress = 0 })

-- a write of a block of these bytes
abbrev pub block_of : List ℕ → Command
block_of bytes = Write (Block bytes)

-- two blocks in line, of the first of which bytes were removed twice, and one is left over
abbrev pub twice_skipped : List Command
twice_skipped =
    block_of (11 ∷ 12 ∷ 13 ∷ 14 ∷ 15 ∷ []) ∷ block_of (21 ∷ 22 ∷ []) ∷ Flush ∷ RemoveBytes 2 ∷ RemoveBytes 1 ∷ []

-- skipped bytes add up: a removal begins after those of the removals before it, and at most what is unread is removed
abbrev pub TwoSkips : Type 0
TwoSkips =
    shown (marked 200 400) [] (twice_skipped ++ RemoveBytes 5 ∷ RemoveBytes 3 ∷ [])
    ≡ replied (Id (record { 0 = 0 })) [] None 101 0 ∷ replied (Id (record { 0 = 1 })) [] None 199 0
    ∷ replied (Count 2) [] None 199 0 ∷ replied (Count 0) [] None 199 0 ∷ replied (Count 0) [] None 199 0
    ∷ refused TooManyBytes 199 0 ∷ replied (Count 1) (succeeds 0) None 98 0 ∷ []

-- what a transport sees after two skips, and after a third removal that ends in the next block
abbrev pub LeftAfterTwoSkips : Type 0
LeftAfterTwoSkips =
    (current_after (marked 200 400) twice_skipped ≡ Some (Block (14 ∷ 15 ∷ [])))
    × (gathered_after (marked 200 400) twice_skipped 8 100 ≡ (14 ∷ 15 ∷ []) ∷ (21 ∷ 22 ∷ []) ∷ [])
    × (flushed_after (marked 200 400) twice_skipped ≡ Block (14 ∷ 15 ∷ []) ∷ Block (21 ∷ 22 ∷ []) ∷ [])
    × (look_after (marked 200 400) twice_skipped
    ≡ record { total = 199; word = 0; size = 2; before_unwritable = 202; before_writable = 0; current_progress = 3 })
    × (current_after (marked 200 400) (twice_skipped ++ RemoveBytes 3 ∷ []) ≡ Some (Block (22 ∷ [])))
    × (look_after (marked 200 400) (twice_skipped ++ RemoveBytes 3 ∷ [])
    ≡ record { total = 98; word = 0; size = 1; before_unwritable = 303; before_writable = 0; current_progress = 1 })

-- three blocks in line, with more pending than the high mark of 200
abbrev pub three_blocks : List Command
three_blocks = block_of (1 ∷ 2 ∷ 3 ∷ []) ∷ block_of (4 ∷ 5 ∷ 6 ∷ []) ∷ block_of (7 ∷ 8 ∷ []) ∷ Flush ∷ []

-- a removal of bytes brings writability back with the block that takes the pending bytes below the low mark
abbrev pub WritableByBytes : Type 0
WritableByBytes =
    shown (marked 100 200) [] (three_blocks ++ RemoveBytes 5 ∷ RemoveBytes 2 ∷ [])
    ≡ replied (Id (record { 0 = 0 })) [] None 99 0 ∷ replied (Id (record { 0 = 1 })) [] None 198 0
    ∷ replied (Id (record { 0 = 2 })) [] (Some Unwritable) 296 1 ∷ replied (Count 3) [] None 296 1
    ∷ replied (Count 1) (succeeds 0) None 197 1 ∷ replied (Count 1) (succeeds 1) (Some Writable) 98 0 ∷ []

-- of several blocks that one removal of bytes takes away any may bring writability back, and it is reported once
abbrev pub WritableByManyBytes : Type 0
WritableByManyBytes =
    shown (marked 100 200) [] (three_blocks ++ RemoveBytes 8 ∷ [])
    ≡ replied (Id (record { 0 = 0 })) [] None 99 0 ∷ replied (Id (record { 0 = 1 })) [] None 198 0
    ∷ replied (Id (record { 0 = 2 })) [] (Some Unwritable) 296 1 ∷ replied (Count 3) [] None 296 1
    ∷ replied (Count 3) (succeeds 0 ++ (succeeds 1 ++ succeeds 2)) (Some Writable) 0 0 ∷ []

-- a removal as failed brings writability back as any other does
abbrev pub WritableByFailure : Type 0
WritableByFailure =
    shown (marked 100 200) []
    (block_of (1 ∷ 2 ∷ 3 ∷ 4 ∷ 5 ∷ 6 ∷ 7 ∷ 8 ∷ 9 ∷ []) ∷ block_of (10 ∷ 11 ∷ 12 ∷ []) ∷ Flush
    ∷ RemoveWith (record { 0 = 6 }) ∷ [])
    ≡ replied (Id (record { 0 = 0 })) [] None 105 0 ∷ replied (Id (record { 0 = 1 })) [] (Some Unwritable) 204 1
    ∷ replied (Count 2) [] None 204 1
    ∷ replied (Yes true) (settles 0 (Failed (record { 0 = 6 }))) (Some Writable) 99 0 ∷ []

-- a region that was voided, in line before a block, with progress added to it
abbrev pub voided_region : List Command
voided_region = Write (Region 700) ∷ block_of (5 ∷ 6 ∷ []) ∷ Cancel (record { 0 = 0 }) ∷ Flush ∷ Progress 7 ∷ []

-- a voided region is an empty block in the byte run: progress may be added to it, and the next removal of bytes takes
-- it away and settles nothing
abbrev pub VoidedRegion : Type 0
VoidedRegion =
    shown (marked 200 400) [] (voided_region ++ RemoveBytes 3 ∷ RemoveBytes 1 ∷ [])
    ≡ replied (Id (record { 0 = 0 })) [] None 96 0 ∷ replied (Id (record { 0 = 1 })) [] None 194 0
    ∷ replied (Yes true) (settles 0 Cancelled) None 194 0 ∷ replied (Count 2) [] None 98 0 ∷ replied Done [] None 98 0
    ∷ refused TooManyBytes 98 0 ∷ replied (Count 1) [] None 98 0 ∷ []

-- what a transport sees while it stands in front, and when it is gone
abbrev pub LeftOfAVoidedRegion : Type 0
LeftOfAVoidedRegion =
    (current_after (marked 200 400) voided_region ≡ Some (Block []))
    × (current_after (marked 200 400) (voided_region ++ RemoveBytes 1 ∷ []) ≡ Some (Block (6 ∷ [])))
    × (gathered_after (marked 200 400) voided_region 8 100 ≡ (5 ∷ 6 ∷ []) ∷ [])
    × (flushed_after (marked 200 400) voided_region ≡ Block (5 ∷ 6 ∷ []) ∷ [])
    × (look_after (marked 200 400) voided_region
    ≡ record { total = 98; word = 0; size = 2; before_unwritable = 303; before_writable = 0; current_progress = 7 })
    × (look_after (marked 200 400) (voided_region ++ RemoveBytes 1 ∷ [])
    ≡ record { total = 98; word = 0; size = 1; before_unwritable = 303; before_writable = 0; current_progress = 1 })

-- a region in line before a block
abbrev pub region_first : List Command
region_first = Write (Region 700) ∷ block_of (5 ∷ 6 ∷ []) ∷ Flush ∷ []

-- a region that was not voided is what a transport sees in front, and nothing is gathered past it; what is unflushed it
-- does not see
abbrev pub RegionInFront : Type 0
RegionInFront =
    (current_after (marked 200 400) region_first ≡ Some (Region 700))
    × (gathered_after (marked 200 400) region_first 8 100 ≡ [])
    × (flushed_after (marked 200 400) region_first ≡ Region 700 ∷ Block (5 ∷ 6 ∷ []) ∷ [])
    × (current_after (marked 200 400) (region_first ++ Remove ∷ []) ≡ Some (Block (5 ∷ 6 ∷ [])))
    × (current_after (marked 200 400) (block_of (5 ∷ 6 ∷ []) ∷ []) ≡ None)

-- a voided message in line keeps a buffer from being closed, though nothing is pending, until it is removed
abbrev pub ClosedPastAVoided : Type 0
ClosedPastAVoided =
    shown (marked 200 400) []
    (block_of (1 ∷ []) ∷ Cancel (record { 0 = 0 }) ∷ Flush ∷ Close (record { 0 = 3 }) ∷ Remove
    ∷ Close (record { 0 = 3 }) ∷ [])
    ≡ replied (Id (record { 0 = 0 })) [] None 97 0 ∷ replied (Yes true) (settles 0 Cancelled) None 97 0
    ∷ replied (Count 1) [] None 0 0 ∷ refused FlushedLeft 0 0 ∷ replied (Yes true) [] None 0 0
    ∷ replied (Count 0) [] None 0 0 ∷ []

-- one promise of each end: removed, failed in line, cancelled, and failed by the close
abbrev pub each_end : List Command
each_end =
    block_of (1 ∷ 2 ∷ []) ∷ block_of (3 ∷ []) ∷ Flush ∷ Remove ∷ FailFlushed (record { 0 = 7 }) true ∷ block_of (4 ∷ [])
    ∷ block_of (5 ∷ 6 ∷ []) ∷ Cancel (record { 0 = 2 }) ∷ Close (record { 0 = 3 }) ∷ []

-- a close fails the promises that still wait, and no other, and then each command is refused
abbrev pub EachEnd : Type 0
EachEnd =
    shown (marked 200 400) [] (each_end ++ Cancel (record { 0 = 0 }) ∷ RemoveBytes 0 ∷ [])
    ≡ replied (Id (record { 0 = 0 })) [] None 98 0 ∷ replied (Id (record { 0 = 1 })) [] None 195 0
    ∷ replied (Count 2) [] None 195 0 ∷ replied (Yes true) (succeeds 0) None 97 0
    ∷ replied (Count 1) (settles 1 (Failed (record { 0 = 7 }))) None 0 0 ∷ replied (Id (record { 0 = 2 })) [] None 97 0
    ∷ replied (Id (record { 0 = 3 })) [] None 195 0 ∷ replied (Yes true) (settles 2 Cancelled) None 195 0
    ∷ replied (Count 2) (settles 3 (Failed (record { 0 = 3 }))) None 0 0 ∷ refused Closed 0 0 ∷ refused Closed 0 0 ∷ []

-- what has become of each promise after the close, and of one that nobody was given
abbrev pub PromisesAfterAClose : Type 0
PromisesAfterAClose =
    (promise_after (marked 200 400) each_end (record { 0 = 0 }) ≡ Some (Settled Success))
    × (promise_after (marked 200 400) each_end (record { 0 = 1 }) ≡ Some (Settled (Failed (record { 0 = 7 }))))
    × (promise_after (marked 200 400) each_end (record { 0 = 2 }) ≡ Some (Settled Cancelled))
    × (promise_after (marked 200 400) each_end (record { 0 = 3 }) ≡ Some (Settled (Failed (record { 0 = 3 }))))
    × (promise_after (marked 200 400) each_end (record { 0 = 4 }) ≡ None)

-- nothing is left for a transport after the close
abbrev pub NothingLeftAfterAClose : Type 0
NothingLeftAfterAClose =
    (current_after (marked 200 400) each_end ≡ None)
    × (gathered_after (marked 200 400) each_end 8 100 ≡ [])
    × (flushed_after (marked 200 400) each_end ≡ [])

-- before any end a promise waits, and a flush fixes it, but for one that was cancelled
abbrev pub PromisesBeforeAnEnd : Type 0
PromisesBeforeAnEnd =
    (promise_after (marked 200 400) (block_of (1 ∷ []) ∷ []) (record { 0 = 0 }) ≡ Some Waiting)
    × (promise_after (marked 200 400) (block_of (1 ∷ []) ∷ Flush ∷ []) (record { 0 = 0 }) ≡ Some Fixed)
    × (promise_after (marked 200 400) (block_of (1 ∷ []) ∷ Cancel (record { 0 = 0 }) ∷ Flush ∷ []) (record { 0 = 0 })
    ≡ Some (Settled Cancelled))

-- the widest marks above 0, with this overhead and this size of an unknown message
abbrev pub wide : ℕ → ℕ → Settings
wide overhead unknown = record {
  marks = record { low = 1; high = 2147483647 };
  estimate = record { overhead = overhead; unknown = unknown };
}

-- no overhead, and the greatest pending size for an unknown message
abbrev pub light : Settings
light = wide 0 2147483647

-- the pending bytes come to their limit, and one more byte is too much; an empty block is none, and a removal makes
-- room again
abbrev pub TotalAtItsLimit : Type 0
TotalAtItsLimit =
    shown light []
    (Write (Other 1) ∷ Write (Other 2) ∷ block_of (9 ∷ []) ∷ block_of (8 ∷ []) ∷ block_of [] ∷ Flush ∷ Remove
    ∷ block_of (8 ∷ []) ∷ [])
    ≡ replied (Id (record { 0 = 0 })) [] None 2147483647 0
    ∷ replied (Id (record { 0 = 1 })) [] (Some Unwritable) 4294967294 1
    ∷ replied (Id (record { 0 = 2 })) [] None 4294967295 1 ∷ refused TooMuch 4294967295 1
    ∷ replied (Id (record { 0 = 3 })) [] None 4294967295 1 ∷ replied (Count 4) [] None 4294967295 1
    ∷ replied (Yes true) (succeeds 0) None 2147483648 1 ∷ replied (Id (record { 0 = 4 })) [] None 2147483649 1 ∷ []

-- at the limit of the pending bytes the fall to below a low mark of 1 is all of them
abbrev pub LookAtTheLimit : Type 0
LookAtTheLimit =
    look_after light (Write (Other 1) ∷ Write (Other 2) ∷ block_of (9 ∷ []) ∷ [])
    ≡ record empty_look { total = 4294967295; word = 1; before_unwritable = 0; before_writable = 4294967295 }

-- an overhead with which a block of one byte has the greatest pending size
abbrev pub heavy : Settings
heavy = wide 2147483646 2

-- a message with the greatest pending size is taken, and so is the longest region; one byte more is oversize, and
-- refused as that also if it would be too much as well
abbrev pub SizesAtTheirLimits : Type 0
SizesAtTheirLimits =
    shown heavy []
    (block_of (1 ∷ 2 ∷ []) ∷ Write (Other 5) ∷ block_of (3 ∷ []) ∷ Write (Region 9223372036854775807)
    ∷ Write (Region 9223372036854775808) ∷ block_of (4 ∷ 5 ∷ []) ∷ block_of [] ∷ [])
    ≡ refused Oversize 0 0 ∷ refused Oversize 0 0 ∷ replied (Id (record { 0 = 0 })) [] None 2147483647 0
    ∷ replied (Id (record { 0 = 1 })) [] (Some Unwritable) 4294967293 1 ∷ refused Oversize 4294967293 1
    ∷ refused Oversize 4294967293 1 ∷ refused TooMuch 4294967293 1 ∷ []

-- a block in line with progress up to one below the top, and three of its four bytes removed
abbrev pub skipped_past_the_top : List Command
skipped_past_the_top = block_of (1 ∷ 2 ∷ 3 ∷ 4 ∷ []) ∷ Flush ∷ Progress 9223372036854775806 ∷ RemoveBytes 3 ∷ []

-- skipped bytes bring progress up to its top and no further, and are not refused; progress that is added past it is
abbrev pub ProgressAtItsTop : Type 0
ProgressAtItsTop =
    (shown (marked 200 400) [] (skipped_past_the_top ++ Progress 1 ∷ Progress 0 ∷ RemoveBytes 1 ∷ [])
    ≡ replied (Id (record { 0 = 0 })) [] None 100 0 ∷ replied (Count 1) [] None 100 0 ∷ replied Done [] None 100 0
    ∷ replied (Count 0) [] None 100 0 ∷ refused TooFar 100 0 ∷ replied Done [] None 100 0
    ∷ replied (Count 1) (succeeds 0) None 0 0 ∷ [])
    × (look_after (marked 200 400) skipped_past_the_top
    ≡ record empty_look { total = 100; size = 1; before_unwritable = 301; current_progress = 9223372036854775807 })
    × (current_after (marked 200 400) skipped_past_the_top ≡ Some (Block (4 ∷ [])))
