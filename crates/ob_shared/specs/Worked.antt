-- The definitions on the small history of two callers, worked out by hand.
use Rattle.std.specs.Prelude.{◌≡◌, ℕ, true, List, [], ◌∷◌, replicate, take, None, Some, Ok}
use Rattle.std.specs.List.{All}
use Rattle.ob_types.specs.declared.command.Command.{Command}
use Rattle.ob_types.specs.declared.command.Command.TheVariants.{Write, Flush, Remove, Close}
use Rattle.ob_types.specs.declared.message.Message.TheVariants.{Block}
use Rattle.ob_types.specs.declared.promise.Outcome.{Outcome}
use Rattle.ob_types.specs.declared.promise.Outcome.TheVariants.{Success}
use Rattle.ob_types.specs.declared.promise.PromiseId.{PromiseId}
use Rattle.ob_types.specs.declared.reply.Answer.{Answer}
use Rattle.ob_types.specs.declared.reply.Answer.TheVariants.{Id, Count, Yes}
use Rattle.ob_seq.specs.Rows.{Settings}
use Rattle.ob_seq.specs.Worked.{empty_look}
use Rattle.ob_history.specs.History.{IsBeginning, receipt_of}
use Rattle.ob_history.specs.declared.record.Record.{Record}
use Rattle.ob_history.specs.declared.receipt.Receipt.{Receipt}
use Rattle.ob_history.specs.declared.seen.Seen.{Seen}
use Rattle.ob_shared.specs.Calls.{HandsInAll, StandsIn, first_short, IsForeign, Handed, HasNoLooks, LacksShare, made_by}
use Rattle.ob_shared.specs.Calls.{IsRead, packed_glance, sight_of, IsUnknown, IsUnsettled, TellsOf}

-- Netty's marks and sizes
abbrev pub settings : Settings
settings = record { marks = record { low = 32768; high = 65536 }; estimate = record { overhead = 96; unknown = 8 } }

-- a record with a reply that reports no change
abbrev recorded : ℕ → ℕ → Command → Answer → List (PromiseId × Outcome) → Record
recorded place caller command answer settled = record {
  place = place;
  caller = caller;
  command = command;
  reply = Ok (record { answer = answer; settled = settled; change = None });
}

-- caller 0 writes four bytes
abbrev pub written : Record
written = recorded 0 0 (Write (Block (replicate 4 0))) (Id (record { 0 = 0 })) []

-- caller 1 flushes one message
abbrev pub flushed : Record
flushed = recorded 1 1 Flush (Count 1) []

-- caller 0 removes it
abbrev pub removed : Record
removed = recorded 2 0 Remove (Yes true) ((record { 0 = 0 }, Success) ∷ [])

-- the three calls, in order
abbrev pub records : List Record
records = written ∷ flushed ∷ removed ∷ []

-- what is seen before the removal: 4 bytes and an overhead of 96
abbrev pub look : Seen
look = record {
  place = 2;
  look = record empty_look { total = 100; size = 1; before_unwritable = 65437 };
}

-- what caller 0 hands in with these receipts of its two calls
abbrev pub writer : List Receipt → Handed
writer receipts = record {
  maker = record { caller = 0; made = 2 };
  sight = sight_of records;
  receipts = receipts;
  told = [];
  seen = [];
}

-- what caller 1 hands in with the receipt of its one call, if it was told of these and saw these
abbrev pub flusher : List Receipt → List Seen → Handed
flusher told seen = record {
  maker = record { caller = 1; made = 1 };
  sight = sight_of (take 2 records);
  receipts = receipt_of flushed ∷ [];
  told = told;
  seen = seen;
}

-- caller 0 with both receipts
abbrev pub whole_writer : Handed
whole_writer = writer (receipt_of written ∷ receipt_of removed ∷ [])

-- both callers, with all that they have
abbrev pub both : List Handed
both = whole_writer ∷ flusher (receipt_of removed ∷ []) (look ∷ []) ∷ []

-- two callers who hand in all: no share is missing, none is short, all stands, and it is all that they made
abbrev pub BothComplete : Type 0
BothComplete =
    (¬ LacksShare 2 both) × (first_short both ≡ None) × All (StandsIn settings records) both
    × All (HandsInAll records) both × (made_by both ≡ 3)

-- without caller 1 its share is missing, and of three callers that of the third is
abbrev pub ShareLeftOut : Type 0
ShareLeftOut = LacksShare 2 (whole_writer ∷ []) × LacksShare 3 both

-- caller 0 without the receipt of the removal is short, and has not handed in all
abbrev pub ReceiptLeftOut : Type 0
ReceiptLeftOut =
    (first_short (flusher [] [] ∷ writer (receipt_of written ∷ []) ∷ []) ≡ Some 0)
    × (¬ HandsInAll records (writer (receipt_of written ∷ [])))

-- a receipt of caller 1 that says that it closed the buffer is foreign, at place 1, though caller 0's all stand
abbrev pub closed : Receipt
closed = record (receipt_of flushed) { command = Close (record { 0 = 1 }) }

abbrev pub CommandChanged : Type 0
CommandChanged =
    IsForeign settings records (whole_writer ∷ record (flusher [] []) { receipts = closed ∷ [] } ∷ []) 1 1

-- receipts in another order are foreign from the second on, which names place 0
abbrev pub ReceiptsExchanged : Type 0
ReceiptsExchanged =
    IsForeign settings records (writer (receipt_of removed ∷ receipt_of written ∷ []) ∷ []) 0 0

-- of a foreign receipt that a caller was told of and a foreign look the receipt comes first
abbrev pub ToldBeforeSeen : Type 0
ToldBeforeSeen =
    IsForeign settings records (flusher (closed ∷ []) (record look { place = 0 } ∷ []) ∷ []) 1 1

-- and a look that is foreign alone is told of by the number of records that it names
abbrev pub LookIsForeign : Type 0
LookIsForeign = IsForeign settings records (whole_writer ∷ flusher [] (record look { place = 7 } ∷ []) ∷ []) 1 7

-- caller 0 has no look to compare, and caller 1 has one
abbrev pub Looks : Type 0
Looks = HasNoLooks (whole_writer ∷ []) × (¬ HasNoLooks both)

-- the removal tells of the one promise; before it the promise is not settled, and there is no second one
abbrev pub PromiseTold : Type 0
PromiseTold =
    TellsOf records (record { 0 = 0 }) (receipt_of removed)
    × (¬ TellsOf records (record { 0 = 0 }) (receipt_of written))
    × IsUnsettled (take 2 records) (record { 0 = 0 }) × (¬ IsUnsettled records (record { 0 = 0 }))
    × IsUnknown records (record { 0 = 1 }) × (¬ IsUnknown records (record { 0 = 0 }))

-- the first two records begin the three, and the second alone does not
abbrev pub BeginningSeen : Type 0
BeginningSeen = IsBeginning (take 2 records) records × (¬ IsBeginning (flushed ∷ []) records)

-- a word of 1 and a total of 496 are one number; a read of a new buffer shows nothing, and a byte is none
abbrev pub ReadOfNothing : Type 0
ReadOfNothing =
    (packed_glance (record { word = 1; total = 496 }) ≡ 4294967792)
    × IsRead settings (sight_of []) (record { word = 0; total = 0 }) (record { seen = []; reads = 0 ∷ [] })
    × (¬ IsRead settings (sight_of []) (record { word = 0; total = 1 }) (record { seen = []; reads = 1 ∷ [] }))
