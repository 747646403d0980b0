-- The definitions on a small history, worked out by hand.
use Rattle.std.specs.Prelude.{◌≡◌, ℕ, true, false, List, [], ◌∷◌, replicate, take, Some, None, Result, Ok, Err}
use Rattle.ob_types.specs.declared.command.Command.TheVariants.{Write, Flush, Remove, Cancel, SetMarks}
use Rattle.ob_types.specs.declared.message.Message.TheVariants.{Block, Region}
use Rattle.ob_types.specs.declared.promise.PromiseId.{PromiseId}
use Rattle.ob_types.specs.declared.promise.Outcome.{Outcome}
use Rattle.ob_types.specs.declared.promise.Outcome.TheVariants.{Success}
use Rattle.ob_types.specs.declared.refusal.Refusal.{Refusal}
use Rattle.ob_types.specs.declared.refusal.Refusal.TheVariants.{HistoryFull, UnknownPromise}
use Rattle.ob_types.specs.declared.reply.Reply.{Reply}
use Rattle.ob_types.specs.declared.reply.Answer.{Answer}
use Rattle.ob_types.specs.declared.reply.Answer.TheVariants.{Id, Count, Yes, Done}
use Rattle.ob_types.specs.declared.reply.Change.TheVariants.{Unwritable}
use Rattle.ob_seq.specs.Rows.{Settings}
use Rattle.ob_seq.specs.Worked.{empty_look}
use Rattle.ob_history.specs.History.{IsAssured, call_answer, history_after, accepted_commands, IsFirstBreak, History}
use Rattle.ob_history.specs.History.{IsLegal, AreOwn, Holding, HoldAll, records_of, receipt_of, glance_after, seen_now}
use Rattle.ob_history.specs.History.{settlements_in, settles}
use Rattle.ob_history.specs.declared.record.Record.{Record}

-- Netty's marks and sizes
abbrev pub settings : Settings
settings = record { marks = record { low = 32768; high = 65536 }; estimate = record { overhead = 96; unknown = 8 } }

-- a reply with no change
abbrev pub quiet_reply : Answer → List (PromiseId × Outcome) → Result Reply Refusal
quiet_reply answer settled = Ok (record { answer = answer; settled = settled; change = None })

-- a write of four bytes by caller 7, recorded at a place
abbrev pub write_at : ℕ → Record
write_at place = record {
  place = place;
  caller = 7;
  command = Write (Block (replicate 4 0));
  reply = quiet_reply (Id (record { 0 = 0 })) [];
}

-- caller 2 wants to take back a promise that nobody was given
abbrev pub refused_cancel : Record
refused_cancel = record { place = 1; caller = 2; command = Cancel (record { 0 = 5 }); reply = Err UnknownPromise }

-- caller 7 flushes, and `count` messages are flushed
abbrev pub flush_of : ℕ → Record
flush_of count = record { place = 2; caller = 7; command = Flush; reply = quiet_reply (Count count) [] }

-- caller 7 removes the message
abbrev pub removal : Record
removal = record {
  place = 3;
  caller = 7;
  command = Remove;
  reply = quiet_reply (Yes true) ((record { 0 = 0 }, Success) ∷ []);
}

-- the write, the refused cancellation, the flush of one message, and its removal
abbrev pub worked_records : List Record
worked_records = write_at 0 ∷ refused_cancel ∷ flush_of 1 ∷ removal ∷ []

-- a refused call stands in a legal history
abbrev pub IsLegalWithARefusal : Type 0
IsLegalWithARefusal = IsLegal settings worked_records

-- the refused call is not among the accepted commands
abbrev pub AcceptedWithoutTheRefused : Type 0
AcceptedWithoutTheRefused = accepted_commands worked_records ≡ Write (Block (replicate 4 0)) ∷ Flush ∷ Remove ∷ []

-- the removal settles the one promise
abbrev pub SettledByTheRemoval : Type 0
SettledByTheRemoval = settlements_in worked_records ≡ (record { 0 = 0 }, Success) ∷ []

-- a record at another place than its index makes a history illegal
abbrev pub IllegalAtAnotherPlace : Type 0
IllegalAtAnotherPlace = ¬ IsLegal settings (write_at 1 ∷ [])

-- and so does a reply that the buffer would not have given there
abbrev pub IllegalWithAnotherReply : Type 0
IllegalWithAnotherReply = ¬ IsLegal settings (write_at 0 ∷ refused_cancel ∷ flush_of 2 ∷ [])

-- a history of `count` of these records, of which there may be four, with one call reserved
abbrev pub stored : ℕ → History
stored count = record { settings = settings; limit = 4; records = take count worked_records; reserved = 1 }

-- the fourth record fits, and uses the reserved call up
abbrev pub LastPlace : Type 0
LastPlace =
    (call_answer (stored 3) 7 Remove ≡ Ok (receipt_of removal))
    × (history_after (stored 3) 7 Remove
    ≡ record { settings = settings; limit = 4; records = worked_records; reserved = 0 })

-- a fifth is refused, whatever it asks, and changes nothing
abbrev pub FullHistory : Type 0
FullHistory = (call_answer (stored 4) 7 Flush ≡ Err HistoryFull) × (history_after (stored 4) 7 Flush ≡ stored 4)

-- before the removal one message of 4 bytes and an overhead of 96 is in line
abbrev pub SeenBeforeTheRemoval : Type 0
SeenBeforeTheRemoval =
    seen_now (stored 3) ≡ record {
      place = 3;
      look = record empty_look { total = 100; size = 1; before_unwritable = 65437 };
    }

-- a glance shows the same total before it, and nothing after
abbrev pub Glances : Type 0
Glances =
    (glance_after settings (take 3 worked_records) ≡ record { word = 0; total = 100 })
    × (glance_after settings worked_records ≡ record { word = 0; total = 0 })

-- caller 2 sets marks below what is pending
abbrev pub marks_lowered : Record
marks_lowered = record {
  place = 1;
  caller = 2;
  command = SetMarks (record { low = 0; high = 50 });
  reply = quiet_reply Done [];
}

-- the next write of caller 7 goes by them
abbrev pub write_under_new_marks : Record
write_under_new_marks = record {
  place = 2;
  caller = 7;
  command = Write (Block (replicate 4 0));
  reply = Ok (record { answer = Id (record { 0 = 1 }); settled = []; change = Some Unwritable });
}

-- a call that sets marks is one of a legal history, and the calls after it go by the new marks
abbrev pub LegalUnderNewMarks : Type 0
LegalUnderNewMarks = IsLegal settings (write_at 0 ∷ marks_lowered ∷ write_under_new_marks ∷ [])

-- and so do a look at the place after it, and a glance at the end
abbrev pub SeenUnderNewMarks : Type 0
SeenUnderNewMarks =
    (seen_now (record { settings = settings; limit = 4; records = write_at 0 ∷ marks_lowered ∷ []; reserved = 0 })
    ≡ record {
      place = 2;
      look = record empty_look { total = 100; before_unwritable = 0 };
    })
    × (glance_after settings (write_at 0 ∷ marks_lowered ∷ write_under_new_marks ∷ [])
    ≡ record { word = 1; total = 200 })

-- the removal alone settles the promise, and no other one
abbrev pub SettledByOneRecord : Type 0
SettledByOneRecord =
    (settles (record { 0 = 0 }) removal ≡ true) × (settles (record { 0 = 1 }) removal ≡ false)
    × (settles (record { 0 = 0 }) (write_at 0) ≡ false) × (settles (record { 0 = 5 }) refused_cancel ≡ false)

-- three records are caller 7's, and one is caller 2's
abbrev pub RecordsOfTwoCallers : Type 0
RecordsOfTwoCallers =
    (records_of 7 worked_records ≡ write_at 0 ∷ flush_of 1 ∷ removal ∷ [])
    × (records_of 2 worked_records ≡ refused_cancel ∷ []) × (records_of 0 worked_records ≡ [])

-- two receipts of caller 7, in the order of its calls, are its own
abbrev pub OwnReceipts : Type 0
OwnReceipts = AreOwn 7 worked_records (receipt_of (write_at 0) ∷ receipt_of removal ∷ [])

-- but not in another order, nor one of them twice
abbrev pub ExchangedReceipts : Type 0
ExchangedReceipts =
    (¬ AreOwn 7 worked_records (receipt_of removal ∷ receipt_of (write_at 0) ∷ []))
    × (¬ AreOwn 7 worked_records (receipt_of removal ∷ receipt_of removal ∷ []))

-- nor is another caller's receipt, nor one that says another count: it is the first that is not
abbrev pub ForeignReceipts : Type 0
ForeignReceipts =
    (¬ AreOwn 7 worked_records (receipt_of refused_cancel ∷ []))
    × IsFirstBreak (AreOwn 7 worked_records)
    (receipt_of (write_at 0) ∷ receipt_of (flush_of 2) ∷ receipt_of removal ∷ []) 1

-- caller 7 holds its three receipts, and caller 2 its one
abbrev pub holdings : List Holding
holdings =
    record { caller = 7; receipts = receipt_of (write_at 0) ∷ receipt_of (flush_of 1) ∷ receipt_of removal ∷ [] }
    ∷ record { caller = 2; receipts = receipt_of refused_cancel ∷ [] } ∷ []

-- together they hold all records
abbrev pub AllHeld : Type 0
AllHeld = HoldAll worked_records holdings

-- but not if one receipt is held back
abbrev pub OneHeldBack : Type 0
OneHeldBack =
    ¬ HoldAll worked_records (record { caller = 7; receipts = receipt_of (write_at 0) ∷ receipt_of removal ∷ [] }
    ∷ record { caller = 2; receipts = receipt_of refused_cancel ∷ [] } ∷ [])

-- with one call reserved a removal is assured; a write never is, nor is any call with none reserved
abbrev pub AssuredCalls : Type 0
AssuredCalls =
    IsAssured (stored 3) Remove × (¬ IsAssured (stored 3) (Write (Region 1)))
    × (¬ IsAssured (record (stored 3) { reserved = 0 }) Remove)
