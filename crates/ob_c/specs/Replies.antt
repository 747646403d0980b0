-- What C is told: the statuses and numbers that it sees, and the structs that say the reply to a command, or the status
-- in its place. The status comes first; if it is not 0, all else is 0.
use Rattle.std.specs.Prelude.{ℕ, ⊤, Option, Some, None, Result, Ok, Err, Bool, true, false}
use Rattle.ob_types.specs.Replies.{number_of}
use Rattle.ob_types.specs.declared.promise.Outcome.{Outcome}
use Rattle.ob_types.specs.declared.promise.Outcome.TheVariants.{Success, Failed, Cancelled as IsCancelled}
use Rattle.ob_types.specs.declared.refusal.Refusal.{Refusal}
use Rattle.ob_types.specs.declared.reply.Change.{Change}
use Rattle.ob_types.specs.declared.reply.Change.TheVariants.{Unwritable, Writable}
use Rattle.ob_connection.specs.declared.replies.Flushed.{Flushed as FlushedReply}
use Rattle.ob_connection.specs.declared.replies.Removed.{Removed as RemovedReply}
use Rattle.ob_connection.specs.declared.replies.Taken.{Taken as TakenReply}
use Rattle.ob_connection.specs.declared.replies.Written.{Written as WrittenReply}
use Rattle.ob_shared_connection.specs.declared.written.WrittenAndFlushed.{WrittenAndFlushed as WrittenAndFlushedReply}
use Rattle.ob_c.specs.declared.replies.Cancelled.{Cancelled}
use Rattle.ob_c.specs.declared.replies.Changed.{Changed}
use Rattle.ob_c.specs.declared.replies.Flushed.{Flushed}
use Rattle.ob_c.specs.declared.replies.Removed.{Removed}
use Rattle.ob_c.specs.declared.replies.Taken.{Taken}
use Rattle.ob_c.specs.declared.replies.Written.{Written}
use Rattle.ob_c.specs.declared.replies.WrittenAndFlushed.{WrittenAndFlushed}
use Rattle.ob_shared_connection.specs.declared.not_written.WriteFault.{WriteFault}
use Rattle.ob_shared_connection.specs.declared.not_written.WriteFault.TheVariants.{Refused, Uncovered}

-- the status of a call that was accepted
abbrev pub done : ℕ
done = 0

-- the status of a call that is out of memory
abbrev pub no_memory : ℕ
no_memory = 12

-- the status of a call with a handle that holds nothing
abbrev pub not_open : ℕ
not_open = 13

-- the status of an opening of a handle that holds something
abbrev pub already_open : ℕ
already_open = 14

-- the status of an opening with an overhead or a size of unknown messages above 65535
abbrev pub bad_estimate : ℕ
bad_estimate = 15

-- the status of a write of a block that holds no bytes
abbrev pub no_block : ℕ
no_block = 16

-- the status of an opening for another edge than this one
abbrev pub other_version : ℕ
other_version = 17

-- the status of a call that found the lock taken, or that lost too many steps at a budget to others
abbrev pub busy : ℕ
busy = 18

-- the status of a write that came after the end was asked for
abbrev pub finishing : ℕ
finishing = 19

-- the status of a write past the limit on the pending bytes
abbrev pub full : ℕ
full = 20

-- the status of a write that the budget had no room for
abbrev pub over_budget : ℕ
over_budget = 21

-- the status of an opening of a budget whose low mark is above the high mark, or whose room is too great
abbrev pub bad_bounds : ℕ
bad_bounds = 22

-- what a call has to report: its reply, or else the status of a handle that holds nothing, or of its refusal
abbrev pub accepted : {A : Type 0} → Option (Result A Refusal) → Result A ℕ
accepted None = Err not_open
accepted (Some (Err refusal)) = Err (number_of refusal)
accepted (Some (Ok reply)) = Ok reply

-- the status of a call that has nothing more to say
abbrev pub status_in_c : Result ⊤ ℕ → ℕ
status_in_c (Err status) = status
status_in_c (Ok reply) = done

-- the number of a change of writability
abbrev pub change_number : Option Change → ℕ
change_number None = 0
change_number (Some Unwritable) = 1
change_number (Some Writable) = 2

-- the number of an outcome; 0 stands for none
abbrev pub outcome_number : Outcome → ℕ
outcome_number Success = 1
outcome_number (Failed cause) = 2
outcome_number IsCancelled = 3

-- the cause of an outcome, which is 0 for one that has none
abbrev pub cause_number : Outcome → ℕ
cause_number Success = 0
cause_number (Failed cause) = cause.0
cause_number IsCancelled = 0

-- a write
abbrev pub written_in_c : Result WrittenReply ℕ → Written
written_in_c (Err status) = record { status = status; change = 0; id = 0 }
written_in_c (Ok reply) = record { status = done; change = change_number reply.change; id = reply.id }

-- a flush
abbrev pub flushed_in_c : Result FlushedReply ℕ → Flushed
flushed_in_c (Err status) = record { status = status; change = 0; count = 0 }
flushed_in_c (Ok reply) = record { status = done; change = change_number reply.change; count = reply.count }

-- a write, and the flush behind it
abbrev pub written_and_flushed_in_c : Result WrittenAndFlushedReply ℕ → WrittenAndFlushed
written_and_flushed_in_c (Err status) = record { status = status; change = 0; id = 0; flush_change = 0; count = 0 }
written_and_flushed_in_c (Ok reply) = record {
  status = done;
  change = change_number reply.written.change;
  id = reply.written.id;
  flush_change = change_number reply.flushed.change;
  count = reply.flushed.count;
}

-- a removal with this change of writability: whether there was a front, and the promise that it settled
abbrev pub removed_with : ℕ → Bool → Option (ℕ × Outcome) → Removed
removed_with change any None = record {
  status = done;
  change = change;
  any = any;
  settled = false;
  outcome = 0;
  cause = 0;
  id = 0;
}
removed_with change any (Some settled) = record {
  status = done;
  change = change;
  any = any;
  settled = true;
  outcome = outcome_number settled.1;
  cause = cause_number settled.1;
  id = settled.0;
}

-- a removal of the front
abbrev pub removed_in_c : Result RemovedReply ℕ → Removed
removed_in_c (Err status) =
    record { status = status; change = 0; any = false; settled = false; outcome = 0; cause = 0; id = 0 }
removed_in_c (Ok reply) = removed_with (change_number reply.change) reply.any reply.settled

-- several messages that were taken away: the interval of their promises, with the outcome of those that it settled
abbrev pub taken_in_c : Result TakenReply ℕ → Taken
taken_in_c (Err status) = record { status = status; change = 0; outcome = 0; cause = 0; count = 0; from = 0; to = 0 }
taken_in_c (Ok reply) = record {
  status = done;
  change = change_number reply.change;
  outcome = outcome_number reply.outcome;
  cause = cause_number reply.outcome;
  count = reply.count;
  from = reply.from;
  to = reply.to;
}

-- a cancellation: whether it came in time
abbrev pub cancelled_in_c : Result Bool ℕ → Cancelled
cancelled_in_c (Err status) = record { status = status; in_time = false }
cancelled_in_c (Ok in_time) = record { status = done; in_time = in_time }

-- a change of a user bit: the change of writability
abbrev pub changed_in_c : Result (Option Change) ℕ → Changed
changed_in_c (Err status) = record { status = status; change = 0 }
changed_in_c (Ok change) = record { status = done; change = change_number change }

-- the status of a write that was refused
abbrev pub put_number : WriteFault → ℕ
put_number (Refused refusal) = number_of refusal
put_number Uncovered = over_budget

-- the reply to a write, or the status of its refusal
abbrev pub put_reply : {A : Type 0} → Result A WriteFault → Result A ℕ
put_reply (Err why) = Err (put_number why)
put_reply (Ok reply) = Ok reply

-- the same, unless the write was not made
abbrev pub put_told : {A : Type 0} → Result (Result A WriteFault) ℕ → Result A ℕ
put_told (Err status) = Err status
put_told (Ok answer) = put_reply answer

-- what C is told of it
abbrev pub put_in_c : Result (Result WrittenReply WriteFault) ℕ → Written
put_in_c told = written_in_c (put_told told)

-- and of one with the flush behind it
abbrev pub put_and_flushed_in_c : Result (Result WrittenAndFlushedReply WriteFault) ℕ → WrittenAndFlushed
put_and_flushed_in_c told = written_and_flushed_in_c (put_told told)
