-- The numbers of a finished history, what it shows of plans that were carried out, and what the report of a drive
-- tells.
use Rattle.std.specs.Int.{bit_at}
use Rattle.std.specs.List.{range_with_len, All}
use Rattle.std.specs.Prelude.{ℕ, Bool, false, not, ◌&&◌, ◌==◌, nat_lt, is_some, List, count_by, sum_by, ◌≡◌, map}
use Rattle.std.specs.Prelude.{Some, slice_get, ◌+◌, ◌<◌, ◌≤◌, length}
use Rattle.ob_types.specs.Replies.{is_success, is_failed, is_cancelled}
use Rattle.ob_types.specs.Marks.{Marks}
use Rattle.ob_types.specs.Traits.{traits_of, is_write}
use Rattle.ob_types.specs.declared.command.Command.{Command}
use Rattle.ob_types.specs.declared.promise.Outcome.{Outcome}
use Rattle.ob_core.specs.World.{is_set}
use Rattle.ob_seq.specs.Pending.{times_settled}
use Rattle.ob_history.specs.History.{accepted_commands, is_accepted, History, IsLegal, records_of, settlements_in}
use Rattle.ob_history.specs.declared.record.Record.{Record}
use Rattle.ob_transport.specs.Pass.{HasTaken}
use Rattle.ob_transport.specs.Sent.{Content}
use Rattle.ob_pool.specs.declared.report.Report.{Report}

-- whether a command is a flush
abbrev pub is_flush : Command → Bool
is_flush command = (traits_of command).flush

-- whether a command is a cancellation
abbrev pub is_cancel : Command → Bool
is_cancel command = (traits_of command).cancel

-- whether a command is a user bit: it asks something of one
abbrev pub is_user_bit : Command → Bool
is_user_bit command = is_some (traits_of command).bit

-- whether a command fails what is flushed
abbrev pub is_failing : Command → Bool
is_failing command = (traits_of command).failing

-- the bytes that a command removes
abbrev pub removed_by : Command → ℕ
removed_by command = (traits_of command).removed

-- how many accepted commands of a history are writes
abbrev pub writes_of : List Record → ℕ
writes_of records = count_by is_write (accepted_commands records)

-- how many are flushes
abbrev pub flushes_of : List Record → ℕ
flushes_of records = count_by is_flush (accepted_commands records)

-- how many are cancellations
abbrev pub cancels_of : List Record → ℕ
cancels_of records = count_by is_cancel (accepted_commands records)

-- how many are user bits
abbrev pub bits_of : List Record → ℕ
bits_of records = count_by is_user_bit (accepted_commands records)

-- how many records of *n* writers, who are the callers from 0 on, have a refusal
abbrev pub refused_of : ℕ → List Record → ℕ
refused_of writers records = count_by (λ one. nat_lt one.caller writers && not (is_accepted one)) records

-- the bytes that accepted removals of a history took
abbrev pub taken_of : List Record → ℕ
taken_of records = sum_by removed_by (accepted_commands records)

-- how many settlements of a history have such an outcome
abbrev pub settled_as : (Outcome → Bool) → List Record → ℕ
settled_as kind records = count_by (λ settlement. kind settlement.1) (settlements_in records)

-- how many accepted writes of a history have a promise that is not settled
abbrev pub left_of : List Record → ℕ
left_of records =
    count_by (λ id. times_settled (record { 0 = id }) (settlements_in records) == 0)
    (range_with_len 0 (writes_of records))

-- how many records of a history fail what is flushed
abbrev pub failings_of : List Record → ℕ
failings_of records = count_by (λ one. is_failing one.command) records

-- each number of a report is the count of its line over the history, of which *n* callers are writers
pub record IsCounted (writers : ℕ) (report : Report) : Type 0 where
  pub writes : report.writes ≡ writes_of report.recorded.records
  pub flushes : report.flushes ≡ flushes_of report.recorded.records
  pub cancels : report.cancels ≡ cancels_of report.recorded.records
  pub bits : report.bits ≡ bits_of report.recorded.records
  pub refused : report.refused ≡ refused_of writers report.recorded.records
  pub taken : report.taken ≡ taken_of report.recorded.records
  pub success : report.success ≡ settled_as is_success report.recorded.records
  pub failed : report.failed ≡ settled_as is_failed report.recorded.records
  pub cancelled : report.cancelled ≡ settled_as is_cancelled report.recorded.records
  pub left : report.left ≡ left_of report.recorded.records

-- the commands of a caller's records, in order
abbrev pub commands_of : ℕ → List Record → List Command
commands_of caller records = map (λ one. one.command) (records_of caller records)

-- plans are carried out in a history if the records of each writer carry the commands of its plan, in order
abbrev pub AreCarriedOut : List Record → List (List Command) → Type 0
AreCarriedOut records plans =
    (writer : ℕ) (plan : List Command) → slice_get plans writer ≡ Some plan → commands_of writer records ≡ plan

-- the words of a hand-off have come to rest under these marks: nothing is handed over, no user bit is set, and the mark
-- is not set unless low is 0
pub record AreAtRest (marks : Marks) (hand : ℕ × ℕ) : Type 0 where
  pub total : hand.0 ≡ 0
  pub clear : (index : ℕ) → 0 < index → bit_at hand.1 index ≡ 0
  pub mark : 0 < marks.low → is_set hand.1 0 ≡ false

-- a report tells of a drive of these plans over a history that began as this one: its history is one of a single
-- thread, in which each writer has carried its plan out and one caller stands behind the writers, each number is the
-- count of its line over it, and the words of the hand-off have come to rest
pub record TellsOf (first : History) (plans : List (List Command)) (report : Report) : Type 0 where
  pub legal : IsLegal report.recorded.settings report.recorded.records
  pub settings : report.recorded.settings ≡ first.settings
  pub limit : report.recorded.limit ≡ first.limit
  pub carried_out : AreCarriedOut report.recorded.records plans
  pub callers : All (λ one. one.caller ≤ length plans) report.recorded.records
  pub counts : IsCounted (length plans) report
  pub rest : AreAtRest first.settings.marks report.hand

-- what a report's history tells of the sink: what is flushed was failed as often as the sink failed, and what the sink
-- took is what the history sends
pub record TellsOfSink (old new : Content) (report : Report) : Type 0 where
  pub failings : new.failures ≡ old.failures + failings_of report.recorded.records
  pub taken : HasTaken report.recorded old new
