-- What one writer is to do and has done, and what a transport hands in. No public clause cites this module.
use Rattle.std.specs.List.{All, flat_map}
use Rattle.std.specs.Prelude.{◌≡◌, ◌+◌, ◌<◌, ◌≤◌, ℕ, suc, List, [], ◌∷◌, ◌++◌, length, map, sum_by, Result, IfErr, IfOk}
use Rattle.std.specs.Prelude.{Vec, count_by}
use Rattle.ob_types.specs.declared.command.Command.{Command}
use Rattle.ob_types.specs.declared.estimate.Estimate.{Estimate}
use Rattle.ob_seq.specs.Rows.{Settings}
use Rattle.ob_history.specs.History.{record_of}
use Rattle.ob_history.specs.declared.receipt.Receipt.{Receipt}
use Rattle.ob_history.specs.declared.record.Record.{Record}
use Rattle.ob_shared.specs.Calls.{Handed, Maker, one_more, ShareValue}
use Rattle.ob_transport.specs.Sent.{Sent, sent_in, Content}
use Rattle.ob_lanes.specs.Run.{RunningLane, WordsValue}
use Rattle.ob_pool.specs.Drive.{ComesOfWork, room_of}
use Rattle.ob_pool.specs.Inside.{AreCounted}
use Rattle.ob_pool.specs.Report.{is_failing}
use Rattle.ob_pool.specs.declared.fault.DriveFault.{DriveFault}
use Rattle.ob_pool.specs.declared.report.counts.Counts.{Counts}

-- what a writer begins with: its share, its plan, and the room of its lane
pub record Job : Type 0 where
  pub maker : Maker
  pub plan : List Command
  pub room : ℕ

-- a caller, how many records it has made, and commands
pub record Work : Type 0 where
  pub caller : ℕ
  pub made : ℕ
  pub commands : List Command

-- what a writer is to do
abbrev pub asked : Job → Work
asked job = record {
  caller = job.maker.caller;
  made = job.maker.made + length job.plan;
  commands = job.plan;
}

-- the commands of receipts
abbrev pub commands_in : List Receipt → List Command
commands_in receipts = map (λ receipt. receipt.command) receipts

-- what a caller hands in that it has done
abbrev pub done_by : Handed → Work
done_by one = record { caller = one.maker.caller; made = one.maker.made; commands = commands_in one.receipts }

-- plans carried out by callers that are numbered from this number on
abbrev pub work_from : ℕ → List (List Command) → List Work
work_from caller [] = []
work_from caller (plan ∷ plans) =
    record { caller = caller; made = length plan; commands = plan } ∷ work_from (suc caller) plans

-- the room that jobs need together
abbrev pub room_for : List Job → ℕ
room_for jobs = sum_by (λ job. job.room) jobs

-- the room of a job is at least that of its plan
abbrev pub IsRoomy : Estimate → ℕ → Job → Type 0
IsRoomy estimate task job = room_of estimate task job.plan ≤ job.room

-- a job is that of one of *n* writers, who are numbered from 0 on
abbrev pub IsNumbered : ℕ → Job → Type 0
IsNumbered writers job = job.maker.caller < writers

-- those who hand in have done what was asked of these jobs, in order
abbrev pub AreDone : List Job → List Handed → Type 0
AreDone jobs handed = map done_by handed ≡ map asked jobs

-- a lane comes back with its words and with all its room
pub record IsBack (lane back : RunningLane) : Type 0 where
  pub words : back.words ≡ lane.words
  pub room : back.lane.room ≡ lane.lane.room

-- a share has read without the lock since it last met the history
abbrev pub HasRead : ShareValue → Type 0
HasRead share = 0 < length share.sight.reads

-- one call with a share leaves a share of which one record more was made, and a receipt of its command behind those
-- that were there
pub record IsOneCall (share : ShareValue) (asked : Command) (before after : List Receipt) (left : ShareValue)
    : Type 0 where
  pub made : left.maker ≡ one_more share.maker
  pub commands : commands_in after ≡ commands_in before ++ asked ∷ []

-- jobs of *n* writers may begin: their lane steps on these words and has room for all of them together, and
-- each has room for its plan
pub record MayBegin (used : WordsValue) (estimate : Estimate) (task writers : ℕ) (lane : RunningLane)
    (jobs : List Job)
    : Type 0 where
  pub words : lane.words ≡ used
  pub roomy : All (IsRoomy estimate task) jobs
  pub numbered : All (IsNumbered writers) jobs
  pub room : room_for jobs ≤ lane.lane.room
  pub whole : lane.lane.room ≤ lane.words.grant.room

-- jobs of *n* writers have been worked on: their lane is back, and they are done, and their receipts are counted, or a
-- fault of the work ended them
pub record JobsHaveEnded {Z : Type 0} (writers : ℕ) (jobs : List Job) (lane back : RunningLane)
    (handed : Result (Vec Handed Z) DriveFault) (counts : Counts) : Type 0 where
  pub lane_back : IsBack lane back
  pub done : IfOk handed (λ dones. AreDone jobs dones.items)
  pub counted : IfOk handed (λ dones. AreCounted writers dones.items counts)
  pub fault : IfErr handed (ComesOfWork writers)

-- records have grown by those of one caller alone
pub record GrowsBy (caller : ℕ) (before after : List Record) : Type 0 where
  pub more : List Record
  pub grown : after ≡ before ++ more
  pub own : All (λ one. one.caller ≡ caller) more

-- what the record of a receipt sends in a history
abbrev pub sent_at : Settings → List Record → Receipt → Sent
sent_at settings records receipt = sent_in settings records (record_of receipt)

-- receipts name places in a history, and a sink has taken just what their records send there, more than it had
pub record HasTakenOf (settings : Settings) (records : List Record) (receipts : List Receipt) (before after : Content)
    : Type 0 where
  pub places : All (λ receipt. receipt.place < length records) receipts
  pub bytes : after.bytes ≡ before.bytes ++ flat_map (λ receipt. (sent_at settings records receipt).bytes) receipts
  pub units : after.units ≡ before.units + sum_by (λ receipt. (sent_at settings records receipt).units) receipts

-- how many receipts are of records that fail what is flushed
abbrev pub failings_in : List Receipt → ℕ
failings_in receipts = count_by is_failing (commands_in receipts)

-- a transport hands in, for this maker, receipts that fail what is flushed as often as the sink failed meanwhile, and
-- send just what the sink took
pub record HasTransported (settings : Settings) (maker : Maker) (before after : Content) (done : Handed) : Type 0 where
  pub caller : done.maker.caller ≡ maker.caller
  pub failings : after.failures ≡ before.failures + failings_in done.receipts
  pub taken : HasTakenOf settings done.sight.seen done.receipts before after
