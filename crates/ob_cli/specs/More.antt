-- What `drive --verbose` tells beside the report, and how often a sink was offered something.
use Rattle.std.specs.Prelude.{◌+◌, ◌-◌, ◌^◌, ◌==◌, ℕ, cond, min, Bool, false, Result, Ok, Err, ◌&&◌, nat_lt, List, []}
use Rattle.std.specs.Prelude.{◌∷◌, ◌++◌, codes, if◌then◌else◌, Option, None, Some}
use Rattle.ob_types.specs.Replies.{number_of}
use Rattle.ob_types.specs.declared.refusal.Refusal.{Refusal}
use Rattle.ob_types.specs.declared.reply.Change.{Change}
use Rattle.ob_types.specs.declared.reply.Reply.{Reply}
use Rattle.ob_seq.specs.Looks.{look_after}
use Rattle.ob_seq.specs.Rows.{Settings}
use Rattle.ob_seq.specs.declared.look.Look.{Look}
use Rattle.ob_history.specs.History.{accepted_commands}
use Rattle.ob_history.specs.declared.record.Record.{Record}
use Rattle.ob_transport.specs.declared.sink.SinkFault.{SinkFault}
use Rattle.ob_script.specs.Tracing.{number_line}
use Rattle.ob_traces.specs.Summary.{levels_text}
use Rattle.ob_traces.specs.declared.summing.make.Summary.{Summary}
use Rattle.ob_traces.specs.declared.traces.line.Told.{Told}
use Rattle.ob_traces.specs.declared.traces.line.Told.TheVariants as told
use Rattle.ob_traces.specs.declared.traces.line.TraceLine.{TraceLine}
use Rattle.ob_pool.specs.declared.report.Report.{Report}
pub use Rattle.ob_cli.specs.declared.drive.offers.Offers.{Offers}

-- whether a call took nothing, and did not fail
abbrev pub is_stall : Result ℕ SinkFault → Bool
is_stall (Ok count) = count == 0
is_stall (Err fault) = false

-- one more, as far as 64 bits count
abbrev pub one_more : ℕ → ℕ
one_more count = min (count + 1) (2 ^ 64 - 1)

-- one call of the sink more, which may take nothing: a pass makes one at most
abbrev pub with_call : Bool → Offers → Offers
with_call takes_nothing offers = record {
  passes = one_more offers.passes;
  stalls = cond takes_nothing (one_more offers.stalls) offers.stalls;
}

-- one call more, by its answer
abbrev pub with_offer : Result ℕ SinkFault → Offers → Offers
with_offer answer offers = with_call (is_stall answer) offers

-- what a reply tells, and its change of writability
abbrev pub told_by_reply : Result Reply Refusal → Told
told_by_reply (Ok reply) = told.Accepted
told_by_reply (Err refusal) = told.Refused (number_of refusal)

abbrev pub change_by_reply : Result Reply Refusal → Option Change
change_by_reply (Ok reply) = reply.change
change_by_reply (Err refusal) = None

-- a record with the look behind it, as a line of a trace that tells of no promise: these are in the report
abbrev pub shown_with : Result Reply Refusal → Look → TraceLine
shown_with reply look = record {
  told = told_by_reply reply;
  total = look.total;
  is_writable = look.word == 0;
  change = change_by_reply reply;
  settled = record { success = 0; failed = 0; cancelled = 0 };
}

-- the line of the last of some records
abbrev pub line_behind : Settings → List Record → Record → TraceLine
line_behind settings records one = shown_with one.reply (look_after settings (accepted_commands records))

-- the lines of records that stand behind others
abbrev pub lines_from : Settings → List Record → List Record → List TraceLine
lines_from settings before [] = []
lines_from settings before (one ∷ more) =
    line_behind settings (before ++ one ∷ []) one ∷ lines_from settings (before ++ one ∷ []) more

-- the lines of a history
abbrev pub lines_of : Settings → List Record → List TraceLine
lines_of settings records = lines_from settings [] records

-- the line of how long the threads were at work, if that is known
abbrev pub time_text : Option ℕ → List ℕ
time_text None = []
time_text (Some time) = number_line (codes "milliseconds") time

-- a hint if a promise is left and nothing was flushed
abbrev pub hint_text : Report → List ℕ
hint_text report =
    if nat_lt 0 report.left && (report.flushes == 0) then codes "hint: nothing was flushed, so nothing was sent; a line `f W` has writer W flush" ++ 10 ∷ []
    else []

-- the text: the time, the calls of the sink, the pending bytes and writability over the history, and the hint
abbrev pub more_text : Option ℕ → Offers → Summary → Report → List ℕ
more_text time offers summary report =
    time_text time ++ number_line (codes "passes") offers.passes ++ number_line (codes "stalls") offers.stalls
    ++ levels_text summary ++ hint_text report
