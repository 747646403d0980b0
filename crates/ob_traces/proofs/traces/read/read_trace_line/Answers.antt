use Rattle.std.proofs.Common.{◌≡◌, ◌∙◌, ◌<◌, ◌≤◌, ℕ, Result, Err, ap, length}
use Rattle.std.specs.Prelude.{if◌then◌else◌, nat_lt, ok_or}
use Rattle.std.proofs.lemmas.Bool.{le-ltb, lt-ltb}
use Rattle.ob_script.specs.Reading.{greatest_script}
use Rattle.ob_traces.specs.Traces.{line_shown}
use Rattle.ob_script.specs.declared.reading.fault.LineFault.{LineFault}
use Rattle.ob_script.specs.declared.reading.fault.LineFault.TheVariants.{OfNoTrace}
use Rattle.ob_traces.specs.declared.traces.line.TraceLine.{TraceLine}
use Rattle.ob_traces.proofs.traces.read.read_trace_line.Goals as goal

-- a line is of no trace if it is longer than a script may be, and else what its words say
too_long : (read : Result TraceLine LineFault) (bytes : ℕ) → greatest_script < bytes →
    Err OfNoTrace ≡ (if nat_lt greatest_script bytes then Err OfNoTrace else read)
too_long read bytes more = simp (lt-ltb greatest_script bytes more)

within : (read : Result TraceLine LineFault) (bytes : ℕ) → bytes ≤ greatest_script →
    read ≡ (if nat_lt greatest_script bytes then Err OfNoTrace else read)
within read bytes few = simp (le-ltb greatest_script bytes few)

pub returns-then-line-gt-MAX_LINE : goal.returns-then-line-gt-MAX_LINE
returns-then-line-gt-MAX_LINE c =
    too_long (ok_or (line_shown c.args.line.now) OfNoTrace) (length c.args.line.now) c.if-line-gt-MAX_LINE.true

pub returns : goal.returns
returns c =
    c.ok_or.ensures.value ∙ ap (λ shown. ok_or shown OfNoTrace) c.line_of.ensures
    ∙ within (ok_or (line_shown c.args.line.now) OfNoTrace) (length c.args.line.now) c.if-line-gt-MAX_LINE.false
