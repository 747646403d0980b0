-- What a pass does, by what it finds in front, what several do, and how they account for what a sink took.
use Rattle.std.specs.List.{concat}
use Rattle.std.specs.Prelude.{◌≤◌, ◌≡◌, ◌<◌, ◌==◌, ℕ, true, false, List, length, take, if◌then◌else◌, Result, Ok, Err}
use Rattle.std.specs.Prelude.{◌≢◌, ◌-◌, [], Some, None, ◌+◌, ◌++◌, IsErrOf, zero, suc}
use Rattle.ob_types.specs.declared.command.Command.{Command}
use Rattle.ob_types.specs.declared.command.Command.TheVariants.{Remove, RemoveBytes, Progress, RemoveWith}
use Rattle.ob_types.specs.declared.message.Message.TheVariants.{Block, Region, Other}
use Rattle.ob_types.specs.declared.refusal.Refusal.{Refusal}
use Rattle.ob_types.specs.declared.refusal.Refusal.TheVariants as refusal
use Rattle.ob_history.specs.History.{IsAssured, history_after, is_full, History, LacksPlaces, with_reserved}
use Rattle.ob_transport.specs.Sent.{current_in, gathered_in, progress_in, sent_bytes_in, sent_units_in, unread_in}
use Rattle.ob_transport.specs.Sent.{Content, with_failure, with_more_bytes, with_more_units}
use Rattle.ob_transport.specs.declared.draining.Drained.{Drained}
use Rattle.ob_transport.specs.declared.draining.Stop.{Stop}
use Rattle.ob_transport.specs.declared.draining.Stop.TheVariants as stop
use Rattle.ob_transport.specs.declared.fault.Pass.{Pass}
use Rattle.ob_transport.specs.declared.fault.Pass.TheVariants.{Idle, Stalled, Cleared, Took}
use Rattle.ob_transport.specs.declared.fault.PassFault.{PassFault}
use Rattle.ob_transport.specs.declared.fault.PassFault.TheVariants.{Sink, HistoryFull, NoMemory, Unbooked}
use Rattle.ob_transport.specs.declared.limits.Limits.{Limits}

-- the history of a buffer, and what a sink has taken
pub record Standing : Type 0 where
  pub history : History
  pub sink : Content

-- a transport stands at a history and at what a sink has taken
abbrev pub standing : History → Content → Standing
standing history sink = record { history = history; sink = sink }

-- at least one block and one byte may be offered at once
pub record MayOffer (limits : Limits) : Type 0 where
  pub some_block : 1 ≤ limits.max_count
  pub some_byte : 1 ≤ limits.max_bytes

-- the front is taken away by a command, with nothing offered: it is recorded; or the history is full; or memory runs
-- out, which it never does for a reserved call
abbrev pub Clears : ℕ → Command → Standing → Result Pass PassFault → Standing → Type 0
Clears caller command before (Ok Idle) after = ⊥
Clears caller command before (Ok Stalled) after = ⊥
Clears caller command before (Ok (Took n)) after = ⊥
Clears caller command before (Ok Cleared) after =
    (is_full before.history ≡ false) × (after ≡ record before { history = history_after before.history caller command })
Clears caller command before (Err (Sink fault)) after = ⊥
Clears caller command before (Err HistoryFull) after = (is_full before.history ≡ true) × (after ≡ before)
Clears caller command before (Err NoMemory) after =
    (is_full before.history ≡ false) × (¬ IsAssured before.history command) × (after ≡ before)
Clears caller command before (Err (Unbooked taken)) after = ⊥

-- the history with two calls reserved
abbrev pub ready : Standing → History
ready before = with_reserved before.history 2

-- a pass that finds two places in the history and is left with this outcome
pub record Comes (before after expected : Standing) : Type 0 where
  pub places : ¬ LacksPlaces before.history 2
  pub left : after ≡ expected

-- bytes are offered, with two calls reserved before: the sink takes none; or it takes some, and their removal is
-- recorded; or it fails; or fewer than two places are left; or memory runs out, for what is offered or for the two
-- calls; or for the removal alone, and the bytes taken stand unbooked
abbrev pub SendsBytes : ℕ → List ℕ → Standing → Result Pass PassFault → Standing → Type 0
SendsBytes caller offered before (Ok Idle) after = ⊥
SendsBytes caller offered before (Ok Stalled) after = Comes before after (record before { history = ready before })
SendsBytes caller offered before (Ok (Took n)) after =
    (0 < n) × (n ≤ length offered) × Comes before after (record {
      history = history_after (ready before) caller (RemoveBytes n);
      sink = with_more_bytes (take n offered) before.sink;
    })
SendsBytes caller offered before (Ok Cleared) after = ⊥
SendsBytes caller offered before (Err (Sink fault)) after =
    Comes before after (record { history = ready before; sink = with_failure before.sink })
SendsBytes caller offered before (Err HistoryFull) after = LacksPlaces before.history 2 × (after ≡ before)
SendsBytes caller offered before (Err NoMemory) after = after ≡ before
SendsBytes caller offered before (Err (Unbooked taken)) after =
    (0 < taken) × (taken ≤ length offered) × (¬ IsAssured (ready before) (RemoveBytes taken))
    × Comes before after (record {
      history = ready before;
      sink = with_more_bytes (take taken offered) before.sink;
    })

-- the history once *n* units of the front are booked: their progress, and the removal of the front if the rest was
-- taken
abbrev pub booked_units : ℕ → ℕ → ℕ → History → History
booked_units caller rest n history =
    let progressed = history_after history caller (Progress n) in
    if n == rest then history_after progressed caller Remove else progressed

-- `rest` units are offered, with two calls reserved before: the sink takes none; or it takes some, and they are
-- booked; or it fails; or fewer than two places are left; or memory runs out for the two calls
abbrev pub SendsUnits : ℕ → ℕ → Standing → Result Pass PassFault → Standing → Type 0
SendsUnits caller rest before (Ok Idle) after = ⊥
SendsUnits caller rest before (Ok Stalled) after = Comes before after (record before { history = ready before })
SendsUnits caller rest before (Ok (Took n)) after =
    (0 < n) × (n ≤ rest) × Comes before after (record {
      history = booked_units caller rest n (ready before);
      sink = with_more_units n before.sink;
    })
SendsUnits caller rest before (Ok Cleared) after = ⊥
SendsUnits caller rest before (Err (Sink fault)) after =
    Comes before after (record { history = ready before; sink = with_failure before.sink })
SendsUnits caller rest before (Err HistoryFull) after = LacksPlaces before.history 2 × (after ≡ before)
SendsUnits caller rest before (Err NoMemory) after =
    (before.history.reserved < 2) × Comes before after before
SendsUnits caller rest before (Err (Unbooked taken)) after = ⊥

-- what a pass does by the front: with nothing flushed nothing; a block with nothing to gather is removed with what is
-- empty behind it, a region with no rest is removed, and any other message is given up; gathered blocks and the rest
-- of a region are offered to the sink
pub record IsPass (limits : Limits) (caller : ℕ) (before : Standing) (result : Result Pass PassFault)
    (after : Standing) : Type 0 where
  pub idle : current_in before.history ≡ None → (result ≡ Ok Idle) × (after ≡ before)
  pub no_bytes : (bytes : List ℕ) → current_in before.history ≡ Some (Block bytes) →
      gathered_in limits before.history ≡ [] →
      Clears caller (RemoveBytes 0) before result after
  pub bytes : (bytes : List ℕ) → current_in before.history ≡ Some (Block bytes) →
      gathered_in limits before.history ≢ [] →
      SendsBytes caller (concat (gathered_in limits before.history)) before result after
  pub no_units : (length : ℕ) → current_in before.history ≡ Some (Region length) → length ≤ progress_in before.history →
      Clears caller Remove before result after
  pub units : (length : ℕ) → current_in before.history ≡ Some (Region length) → progress_in before.history < length →
      SendsUnits caller (length - progress_in before.history) before result after
  pub other : (value : ℕ) → current_in before.history ≡ Some (Other value) →
      Clears caller (RemoveWith (record { 0 = 1 })) before result after

-- the number of a fault
abbrev pub number_of : PassFault → ℕ
number_of (Sink fault) = 1
number_of HistoryFull = 2
number_of NoMemory = 3
number_of (Unbooked taken) = 4

-- the fault of a pass whose call was refused: a full history, and else out of memory, since a call is refused by no
-- other
abbrev pub fault_of : Refusal → PassFault
fault_of refusal.HistoryFull = HistoryFull
fault_of other = NoMemory

-- one if the result is the sink's own fault, and else none
abbrev pub failures_in : {A : Type 0} → Result A PassFault → ℕ
failures_in (Ok value) = 0
failures_in (Err (Sink fault)) = 1
failures_in (Err HistoryFull) = 0
failures_in (Err NoMemory) = 0
failures_in (Err (Unbooked taken)) = 0

-- a sink has taken exactly what a history sends, and nothing else, more than it had
pub record HasTaken (history : History) (before after : Content) : Type 0 where
  pub bytes : after.bytes ≡ before.bytes ++ sent_bytes_in history
  pub units : after.units ≡ before.units + sent_units_in history

-- the bytes taken grow by exactly those by which the sent bytes do, and the units by as many as the sent units
pub record GrowAlike (before after : Standing) : Type 0 where
  pub bytes : (more : List ℕ) × (after.sink.bytes ≡ before.sink.bytes ++ more)
      × (sent_bytes_in after.history ≡ sent_bytes_in before.history ++ more)
  pub units : (more : ℕ) × (after.sink.units ≡ before.sink.units + more)
      × (sent_units_in after.history ≡ sent_units_in before.history + more)

-- they grow alike but for `taken` bytes, which were taken last, and are the first unread ones
pub record GrowAlikeBut (taken : ℕ) (before after : Standing) : Type 0 where
  pub unread : taken ≤ length (unread_in after.history)
  pub booked : Content
  pub alike : GrowAlike before (record after { sink = booked })
  pub taken_last : after.sink ≡ with_more_bytes (take taken (unread_in after.history)) booked

-- no bytes are left unbooked
abbrev pub IsBooked : {A : Type 0} → Result A PassFault → Type 0
IsBooked result = (taken : ℕ) → result ≢ Err (Unbooked taken)

-- what a sink took is accounted for if it is booked, but for bytes that are reported, and stand at the front; if each
-- failure of the sink is reported; and if a full history is reported only when two places are lacking
pub record IsAccounted {A : Type 0} (before : Standing) (result : Result A PassFault) (after : Standing) : Type 0 where
  pub alike : IsBooked result → GrowAlike before after
  pub unbooked : (taken : ℕ) → result ≡ Err (Unbooked taken) → GrowAlikeBut taken before after
  pub failures : after.sink.failures ≡ before.sink.failures + failures_in result
  pub full : IsErrOf result HistoryFull → LacksPlaces after.history 2

-- after such a pass there may be more to do: it took something, or cleared the front
abbrev pub GoesOn : Pass → Type 0
GoesOn Idle = ⊥
GoesOn Stalled = ⊥
GoesOn Cleared = Unit {0}
GoesOn (Took n) = Unit {0}

-- `count` passes, one after another, after each of which there may be more to do
abbrev pub Passes : Limits → ℕ → ℕ → Standing → Standing → Type 0
Passes limits caller zero before after = after ≡ before
Passes limits caller (suc count) before after =
    (middle : Standing) × (pass : Pass) × Passes limits caller count before middle × GoesOn pass
    × IsPass limits caller middle (Ok pass) after

-- `count` such passes, and then one with this result
pub record EndsWith (limits : Limits) (caller count : ℕ) (before : Standing) (result : Result Pass PassFault)
    (after : Standing) : Type 0 where
  pub middle : Standing
  pub passes : Passes limits caller count before middle
  pub last : IsPass limits caller middle result after

-- passes stop with the first that finds nothing flushed, or at which the sink takes nothing, or when the turns are
-- used; each pass counts as a turn
abbrev pub StopsWith : Limits → ℕ → ℕ → Standing → ℕ → Stop → Standing → Type 0
StopsWith limits caller turns before used stop.Idle after =
    (count : ℕ) × (used ≡ count + 1) × (count < turns) × EndsWith limits caller count before (Ok Idle) after
StopsWith limits caller turns before used stop.Stalled after =
    (count : ℕ) × (used ≡ count + 1) × (count < turns) × EndsWith limits caller count before (Ok Stalled) after
StopsWith limits caller turns before used stop.TurnsUsed after = (used ≡ turns)
    × Passes limits caller turns before after

-- passes stop so, or with the first that has a fault
abbrev pub Drains : Limits → ℕ → ℕ → Standing → Result Drained PassFault → Standing → Type 0
Drains limits caller turns before (Ok drained) after =
    StopsWith limits caller turns before drained.turns_used drained.stop after
Drains limits caller turns before (Err fault) after =
    (count : ℕ) × (count < turns) × EndsWith limits caller count before (Err fault) after
