-- How a sink of a script keeps it, what a transport has to do next, and what comes of the call and of the reservation
-- that it makes. No public clause cites this module.
use Rattle.std.specs.List.{concat}
use Rattle.std.specs.Prelude.{drop, ◌≡◌, ◌<◌, ℕ, true, false, Result, Ok, Err, ◌-◌, nat_le, if◌then◌else◌, List, []}
use Rattle.std.specs.Prelude.{◌∷◌, Option, Some, None}
use Rattle.ob_types.specs.declared.command.Command.{Command}
use Rattle.ob_types.specs.declared.command.Command.TheVariants.{Remove, RemoveWith, RemoveBytes}
use Rattle.ob_types.specs.declared.message.Message.{Message}
use Rattle.ob_types.specs.declared.message.Message.TheVariants.{Block, Region, Other}
use Rattle.ob_seq.specs.Effect.{rows_after}
use Rattle.ob_seq.specs.Looks.{current_after, progress_of, gathered_after}
use Rattle.ob_seq.specs.Rows.{Settings, front}
use Rattle.ob_history.specs.History.{IsAssured, history_after, is_full, History, LacksPlaces, with_reserved}
use Rattle.ob_transport.specs.Pass.{Clears, SendsBytes, SendsUnits, Standing}
use Rattle.ob_transport.specs.Sent.{Script, current_in, gathered_in, progress_in, Asked, OfBytes, OfUnits}
use Rattle.ob_transport.specs.declared.fault.Pass.{Pass}
use Rattle.ob_transport.specs.declared.fault.Pass.TheVariants.{Idle}
use Rattle.ob_transport.specs.declared.fault.PassFault.{PassFault}
use Rattle.ob_transport.specs.declared.fault.PassFault.TheVariants.{Sink, HistoryFull, NoMemory, Unbooked}
use Rattle.ob_transport.specs.declared.limits.Limits.{Limits}
use Rattle.ob_transport.specs.declared.next.Next.{Next}
use Rattle.ob_transport.specs.declared.next.Next.TheVariants as next
use Rattle.ob_transport.specs.declared.script.ScriptSink.TheInside.{Inside}

-- what is left of the script, and what was taken
abbrev pub script_of : Inside → Script
script_of inside = record {
  steps = drop inside.used inside.steps.items;
  most_after = inside.after;
  content = record { bytes = inside.taken.items; units = inside.units; failures = inside.failures };
}

-- a command is recorded, or the history is full, or it is out of memory, which a reserved call never is
abbrev pub Given : {A : Type 0} → ℕ → Command → History → Result A PassFault → History → Type 0
Given caller command before (Ok done) after = (is_full before ≡ false) × (after ≡ history_after before caller command)
Given caller command before (Err (Sink fault)) after = ⊥
Given caller command before (Err HistoryFull) after = (is_full before ≡ true) × (after ≡ before)
Given caller command before (Err NoMemory) after = (is_full before ≡ false) × (¬ IsAssured before command)
    × (after ≡ before)
Given caller command before (Err (Unbooked taken)) after = ⊥

-- two calls are reserved, or fewer places are left, or it is out of memory, which it never is if they are reserved
-- already
abbrev pub Readied : {A : Type 0} → History → Result A PassFault → History → Type 0
Readied before (Ok done) after = (¬ LacksPlaces before 2) × (after ≡ with_reserved before 2)
Readied before (Err (Sink fault)) after = ⊥
Readied before (Err HistoryFull) after = LacksPlaces before 2 × (after ≡ before)
Readied before (Err NoMemory) after = (¬ LacksPlaces before 2) × (before.reserved < 2) × (after ≡ before)
Readied before (Err (Unbooked taken)) after = ⊥

-- nothing, or a command that clears the front, or bytes to be offered, or units to be offered
pub data Offer : Type 0 where
  Nothing : Offer
  Clearing : Command → Offer
  Bytes : List ℕ → Offer
  Units : ℕ → Offer

-- what there is to do, by the message in front, what is gathered, and the progress of the front
abbrev pub offer_by : Option Message → List (List ℕ) → ℕ → Offer
offer_by None blocks progress = Nothing
offer_by (Some (Block bytes)) [] progress = Clearing (RemoveBytes 0)
offer_by (Some (Block bytes)) (block ∷ blocks) progress = Bytes (concat (block ∷ blocks))
offer_by (Some (Region length)) blocks progress = if nat_le length progress then Clearing Remove else Units
    (length - progress)
offer_by (Some (Other value)) blocks progress = Clearing (RemoveWith (record { 0 = 1 }))

-- what there is to do after a history
abbrev pub offer_after : Limits → Settings → List Command → Offer
offer_after limits settings commands =
    offer_by (current_after settings commands) (gathered_after settings commands limits.max_count limits.max_bytes)
    (progress_of (front (rows_after settings.estimate commands)))

-- what there is to do where a transport stands
abbrev pub offer_at : Limits → Standing → Offer
offer_at limits at = offer_by (current_in at.history) (gathered_in limits at.history) (progress_in at.history)

-- the code's word for it
abbrev pub offer_of : Next → Offer
offer_of next.Nothing = Nothing
offer_of (next.Clear command) = Clearing command
offer_of (next.Blocks blocks) = Bytes (concat blocks.items)
offer_of (next.Region rest) = Units rest

-- how a pass may end that has this to do
abbrev pub Ends : ℕ → Offer → Standing → Result Pass PassFault → Standing → Type 0
Ends caller Nothing before result after = (result ≡ Ok Idle) × (after ≡ before)
Ends caller (Clearing command) before result after = Clears caller command before result after
Ends caller (Bytes bytes) before result after = SendsBytes caller bytes before result after
Ends caller (Units rest) before result after = SendsUnits caller rest before result after

-- there are bytes to be offered
abbrev pub HasBytes : Offer → Type 0
HasBytes offer = (bytes : List ℕ) × (offer ≡ Bytes bytes)

-- what a sink is asked is what there is to be offered
abbrev pub IsOffered : Offer → Asked → Type 0
IsOffered Nothing asked = ⊥
IsOffered (Clearing command) asked = ⊥
IsOffered (Bytes bytes) asked = asked ≡ OfBytes bytes
IsOffered (Units rest) asked = asked ≡ OfUnits rest
