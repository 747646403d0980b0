-- The definitions on small lists of events, worked out by hand.
use Rattle.std.specs.Prelude.{◌≡◌, ℕ, Bool, true, false, List, [], ◌∷◌, ◌++◌, replicate, Some, None}
use Rattle.ob_types.specs.declared.command.Command.TheVariants.{Write, Flush, Remove, RemoveBytes, Cancel, FailFlushed, Close}
use Rattle.ob_types.specs.declared.message.Message.TheVariants.{Block, Region}
use Rattle.ob_types.specs.declared.refusal.Refusal.TheVariants.{Closed, Oversize}
use Rattle.ob_lifecycle.specs.Events.{Event, Accepted, Refused as WasRefused, Finishing as Asked, Ticked, Opened}
use Rattle.ob_lifecycle.specs.Events.{finishes}
use Rattle.ob_lifecycle.specs.Managed.{fault_of_write}
use Rattle.ob_lifecycle.specs.Strain.{numbers_after, refusals_after, stopped_after, stops_after}
use Rattle.ob_lifecycle.specs.declared.refusals.Refusals.{Refusals}
use Rattle.ob_lifecycle.specs.declared.fault.WriteFault.TheVariants.{Refused, Finishing, Full}

-- marks of 200 and 400, this many bytes for each entry and 8 for an unknown message, and at most 250 bytes pending
abbrev pub counting : ℕ → Opened
counting overhead = record {
  settings = record { marks = record { low = 200; high = 400 }; estimate = record { overhead = overhead; unknown = 8 } };
  limits = record { most_pending = 250; window = 30; least_bytes = 10 };
  now = 0;
}

-- no refusals
abbrev pub none_refused : Refusals
none_refused = record {
  closed = 0;
  finishing = 0;
  oversize = 0;
  full = 0;
  too_much = 0;
  no_memory = 0;
  nothing_flushed = 0;
  too_far = 0;
  too_many_bytes = 0;
  bad_index = 0;
  flushed_left = 0;
  unknown_promise = 0;
}

-- an accepted write of a block of *n* bytes
abbrev pub block : ℕ → Event
block n = Accepted (Write (Block (replicate n 0)))

-- which of these calls tell that the end is reached
abbrev pub told : Opened → List Event → List (List Event) → List Bool
told opened earlier [] = []
told opened earlier (brought ∷ calls) = finishes opened earlier brought ∷ told opened (earlier ++ brought) calls

-- the end is told by the removal of the last byte, and not again
abbrev pub TheLastByte : Type 0
TheLastByte =
    told (counting 96) []
    ((block 4 ∷ []) ∷ (Accepted Flush ∷ []) ∷ (Asked ∷ []) ∷ (Accepted (RemoveBytes 3) ∷ [])
    ∷ (Accepted (RemoveBytes 1) ∷ []) ∷ (Asked ∷ []) ∷ [])
    ≡ false ∷ false ∷ false ∷ false ∷ true ∷ false ∷ []

-- with nothing left it is told at once
abbrev pub NothingLeft : Type 0
NothingLeft = told (counting 96) [] ((Asked ∷ []) ∷ (Asked ∷ []) ∷ []) ≡ true ∷ false ∷ []

-- a region that counts nothing is waited for
abbrev pub ARegionLeft : Type 0
ARegionLeft =
    told (counting 0) []
    ((Accepted (Write (Region 10)) ∷ []) ∷ (Accepted Flush ∷ []) ∷ (Asked ∷ []) ∷ (Accepted Remove ∷ []) ∷ [])
    ≡ false ∷ false ∷ false ∷ true ∷ []

-- a message that no flush has reached is waited for, until the connection closes
abbrev pub AnUnflushedLeft : Type 0
AnUnflushedLeft =
    told (counting 96) []
    ((block 4 ∷ Accepted Flush ∷ block 4 ∷ Asked ∷ []) ∷ (Accepted (FailFlushed (record { 0 = 1 }) true) ∷ [])
    ∷ (Accepted (Close (record { 0 = 1 })) ∷ []) ∷ [])
    ≡ false ∷ false ∷ true ∷ []

-- a cancelled message is waited for until it is taken away, empty as it is
abbrev pub AVoidedLeft : Type 0
AVoidedLeft =
    told (counting 96) []
    ((block 4 ∷ Accepted (Cancel (record { 0 = 0 })) ∷ Accepted Flush ∷ Asked ∷ []) ∷ (Accepted (RemoveBytes 0) ∷ []) ∷ [])
    ≡ false ∷ true ∷ []

-- a connection that is given up has reached its end
abbrev pub GivenUp : Type 0
GivenUp =
    told (counting 96) []
    ((block 4 ∷ Accepted Flush ∷ block 4 ∷ Asked ∷ [])
    ∷ (Accepted (FailFlushed (record { 0 = 1 }) false) ∷ Accepted (Close (record { 0 = 1 })) ∷ []) ∷ [])
    ≡ false ∷ true ∷ []

-- two blocks of 29 bytes are the 250 bytes that may be pending, and one byte more is past the cap
abbrev pub AtTheCap : Type 0
AtTheCap =
    (fault_of_write (Block (replicate 29 0)) (counting 96) (block 29 ∷ []) ≡ None)
    × (fault_of_write (Block (replicate 30 0)) (counting 96) (block 29 ∷ []) ≡ Some Full)

-- a finishing connection refuses as that before the cap does, and a closed one as that
abbrev pub InThatOrder : Type 0
InThatOrder =
    (fault_of_write (Block (replicate 30 0)) (counting 96) (block 29 ∷ Asked ∷ []) ≡ Some Finishing)
    × (fault_of_write (Block []) (counting 96) (Asked ∷ Accepted (Close (record { 0 = 1 })) ∷ []) ≡ Some (Refused Closed))
    × (fault_of_write (Region 9223372036854775808) (counting 300) [] ≡ Some (Refused Oversize))

-- of three blocks one is sent, one voided by a flush and one failed by a close; 200 bytes were pending at most
abbrev pub OneOfEach : Type 0
OneOfEach =
    numbers_after (counting 96)
    (block 4 ∷ block 4 ∷ Accepted (Cancel (record { 0 = 1 })) ∷ Accepted Flush ∷ Accepted (RemoveBytes 4) ∷ block 10
    ∷ Accepted (Close (record { 0 = 1 })) ∷ [])
    ≡ record {
      accepted = record { messages = 3; bytes = 306 };
      sent = record { messages = 1; bytes = 100 };
      failed = record { messages = 1; bytes = 106 };
      cancelled = record { messages = 1; bytes = 100 };
      pending = record { messages = 0; bytes = 0 };
      peak = 200;
      stops = 0;
      stopped = 0;
      refusals = none_refused;
    }

-- a cancelled message is pending until a flush voids it, and one that is sent in part until it is sent whole
abbrev pub StillPending : Type 0
StillPending =
    (numbers_after (counting 96) (block 4 ∷ Accepted Flush ∷ Accepted (RemoveBytes 3) ∷ block 4 ∷ Accepted (Cancel (record { 0 = 1 })) ∷ [])).pending
    ≡ record { messages = 2; bytes = 200 }

-- with four blocks of 100 bytes it is at its high mark, and with a fifth above it: writers are stopped at 10, by the clock,
-- and once 200 bytes are gone still at 30, since 300 are not below the low mark; the removal that lets them go on comes at
-- 45, and a tick behind the last tells nothing
abbrev pub StoppedOnce : Type 0
StoppedOnce =
    let events = block 4 ∷ block 4 ∷ block 4 ∷ block 4 ∷ Ticked 10 ∷ block 4 ∷ Accepted Flush ∷ Ticked 25 ∷ Accepted (RemoveBytes 8)
    ∷ Ticked 30 ∷ Ticked 20 ∷ Ticked 45 ∷ Accepted (RemoveBytes 8) ∷ Ticked 60 ∷ [] in
    (stops_after (counting 96) events ≡ 1) × (stopped_after (counting 96) events ≡ 35)

-- each refusal counts under its reason, and no other event under any
abbrev pub RefusedByReason : Type 0
RefusedByReason =
    refusals_after (block 4 ∷ WasRefused Full ∷ WasRefused (Refused Oversize) ∷ WasRefused Full ∷ Asked ∷ WasRefused Finishing ∷ [])
    ≡ record none_refused { full = 2; oversize = 1; finishing = 1 }
