-- How a message is handed to connections of which some are left out.
use Rattle.std.specs.Prelude.{◌≡◌, ℕ, List, Bool, true, false, Result, Ok, Err, Some, slice_get, length, count_by}
use Rattle.ob_types.specs.declared.message.Message.TheVariants.{Block}
use Rattle.ob_seq.specs.State.{writable_after}
use Rattle.ob_connection.specs.Connected.{Connected, Gives}
use Rattle.ob_patterns.specs.Writing.{Adds, RefusesWrite, written_and_flushed}
use Rattle.ob_patterns.specs.declared.broadcasting.LeftOut.{LeftOut}
use Rattle.ob_patterns.specs.declared.broadcasting.LeftOut.TheVariants.{Unwritable, Refused}
use Rattle.ob_patterns.specs.declared.broadcasting.Reached.{Reached}

-- a connection that got the bytes was writable, and has them written and flushed; one that was left out is as it was:
-- it was not writable, or it was and refuses a write of the bytes so
abbrev pub IsHanded : Connected → List ℕ → Result Unit LeftOut → Connected → Type 0
IsHanded old bytes (Ok done) new = Gives old writable_after true × Adds old (written_and_flushed (Block bytes)) new
IsHanded old bytes (Err Unwritable) new = Gives old writable_after false × (new ≡ old)
IsHanded old bytes (Err (Refused refusal)) new =
    Gives old writable_after true × RefusesWrite old (Block bytes) refusal × (new ≡ old)

-- each connection got the bytes or was left out, as the list says of its place
abbrev pub AreHanded : List Connected → List ℕ → List (Result Unit LeftOut) → List Connected → Type 0
AreHanded old bytes handed new =
    (place : ℕ) (before after : Connected) (result : Result Unit LeftOut) → slice_get old place ≡ Some before →
    slice_get handed place ≡ Some result → slice_get new place ≡ Some after → IsHanded before bytes result after

-- it got the bytes
abbrev pub is_handed : Result Unit LeftOut → Bool
is_handed (Ok done) = true
is_handed (Err reason) = false

-- it was left out since it was not writable
abbrev pub is_unwritable : Result Unit LeftOut → Bool
is_unwritable (Ok done) = false
is_unwritable (Err Unwritable) = true
is_unwritable (Err (Refused refusal)) = false

-- it was left out since it refused the bytes
abbrev pub is_refused : Result Unit LeftOut → Bool
is_refused (Ok done) = false
is_refused (Err Unwritable) = false
is_refused (Err (Refused refusal)) = true

-- each of these connections got the bytes or was left out: how many got them, and were left out for either reason
pub record Broadcasts (old : List Connected) (bytes : List ℕ) (reached : Reached) (new : List Connected) : Type 0 where
  pub handed : List (Result Unit LeftOut)
  pub one_each : length handed ≡ length old
  pub each : AreHanded old bytes handed new
  pub counts_got : reached.got ≡ count_by is_handed handed
  pub counts_unwritable : reached.unwritable ≡ count_by is_unwritable handed
  pub counts_refused : reached.refused ≡ count_by is_refused handed
