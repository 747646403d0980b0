-- What a pattern adds to the history of a connection, and how the pieces of a long response are written.
use Rattle.std.specs.Prelude.{◌≡◌, List, [], ◌∷◌, ◌++◌, Result, Ok, Err, ◌<◌, ◌≤◌, ℕ, length, map, take, false, true}
use Rattle.std.specs.Prelude.{Option, Some, None}
use Rattle.ob_types.specs.declared.command.Command.{Command}
use Rattle.ob_types.specs.declared.command.Command.TheVariants.{Write, Flush}
use Rattle.ob_types.specs.declared.message.Message.{Message}
use Rattle.ob_types.specs.declared.message.Message.TheVariants.{Block, Region, Other}
use Rattle.ob_types.specs.declared.refusal.Refusal.{Refusal}
use Rattle.ob_types.specs.declared.refusal.Refusal.TheVariants.{NoMemory}
use Rattle.ob_seq.specs.State.{writable_after}
use Rattle.ob_connection.specs.Calls.{with_more}
use Rattle.ob_connection.specs.Connected.{Connected, answer_of_connection, StandsFor, Gives}
use Rattle.ob_connection.specs.declared.refused.Refused.{Refused}
use Rattle.ob_connection.specs.declared.replies.Written.{Written}
use Rattle.ob_patterns.specs.declared.chunks.Progress.{Progress}
use Rattle.ob_patterns.specs.declared.chunks.Progress.TheVariants.{Finished, Paused, ComeAgain}

-- whatever history the old connection stands for, the new one stands for it with these commands after it, and its
-- settings are the same
pub record Adds (old : Connected) (more : List Command) (new : Connected) : Type 0 where
  pub stands : (commands : List Command) → StandsFor old commands → StandsFor new (commands ++ more)
  pub settings : new.unsent.settings ≡ old.unsent.settings

-- a message is written, and the transport may have it
abbrev pub written_and_flushed : Message → List Command
written_and_flushed message = Write message ∷ Flush ∷ []

-- whatever history the connection stands for, a write of the message after it is refused so, or memory was
abbrev pub RefusesWrite : Connected → Message → Refusal → Type 0
RefusesWrite old message refusal =
    ¬ (refusal ≡ NoMemory) →
    Gives old (λ settings commands. answer_of_connection settings commands (Write message)) (Err refusal)

-- the result of a write that was accepted
abbrev pub accepted : Written → Result Written Refusal
accepted written = Ok written

-- pieces are written, one after another
abbrev pub written : List (List ℕ) → List Command
written pieces = map (λ piece. Write (Block piece)) pieces

-- each piece was wanted: the connection was writable once those before it were written
abbrev pub AreWanted : Connected → List (List ℕ) → Type 0
AreWanted old pieces =
    (place : ℕ) → place < length pieces →
    Gives old (λ settings commands. writable_after settings (commands ++ written (take place pieces))) true

-- the piece that came back, as an answer of its source
abbrev pub piece_in : Message → List (Option (List ℕ))
piece_in (Block bytes) = Some bytes ∷ []
piece_in (Region units) = []
piece_in (Other value) = []

-- what a source answered besides the pieces that are written: none at its end, and the piece that came back
abbrev pub last_answer : Result Progress Refused → List (Option (List ℕ))
last_answer (Ok Finished) = None ∷ []
last_answer (Ok Paused) = []
last_answer (Ok ComeAgain) = []
last_answer (Err refused) = piece_in refused.message

-- why no more pieces were written: the connection is not writable, or as many are written as may be; at the end of the
-- source, and when a piece is refused, it is writable, and refuses a write of what came back so, which is a piece
abbrev pub Stops : ℕ → ℕ → Result Progress Refused → Connected → Type 0
Stops most count (Ok Finished) now = Gives now writable_after true
Stops most count (Ok Paused) now = Gives now writable_after false
Stops most count (Ok ComeAgain) now = count ≡ most
Stops most count (Err refused) now =
    Gives now writable_after true × (length (piece_in refused.message) ≡ 1)
    × RefusesWrite now refused.message refused.refusal

-- a source gave pieces while they were wanted, and each but the one that came back is written, in their order
pub record WritesGiven (most : ℕ) (old : Connected) (before : Option (List (Option (List ℕ))))
    (result : Result Progress Refused) (new : Connected) (after : Option (List (Option (List ℕ)))) : Type 0 where
  pub pieces : List (List ℕ)
  pub few : length pieces ≤ most
  pub wanted : AreWanted old pieces
  pub adds : Adds old (written pieces) new
  pub answers : after ≡ with_more before (map (λ piece. Some piece) pieces ++ last_answer result)
  pub stops : Stops most (length pieces) result new
