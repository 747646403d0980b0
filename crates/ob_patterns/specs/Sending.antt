-- What is so of a connection, by what is said to do next, and how a pattern sends.
use Rattle.std.specs.Prelude.{true, false, ◌≡◌, ◌<◌, ◌⊎◌, ℕ, List, Option}
use Rattle.ob_types.specs.declared.promise.Cause.{Cause}
use Rattle.ob_seq.specs.State.{closed_after, empty_after}
use Rattle.ob_connection.specs.Calls.{Call}
use Rattle.ob_connection.specs.Connected.{Connected, Gives}
use Rattle.ob_connection.specs.Obeying.{GivesUp}
use Rattle.ob_connection.specs.Sending.{bytes_in_front_after, SendsInTurns}
use Rattle.ob_connection.specs.declared.ending.Ending.{Ending}
use Rattle.ob_connection.specs.declared.ending.Ending.TheVariants.{Drained, Blocked, OtherInFront, TurnsUsed}
use Rattle.ob_connection.specs.declared.ending.Ending.TheVariants.{Broken as EndsBroken}
use Rattle.ob_connection.specs.declared.replies.SentTurns.{SentTurns}
use Rattle.ob_connection.specs.declared.replies.Taken.{Taken}
use Rattle.ob_patterns.specs.declared.next.Next.{Next}
use Rattle.ob_patterns.specs.declared.next.Next.TheVariants.{Rest, WaitForRoom, ComeAgain, SendFront, Closed, Broken}

-- whatever history the connection stands for: nothing flushed is left at rest; something is if the socket has no room;
-- no block is in front if that is to be sent by other means; and a connection that is said to be closed is
abbrev pub Says : Connected → Next → Type 0
Says now Rest = Gives now empty_after true
Says now WaitForRoom = Gives now empty_after false
Says now ComeAgain = Unit {0}
Says now SendFront = Gives now empty_after false × Gives now bytes_in_front_after 0
Says now Closed = Gives now closed_after true
Says now (Broken error) = Gives now closed_after true

-- the cause for which a connection is given up whose socket is broken
abbrev pub broken : Cause
broken = record { 0 = 1 }

-- the cause for which a connection is given up whose peer is too slow
abbrev pub too_slow : Cause
too_slow = record { 0 = 2 }

-- the most bytes that a turn offers
abbrev pub most_bytes : ℕ
most_bytes = 65536

-- what is next after a sending that ended so
abbrev pub next_after : Ending → Next
next_after Drained = Rest
next_after Blocked = WaitForRoom
next_after OtherInFront = SendFront
next_after TurnsUsed = ComeAgain
next_after (EndsBroken error) = Broken error

-- a connection is given up for this cause; one that was closed stays as it was
abbrev pub IsGivenUp : Connected → Cause → Connected → Type 0
IsGivenUp old cause new =
    ((taken : Taken) × GivesUp old cause taken new) ⊎ (Gives old closed_after true × (new ≡ old))

-- what a sending that ended so makes of the connection that it left: if the socket is broken, that is given up
abbrev pub Leaves : Ending → Connected → Connected → Type 0
Leaves Drained left new = new ≡ left
Leaves Blocked left new = new ≡ left
Leaves OtherInFront left new = new ≡ left
Leaves TurnsUsed left new = new ≡ left
Leaves (EndsBroken error) left new = IsGivenUp left broken new

-- a connection sent in turns, it is said what is next by how that ended, and it was given up if the socket is broken
pub record SendsOpen (turns : ℕ) (old : Connected) (sent_before : Option (List ℕ)) (calls_before : Option (List Call))
    (next : Next) (new : Connected) (sent_after : Option (List ℕ)) (calls_after : Option (List Call)) : Type 0 where
  pub done : SentTurns
  pub left : Connected
  pub sends : SendsInTurns turns most_bytes old sent_before calls_before done left sent_after calls_after
  pub says : next ≡ next_after done.ending
  pub leaves : Leaves done.ending left new

-- a closed connection stays as it is, and its socket is not asked
pub record SendsNothing (old : Connected) (sent_before : Option (List ℕ)) (calls_before : Option (List Call))
    (next : Next) (new : Connected) (sent_after : Option (List ℕ)) (calls_after : Option (List Call)) : Type 0 where
  pub closed : Gives old closed_after true
  pub says : next ≡ Closed
  pub kept : new ≡ old
  pub unsent : sent_after ≡ sent_before
  pub unasked : calls_after ≡ calls_before

-- a connection sends in at most *n* turns, unless it is closed
abbrev pub Spins : ℕ → Connected → Option (List ℕ) → Option (List Call) → Next → Connected → Option (List ℕ) →
    Option (List Call) → Type 0
Spins turns old sent_before calls_before next new sent_after calls_after =
    SendsOpen turns old sent_before calls_before next new sent_after calls_after
    ⊎ SendsNothing old sent_before calls_before next new sent_after calls_after

-- an open connection of which no turn is asked stays as it is, and its socket is not asked
pub record MakesNoTurn (turns : ℕ) (old : Connected) (sent_before : Option (List ℕ)) (calls_before : Option (List Call))
    (next : Next) (new : Connected) (sent_after : Option (List ℕ)) (calls_after : Option (List Call)) : Type 0 where
  pub unclosed : Gives old closed_after false
  pub none : turns ≡ 0
  pub says : next ≡ ComeAgain
  pub kept : new ≡ old
  pub unsent : sent_after ≡ sent_before
  pub unasked : calls_after ≡ calls_before

-- of an open connection, what was done last was to send in at most 16 turns; it is said what was said then, or to come
-- again
pub record SendsLast (turns : ℕ) (old : Connected) (next : Next) (new : Connected) (sent_after : Option (List ℕ))
    (calls_after : Option (List Call)) : Type 0 where
  pub unclosed : Gives old closed_after false
  pub some : 0 < turns
  pub ready : Connected
  pub sent_before : Option (List ℕ)
  pub calls_before : Option (List Call)
  pub said : Next
  pub spins : Spins 16 ready sent_before calls_before said new sent_after calls_after
  pub says : (next ≡ said) ⊎ (next ≡ ComeAgain)

-- a connection is served in at most *n* turns, unless it is closed
abbrev pub Serves : ℕ → Connected → Option (List ℕ) → Option (List Call) → Next → Connected → Option (List ℕ) →
    Option (List Call) → Type 0
Serves turns old sent_before calls_before next new sent_after calls_after =
    SendsLast turns old next new sent_after calls_after
    ⊎ (MakesNoTurn turns old sent_before calls_before next new sent_after calls_after
    ⊎ SendsNothing old sent_before calls_before next new sent_after calls_after)
