-- What a socket reports of itself, and of its calls.
use Rattle.std.specs.Prelude.{◌++◌, List, Option, option_map, ◌≡◌, ℕ, nat_eq, Bool, true, false, [], ◌∷◌, Some, None}
use Rattle.std.specs.Prelude.{Result, Ok, Err}
use Rattle.std.specs.IoError.{error_kind}
use Rattle.std.specs.declared.io.Error.{Error}
use Rattle.std.specs.declared.io.ErrorKind.TheVariants.{WouldBlock}
use Rattle.ob_connection.specs.declared.socket.SocketFault.{SocketFault}
use Rattle.ob_connection.specs.declared.socket.SocketFault.TheVariants.{Blocked, Broken}

-- what a socket reported so far, once these came to it; a socket that reports nothing reports nothing then
abbrev pub with_more : {A : Type 0} → Option (List A) → List A → Option (List A)
with_more told more = option_map (λ before. before ++ more) told

-- a call of a socket: the pieces that it was offered, and how many of their bytes it took, or why none
pub record Call : Type 0 where
  pub offered : List (List ℕ)
  pub answer : Result ℕ SocketFault

-- how many pieces a socket is offered at once, at most
abbrev pub most_pieces : ℕ
most_pieces = 1024

-- what a socket returned, as a list
abbrev pub answers_in : Option (Result ℕ SocketFault) → List (Result ℕ SocketFault)
answers_in None = []
answers_in (Some answer) = answer ∷ []

-- the call that offered these pieces, if there was one
abbrev pub calls_with : List (List ℕ) → Option (Result ℕ SocketFault) → List Call
calls_with pieces None = []
calls_with pieces (Some answer) = record { offered = pieces; answer = answer } ∷ []

-- how many bytes a socket took by this answer
abbrev pub bytes_of : Result ℕ SocketFault → ℕ
bytes_of (Ok count) = count
bytes_of (Err fault) = 0

-- whether a socket was asked and has no room now: it says so, or took nothing
abbrev pub had_no_room : Option (Result ℕ SocketFault) → Bool
had_no_room None = false
had_no_room (Some (Ok count)) = nat_eq count 0
had_no_room (Some (Err Blocked)) = true
had_no_room (Some (Err (Broken error))) = false

-- what a call that failed so says of its socket: it has no room if the call would have blocked, and else it is broken
pub record IsFaultOf (error : Error) (fault : SocketFault) : Type 0 where
  pub no_room : error_kind error ≡ WouldBlock → fault ≡ Blocked
  pub for_good : ¬ (error_kind error ≡ WouldBlock) → fault ≡ Broken error
