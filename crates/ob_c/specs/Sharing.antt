-- What an export promises of a shared connection.
use Rattle.std.specs.Prelude.{◌≡◌, ◌<◌, ◌⊎◌, ℕ, List, length, take, Option, Some, None, Result, Ok, Err}
use Rattle.ob_types.specs.Marks.{Marks}
use Rattle.ob_types.specs.Replies.{number_of}
use Rattle.ob_types.specs.declared.command.Command.TheVariants.{SetMarks}
use Rattle.ob_types.specs.declared.message.Message.{Message}
use Rattle.ob_types.specs.declared.message.Message.TheVariants.{Block as AsBlock}
use Rattle.ob_types.specs.declared.refusal.Refusal.{Refusal}
use Rattle.ob_seq.specs.Effect.{bytes_in}
use Rattle.ob_seq.specs.Rows.{Settings}
use Rattle.ob_connection.specs.Connected.{Connected}
use Rattle.ob_connection.specs.Obeying.{done_reply}
use Rattle.ob_shared_connection.specs.Calls.{Makes, ObeyingFreely, UnderLock, IsAnother, IsButForShare, IsFirst}
use Rattle.ob_shared_connection.specs.Calls.{Gathers, IsLook}
use Rattle.ob_shared_connection.specs.Values.{IsGlance, HandleValue, Held, sharing}
use Rattle.ob_shared_connection.specs.Sending.{AreInFront}
use Rattle.ob_shared_connection.specs.declared.glance.Glance.{Glance as GlanceReply}
use Rattle.ob_c.specs.Calls.{AreAt}
use Rattle.ob_c.specs.Replies.{accepted, already_open, busy, done, no_block, no_memory, not_open, status_in_c}
use Rattle.ob_c.specs.declared.pieces.Piece.{Piece}
use Rattle.ob_c.specs.declared.tries.Glance.{Glance}
use Rattle.ob_c.specs.declared.sends.Laid.{Laid}

-- a connection with these settings and nothing written is opened, as its first handle, unless there is one already, they
-- are refused, or memory runs out
abbrev pub OpensShared : Option HandleValue → Result Settings ℕ → ℕ → Option HandleValue → Type 0
OpensShared (Some old) settings status new = (status ≡ already_open) × (new ≡ Some old)
OpensShared None (Err refused) status new = (status ≡ refused) × (new ≡ None)
OpensShared None (Ok settings) status None = status ≡ no_memory
OpensShared None (Ok settings) status (Some new) = (status ≡ done) × IsFirst settings new

-- the second holds a handle that was made, if one was and memory does not run out
abbrev pub KeepsAnother : {E : Type 0} → Result HandleValue E → ℕ → Option HandleValue → Type 0
KeepsAnother (Err refused) status None = status ≡ no_memory
KeepsAnother (Err refused) status (Some other) = ⊥
KeepsAnother (Ok made) status None = status ≡ no_memory
KeepsAnother (Ok made) status (Some other) = (status ≡ done) × (other ≡ made)

-- the second is another handle of the connection of one, unless that is none, there is a second already, or memory runs
-- out
abbrev pub MakesAnother : Option HandleValue → Option HandleValue → ℕ → Option HandleValue → Option HandleValue → Type 0
MakesAnother None second status new other = (status ≡ not_open) × (new ≡ None) × (other ≡ second)
MakesAnother (Some old) (Some second) status new other = (status ≡ already_open) × (new ≡ Some old) × (other ≡ Some second)
MakesAnother (Some old) None status None other = ⊥
MakesAnother (Some old) None status (Some new) None = (status ≡ no_memory) × IsButForShare old new
MakesAnother (Some old) None status (Some new) (Some other) = (status ≡ done) × (new ≡ sharing old) × IsAnother old other

-- the lock was taken by another call, C is told that, and the handle is as it was; or it was had once, and this was done
-- under it with the answer of which C is told
abbrev pub IsMade : {A C : Type 0} → Option A → HandleValue → (A → Held → Held → Type 0) → (Result A ℕ → C) → C
    → Option HandleValue → Type 0
IsMade None old does in_c told new = (told ≡ in_c (Err busy)) × (new ≡ Some old)
IsMade (Some answer) old does in_c told new =
    (told ≡ in_c (Ok answer)) × (after : HandleValue) × (new ≡ Some after) × UnderLock old (does answer) after

-- with no handle C is told so, and else the lock is tried
abbrev pub TriesTo : {A C : Type 0} → Option HandleValue → (A → Held → Held → Type 0) → (Result A ℕ → C) → C
    → Option HandleValue → Type 0
TriesTo None does in_c told new = (told ≡ in_c (Err not_open)) × (new ≡ None)
TriesTo {A = A} (Some old) does in_c told new = (made : Option A) × IsMade made old does in_c told new

-- there was no memory for what the call needs, and the lock was not tried; or else it was tried
abbrev pub IsMadeWithMemory : {A C : Type 0} → Option (Option A) → HandleValue → (A → Held → Held → Type 0)
    → (Result A ℕ → C) → C → Option HandleValue → Type 0
IsMadeWithMemory None old does in_c told new = (told ≡ in_c (Err no_memory)) × (new ≡ Some old)
IsMadeWithMemory (Some made) old does in_c told new = IsMade made old does in_c told new

-- with no handle C is told so, and else the lock is tried, unless there is no memory for what the call needs
abbrev pub TriesToWithMemory : {A C : Type 0} → Option HandleValue → (A → Held → Held → Type 0) → (Result A ℕ → C) → C
    → Option HandleValue → Type 0
TriesToWithMemory None does in_c told new = (told ≡ in_c (Err not_open)) × (new ≡ None)
TriesToWithMemory {A = A} (Some old) does in_c told new =
    (made : Option (Option A)) × IsMadeWithMemory made old does in_c told new

-- the same with a message of the bytes of a block, if there are both a handle and a block
abbrev pub TriesToWithBlock : {A C : Type 0} → Option HandleValue → Option (List ℕ)
    → (Message → A → Held → Held → Type 0) → (Result A ℕ → C) → C → Option HandleValue → Type 0
TriesToWithBlock None block does in_c told new = (told ≡ in_c (Err not_open)) × (new ≡ None)
TriesToWithBlock (Some old) None does in_c told new = (told ≡ in_c (Err no_block)) × (new ≡ Some old)
TriesToWithBlock (Some old) (Some bytes) does in_c told new = TriesToWithMemory (Some old) (does (AsBlock bytes)) in_c told new

-- the lock was taken by another call, C is told that, and the handle is as it was; or it was had once, this was done
-- under it, and C is told the reply
abbrev pub IsTried : {A C : Type 0} → Option (Result A Refusal) → HandleValue → (Result A Refusal → Held → Held → Type 0)
    → (Result A ℕ → C) → C → Option HandleValue → Type 0
IsTried None old does in_c told new = (told ≡ in_c (Err busy)) × (new ≡ Some old)
IsTried (Some result) old does in_c told new =
    (told ≡ in_c (accepted (Some result))) × (after : HandleValue) × (new ≡ Some after) × UnderLock old (does result) after

-- with no handle C is told so, and else the lock is tried
abbrev pub Tries : {A C : Type 0} → Option HandleValue → (Result A Refusal → Held → Held → Type 0) → (Result A ℕ → C) → C
    → Option HandleValue → Type 0
Tries None does in_c told new = (told ≡ in_c (Err not_open)) × (new ≡ None)
Tries {A = A} (Some old) does in_c told new = (tried : Option (Result A Refusal)) × IsTried tried old does in_c told new

-- the message of the bytes of a block, if there is one, and memory to share it
abbrev pub MessageOf : Option (List ℕ) → Result Message ℕ → Type 0
MessageOf None (Err status) = status ≡ no_block
MessageOf None (Ok message) = ⊥
MessageOf (Some bytes) (Err status) = status ≡ no_memory
MessageOf (Some bytes) (Ok message) = message ≡ AsBlock bytes

-- marks that are refused are told as such, and the lock is not tried; or else it is
abbrev pub TriesToSetMarks : Option HandleValue → Result Marks Refusal → ℕ → Option HandleValue → Type 0
TriesToSetMarks None marks told new = (told ≡ not_open) × (new ≡ None)
TriesToSetMarks (Some old) (Err refusal) told new = (told ≡ number_of refusal) × (new ≡ Some old)
TriesToSetMarks (Some old) (Ok marks) told new =
    Tries (Some old) (Makes (ObeyingFreely done_reply) (SetMarks marks)) status_in_c told new

-- the lock was taken by another call, and C is told that; or it was had once, and C is told what a look showed under it
abbrev pub IsLookTried : {A C : Type 0} → Option A → HandleValue → (Connected → A → Type 0) → (Result A ℕ → C) → C
    → Option HandleValue → Type 0
IsLookTried None old shows in_c told new = (told ≡ in_c (Err busy)) × (new ≡ Some old)
IsLookTried (Some answer) old shows in_c told new =
    (told ≡ in_c (Ok answer)) × (after : HandleValue) × (new ≡ Some after) × UnderLock old (IsLook shows answer) after

-- with no handle C is told so, and else a look is tried
abbrev pub TriesToLook : {A C : Type 0} → Option HandleValue → (Connected → A → Type 0) → (Result A ℕ → C) → C
    → Option HandleValue → Type 0
TriesToLook None shows in_c told new = (told ≡ in_c (Err not_open)) × (new ≡ None)
TriesToLook {A = A} (Some old) shows in_c told new = (tried : Option A) × IsLookTried tried old shows in_c told new

-- a glance
abbrev pub glance_in_c : GlanceReply → Glance
glance_in_c glance = record { status = done; word = glance.word; total = glance.total }

-- C is told a glance of the handle, if there is one
abbrev pub GlancesFor : Option HandleValue → Glance → Option HandleValue → Type 0
GlancesFor None told new = (told ≡ record { status = not_open; word = 0; total = 0 }) × (new ≡ None)
GlancesFor (Some old) told new =
    (glance : GlanceReply) × (told ≡ glance_in_c glance) × (after : HandleValue) × (new ≡ Some after)
    × IsGlance old glance after

-- as many pieces are filled as blocks were gathered, with where these lie, and those that hold a byte stay in front
abbrev pub IsLaid : Result (List (List ℕ)) Refusal → Laid → List Piece → HandleValue → Type 0
IsLaid (Err refusal) told pieces after = told ≡ record { status = number_of refusal; count = 0 }
IsLaid (Ok blocks) told pieces after =
    (told ≡ record { status = done; count = length blocks }) × AreAt blocks (take told.count pieces)
    × (0 < bytes_in blocks → AreInFront after (bytes_in blocks))

-- the lock was taken by another call; or it was had once, and blocks were gathered under it
abbrev pub IsGatherTried : Option (Result (List (List ℕ)) Refusal) → HandleValue → ℕ → ℕ → Laid → List Piece
    → Option HandleValue → Type 0
IsGatherTried None old most max_bytes told pieces new = (told ≡ record { status = busy; count = 0 }) × (new ≡ Some old)
IsGatherTried (Some result) old most max_bytes told pieces new =
    (after : HandleValue) × (new ≡ Some after) × IsLaid result told pieces after
    × UnderLock old (IsLook (Gathers (λ blocks. blocks) most max_bytes) result) after

-- with no handle C is told so, and else a look is tried
abbrev pub TriesToGather : Option HandleValue → ℕ → ℕ → Laid → List Piece → Option HandleValue → Type 0
TriesToGather None most max_bytes told pieces new = (told ≡ record { status = not_open; count = 0 }) × (new ≡ None)
TriesToGather (Some old) most max_bytes told pieces new =
    (tried : Option (Result (List (List ℕ)) Refusal)) × IsGatherTried tried old most max_bytes told pieces new

-- a removal of bytes that are in front is accepted, unless the lock was taken
abbrev pub IsTakenIfInFront : Option HandleValue → ℕ → ℕ → Type 0
IsTakenIfInFront None n status = status ≡ not_open
IsTakenIfInFront (Some old) n status = AreInFront old n → (status ≡ busy) ⊎ (status ≡ done)
