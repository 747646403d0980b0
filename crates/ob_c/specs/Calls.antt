-- What an export promises of the connection behind a handle: a command to it, its opening, blocks and parts that are
-- written, and what is gathered.
use Rattle.std.specs.Prelude.{◌≡◌, ℕ, List, Option, Some, None, Result, IfOk, IfErr, IsErrOf, OnErr, is_err, Bool, true}
use Rattle.std.specs.Prelude.{false, ◌||◌, [], nat_lt, if◌then◌else◌, Ok, Err, ◌&&◌, length, map, take, nat_eq}
use Rattle.ob_types.specs.declared.command.Command.{Command}
use Rattle.ob_types.specs.declared.promise.Cause.{Cause}
use Rattle.ob_types.specs.declared.promise.Outcome.{Outcome}
use Rattle.ob_types.specs.declared.promise.PromiseState.{PromiseState}
use Rattle.ob_types.specs.declared.refusal.Refusal.{Refusal}
use Rattle.ob_types.specs.declared.refusal.Refusal.TheVariants.{Closed, NoMemory}
use Rattle.ob_types.specs.declared.reply.Reply.{Reply}
use Rattle.ob_seq.specs.State.{closed_after}
use Rattle.ob_connection.specs.Connected.{Connected, Gives, Shrinks, StandsFor, AreGathered, IsCurrent}
use Rattle.ob_connection.specs.Obeying.{GivesUp, Obeys, IsNext, taken_reply, done_reply, written_reply}
use Rattle.ob_connection.specs.declared.replies.Taken.{Taken as TakenReply}
use Rattle.ob_c.specs.Replies.{accepted, taken_in_c, done, no_memory, not_open, already_open, bad_estimate}
use Rattle.ob_c.specs.Replies.{other_version, status_in_c, no_block, written_in_c}
use Rattle.ob_c.specs.declared.replies.Taken.{Taken}
use Rattle.ob_types.specs.Limits.{greatest_overhead, greatest_unknown}
use Rattle.ob_types.specs.Marks.{Marks, water_mark_of}
use Rattle.ob_types.specs.Replies.{number_of}
use Rattle.ob_types.specs.declared.command.Command.TheVariants.{SetMarks, Write}
use Rattle.ob_seq.specs.Rows.{Settings}
use Rattle.core.specs.Ptr.{as_ptr}
use denote.Ref.{Bor}
use Rattle.ob_types.specs.declared.message.Message.{Message}
use Rattle.ob_types.specs.declared.message.Message.TheVariants.{Block, Region, Other}
use Rattle.ob_c.specs.declared.gather.Gathered.{Gathered}
use Rattle.ob_c.specs.declared.pieces.Piece.{Piece}
use Rattle.ob_c.specs.declared.parts.Part.{Part}
use Rattle.ob_c.specs.declared.replies.Written.{Written}

-- with nothing behind a handle C is told so and nothing changes, and else C is told a value that is so of what was behind
-- it before and after
abbrev pub Relays : {H A C : Type 0} → Option H → (H → A → H → Type 0) → (Option A → C) → C → Option H → Type 0
Relays None is_so in_c told new = (told ≡ in_c None) × (new ≡ None)
Relays {H = H} {A = A} (Some old) is_so in_c told new =
    (value : A) × (after : H) × (told ≡ in_c (Some value)) × (new ≡ Some after) × is_so old value after

-- the same of a command: C is told its reply, or why there is none
abbrev pub Answers : {A C : Type 0} → Option Connected → (Connected → Result A Refusal → Connected → Type 0) →
    (Result A ℕ → C) → C → Option Connected → Type 0
Answers handle is_so in_c told new = Relays handle is_so (λ answer. in_c (accepted answer)) told new

-- the connection obeys a command with the result that C is told
abbrev pub ObeysFor : {A C : Type 0} → Option Connected → Command → (List PromiseState → A → Reply) →
    (Result A ℕ → C) → C → Option Connected → Type 0
ObeysFor handle command tell in_c told new =
    Answers handle (λ old result after. Obeys old command tell result after) in_c told new

-- a connection obeys a command that does not allocate, and so never reports that it is out of memory
abbrev pub ObeysFrugally : {A : Type 0} → Command → (List PromiseState → A → Reply) → Connected → Result A Refusal → Connected → Type 0
ObeysFrugally command tell old result new = Obeys old command tell result new × ¬ IsErrOf result NoMemory

-- the same of a handle
abbrev pub ObeysFrugallyFor : {A C : Type 0} → Option Connected → Command → (List PromiseState → A → Reply) →
    (Result A ℕ → C) → C → Option Connected → Type 0
ObeysFrugallyFor handle command tell in_c told new = Answers handle (ObeysFrugally command tell) in_c told new

-- a connection obeys a command that takes several messages away: those that come next, with this outcome
abbrev pub Takes : Command → Outcome → Connected → Result TakenReply Refusal → Connected → Type 0
Takes command outcome old result new =
    Obeys old command taken_reply result new × IsNext old outcome result new × ¬ IsErrOf result NoMemory

-- the same of a handle
abbrev pub TakesFor : Option Connected → Command → Outcome → Taken → Option Connected → Type 0
TakesFor handle command outcome told new = Answers handle (Takes command outcome) taken_in_c told new

-- a connection that is open is given up for this cause, and one that is closed is refused as such and stays as it is
abbrev pub GivesUpIfOpen : Cause → Connected → Result TakenReply Refusal → Connected → Type 0
GivesUpIfOpen cause old result new =
    Gives old closed_after (is_err result) × IfOk result (λ taken. GivesUp old cause taken new)
    × IfErr result (λ refusal. refusal ≡ Closed) × OnErr result (new ≡ old)

-- the settings of these marks, or the status of marks or of an estimate that are refused
abbrev pub settings_with : Result Marks Refusal → ℕ → ℕ → Result Settings ℕ
settings_with (Err refusal) overhead unknown = Err (number_of refusal)
settings_with (Ok marks) overhead unknown =
    if nat_lt greatest_overhead overhead || nat_lt greatest_unknown unknown then Err bad_estimate
    else Ok (record { marks = marks; estimate = record { overhead = overhead; unknown = unknown } })

-- the settings of four numbers of bytes
abbrev pub settings_of : ℕ → ℕ → ℕ → ℕ → Result Settings ℕ
settings_of low high overhead unknown = settings_with (water_mark_of low high) overhead unknown

-- the settings for a caller that was compiled for this edge; any other is refused
abbrev pub settings_for : Bool → Result Settings ℕ → Result Settings ℕ
settings_for true settings = settings
settings_for false settings = Err other_version

-- a connection with these settings and nothing written is opened, unless there is one already, they are refused, or
-- memory runs out
abbrev pub Opens : Option Connected → Result Settings ℕ → ℕ → Option Connected → Type 0
Opens (Some old) settings status new = (status ≡ already_open) × (new ≡ Some old)
Opens None (Err refused) status new = (status ≡ refused) × (new ≡ None)
Opens None (Ok settings) status None = status ≡ no_memory
Opens None (Ok settings) status (Some new) = (status ≡ done) × (new.unsent.settings ≡ settings) × StandsFor new []

-- C is told whether there is a connection, which keeps room for what waits and stays as it is else
abbrev pub ShrinksFor : Option Connected → ℕ → Option Connected → Type 0
ShrinksFor None status new = (status ≡ not_open) × (new ≡ None)
ShrinksFor (Some old) status new = (status ≡ done) × (after : Connected) × (new ≡ Some after) × Shrinks old after

-- marks are set, if there is a connection and they are marks
abbrev pub SetsMarks : Option Connected → Result Marks Refusal → ℕ → Option Connected → Type 0
SetsMarks None marks status new = (status ≡ not_open) × (new ≡ None)
SetsMarks (Some old) (Err refusal) status new = (status ≡ number_of refusal) × (new ≡ Some old)
SetsMarks (Some old) (Ok marks) status new = ObeysFrugallyFor (Some old) (SetMarks marks) done_reply status_in_c status new

-- the piece of memory behind a reference to bytes: where they lie, and how many they are
abbrev pub piece_of : Bor (List ℕ) → Piece
piece_of bytes = record { at = as_ptr bytes; length = length bytes.now }

-- each piece is that of a reference to the bytes of the block that stands in its place
abbrev pub AreAt : List (List ℕ) → List Piece → Type 0
AreAt blocks pieces =
    (references : List (Bor (List ℕ))) × (map (λ bytes. bytes.now) references ≡ blocks)
    × (pieces ≡ map piece_of references)

-- what stands in front, if `count` pieces were filled: 0 nothing, 1 blocks, 2 empty blocks, 3 a region, 4 another
-- message
abbrev pub front_number : Option Message → ℕ → ℕ
front_number None count = 0
front_number (Some (Block bytes)) count = if nat_eq count 0 && nat_eq (length bytes) 0 then 2 else 1
front_number (Some (Region size)) count = 3
front_number (Some (Other value)) count = 4

-- `count` pieces are where the blocks lie that are gathered from a connection, for at most `most` blocks and `max_bytes`
-- bytes
abbrev pub gathered_as : Connected → ℕ → ℕ → ℕ → List Piece → Type 0
gathered_as connection most max_bytes count pieces =
    (blocks : List (List ℕ)) × AreGathered connection most max_bytes blocks × (count ≡ length blocks)
    × AreAt blocks (take count pieces)

-- with no connection C is told so, and else how many pieces were filled and what stands in front; the handle stays as it
-- was
abbrev pub Gathers : Option Connected → ℕ → ℕ → Gathered → List Piece → Option Connected → Type 0
Gathers None given max_bytes told pieces new =
    (told ≡ record { status = not_open; front = 0; count = 0 }) × (new ≡ None)
Gathers (Some old) given max_bytes told pieces new =
    (front : Option Message) × IsCurrent old front
    × (told ≡ record { status = done; front = front_number front told.count; count = told.count })
    × gathered_as old given max_bytes told.count pieces × (new ≡ Some old)

-- the slices that the parts are
abbrev pub slices_of : List Part → List (Bor (List ℕ))
slices_of parts = map (λ part. part.bytes) parts

-- a block is made of these bytes, unless there is one already or memory runs out
abbrev pub IsMadeOf : Option (List ℕ) → List ℕ → ℕ → Option (List ℕ) → Type 0
IsMadeOf (Some old) bytes status new = (status ≡ already_open) × (new ≡ Some old)
IsMadeOf None bytes status None = status ≡ no_memory
IsMadeOf None bytes status (Some new) = (status ≡ done) × (new ≡ bytes)

-- a second block is made of the bytes of one, unless that has none
abbrev pub IsSharedOf : Option (List ℕ) → Option (List ℕ) → ℕ → Option (List ℕ) → Type 0
IsSharedOf None second status new = (status ≡ not_open) × (new ≡ second)
IsSharedOf (Some bytes) second status new = IsMadeOf second bytes status new

-- with no block C is told so, and else where a reference to its bytes points, and how many they are
abbrev pub IsPieceOf : Option (List ℕ) → Piece → ℕ → Piece → Type 0
IsPieceOf None piece status new = (status ≡ not_open) × (new ≡ piece)
IsPieceOf (Some bytes) piece status new =
    (status ≡ done) × (reference : Bor (List ℕ)) × (reference.now ≡ bytes) × (new ≡ piece_of reference)

-- what was held is let go, if there was something
abbrev pub IsLetGo : {A : Type 0} → Option A → ℕ → Option A → Type 0
IsLetGo None status new = (status ≡ not_open) × (new ≡ None)
IsLetGo (Some old) status new = (status ≡ done) × (new ≡ None)

-- all stays as it is, and the status says whether there is anything
abbrev pub LeavesAsIs : {A : Type 0} → Option A → ℕ → Option A → Type 0
LeavesAsIs None status new = (status ≡ not_open) × (new ≡ None)
LeavesAsIs (Some old) status new = (status ≡ done) × (new ≡ Some old)

-- the bytes of a block are written, if there are both a connection and a block
abbrev pub WritesBlock : Option Connected → Option (List ℕ) → Written → Option Connected → Type 0
WritesBlock None bytes told new = (told ≡ written_in_c (Err not_open)) × (new ≡ None)
WritesBlock (Some old) None told new = (told ≡ written_in_c (Err no_block)) × (new ≡ Some old)
WritesBlock (Some old) (Some bytes) told new =
    ObeysFor (Some old) (Write (Block bytes)) written_reply written_in_c told new
