-- The definitions on a small history, worked out by hand.
use Rattle.std.specs.Prelude.{◌≡◌, List, [], ◌∷◌, ◌++◌, None, Result, Ok, Err}
use Rattle.ob_types.specs.declared.command.Command.{Command}
use Rattle.ob_types.specs.declared.command.Command.TheVariants.{Write, Flush, Remove, RemoveWith, RemoveBytes, Progress}
use Rattle.ob_types.specs.declared.command.Command.TheVariants.{Cancel}
use Rattle.ob_types.specs.declared.message.Message.TheVariants.{Block, Region, Other}
use Rattle.ob_types.specs.declared.refusal.Refusal.{Refusal}
use Rattle.ob_types.specs.declared.refusal.Refusal.TheVariants.{TooManyBytes}
use Rattle.ob_types.specs.declared.reply.Reply.{Reply}
use Rattle.ob_types.specs.declared.reply.Answer.TheVariants.{Done}
use Rattle.ob_seq.specs.Rows.{Settings}
use Rattle.ob_history.specs.declared.record.Record.{Record}
use Rattle.ob_transport.specs.Sent.{sent_bytes, sent_units}

-- Netty's marks and sizes
abbrev pub settings : Settings
settings = record { marks = record { low = 32768; high = 65536 }; estimate = record { overhead = 96; unknown = 8 } }

-- a record of a command, of which only whether it was accepted is looked at
abbrev record_with : Result Reply Refusal → Command → Record
record_with reply command = record { place = 0; caller = 0; command = command; reply = reply }

-- a record of an accepted command
abbrev pub accepted : Command → Record
accepted command = record_with (Ok (record { answer = Done; settled = []; change = None })) command

-- a record of a refused command
abbrev pub refused : Command → Record
refused command = record_with (Err TooManyBytes) command

-- two blocks, a region of ten units, another message and a block, all flushed
abbrev pub written : List Record
written =
    accepted (Write (Block (1 ∷ 2 ∷ 3 ∷ []))) ∷ accepted (Write (Block (4 ∷ 5 ∷ []))) ∷ accepted (Write (Region 10))
    ∷ accepted (Write (Other 7)) ∷ accepted (Write (Block (6 ∷ 7 ∷ []))) ∷ accepted Flush ∷ []

-- the sending of it: four bytes at once, a refused removal, the rest of the second block, the region in two parts, the
-- other message given up, and the last block
abbrev pub sending : List Record
sending =
    accepted (RemoveBytes 4) ∷ refused (RemoveBytes 9) ∷ accepted Remove ∷ accepted (Progress 6) ∷ accepted (Progress 4)
    ∷ accepted Remove ∷ accepted (RemoveWith (record { 0 = 1 })) ∷ accepted Remove ∷ []

-- the bytes of all three blocks are sent, in order
abbrev pub AllBytesAreSent : Type 0
AllBytesAreSent = sent_bytes settings (written ++ sending) ≡ 1 ∷ 2 ∷ 3 ∷ 4 ∷ 5 ∷ 6 ∷ 7 ∷ []

-- and the ten units of the region
abbrev pub AllUnitsAreSent : Type 0
AllUnitsAreSent = sent_units settings (written ++ sending) ≡ 10

-- a block that is given up after two bytes of it
abbrev pub given_up : List Record
given_up = accepted (RemoveBytes 2) ∷ accepted (Progress 1) ∷ accepted (RemoveWith (record { 0 = 9 })) ∷ []

-- of it only those two are sent, and its progress sends no units
abbrev pub GivenUpIsNotSent : Type 0
GivenUpIsNotSent = (sent_bytes settings (written ++ given_up) ≡ 1 ∷ 2 ∷ [])
    × (sent_units settings (written ++ given_up) ≡ 0)

-- a block and a region that are taken back before the flush
abbrev pub taken_back : List Record
taken_back =
    accepted (Write (Block (1 ∷ []))) ∷ accepted (Write (Region 5)) ∷ accepted (Cancel (record { 0 = 0 }))
    ∷ accepted (Cancel (record { 0 = 1 })) ∷ accepted Flush ∷ accepted Remove ∷ accepted
    (Progress 5) ∷ accepted Remove ∷ []

-- nothing of what was taken back is sent
abbrev pub TakenBackIsNotSent : Type 0
TakenBackIsNotSent = (sent_bytes settings taken_back ≡ []) × (sent_units settings taken_back ≡ 0)
