-- What each command is. All that is said of a command by its kind alone is read off this table. And which messages are
-- blocks: a block shares its memory with its copies.
use Rattle.std.specs.Prelude.{ℕ, Bool, true, false, not, Option, Some, None, is_some, option_map, unwrap_or}
use Rattle.ob_types.specs.Marks.{Marks}
use Rattle.ob_types.specs.declared.command.Command.{Command}
use Rattle.ob_types.specs.declared.command.Command.TheVariants.{Write, Flush, Remove, RemoveWith, RemoveBytes, Progress}
use Rattle.ob_types.specs.declared.command.Command.TheVariants.{Cancel, FailFlushed, Close, UserBit, SetMarks}
use Rattle.ob_types.specs.declared.message.Message.{Message}
use Rattle.ob_types.specs.declared.message.Message.TheVariants.{Block, Region, Other}

-- what is asked of a user bit: the index of the bit, and whether it is to be set
pub record BitRequest : Type 0 where
  pub index : ℕ
  pub set : Bool

-- the traits of a command: the message that it writes, whether it is a flush, a cancellation, a failing of what is
-- flushed or a close, what it asks of a user bit, the marks that it sets, how many bytes it names to be removed,
-- whether its falls are with notice, whether it may allocate, and whether it may stand in a plan of a writer
pub record Traits : Type 0 where
  pub message : Option Message
  pub flush : Bool
  pub cancel : Bool
  pub failing : Bool
  pub close : Bool
  pub bit : Option BitRequest
  pub marks : Option Marks
  pub removed : ℕ
  pub notice : Bool
  pub wants_memory : Bool
  pub planned : Bool

-- the traits that most commands have: it is nothing of these, its falls are with notice, and it does not allocate
abbrev pub plain : Traits
plain = record {
  message = None;
  flush = false;
  cancel = false;
  failing = false;
  close = false;
  bit = None;
  marks = None;
  removed = 0;
  notice = true;
  wants_memory = false;
  planned = false;
}

-- the traits of each command: a failing of what is flushed says itself whether its falls are with notice, and those of
-- a close never are
abbrev pub traits_of : Command → Traits
traits_of (Write message) = record plain { message = Some message; wants_memory = true; planned = true }
traits_of Flush = record plain { flush = true; planned = true }
traits_of Remove = plain
traits_of (RemoveWith cause) = plain
traits_of (RemoveBytes n) = record plain { removed = n; wants_memory = true }
traits_of (Progress n) = plain
traits_of (Cancel id) = record plain { cancel = true; planned = true }
traits_of (FailFlushed cause notify) = record plain { failing = true; notice = notify; wants_memory = true }
traits_of (Close cause) = record plain { close = true; notice = false; wants_memory = true }
traits_of (UserBit index writable) =
    record plain { bit = Some (record { index = index; set = not writable }); planned = true }
traits_of (SetMarks marks) = record plain { marks = Some marks; planned = true }

-- whether a command is a write: it writes a message
abbrev pub is_write : Command → Bool
is_write command = is_some (traits_of command).message

-- whether a message is a block
abbrev pub is_block : Message → Bool
is_block (Block bytes) = true
is_block (Region units) = false
is_block (Other value) = false

-- whether a command writes a block
abbrev pub writes_block : Command → Bool
writes_block command = unwrap_or (option_map is_block (traits_of command).message) false
