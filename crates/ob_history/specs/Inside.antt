-- How a recorded buffer keeps its history, what is made ready before a command is given, and a history that is played
-- again. No public clause cites this module.
use Rattle.std.specs.Prelude.{◌≡◌, ◌+◌, ◌≤◌, vec_capacity, vec_len, ℕ, false, List, length, take}
use Rattle.ob_types.specs.Limits.{greatest_overhead, greatest_unknown, inline_settlements}
use Rattle.ob_types.specs.Traits.{is_write}
use Rattle.ob_types.specs.declared.command.Command.{Command}
use Rattle.ob_seq.specs.Pending.{StandsFor, Pending, settled_after}
use Rattle.ob_seq.specs.Rows.{Settings}
use Rattle.ob_history.specs.History.{accepted_commands, History, most_records, IsLegal}
use Rattle.ob_history.specs.declared.record.Record.{Record}
use Rattle.ob_history.specs.declared.recorded.Recorded.TheInside.{Inside}
use Rattle.ob_history.specs.declared.recorded.replay.Replay.{Replay}

-- the settings that the buffer was opened with
abbrev pub settings_of : Inside → Settings
settings_of inside = record { marks = inside.marks; estimate = inside.estimate }

-- the history, without the buffer, which it determines
abbrev pub history_of : Inside → History
history_of inside = record {
  settings = settings_of inside;
  limit = inside.limit;
  records = inside.records.items;
  reserved = inside.reserved;
}

-- what every call keeps: the records are legal, the buffer stands for their accepted commands, and the reserved calls
-- have their places and their memory
pub record IsSound (inside : Inside) : Type 0 where
  pub legal : IsLegal (settings_of inside) inside.records.items
  pub stands : StandsFor inside.buffer (accepted_commands inside.records.items)
  pub settings : inside.buffer.settings ≡ settings_of inside
  pub places : vec_len inside.records + inside.reserved ≤ inside.limit
  pub memory : vec_len inside.records + inside.reserved ≤ vec_capacity inside.records
  pub few_records : inside.limit ≤ most_records
  pub small_overhead : inside.estimate.overhead ≤ greatest_overhead
  pub small_unknown : inside.estimate.unknown ≤ greatest_unknown

-- whatever history a buffer stands for, a command settles at most `most` promises after it
abbrev pub SettlesAtMost : Pending → Command → ℕ → Type 0
SettlesAtMost buffer command most =
    (commands : List Command) → StandsFor buffer commands → settled_after buffer.settings commands command ≤ most

-- after some history that a buffer stands for, a command is no write and settles at most four promises
pub record IsSmall (buffer : Pending) (command : Command) (commands : List Command) : Type 0 where
  pub stands : StandsFor buffer commands
  pub no_write : is_write command ≡ false
  pub few : settled_after buffer.settings commands command ≤ inline_settlements

-- the buffer of a replay stands for the accepted commands of the records before its place
pub record IsReplay (settings : Settings) (records : List Record) (replay : Replay) : Type 0 where
  pub same : replay.buffer.settings ≡ settings
  pub within : replay.place ≤ length records
  pub stands : StandsFor replay.buffer (accepted_commands (take replay.place records))
