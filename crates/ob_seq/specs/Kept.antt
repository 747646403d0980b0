-- How a buffer is kept. No public clause cites this module.
use Rattle.std.specs.Prelude.{◌≡◌, ◌≤◌, ◌+◌, ◌++◌, ℕ, List, length, map, take, Result, IfOk, IsOk, OnErr, OnOk}
use Rattle.std.specs.declared.alloc.AllocError.{AllocError}
use Rattle.ob_types.specs.Limits.{inline_settlements, most_writes}
use Rattle.ob_types.specs.declared.command.Command.{Command}
use Rattle.ob_types.specs.declared.command.Command.TheVariants.{Remove, RemoveWith}
use Rattle.ob_types.specs.declared.promise.Outcome.{Outcome}
use Rattle.ob_types.specs.declared.promise.Outcome.TheVariants.{Success, Cancelled, Failed}
use Rattle.ob_types.specs.declared.promise.PromiseId.{PromiseId}
use Rattle.ob_seq.specs.Pending.{Pending, StandsFor}
use Rattle.ob_seq.specs.Outcomes.{Endings}
use Rattle.ob_seq.specs.Steps.Commands.{entry_settlements}
use Rattle.ob_seq.specs.Unsent.{Unsent, all_entries, ended, waiting_count, whole}
use Rattle.ob_seq.specs.declared.buffer.Buffer.TheInside.{Inside}

-- what a contract sees of what is kept
abbrev pub pending_of : Inside → Pending
pending_of inside = whole inside.gone.list inside.contents

-- what every call keeps: the writes are within the limit, each message that waits has room for its outcome, and some
-- history is stood for
pub record IsKept (gone : Endings) (unsent : Unsent) : Type 0 where
  pub few_writes : length gone.list + waiting_count unsent ≤ most_writes
  pub room : waiting_count unsent ≤ gone.room
  pub stands : (commands : List Command) × StandsFor (whole gone.list unsent) commands

-- the outcomes of the first `count` entries that wait stand behind those of what was gone, and what they settle is listed;
-- if memory is out for the list those are as they were, and it is not if that fits without an allocation
pub record LetsGo (outcome : Outcome) (count : ℕ) (unsent : Unsent) (old : Endings)
    (result : Result (List (PromiseId × Outcome)) AllocError) (new : Endings) : Type 0 where
  pub settled : IfOk result
      (λ settled. settled ≡ entry_settlements outcome (length old.list) (take count (all_entries unsent)))
  pub list : OnOk result (new.list ≡ old.list ++ map (ended outcome) (take count (unsent.line ++ unsent.unflushed)))
  pub len : OnOk result (length new.list ≡ length old.list + count)
  pub room : OnOk result (old.room ≤ new.room + count)
  pub refused : OnErr result (new ≡ old)
  pub frugal :
      length (entry_settlements outcome (length old.list) (take count (all_entries unsent))) ≤ inline_settlements → IsOk result

-- the command that takes the front away with this outcome; none does as cancelled
abbrev pub removal : Outcome → Command
removal Success = Remove
removal (Failed cause) = RemoveWith cause
removal Cancelled = Remove
