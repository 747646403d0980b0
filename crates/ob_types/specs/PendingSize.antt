-- How many bytes a message counts while it is pending.
use Rattle.std.specs.Prelude.{ℕ, ◌+◌, length, Bool, false, ◌||◌, nat_lt, if◌then◌else◌, Result, Ok, Err}
use Rattle.ob_types.specs.Limits.{greatest_pending_size, greatest_region}
use Rattle.ob_types.specs.declared.message.Message.{Message}
use Rattle.ob_types.specs.declared.message.Message.TheVariants.{Block, Region, Other}
use Rattle.ob_types.specs.declared.estimate.Estimate.{Estimate}
use Rattle.ob_types.specs.declared.refusal.Refusal.{Refusal}
use Rattle.ob_types.specs.declared.refusal.Refusal.TheVariants.{Oversize}

-- the estimate of a message: the readable bytes of a block, nothing for a region, a fixed number for any other
abbrev pub readable_bytes : Estimate → Message → ℕ
readable_bytes estimate (Block bytes) = length bytes
readable_bytes estimate (Region units) = 0
readable_bytes estimate (Other value) = estimate.unknown

-- what a message counts: its estimate, and the overhead of an entry
abbrev pub counted_bytes : Estimate → Message → ℕ
counted_bytes estimate message = readable_bytes estimate message + estimate.overhead

-- a region past the greatest length
abbrev pub is_long_region : Message → Bool
is_long_region (Block bytes) = false
is_long_region (Region units) = nat_lt greatest_region units
is_long_region (Other value) = false

-- a message is too large exactly if it counts more than the greatest pending size, or is a region past the greatest
-- length
abbrev pub is_oversize : Estimate → Message → Bool
is_oversize estimate message = nat_lt greatest_pending_size (counted_bytes estimate message) || is_long_region message

-- the pending size of a message, or Oversize
abbrev pub pending_size_of : Estimate → Message → Result ℕ Refusal
pending_size_of estimate message =
    if is_oversize estimate message then Err Oversize else Ok (counted_bytes estimate message)

-- the pending size of a block of this many bytes, or Oversize
abbrev pub pending_size_of_bytes : Estimate → ℕ → Result ℕ Refusal
pending_size_of_bytes estimate readable =
    if nat_lt greatest_pending_size (readable + estimate.overhead) then Err Oversize else Ok (readable + estimate.overhead)
