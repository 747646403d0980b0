-- The limits of a buffer, each stated once.
use Rattle.std.specs.Prelude.{ℕ}

-- the greatest mark, in bytes: the top of Netty's `int`
abbrev pub greatest_mark : ℕ
greatest_mark = 2147483647

-- the greatest pending size of one message, in bytes: the top of Netty's `int`
abbrev pub greatest_pending_size : ℕ
greatest_pending_size = 2147483647

-- the greatest length of a region, in bytes: the top of Netty's `long`
abbrev pub greatest_region : ℕ
greatest_region = 9223372036854775807

-- the greatest progress of one message, in bytes: the top of Netty's `long`
abbrev pub greatest_progress : ℕ
greatest_progress = 9223372036854775807

-- the greatest overhead of an entry, in bytes
abbrev pub greatest_overhead : ℕ
greatest_overhead = 65535

-- the greatest number of bytes for which a message is counted that is neither a block nor a region
abbrev pub greatest_unknown : ℕ
greatest_unknown = 65535

-- the most bytes that may be pending together
abbrev pub greatest_total : ℕ
greatest_total = 4294967295

-- the most writes that one buffer accepts, from its opening on
abbrev pub most_writes : ℕ
most_writes = 1048576

-- the most settlements that need no allocation
abbrev pub inline_settlements : ℕ
inline_settlements = 4
