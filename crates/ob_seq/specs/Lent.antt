-- What lending an entry does. No public clause cites this module.
use Rattle.std.specs.Prelude.{ℕ, slice_set}
use Rattle.std.specs.Borrow.{Fml, Lends, MutBor}
use Rattle.ob_seq.specs.declared.entry.Entry.{Entry}
use Rattle.ob_seq.specs.contracts.entries.Entries.{the_row}
use Rattle.ob_seq.specs.contracts.entry.Entry.{the_row as entry_row}
use Rattle.ob_seq.specs.Laid.{Laid}

-- entries with another at a place
abbrev pub with_entry : Laid → ℕ → Entry → Laid
with_entry laid place entry = record laid { items = slice_set laid.items place entry }

-- they end with the last value behind a reference at this place
abbrev pub LendsEntry : MutBor Laid → ℕ → MutBor Entry → Fml
LendsEntry entries place entry = Lends the_row entry_row entries entry (with_entry entries.now place)
