-- How some entries are gone over. No public clause cites this module.
use Rattle.std.specs.Prelude.{◌≤◌, ◌<◌, ◌+◌, ◌++◌, List, length, take, drop}
use Rattle.ob_seq.specs.declared.entry.Entry.{Entry}
use Rattle.ob_seq.specs.declared.walk.Walk.TheInside.{Inside}

-- what is still to come: what lies together, and what begins behind that
abbrev pub walked : Inside → List Entry
walked inside = inside.run.now ++ take inside.left (drop inside.place inside.entries.now.items)

-- there are as many, and they can be counted
abbrev pub IsWithin : Inside → Type 0
IsWithin inside =
    (inside.place + inside.left ≤ length inside.entries.now.items) × (inside.place + inside.left < 18446744073709551616)
