-- What a core session has carried out, and what was kept of the lines of a drive script. No public clause cites this
-- module.
use Rattle.std.specs.Prelude.{◌≡◌, Option, None, Some, option_map, List, if◌then◌else◌}
use Rattle.ob_types.specs.Marks.{Marks}
use Rattle.ob_core.specs.World.{CoreState}
use Rattle.ob_cli.specs.Drive.{after_of, first_told, steps_of, passes_of, writer_lines}
use Rattle.ob_cli.specs.Turns.{core_behind, has_lane, has_turn, lanes_of}
use Rattle.ob_cli.specs.declared.drive.line.DriveLine.{DriveLine}
use Rattle.ob_cli.specs.declared.drive.session.DriveSession.{DriveSession}
use Rattle.ob_cli.specs.declared.turns.line.CoreLine.{CoreLine}
use Rattle.ob_cli.specs.declared.turns.session.CoreSession.{CoreSession}

-- the core behind lines, once there is a lane
abbrev pub core_once : Marks → List CoreLine → Option CoreState
core_once marks lines = if has_lane lines then Some (core_behind marks lines) else None

-- a session has carried out these lines: its lanes are theirs, its world is the core behind them, and it knows of a
-- turn
abbrev pub HasPlayed : CoreSession → List CoreLine → Type 0
HasPlayed session lines =
    (session.starts.items ≡ lanes_of lines)
    × (option_map (λ world. world.core) session.world ≡ core_once session.marks lines)
    × (session.turned ≡ has_turn lines)

-- what is kept is that of these lines
abbrev pub HasKept : DriveSession → List DriveLine → Type 0
HasKept session lines =
    (session.writers.items ≡ writer_lines lines)
    × (session.steps.items ≡ steps_of lines)
    × (session.after ≡ first_told after_of lines)
    × (session.turns ≡ first_told passes_of lines)
