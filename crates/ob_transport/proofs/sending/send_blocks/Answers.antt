use Rattle.std.proofs.Common.{arith, ◌∙◌}
use Rattle.ob_types.specs.declared.command.Command.TheVariants.{RemoveBytes}
use Rattle.ob_transport.proofs.Open.{same_after, same_standing}
use Rattle.ob_transport.proofs.sending.send_blocks.Goals as goal

pub returns-in-Ok-clause-sends : goal.returns-in-Ok-clause-sends
returns-in-Ok-clause-sends g c =
    let readied = c.in_ok-make_ready.ensures.readied in
    let given = c.in-Ok.ensures.given.1
    ∙ same_after (RemoveBytes c.in_ok-taken.taken) readied.1 c.in_ok-make_ready.ensures.caller in (
      omega arith,
      c.in_ok-taken.ensures.within,
      record
          { places = readied.0; left = same_standing given c.in_ok-taken.ensures.taken },
    )
