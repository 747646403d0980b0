use Rattle.ob_c.proofs.budgeted_commands.rest.Goals as goal

pub returns : goal.returns
returns c = record { same = c.rest.ensures.connection; tells = c.rest.ensures.told; given = c.rest.ensures.given }
