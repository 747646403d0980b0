use Rattle.ob_shared_connection.proofs.caller.Caller.act.Given as goal

-- the commands of the act
abbrev pub ghosts-act_for : goal.ghosts-act_for
ghosts-act_for g a = record { commands = g.A.Act.commands a.act }
