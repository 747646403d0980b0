use Rattle.ob_shared_callers.proofs.serve.Given as goal

-- the opening that was just made
abbrev pub ghosts-run-L-Named : goal.ghosts-run-L-Named
ghosts-run-L-Named g a = record { opened = a.opening }

abbrev pub ghosts-run-L-Ledger : goal.ghosts-run-L-Ledger
ghosts-run-L-Ledger g a = record { name = a.opening.ledger; parts = a.opening.callers }
