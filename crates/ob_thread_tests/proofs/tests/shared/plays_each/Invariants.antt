use Rattle.ob_thread_tests.proofs.tests.shared.plays_each.Given as goal

-- the opening that was just made
abbrev pub ghosts-plays-L-Named : goal.ghosts-plays-L-Named
ghosts-plays-L-Named g a = record { opened = a.opening }

abbrev pub ghosts-plays-L-Ledger : goal.ghosts-plays-L-Ledger
ghosts-plays-L-Ledger g a = record { name = a.opening.ledger; parts = a.opening.callers }
