use Rattle.ob_thread_tests.proofs.tests.transport.over_a_new_desk.Given as goal

-- the opening that was just made
abbrev pub ghosts-over_a_desk-L-Named : goal.ghosts-over_a_desk-L-Named
ghosts-over_a_desk-L-Named g a = record { opened = a.opening }

abbrev pub ghosts-over_a_desk-L-Ledger : goal.ghosts-over_a_desk-L-Ledger
ghosts-over_a_desk-L-Ledger g a = record { name = a.opening.ledger; parts = a.opening.callers }
