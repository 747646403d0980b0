use Rattle.ob_pool.proofs.driving.drive.Given as goal

-- the opening that was just made
abbrev pub ghosts-drive_open-L-Named : goal.ghosts-drive_open-L-Named
ghosts-drive_open-L-Named g a = record { opened = a.ready.opening }

abbrev pub ghosts-drive_open-L-Ledger : goal.ghosts-drive_open-L-Ledger
ghosts-drive_open-L-Ledger g a = record { name = a.ready.opening.ledger; parts = a.ready.opening.callers }
