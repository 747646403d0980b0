use Rattle.ob_shared_connection.proofs.shared.Shared.publish.Given as goal

-- the number that is to be published
abbrev pub ghosts-is_published : goal.ghosts-is_published
ghosts-is_published a = record { number = a.number }
