use Rattle.ob_shared.proofs.words.Publisher.publish.Given as goal

-- the records that are published
abbrev pub ghosts-publish : goal.ghosts-publish
ghosts-publish g a = record { records = a.recorded.now.records }
