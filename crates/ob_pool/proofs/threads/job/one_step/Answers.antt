use Rattle.ob_pool.proofs.threads.job.one_step.Goals as goal

pub one_call-requires-clause-numbered : goal.one_call-requires-clause-numbered
one_call-requires-clause-numbered g c = c.requires.numbered

pub one_call-requires-clause-place : goal.one_call-requires-clause-place
one_call-requires-clause-place g c = c.requires.place

pub one_call-so_far-requires-clause-numbered : goal.one_call-so_far-requires-clause-numbered
one_call-so_far-requires-clause-numbered g c = c.requires.numbered

pub one_call-so_far-requires-clause-place : goal.one_call-so_far-requires-clause-place
one_call-so_far-requires-clause-place g c = c.requires.place
