use Rattle.ob_shared.proofs.locked.Locked.is_as_opened.Goals as goal

pub returns : goal.returns
returns g c = rw (← c.self.view_is) (record {
  settings = c.self.invariant.1;
  limit = c.self.invariant.2;
  legal = c.records-records.ensures.legal;
})
