use Rattle.ob_c.proofs.managed_writes.write.Goals as goal

pub returns-in-Ok : goal.returns-in-Ok
returns-in-Ok c = let it = c.in-Ok.ensures.writes in record {
  written = it.written;
  room = it.room;
  refused = tt;
  first = it.first;
  memory_last = it.memory_last;
  brings = it.brings;
}

pub returns-in-Err : goal.returns-in-Err
returns-in-Err c = let it = c.in-Err.ensures.writes in record {
  written = tt;
  room = tt;
  refused = it.refused;
  first = it.first;
  memory_last = it.memory_last;
  brings = it.brings;
}
