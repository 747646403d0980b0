use Rattle.ob_shared_connection.specs.Steps.{Knows}
use Rattle.ob_shared_connection.specs.Ruled.{both_views}
use Rattle.ob_shared_connection.proofs.Told.{still_rests}
use Rattle.ob_shared_connection.proofs.caller.Caller.join.Goals as goal

pub returns-clause-free : goal.returns-clause-free
returns-clause-free c =
    let old = c.args.self.now.seat.me in
    let reads = c.take.ensures.reads in
    let rests = c.requires.free in
    let both : Knows = (both_views old.0 c.args.other.seat.me.0, old.1) in
    still_rests both reads.0 c.take.new.seat.me (record {
      seat = record { named = rests.seat.named; there = rests.seat.there; own = rests.seat.own };
      free = rests.free;
      slots = rests.slots;
    }) reads.1
