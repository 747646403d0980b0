use Rattle.std.proofs.Common.{◌≡◌}
use Rattle.ob_transport.specs.Pass.{Passes, GrowAlike, standing}
use Rattle.ob_transport.proofs.draining.drain.Given as goal

abbrev pub invariant-loop-turn : goal.invariant-loop-turn
invariant-loop-turn g l =
    let before = standing (g.B.Booked.history l.initial.booked) (g.S.Sink.content l.initial.sink) in
    let now = standing (g.B.Booked.history l.booked) (g.S.Sink.content l.sink) in
    Passes l.fn.limits (g.B.Booked.caller l.initial.booked) l.turn before now
    × (g.B.Booked.caller l.booked ≡ g.B.Booked.caller l.initial.booked)
    × GrowAlike before now
    × (now.sink.failures ≡ before.sink.failures)
