use Rattle.std.proofs.Common.{arith, sym, ◌∙◌}
use Rattle.ob_types.specs.declared.command.Command.TheVariants.{Remove, Progress}
use Rattle.ob_history.specs.History.{with_reserved}
use Rattle.ob_transport.proofs.Assured.{first_never_refused, second_never_refused}
use Rattle.ob_transport.proofs.Open.{part_of_rest, same_after, same_standing, whole_rest}
use Rattle.ob_transport.proofs.sending.send_region.Goals as goal

-- a call that was reserved is not refused: not the first
first_refused : (g : _) (c : goal.After-from_residual-in_err-give g) → ⊥
first_refused g c =
    let readied = c.in_ok-make_ready.ensures.readied in
    first_never_refused (g.B.Booked.history c.args.booked.now) (g.B.Booked.caller c.args.booked.now) readied.0
    (g.B.Booked.caller c.make_ready.new.booked) c.in_ok-taken.taken (g.B.Booked.history c.make_ready.new.booked)
    (g.B.Booked.history c.give.new.booked) c.in_err-give.field-0.0 readied.1 c.in_err-give.ensures.given

-- and not the second
second_refused : (g : _) (c : goal.After-from_residual-in_err-give-2 g) → ⊥
second_refused g c =
    let first = c.in_ok-give.ensures.given.1
    ∙ same_after (Progress c.in_ok-taken.taken) c.in_ok-make_ready.ensures.readied.1 c.in_ok-make_ready.ensures.caller
    in
    second_never_refused (g.B.Booked.history c.args.booked.now) (g.B.Booked.caller c.args.booked.now)
    c.in_ok-make_ready.ensures.readied.0
    (g.B.Booked.caller c.give.new.booked) c.in_ok-taken.taken (g.B.Booked.history c.give.new.booked)
    (g.B.Booked.history c.give-then-taken-rest.new.booked) c.in_err-give-2.field-0.0
    first c.in_err-give-2.ensures.given

pub returns-in_err-give-clause-sends : goal.returns-in_err-give-clause-sends
returns-in_err-give-clause-sends g c = absurd (first_refused g c)

pub returns-in_err-give-clause-asks : goal.returns-in_err-give-clause-asks
returns-in_err-give-clause-asks g c = absurd (first_refused g c)

pub returns-in_err-give-2-clause-sends : goal.returns-in_err-give-2-clause-sends
returns-in_err-give-2-clause-sends g c = absurd (second_refused g c)

pub returns-in_err-give-2-clause-asks : goal.returns-in_err-give-2-clause-asks
returns-in_err-give-2-clause-asks g c = absurd (second_refused g c)

pub returns-in_ok-give-2-clause-sends : goal.returns-in_ok-give-2-clause-sends
returns-in_ok-give-2-clause-sends g c =
    let first = c.in_ok-give.ensures.given.1
    ∙ same_after (Progress c.in_ok-taken.taken) c.in_ok-make_ready.ensures.readied.1 c.in_ok-make_ready.ensures.caller
    in
    let before = g.B.Booked.history c.args.booked.now in
    let caller = g.B.Booked.caller c.args.booked.now in
    let callers = c.in_ok-give.ensures.caller ∙ c.in_ok-make_ready.ensures.caller in
    let second = c.in_ok-give-2.ensures.given.1 ∙ same_after Remove first callers in
    let booked = second ∙ sym (whole_rest caller c.args.rest c.in_ok-taken.taken
    (with_reserved before 2) c.if-taken-rest.true) in (
      omega arith,
      c.in_ok-taken.ensures.within,
      record {
        places = c.in_ok-make_ready.ensures.readied.0;
        left = same_standing booked c.in_ok-taken.ensures.taken;
      },
    )

pub returns-else-taken-rest-clause-sends : goal.returns-else-taken-rest-clause-sends
returns-else-taken-rest-clause-sends g c =
    let first = c.in_ok-give.ensures.given.1
    ∙ same_after (Progress c.in_ok-taken.taken) c.in_ok-make_ready.ensures.readied.1 c.in_ok-make_ready.ensures.caller
    in
    let before = g.B.Booked.history c.args.booked.now in
    let caller = g.B.Booked.caller c.args.booked.now in
    let booked = first
    ∙ sym (part_of_rest caller c.args.rest c.in_ok-taken.taken (with_reserved before 2) c.if-taken-rest.false) in (
      omega arith,
      c.in_ok-taken.ensures.within,
      record {
        places = c.in_ok-make_ready.ensures.readied.0;
        left = same_standing booked c.in_ok-taken.ensures.taken;
      },
    )
