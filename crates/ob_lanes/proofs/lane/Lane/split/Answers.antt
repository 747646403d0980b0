use Rattle.std.proofs.Common.{◌≡◌, ◌≤◌, bit_or, None, sym, ap, ◌∙◌, arith, rules}
use Rattle.ob_lanes.specs.Calls.{split_fault}
use Rattle.ob_lanes.proofs.Halves.{split_told, not_refused, held_unless_refused}
use Rattle.ob_lanes.proofs.lane.Lane.split.Goals as goal

pub returns-then-self-bits-clause-split : goal.returns-then-self-bits-clause-split
returns-then-self-bits-clause-split c fine =
    let held = sym c.self.invariant.held ∙ ap (λ v. v.lane.held) c.self.view_is in
    absurd (c.if-self-bits.true
    (rw held (held_unless_refused c.args.room c.args.bits c.args.self.lane c.ranges.bits.fits fine)))

pub divide_seat-requires-clause-fits : goal.divide_seat-requires-clause-fits
divide_seat-requires-clause-fits c =
    let room = c.self.invariant.room in
    let held = c.self.invariant.held in
    let has_room = c.if-room-self.false in
    not_refused c.args.room c.args.bits c.self.inside.running.seat.me.0.lane (omega (arith, room, has_room))
    (rw held c.if-self-bits.false)

pub returns-clause-refused : goal.returns-clause-refused
returns-clause-refused c =
    let lane = c.args.self.lane in
    let room : lane.room ≡ c.self.inside.running.room =
    sym (ap (λ v. v.lane.room) c.self.view_is) ∙ c.self.invariant.room in
    let held : lane.held ≡ c.self.inside.running.held =
    sym (ap (λ v. v.lane.held) c.self.view_is) ∙ c.self.invariant.held in
    let has_room = c.if-room-self.false in
    let fine : split_fault lane c.args.room c.args.bits ≡ None =
    not_refused c.args.room c.args.bits lane (omega (arith, room, has_room)) (rw held c.if-self-bits.false) in
    rw fine tt

pub returns-clause-parts : goal.returns-clause-parts
returns-clause-parts c =
    let seats = c.divide_seat.ensures in
    let mine = c.self.inside.running.seat.me.0.lane in
    let room = c.self.invariant.room in
    let held = c.self.invariant.held in
    let has_room = c.if-room-self.false in
    let enough : c.args.room ≤ mine.room = omega (arith, room, has_room) in
    let among : bit_or mine.held c.args.bits ≡ mine.held = rw held c.if-self-bits.false in
    split_told c.args.room c.args.bits c.args.self.lane mine _ _ (ap (λ v. v.lane) c.self.view_is) enough among
    (ap (λ m. m.0.lane) seats.kept) (ap (λ m. m.0.lane) seats.given)

-- Named for the must-fail edits that fail here: `search` finds it unasked (CONTRIBUTING.md).
pub returns-then-room-self-clause-refused : goal.returns-then-room-self-clause-refused
returns-then-room-self-clause-refused c = search rules

pub returns-then-room-self-clause-split : goal.returns-then-room-self-clause-split
returns-then-room-self-clause-split c = search rules
