use Rattle.ob_seq.proofs.Words.{◌≡◌, ◌<◌, length, ap, ◌∙◌, arith, nat_tests, pending_entry, Pending, Outcome, cond}
use Rattle.ob_seq.specs.Steps.Commands.{removal_step}
use Rattle.ob_seq.specs.Steps.Step.{is_first_voided, settled_open}
use Rattle.ob_seq.proofs.Inside.LetGo.{no_entry}
use Rattle.ob_seq.proofs.Inside.Rooms.{back_first, line_there}
use Rattle.ob_seq.proofs.buffer.Buffer.removal_settles.Goals as goal

-- a front that is there settles one promise, unless it was voided
front_settles : (outcome : Outcome) (now : Pending) → 0 < length now.line →
    settled_open (removal_step outcome now) ≡ cond (is_first_voided now.line) 0 1
front_settles outcome now some = grind (arith, nat_tests)

pub returns : goal.returns
returns c outcome =
    let held = c.self.inside.contents in
    let seen = line_there c.self.inside.gone.list held c.self.view_is in
    let here : 0 < length held.line = omega (arith, c.line_count.ensures, c.if-line_count-eq0.false) in
    let some : 0 < length c.args.self.now.line = omega (arith, seen, here) in
    let back = c.is_taken_back.ensures (pending_entry no_entry)
    ∙ back_first held.line held.unflushed (pending_entry no_entry) here
    ∙ ap (λ (one : Pending). is_first_voided one.line) c.self.view_is in
    let one = front_settles outcome c.args.self.now some in
    grind arith
