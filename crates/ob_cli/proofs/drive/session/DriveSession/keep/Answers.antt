use Rattle.std.proofs.Common.{◌∙◌, Some, append-nil, sym}
use Rattle.ob_cli.specs.declared.drive.line.DriveLine.TheVariants as line
use Rattle.ob_cli.proofs.DriveLines.{kept-more, first_else-None, first_else-new}
use Rattle.ob_cli.proofs.drive.session.DriveSession.keep.Goals as goal

pub returns-in_ok-push-in-Writer-clause-done : goal.returns-in_ok-push-in-Writer-clause-done
returns-in_ok-push-in-Writer-clause-done c = rw c.in-Writer.is (λ fits before kept.
    let old = c.args.self.now in
    kept-more old (record old { writers = c.push.new.self }) before (line.Writer c.in-Writer.own) kept
    c.in_ok-push-in-Writer.ensures.items
    (sym (append-nil old.steps.items)) (first_else-None old.after) (first_else-None old.turns))

pub returns-in_ok-push-in-Sink-clause-done : goal.returns-in_ok-push-in-Sink-clause-done
returns-in_ok-push-in-Sink-clause-done c = rw c.in-Sink.is (λ fits before kept.
    let old = c.args.self.now in
    kept-more old (record old { steps = c.push-in-Sink.new.self }) before (line.Sink c.in-Sink.step) kept
    (sym (append-nil old.writers.items))
    c.in_ok-push-in-Sink.ensures.items (first_else-None old.after) (first_else-None old.turns))

pub returns-else-is_some-clause-done : goal.returns-else-is_some-clause-done
returns-else-is_some-clause-done c = rw c.in-Then.is (λ fits before kept.
    let old = c.args.self.now in
    let new = first_else-new old.after c.in-Then.most (sym c.is_some.ensures ∙ c.if-is_some.false) in
    kept-more old (record old { after = Some c.in-Then.most }) before (line.Then c.in-Then.most) kept
    (sym (append-nil old.writers.items))
    (sym (append-nil old.steps.items)) new (first_else-None old.turns))

pub returns-else-is_some-2-clause-done : goal.returns-else-is_some-2-clause-done
returns-else-is_some-2-clause-done c = rw c.in-Turns.is (λ fits before kept.
    let old = c.args.self.now in
    let new = first_else-new old.turns c.in-Turns.count (sym c.is_some-in-Turns.ensures ∙ c.if-is_some-2.false) in
    kept-more old (record old { turns = Some c.in-Turns.count }) before (line.Turns c.in-Turns.count) kept
    (sym (append-nil old.writers.items))
    (sym (append-nil old.steps.items)) (first_else-None old.after) new)
