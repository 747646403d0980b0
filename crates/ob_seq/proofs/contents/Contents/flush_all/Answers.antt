use Rattle.ob_seq.proofs.Words.{[], length, ap, ◌∙◌, arith, take-append-drop, take_all}
use Rattle.ob_seq.proofs.Words.{drop_all, whole, Pending}
use Rattle.ob_seq.proofs.Inside.Rooms.{flushed_promises, same_waiting}
use Rattle.ob_seq.proofs.Inside.States.{all_fixed}
use Rattle.ob_seq.proofs.contents.Contents.flush_all.Goals as goal

pub returns-then-self-clause-as_many : goal.returns-then-self-clause-as_many
returns-then-self-clause-as_many c =
    let old = c.args.self.now in
    let same = ap (λ (held : Pending). length held.promises) (c.flush_one_by_one.ensures.after []) in
    same_waiting old c.flush_one_by_one.new.self (same ∙ flushed_promises (length old.unflushed) (whole [] old))

pub returns-else-self-clause-after : goal.returns-else-self-clause-after
returns-else-self-clause-after c gone = grind (arith, all_fixed, take_all, drop_all, take-append-drop)
