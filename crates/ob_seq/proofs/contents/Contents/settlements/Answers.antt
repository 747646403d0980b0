use Rattle.ob_seq.proofs.Words.{◌≡◌, ◌<◌, [], true, false, length, get_or, refl, sym, ap, ◌∙◌, append-nil, arith, PendingEntry, Block}
use Rattle.ob_seq.specs.Unsent.{all_entries}
use Rattle.ob_seq.proofs.Inside.LetGo.{all_wait, count_of_settlements, entries_settle, settled_more, settled_room}
use Rattle.ob_seq.proofs.contents.Contents.settlements.Goals.{then-not-is_taken_back+in_ok-push, else-not-is_taken_back}
use Rattle.ob_seq.proofs.contents.Contents.settlements.Goals as goal

pub returns-in_err-settled-clause-frugal : goal.returns-in_err-settled-clause-frugal
returns-in_err-settled-clause-frugal c few = grind (arith, count_of_settlements)

none : PendingEntry
none = record { message = Block []; size = 0; progress = 0; voided = false }

pub returns-in_err-push-clause-frugal : goal.returns-in_err-push-clause-frugal
returns-in_err-push-clause-frugal c few =
    let all = all_entries c.args.self.now in
    let place = c.loop-place.place in
    let entry = get_or all place none in
    let inside : place < length all = omega (arith, c.loop-place-test.true, c.requires.some, all_wait c.args.self.now) in
    let stays : entry.voided ≡ false = sym (c.is_taken_back.ensures none) ∙ c.if-not-is_taken_back.true in
    let room = settled_room (entries_settle c.args.outcome) c.args.first all place c.args.count entry none
    c.loop-place-test.true inside refl (rw stays) in
    let so_far = ap length c.loop-place.invariant in
    let wrong : false ≡ true = c.in_err-push.ensures.succeeds (omega arith) in
    absurd (cc)

pub loop-place-preserved : goal.loop-place-preserved
loop-place-preserved c =
    let all = all_entries c.args.self.now in
    let place = c.loop-place.place in
    let entry = get_or all place none in
    let inside : place < length all = omega (arith, c.loop-place-test.true, c.requires.some, all_wait c.args.self.now) in
    let more = settled_more (entries_settle c.args.outcome) c.args.first all place entry none inside refl in
    elim c.if-not-is_taken_back.branch [
      | then-not-is_taken_back+in_ok-push w ↦
          let stays : entry.voided ≡ false = sym (c.is_taken_back.ensures none) ∙ w.if-not-is_taken_back.true in
          w.settled-is ∙ w.in_ok-push.ensures.ok ∙ rw c.loop-place.invariant (sym (rw stays at more))
      | else-not-is_taken_back w ↦
          let back : entry.voided ≡ true = sym (c.is_taken_back.ensures none) ∙ w.if-not-is_taken_back.false in
          w.settled-is ∙ c.loop-place.invariant ∙ sym (rw (back, append-nil) at more)
    ]
