use Rattle.ob_seq.proofs.Words.{◌≡◌, ◌<◌, ◌++◌, ◌∷◌, [], length, length-append, get_or, refl, sym, ap, ◌∙◌, arith, ended, pending_entry}
use Rattle.std.proofs.lemmas.Grind.{common_steps}
use Rattle.ob_seq.proofs.Inside.LetGo.{count_of_settlements, first_end, no_entry, one_more, taken_back_at}
use Rattle.ob_seq.proofs.buffer.take.let_go.Goals as goal

pub returns-then-as_slice-count : goal.returns-then-as_slice-count
returns-then-as_slice-count c = grind (arith, count_of_settlements, first_end, length-append, common_steps)

pub loop-place-preserved : goal.loop-place-preserved
loop-place-preserved c =
    let held = c.args.contents.now in
    let entries = held.line ++ held.unflushed in
    let place = c.loop-place.place in
    let within : place < length entries =
    omega (arith, c.loop-place-test.true, c.requires.some, length-append held.line held.unflushed) in
    let flag = c.is_taken_back.ensures (pending_entry no_entry) ∙ taken_back_at entries place within in
    let one : c.if-is_taken_back.push ≡ ended c.args.outcome (get_or entries place no_entry) =
    elim c.if-is_taken_back.branch [
      | goal.then-is_taken_back w ↦ w.push-is ∙ rw (sym flag ∙ w.if-is_taken_back.true) refl
      | goal.else-is_taken_back w ↦ w.push-is ∙ rw (sym flag ∙ w.if-is_taken_back.false) refl
    ] in
    let pushed = c.push.ensures in record {
      list = pushed.list ∙ ap (λ all. all ++ c.if-is_taken_back.push ∷ []) c.loop-place.invariant.list
          ∙ one_more c.args.outcome c.args.gone.now.list entries place _ within one;
      len = omega (arith, ap length pushed.list, length-append c.loop-place.gone.list (c.if-is_taken_back.push ∷ []), c.loop-place.invariant.len);
      room = omega (arith, pushed.room, c.loop-place.invariant.room);
    }
