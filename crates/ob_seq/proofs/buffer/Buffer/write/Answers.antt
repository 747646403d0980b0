use Rattle.ob_seq.proofs.Words.{[], sym, ap, ◌∙◌, List, Outcome, Pending, Unsent, whole, arith, nat_tests, length, refl, Write, ◌<◌}
use Rattle.std.proofs.lemmas.Result.{err_from_is_err_and}
use Rattle.ob_types.specs.Limits.{most_writes}
use Rattle.ob_seq.specs.Answer.{buffer_limit}
use Rattle.ob_seq.specs.Kept.{pending_of}
use Rattle.ob_seq.specs.Steps.Commands.{asked}
use Rattle.ob_seq.proofs.Inside.Steps.{few, write_made, write_refused, write_wanting}
use Rattle.ob_seq.proofs.Inside.Rooms.{added_waiting, promises_there}
use Rattle.ob_seq.proofs.Simulating.Simulated.{obeys, stays}
use Rattle.ob_seq.proofs.buffer.Buffer.write.Goals as goal

pub returns-in_err-size : goal.returns-in_err-size
returns-in_err-size c =
    let err = err_from_is_err_and c.from_residual.result c.from_residual.ensures.1 in
    rw (err.1, err.2) (obeys (Write c.args.message) _
    (write_refused buffer_limit c.args.message c.args.self.now c.in_err-size.ensures) refl)

pub returns-in_err-reserve : goal.returns-in_err-reserve
returns-in_err-reserve c =
    let err = err_from_is_err_and c.from_residual-in_err-reserve.result c.from_residual-in_err-reserve.ensures.1 in
    let same = ap (λ (gone : List Outcome). whole gone c.self.inside.contents) c.in_err-reserve.ensures.list ∙ c.self.view_is in
    rw (err.1, err.2, same) (obeys (Write c.args.message) _
    (write_wanting buffer_limit c.args.message c.args.self.now c.in_ok-size.ensures) refl)

pub returns-in_default : goal.returns-in_default
returns-in_default c =
    let same = ap (λ (unsent : Unsent). whole c.reserve.new.self.list unsent) c.in_default.ensures.err
    ∙ ap (λ (gone : List Outcome). whole gone c.self.inside.contents) c.in_ok-reserve.ensures.list ∙ c.self.view_is in
    rw same (obeys (Write c.args.message) _
    (write_wanting buffer_limit c.args.message c.args.self.now c.in_ok-size.ensures) refl)

pub invariant_of-self-2 : goal.invariant_of-self-2
invariant_of-self-2 c =
    let inside = c.self.inside in
    let message = c.args.message in
    let now = pending_of inside in
    let is = c.in_ok-size.ensures ∙ ap (asked buffer_limit message) (sym c.self.view_is) in
    let left = few buffer_limit message now is in
    let under : length now.promises < most_writes = grind (arith, nat_tests) in
    let more = added_waiting inside.contents c.add.new.self message c.in_ok-size.size (c.in-Ok.ensures.ok []) in
    let all = ap (λ (gone : List Outcome). whole gone c.add.new.self) c.in_ok-reserve.ensures.list in record {
      few_writes = omega (arith, under, more, promises_there inside.gone.list inside.contents, ap length c.in_ok-reserve.ensures.list);
      room = omega (arith, more, c.in_ok-reserve.ensures.ok, c.count.ensures);
      stands = rw all (stays (Write message) now (write_made buffer_limit message now is (c.in-Ok.ensures.ok inside.gone.list) refl
          c.in-Ok.ensures.change) c.self.invariant.stands);
    }

pub returns : goal.returns
returns c =
    let inside = c.self.inside in
    let now = pending_of inside in
    let is = c.in_ok-size.ensures ∙ ap (asked buffer_limit c.args.message) (sym c.self.view_is) in
    let given = c.promise_count.ensures.count ∙ ap (λ (one : Pending). length one.promises) (sym c.self.view_is) in
    let all = ap (λ (gone : List Outcome). whole gone c.add.new.self) c.in_ok-reserve.ensures.list in
    rw (c.reply.ensures, all) (obeys (Write c.args.message) now
    (write_made buffer_limit c.args.message now is (c.in-Ok.ensures.ok inside.gone.list) given c.in-Ok.ensures.change)
    c.self.view_is)
