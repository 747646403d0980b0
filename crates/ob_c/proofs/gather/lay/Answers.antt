use Rattle.std.proofs.Common.{length, ◌+◌, ◌-◌, ◌∙◌, refl, slice_set, arith}
use Rattle.std.proofs.lemmas.Grind.{drop_more_same}
use Rattle.std.proofs.lemmas.List.{drop-set-lt, length-set}
use Rattle.ob_seq.proofs.Inside.Gathered.{goes_first, goes_not_over, goes_with_room}
use Rattle.ob_c.proofs.Gathered.{begun, laid_along, laid_at_end, laid_at_full, laid_at_other, laid_behind_last, passed_over}
use Rattle.ob_c.proofs.gather.lay.Goals as goal

pub loop-message-init : goal.loop-message-init
loop-message-init c = record {
  laid = rw (c.from-room.ensures, c.into_iter-message-iterator.ensures.into_iter_gives)
      (begun c.args.connection.now (length c.args.pieces.now) c.args.max_bytes c.args.pieces.now
      c.flushed-message-items.result c.flushed-message-items.ensures);
  as_many = refl;
  rest = refl;
}

pub loop-message-preserved-then-length-gt0 : goal.loop-message-preserved-then-length-gt0
loop-message-preserved-then-length-gt0 c =
    let at = c.loop-message in
    let limit = length c.args.pieces.now in
    let bytes = c.in-Block.bytes in
    let within = c.if-count-pieces.false in
    let fits = rw c.len-length.ensures.value at c.if-length-room.false in record {
      laid = rw c.len-length.ensures.value
          (laid_along c.args.connection.now limit c.args.max_bytes at.count at.room at.pieces bytes c.next.new.self
          c.of-then-length-gt0.result c.as_slice-then-length-gt0.result
          (rw c.len-length.ensures.value at c.if-length-gt0.true) (omega (arith, within))
          (goes_with_room limit at.count at.room (length bytes) (omega (arith, within, at.invariant.as_many)) (omega (arith, fits)))
          c.of-then-length-gt0.ensures c.as_slice-then-length-gt0.ensures
          (rw (c.in-Some.ensures.steps, c.in-Block.is) at at.invariant.laid));
      as_many = rw length-set at.invariant.as_many;
      rest = drop-set-lt (at.count + 1) at.pieces at.count _ (omega arith)
          ∙ drop_more_same at.pieces c.args.pieces.now at.count at.invariant.rest;
    }

pub loop-message-preserved : goal.loop-message-preserved
loop-message-preserved c =
    let at = c.loop-message in record {
      laid = passed_over c.args.connection.now (length c.args.pieces.now) c.args.max_bytes at.count at.room at.pieces
          c.in-Block.bytes c.next.new.self (rw c.len-length.ensures.value at c.if-length-gt0.false)
          (rw (c.in-Some.ensures.steps, c.in-Block.is) at at.invariant.laid);
      as_many = at.invariant.as_many;
      rest = at.invariant.rest;
    }

pub returns-in-None-clause-laid : goal.returns-in-None-clause-laid
returns-in-None-clause-laid c =
    let at = c.loop-message in
    laid_at_end c.args.connection.now (length c.args.pieces.now) c.args.max_bytes at.count at.room at.pieces
    (rw c.in-None.ensures.steps.0 at at.invariant.laid)

pub returns-in_default : goal.returns-in_default
returns-in_default c =
    let at = c.loop-message in record {
      laid = laid_at_other c.args.connection.now (length c.args.pieces.now) c.args.max_bytes at.count at.room at.pieces
          c.in-Some.message.now c.next.new.self c.in_default.not-Block
          (rw c.in-Some.ensures.steps at at.invariant.laid);
      rest = at.invariant.rest;
    }

pub returns-then-count-eq0-clause-laid : goal.returns-then-count-eq0-clause-laid
returns-then-count-eq0-clause-laid c =
    let at = c.loop-message in
    let limit = length c.args.pieces.now in
    let bytes = c.in-Block.bytes in
    let within = c.if-count-pieces.false in
    let over = rw c.len-length.ensures.value at c.if-length-room.true in
    let first = c.if-count-eq0.true in
    laid_behind_last c.args.connection.now limit c.args.max_bytes 1 (at.room - length bytes)
    (slice_set at.pieces 0 c.of.result) c.next.new.self (omega (arith, over)) (omega arith)
    (laid_along c.args.connection.now limit c.args.max_bytes 0 at.room at.pieces bytes c.next.new.self c.of.result
    c.as_slice.result (rw c.len-length.ensures.value at c.if-length-gt0.true) (omega (arith, within))
    (goes_first limit at.room (length bytes) (omega (arith, within, at.invariant.as_many))) c.of.ensures c.as_slice.ensures
    (rw (c.in-Some.ensures.steps, c.in-Block.is, first) at at.invariant.laid))

pub returns-else-count-eq0-clause-laid : goal.returns-else-count-eq0-clause-laid
returns-else-count-eq0-clause-laid c =
    let at = c.loop-message in
    let over = rw c.len-length.ensures.value at c.if-length-room.true in
    let behind = c.if-count-eq0.false in
    laid_at_full c.args.connection.now (length c.args.pieces.now) c.args.max_bytes at.count at.room at.pieces
    c.in-Block.bytes c.next.new.self (rw c.len-length.ensures.value at c.if-length-gt0.true)
    (goes_not_over (length c.args.pieces.now) at.count at.room (length c.in-Block.bytes) (omega (arith, behind)) (omega (arith, over)))
    (rw (c.in-Some.ensures.steps, c.in-Block.is) at at.invariant.laid)
