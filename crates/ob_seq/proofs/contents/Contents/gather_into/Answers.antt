use Rattle.ob_seq.proofs.Words.{[], ◌∷◌, ◌++◌, length, sym, ap, ◌∙◌, arith}
use Rattle.std.proofs.lemmas.List.{length-set}
use Rattle.ob_seq.proofs.Inside.Gathered.{all_filled, filled, filled_count, filled_more, rest_behind, ended}
use Rattle.ob_seq.proofs.Inside.Gathered.{goes_within, none_left, passed, pushed}
use Rattle.ob_seq.proofs.Inside.Fields.{left_at_block, left_at_other, left_of}
use Rattle.ob_seq.proofs.contents.Contents.gather_into.Goals as goal

pub loop-entry-preserved-then-length-gt0 : goal.loop-entry-preserved-then-length-gt0
loop-entry-preserved-then-length-gt0 c =
    let at = c.loop-entry in
    let limit = length c.args.pieces.now in
    let items = filled at.count at.pieces in
    let left = left_at_block c.in-Some.ensures.steps c.in-Block.is in
    let goes = sym c.has_room.ensures ∙ c.if-not-has_room.false in
    let room = rw at.invariant.as_many at goes in
    let within = goes_within (length at.pieces) at.count at.room c.len-length.result goes in
    let piece = c.new.ensures ∙ c.as_slice.ensures in record {
      gathered = rw left at at.invariant.gathered
          ∙ pushed limit at.room items c.in-Block.bytes (left_of c.next.new.self)
          (filled_count at.count at.pieces at.invariant.within) c.len-length.ensures.value c.if-length-gt0.true room
          (filled_more at.count at.pieces c.new.result within ∙ ap (λ block. items ++ block ∷ []) piece)
          c.saturating_sub-room.ensures;
      within = rw length-set (omega (arith, within));
      as_many = rw length-set at.invariant.as_many;
      rest = rest_behind at.count at.pieces c.args.pieces.now c.new.result at.invariant.rest;
    }

pub loop-entry-preserved : goal.loop-entry-preserved
loop-entry-preserved c =
    let at = c.loop-entry in
    let over = passed (length c.args.pieces.now) at.room (filled at.count at.pieces) c.in-Block.bytes
    (left_of c.next.new.self) (filled_count at.count at.pieces at.invariant.within) c.len-length.ensures.value
    c.if-length-gt0.false in record {
      gathered = rw (left_at_block c.in-Some.ensures.steps c.in-Block.is) at at.invariant.gathered
          ∙ ap (λ more. filled at.count at.pieces ++ more) over;
      within = at.invariant.within;
      as_many = at.invariant.as_many;
      rest = at.invariant.rest;
    }

pub returns-in-None-clause-blocks : goal.returns-in-None-clause-blocks
returns-in-None-clause-blocks c =
    let at = c.loop-entry in
    let limit = length c.args.pieces.now in
    all_filled limit c.args.max_bytes at.room at.count at.pieces (left_of c.args.self.now.line) (left_of at.entry-iterator)
    at.invariant.gathered
    (rw (ap left_of c.in-None.ensures.steps.0) (none_left limit (length (filled at.count at.pieces)) at.room))

pub returns-in_default : goal.returns-in_default
returns-in_default c =
    let at = c.loop-entry in
    let limit = length c.args.pieces.now in record {
      blocks = all_filled limit c.args.max_bytes at.room at.count at.pieces (left_of c.args.self.now.line)
          (left_of at.entry-iterator) at.invariant.gathered
          (rw (left_at_other c.in-Some.ensures.steps c.in_default.not-Block)
          (none_left limit (length (filled at.count at.pieces)) at.room));
      within = omega (arith, at.invariant.within, at.invariant.as_many);
      rest = at.invariant.rest;
    }

pub returns-then-not-has_room-clause-blocks : goal.returns-then-not-has_room-clause-blocks
returns-then-not-has_room-clause-blocks c =
    let at = c.loop-entry in
    let limit = length c.args.pieces.now in
    all_filled limit c.args.max_bytes at.room at.count at.pieces (left_of c.args.self.now.line) (left_of at.entry-iterator)
    at.invariant.gathered
    (rw (left_at_block c.in-Some.ensures.steps c.in-Block.is)
    (ended limit at.room (filled at.count at.pieces) c.in-Block.bytes (left_of c.next.new.self)
    (filled_count at.count at.pieces at.invariant.within) c.len-length.ensures.value c.if-length-gt0.true
    (rw at.invariant.as_many at (sym c.has_room.ensures ∙ c.if-not-has_room.true))))
