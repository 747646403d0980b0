use Rattle.ob_seq.proofs.Words.{[], ◌≡◌, length, refl, sym, ap, ◌∙◌, append-nil}
use Rattle.ob_seq.proofs.Inside.Fields.{left_at_block, left_at_other, left_of}
use Rattle.ob_seq.proofs.Inside.Gathered.{ended, first_blocks_are, more_blocks, none_left, passed, pushed, something}
use Rattle.ob_seq.proofs.contents.Contents.gather.Goals.{in-None, in-Some+in_default, in-Some+in-Block+then-length-gt0+then-not-has_room}
use Rattle.ob_seq.proofs.contents.Contents.gather.Goals as goal

pub returns-in_err-push_copy-clause-frugal : goal.returns-in_err-push_copy-clause-frugal
returns-in_err-push_copy-clause-frugal c nothing =
    let at = c.loop-entry in
    let left = left_at_block c.in-Some.ensures.steps c.in-Block.is in
    absurd (something c.args.max_count at.room at.gathered.items c.in-Block.bytes (left_of c.next.new.self)
    (c.len.ensures ∙ at.gathered.ok.0) c.len-length.ensures.value c.if-length-gt0.true
    (sym c.has_room.ensures ∙ c.if-not-has_room.false)
    (sym (rw left at at.invariant) ∙ first_blocks_are c.args.max_count c.args.max_bytes (left_of c.args.self.now.line) ∙ nothing))

pub loop-entry-preserved-then-length-gt0 : goal.loop-entry-preserved-then-length-gt0
loop-entry-preserved-then-length-gt0 c =
    let at = c.loop-entry in
    rw (left_at_block c.in-Some.ensures.steps c.in-Block.is) at at.invariant
    ∙ pushed c.args.max_count at.room at.gathered.items c.in-Block.bytes (left_of c.next.new.self)
    (c.len.ensures ∙ at.gathered.ok.0) c.len-length.ensures.value c.if-length-gt0.true
    (sym c.has_room.ensures ∙ c.if-not-has_room.false) c.in_ok-push_copy.ensures c.saturating_sub-room.ensures

pub loop-entry-preserved : goal.loop-entry-preserved
loop-entry-preserved c =
    let at = c.loop-entry in
    let over = passed c.args.max_count at.room at.gathered.items c.in-Block.bytes (left_of c.next.new.self) refl
    c.len-length.ensures.value c.if-length-gt0.false in
    rw (left_at_block c.in-Some.ensures.steps c.in-Block.is, over) at at.invariant

pub returns-clause-blocks : goal.returns-clause-blocks
returns-clause-blocks c =
    let limit = c.args.max_count in
    let at = c.loop-entry in
    let none = none_left limit (length at.gathered.items) at.room in
    let end : more_blocks limit (length at.gathered.items) at.room (left_of at.entry-iterator) ≡ [] =
    elim c.match-next.branch [
      | in-None w ↦ rw (ap left_of w.in-None.ensures.steps.0) none
      | in-Some+in_default w ↦ rw (left_at_other w.in-Some.ensures.steps w.in_default.not-Block) none
      | in-Some+in-Block+then-length-gt0+then-not-has_room w ↦
          rw (left_at_block w.in-Some.ensures.steps w.in-Block.is)
          (ended limit at.room at.gathered.items w.in-Block.bytes (left_of c.next.new.self) (w.len.ensures ∙ at.gathered.ok.0)
          w.len-length.ensures.value w.if-length-gt0.true (sym w.has_room.ensures ∙ w.if-not-has_room.true))
    ] in
    sym (rw (end, append-nil) at at.invariant) ∙ first_blocks_are limit c.args.max_bytes (left_of c.args.self.now.line)
