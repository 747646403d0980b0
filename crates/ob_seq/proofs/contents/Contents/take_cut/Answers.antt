use Rattle.ob_seq.proofs.Words.{[], ◌++◌, length, map, take, ap, ◌∙◌, arith, true, ended, Success, Pending, whole}
use Rattle.ob_seq.specs.Steps.Commands.{front_skipped}
use Rattle.ob_seq.proofs.Inside.Rooms.{same_waiting, skipped_promises}
use Rattle.ob_seq.proofs.Inside.Steps.{line_of_times}
use Rattle.ob_seq.proofs.contents.Contents.take_cut.Goals as goal

pub skip_in_front-requires : goal.skip_in_front-requires
skip_in_front-requires c =
    let cut = c.args.cut in
    let line = ap (λ (held : Pending). held.line) (c.take_first.ensures.taken [] Success)
    ∙ line_of_times true Success cut.whole (whole [] c.args.self.now) in
    rw line c.requires.rest

pub returns : goal.returns
returns c =
    let old = c.args.self.now in
    let cut = c.args.cut in
    let step = ap (λ (held : Pending). length held.promises) (c.skip_in_front.ensures.after [])
    ∙ skipped_promises cut.rest (whole [] c.take_first.new.self) in
    let same = same_waiting c.take_first.new.self c.skip_in_front.new.self step in record {
      taken = λ gone. c.skip_in_front.ensures.after (gone ++ map (ended Success) (take cut.whole old.line))
          ∙ ap (front_skipped cut.rest) (c.take_first.ensures.taken gone Success);
      fewer = omega (arith, same, c.take_first.ensures.fewer);
      room = omega (arith, c.skip_in_front.ensures.room, c.take_first.ensures.room);
    }
