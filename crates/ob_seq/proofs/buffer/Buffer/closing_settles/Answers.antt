use Rattle.ob_seq.proofs.Words.{◌≡◌, length, take, refl, sym, ap, ◌∙◌, arith, Failed}
use Rattle.ob_seq.specs.Unsent.{all_entries}
use Rattle.ob_seq.proofs.Inside.LetGo.{all_settle, count_of_settlements}
use Rattle.ob_seq.proofs.Inside.Rooms.{line_there}
use Rattle.ob_seq.proofs.buffer.Buffer.closing_settles.Goals as goal

pub returns : goal.returns
returns c cause =
    let inside = c.self.inside in
    let seen = line_there inside.gone.list inside.contents c.self.view_is in
    let nothing : length c.args.self.now.line ≡ 0 =
    omega (arith, seen, c.line_count.ensures, c.if-line_count-gt0.false) in
    c.to_settle_count.ensures
    ∙ sym (count_of_settlements (Failed cause) (length inside.gone.list) (take c.count.result (all_entries inside.contents)))
    ∙ ap length (all_settle inside.gone.list inside.contents c.self.view_is refl cause c.count.ensures nothing)
    ∙ rw nothing refl
