use Rattle.ob_seq.proofs.Words.{◌<◌, ◌≤◌, true, length, refl, ap, ◌∙◌, ◌+◌, arith, Settings, Entry, whole, Unsent}
use Rattle.ob_seq.proofs.Words.{promise_set, Settled, Cancelled}
use Rattle.ob_seq.proofs.Inside.Fields.{entry_count, line_count}
use Rattle.ob_seq.proofs.Inside.States.{kept_back}
use Rattle.ob_seq.proofs.contents.Contents.take_back.Goals as goal

pub returns-clause-after : goal.returns-clause-after
returns-clause-after c gone =
    let inside = c.self.inside in
    let settings : Settings = record { marks = inside.opened; estimate = inside.estimate } in
    let place = c.args.place in
    let entry = c.at_mut.result.now in
    let back : Entry =
    record { message = entry.message; progress = entry.progress; size = entry.size; taken_back = true } in
    let all = entry_count c.args.self.now inside c.self.view_is c.self.invariant in
    let line = line_count c.args.self.now inside c.self.view_is c.self.invariant in
    let within : place < length inside.entries.items = omega (arith, c.requires.some) in
    let behind : inside.flushed ≤ place = omega (arith, c.requires.behind) in
    kept_back gone settings inside.marks inside.closed inside.entries.items inside.flushed place entry back inside.word
    behind within c.at_mut.ensures.value refl refl
    ∙ ap (λ (held : Unsent). promise_set (length gone + place) (Settled Cancelled) (whole gone held)) c.self.view_is
