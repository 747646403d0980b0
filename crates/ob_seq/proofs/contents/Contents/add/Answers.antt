use Rattle.ob_seq.proofs.Words.{◌≡◌, ◌≤◌, ◌+◌, ◌++◌, ◌∷◌, [], ℕ, false, List, length, sym, refl, ap, ◌∙◌, arith, Settings, Entry, take, drop}
use Rattle.ob_seq.proofs.Words.{whole, Inside, Message, Outcome, Unsent, pending_total, unsent_of, word_after_rise}
use Rattle.std.proofs.lemmas.List.{take-append-le, drop-append-le}
use Rattle.ob_seq.specs.Inside.{IsSound}
use Rattle.ob_seq.specs.Steps.Commands.{written}
use Rattle.ob_seq.proofs.Inside.Fields.{total_is}
use Rattle.ob_seq.proofs.Inside.States.{unsent_from, written_is}
use Rattle.ob_seq.proofs.contents.Contents.add.Goals as goal

pub overflow_add-self : goal.overflow_add-self
overflow_add-self c =
    omega (arith, total_is c.args.self.now c.self.inside c.self.view_is c.self.invariant, c.requires.fits)

-- behind all others stands one entry more, under a word that followed the rise
added : (inside : Inside) (old : Unsent) → unsent_of inside ≡ old → IsSound inside → (message : Message) (size word' : ℕ)
    (gone : List Outcome) (kept items : List Entry) → kept ≡ inside.entries.items →
    items ≡ kept ++ record { message = message; progress = 0; size = size; taken_back = false } ∷ [] →
    word' ≡ word_after_rise inside.marks inside.word size (inside.total + size) →
    whole gone (unsent_from (record { marks = inside.opened; estimate = inside.estimate }) inside.marks inside.closed
    (take inside.flushed items) (drop inside.flushed items) word') ≡ written (whole gone old) message size
added inside old view sound message size word' gone kept items same more rises =
    let settings : Settings = record { marks = inside.opened; estimate = inside.estimate } in
    let first = inside.entries.items in
    let n = inside.flushed in
    let entry : Entry = record { message = message; progress = 0; size = size; taken_back = false } in
    let within : n ≤ length first = omega (arith, sound.line_within) in
    let front = take-append-le n first (entry ∷ []) within in
    let behind = drop-append-le n first (entry ∷ []) within in
    let sum : inside.total ≡ pending_total (whole [] (unsent_of inside)) = total_is (unsent_of inside) inside refl sound in
    let by_sum = rises ∙ ap (λ (total : ℕ). word_after_rise inside.marks inside.word size (total + size)) sum in
    rw (more, same, front, behind)
    (written_is gone settings inside.marks inside.closed (take n first) (drop n first) inside.word word' message size by_sum
    ∙ ap (λ (held : Unsent). written (whole gone held) message size) view)

pub returns-then-not-can_rise-clause-ok : goal.returns-then-not-can_rise-clause-ok
returns-then-not-can_rise-clause-ok c gone =
    added c.self.inside c.args.self.now c.self.view_is c.self.invariant c.args.message c.args.size c.self.inside.word gone
    c.make_room.new.self.items c.push_back_reserved.new.self.items c.in-Ok.ensures.items c.push_back_reserved.ensures.items
    (sym (c.if-not-can_rise.ensures c.self.inside.word c.args.size refl))

pub returns-clause-ok : goal.returns-clause-ok
returns-clause-ok c gone =
    added c.self.inside c.args.self.now c.self.view_is c.self.invariant c.args.message c.args.size
    c.after_rise-self-inside.result gone c.make_room.new.self.items c.push_back_reserved.new.self.items
    c.in-Ok.ensures.items c.push_back_reserved.ensures.items c.after_rise-self-inside.ensures
