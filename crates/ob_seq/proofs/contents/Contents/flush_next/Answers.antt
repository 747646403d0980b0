use Rattle.ob_seq.proofs.Words.{◌<◌, length, sym, ap, ◌∙◌, arith, Settings, Entry}
use Rattle.ob_seq.proofs.Words.{refl, whole, next_flushed, Unsent}
use Rattle.ob_seq.proofs.Inside.Fields.{unflushed_count}
use Rattle.ob_seq.proofs.Inside.States.{kept_fixed, kept_next, same_read}
use Rattle.ob_seq.proofs.contents.Contents.flush_next.Goals as goal

-- the entry that the flush reaches is there
inner : (c : goal.After-self-2-1) → c.self.inside.flushed < length c.self.inside.entries.items
inner c =
    let rest = unflushed_count c.args.self.now c.self.inside c.self.view_is c.self.invariant in
    omega (arith, c.requires)

pub returns-clause-after : goal.returns-clause-after
returns-clause-after c gone =
    let inside = c.self.inside in
    let settings : Settings = record { marks = inside.opened; estimate = inside.estimate } in
    let items = inside.entries.items in
    let n = inside.flushed in
    let now = ap (λ (held : Unsent). next_flushed (whole gone held)) c.self.view_is in
    let next = kept_next gone settings inside.marks inside.closed items n in
    elim c.if-at.branch [
      | goal.then-at w ↦
          let entry = w.at_mut.result.now in
          let same = same_read items n c.at.result.now entry (inner c) c.at.ensures.value w.at_mut.ensures.value in
          let flag = ap (λ (one : Entry). one.taken_back) (sym same) ∙ w.if-at.true in
          let falls = w.after_fall-self-inside.ensures in
          rw w.self-inside-is (next entry w.void-size.new.entry inside.word w.after_fall-self-inside.result (inner c)
          w.at_mut.ensures.value (w.void-size.ensures.after ∙ rw flag refl)
          (rw (flag, ← c.self.invariant.total, ← w.void-size.ensures.size) falls) ∙ now)
      | goal.else-at w ↦
          rw w.self-inside-is (kept_fixed gone settings inside.marks inside.closed items n c.at.result.now inside.word
          (inner c) c.at.ensures.value w.if-at.false ∙ now)
    ]

pub overflow_add-self : goal.overflow_add-self
overflow_add-self c =
    let rest = unflushed_count c.args.self.now c.self.inside c.self.view_is c.self.invariant in
    elim c.if-at.branch [
      | goal.then-at w ↦ rw w.self-inside-is (omega (arith, c.requires, rest, c.at.ensures.few))
      | goal.else-at w ↦ rw w.self-inside-is (omega (arith, c.requires, rest, c.at.ensures.few))
    ]
