use Rattle.ob_seq.proofs.Words.{◌≡◌, ℕ, ◌-◌, [], List, length, refl, ap, ◌∙◌, arith, length-map, Unsent, whole}
use Rattle.ob_seq.proofs.Words.{Entry, next_flushed, times, drop}
use Rattle.std.proofs.lemmas.List.{nil_from_length}
use Rattle.ob_seq.proofs.Inside.Steps.{unflushed_left}
use Rattle.ob_seq.proofs.contents.Contents.flush_one_by_one.Goals as goal

-- each turn takes one of the unflushed entries
left_after : (now old : Unsent) (n : ℕ) → whole [] now ≡ times n next_flushed (whole [] old) →
    length now.unflushed ≡ length old.unflushed - n
left_after now old n is = grind (arith, unflushed_left, length-map)

pub flush_next-requires : goal.flush_next-requires
flush_next-requires c =
    omega (arith, c.loop-test.true, c.unflushed_count-end.ensures, left_after c.loop.self c.args.self.now c.loop.counter (c.loop.invariant.0 []))

-- at the end none is left, and so none that was taken back
pub invariant_of-self : goal.invariant_of-self
invariant_of-self c =
    let sound = c.self-2.invariant in
    let left = left_after c.loop.self c.args.self.now c.loop.counter (c.loop.invariant.0 []) in
    let behind : List Entry = drop c.self-2.inside.flushed c.self-2.inside.entries.items in
    let is : behind ≡ c.loop.self.unflushed = ap (λ (held : Unsent). held.unflushed) c.self-2.view_is in
    let nothing : behind ≡ [] =
    is ∙ nil_from_length c.loop.self.unflushed (omega (arith, left, c.loop-test.false, c.unflushed_count-end.ensures)) in
    record {
      line_within = sound.line_within;
      total = sound.total;
      small_overhead = sound.small_overhead;
      small_unknown = sound.small_unknown;
      none_back = λ none. rw nothing refl;
    }
