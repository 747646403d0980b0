use Rattle.ob_seq.proofs.Words.{◌≡◌, ◌≤◌, ◌+◌, ◌-◌, ◌++◌, ℕ, List, length, sym, ap, ◌∙◌, arith, Entry, take, drop, nat_tests}
use Rattle.std.proofs.lemmas.List.{drop-drop, nil_from_length}
use Rattle.std.proofs.Common.{take-add}
use Rattle.ob_seq.proofs.walk.WalkIterator.next.Goals.{then-is_empty+else-self-eq0, else-is_empty}
use Rattle.ob_seq.proofs.walk.WalkIterator.next.Goals as goal

-- what begins at a place is what lies together there, and what begins behind that
run_taken : (run items : List Entry) (place left : ℕ) → run ≡ take (length run) (drop place items) → length run ≤ left →
    take left (drop place items) ≡ run ++ take (left - length run) (drop (place + length run) items)
run_taken run items place left lies few =
    ap (λ (n : ℕ). take n (drop place items)) (omega (arith, few)) ∙ take-add (length run) (left - length run) (drop place items)
    ∙ ap (λ (front : List Entry). front ++ take (left - length run) (drop (length run) (drop place items))) (sym lies)
    ∙ ap (λ (rest : List Entry). run ++ take (left - length run) rest) (drop-drop (length run) place items)

pub overflow_add-self : goal.overflow_add-self
overflow_add-self c = omega (arith, c.self.invariant, c.run_of-run.ensures.few)

pub returns-clause-steps : goal.returns-clause-steps
returns-clause-steps c =
    let inside = c.self.inside in
    let items = inside.entries.now.items in
    let behind = λ (list : List Entry). list ++ take inside.left (drop inside.place items) in
    rw (← c.self.view_is) (elim c.if-is_empty.branch [
      | then-is_empty+else-self-eq0 w ↦
          let run = w.run_of-run.result.now in
          let none = nil_from_length inside.run.now (grind (arith, nat_tests, w.if-is_empty.ensures)) in
          let first = rw w.self-inside-is at c.in_ok-entry.ensures.cases.0 in
          let more = λ (list : List Entry). list ++ take (inside.left - length run) (drop (inside.place + length run) items) in
          rw w.self-inside-is (ap behind none
          ∙ run_taken run items inside.place inside.left w.run_of-run.ensures.run w.run_of-run.ensures.few ∙ ap more first)
      | else-is_empty w ↦
          let first = rw w.self-inside-is at c.in_ok-entry.ensures.cases.0 in
          rw w.self-inside-is (ap behind first)
    ])
