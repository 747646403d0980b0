use Rattle.ob_seq.proofs.Words.{◌≡◌, ◌≤◌, ◌<◌, ◌+◌, ◌-◌, ◌∷◌, [], ℕ, List, Block, Entry, ap, sym, ◌∙◌, arith, drop, length, nat_tests}
use Rattle.ob_seq.proofs.Words.{blocks_left, pending_entry, pending_entries}
use Rattle.std.proofs.Common.{add-one}
use Rattle.std.proofs.lemmas.List.{drop-drop, drop-map, length-drop}
use Rattle.ob_seq.proofs.Inside.Gathered.{cut_from, cut_is, left_from_block, left_from_other}
use Rattle.ob_seq.proofs.contents.Contents.find_cut.Goals.{in-None, in-Some+in_default}
use Rattle.ob_seq.proofs.contents.Contents.find_cut.Goals as goal

abbrev left_of : List Entry → List (List ℕ)
left_of entries = blocks_left (pending_entries entries)

-- an entry stands in line behind some that go whole, and before the rest
module _ (line rest : List Entry) (whole : ℕ) (entry : Entry) (is : drop whole line ≡ entry ∷ rest) where
  behind : drop (whole + 1) line ≡ rest
  behind = sym (drop-drop 1 whole line) ∙ ap (drop 1) is

  stands : whole < length line
  stands = omega (arith, length-drop whole line, ap (λ (list : List Entry). length list) is)

  block_there : {bytes : List ℕ} → entry.message ≡ Block bytes → left_of (drop whole line) ≡ bytes ∷ left_of rest
  block_there block = ap left_of is ∙ left_from_block (pending_entry entry) (pending_entries rest) block

  other_there : ((bytes : List ℕ) → entry.message ≡ Block bytes → ⊥) → left_of (drop whole line) ≡ []
  other_there other = ap left_of is ∙ left_from_other (pending_entry entry) (pending_entries rest) other

-- a piece that fits is one of those that go whole
one_more : (whole rest : ℕ) (piece : List ℕ) (pieces : List (List ℕ)) → length piece ≤ rest →
    cut_from whole rest (piece ∷ pieces) ≡ cut_from (whole + 1) (rest - length piece) pieces
one_more whole rest piece pieces fits = rw add-one (grind (arith, nat_tests))

pub returns-then-left-rest-clause-value : goal.returns-then-left-rest-clause-value
returns-then-left-rest-clause-value c =
    let at = c.loop-entry in
    let line = c.args.self.now.line in
    let block = block_there line c.next.new.self at.whole c.in-Some.entry.now
    (sym at.invariant.left ∙ c.in-Some.ensures.steps) c.in-Block.is in
    rw (cut_is c.args.n (left_of line) ∙ at.invariant.so_far ∙ ap (cut_from at.whole at.rest) block)
    (grind (arith, nat_tests, c.len-left.ensures.value, c.if-left-rest.true))

pub returns-then-left-rest-clause-rest : goal.returns-then-left-rest-clause-rest
returns-then-left-rest-clause-rest c =
    let at = c.loop-entry in
    let from = drop-map pending_entry at.whole c.args.self.now.line
    ∙ ap pending_entries (sym at.invariant.left ∙ c.in-Some.ensures.steps) in
    rw from (grind (arith, c.in-Block.is, c.len-left.ensures.value, c.if-left-rest.true))

pub loop-entry-preserved : goal.loop-entry-preserved
loop-entry-preserved c =
    let at = c.loop-entry in
    let line = c.args.self.now.line in
    let rest = c.next.new.self in
    let entry = c.in-Some.entry.now in
    let is = sym at.invariant.left ∙ c.in-Some.ensures.steps in
    let next = behind line rest at.whole entry is in record {
      left = sym next;
      so_far = rw (next, c.len-left.ensures.value) (at.invariant.so_far
          ∙ ap (cut_from at.whole at.rest) (block_there line rest at.whole entry is c.in-Block.is)
          ∙ one_more at.whole at.rest c.in-Block.bytes (left_of rest) (rw c.len-left.ensures.value at c.if-left-rest.false));
      within = omega (arith, stands line rest at.whole entry is);
    }

pub returns-clause-value : goal.returns-clause-value
returns-clause-value c =
    let at = c.loop-entry in
    let line = c.args.self.now.line in
    let ends : left_of (drop at.whole line) ≡ [] = elim c.match-next.branch [
      | in-None w ↦ ap left_of
          (sym at.invariant.left ∙ w.in-None.ensures.steps.0)
      | in-Some+in_default w ↦ other_there line c.next.new.self at.whole w.in-Some.entry.now
          (sym at.invariant.left ∙ w.in-Some.ensures.steps) w.in_default.not-Block
    ] in
    rw (cut_is c.args.n (left_of line) ∙ at.invariant.so_far, ends) (grind (arith, nat_tests, c.then_some.ensures))
