use Rattle.std.proofs.Common.{◌≡◌, ◌+◌, ℕ, refl, sym, subst, ◌∙◌, arith}
use Rattle.ob_covered.specs.Budgeted.{CoversAhead, IsPending}
use Rattle.ob_covered.specs.Cover.{IsShort, TakesSparingly}
use Rattle.ob_covered.proofs.Pending.{shown}
use Rattle.ob_covered.proofs.budgeted.Budgeted.cover_ahead.Goals as goal
use Rattle.ob_covered.proofs.budgeted.Budgeted.cover_ahead.Goals.{in-Ok, in-Err}

-- what the cover was asked to hold
asked : (c : goal.Joined-take) (now : ℕ) → IsPending c.self.inside.connection now
    → c.from-pending.result + c.from.result ≡ now + c.args.bytes
asked c now is =
    let some = c.stands_for_some_commands.ensures in
    let same = is some.0 some.1 ∙ sym (shown c.self.inside.connection c.look.result c.look.ensures some.0 some.1) in
    omega (arith, same, c.from-pending.ensures, c.from.ensures)

covers : (c : goal.Joined-take) → CoversAhead c.args.bytes
    (record { connection = c.self.inside.connection; cover = c.self.inside.cover }) c.match-take.result
    (record { connection = c.self.inside.connection; cover = c.take.new.self })
covers c = record {
  same = refl;
  covered = elim c.match-take.branch [
    | in-Ok w ↦ rw w.result-is (λ now is. omega (arith, asked c now is, w.in-Ok.ensures.covered))
    | in-Err w ↦ rw w.result-is (record {})
  ];
  sparing = λ now is. subst (λ n. TakesSparingly n c.self.inside.cover c.take.new.self) (asked c now is) c.take.ensures.sparing;
  short = elim c.match-take.branch [
    | in-Ok w ↦ rw w.result-is (record {})
    | in-Err w ↦ rw w.result-is (λ now is.
        subst (λ n. IsShort n w.in-Err.fault c.self.inside.cover c.take.new.self) (asked c now is) w.in-Err.ensures.short)
  ];
  tells = elim c.match-take.branch [
    | in-Ok w ↦ rw w.result-is w.in-Ok.ensures.told
    | in-Err w ↦ rw w.result-is w.in-Err.ensures.untold
  ];
}

pub returns : goal.returns
returns c = rw (← c.self.view_is) (covers c)
