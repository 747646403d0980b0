use Rattle.ob_seq.proofs.Words.{◌≡◌, sym, Success, length, refl, ap, ◌∙◌, arith}
use Rattle.std.proofs.Common.{rules}
use Rattle.std.proofs.lemmas.List.FromFn.{length-map-range_with_len}
use Rattle.ob_seq.proofs.Inside.Runs.{told_on, told_anew, rise_more, begun_more, differ_more}
use Rattle.ob_seq.specs.Outcomes.{Endings, outcome_at, outcome_before}
use Rattle.ob_seq.proofs.outcomes.Outcomes.push.Goals as goal

pub invariant_of-self : goal.invariant_of-self
invariant_of-self c =
    let all = length-map-range_with_len (outcome_at c.self.inside.runs.items) 0 c.self.inside.count in
    let seen = ap (λ (endings : Endings). length endings.list) c.self.view_is in
    let few : c.len.result ≡ length c.self.inside.runs.items = omega (arith, c.len.ensures, c.self.inside.runs.ok) in
    let last : c.outcome_before.result ≡ outcome_before c.self.inside.runs.items (length c.self.inside.runs.items) Success =
    c.outcome_before.ensures ∙ rw (c.deref.ensures.value, few) refl in
    elim c.if-ne.branch [
      | goal.then-ne w ↦ let pushed = w.push_reserved.ensures.items in rw w.self-inside-is record {
        rise = rw pushed (rise_more c.self.inside.runs.items _ c.self.inside.count c.self.invariant.rise c.self.invariant.begun refl);
        begun = rw pushed (begun_more c.self.inside.runs.items _ c.self.inside.count c.self.invariant.begun refl);
        few = omega (arith, c.requires.few);
        differ = rw pushed (differ_more c.self.inside.runs.items _
            (λ same. let equal : c.args.outcome ≡ c.outcome_before.result = same ∙ sym last in
            search (rules, w.if-ne.true, c.ne.ensures, equal)) c.self.invariant.differ);
      }
      | goal.else-ne w ↦ rw w.self-inside-is record {
        rise = c.self.invariant.rise;
        begun = λ i other some. let here = c.self.invariant.begun i other some in omega arith;
        few = omega (arith, c.requires.few);
        differ = c.self.invariant.differ;
      }
    ]

pub returns-clause-list : goal.returns-clause-list
returns-clause-list c = grind (arith, told_anew, told_on)
