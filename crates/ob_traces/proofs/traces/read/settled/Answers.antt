use Rattle.std.proofs.Common.{◌≡◌, ◌∙◌, ◌+◌, ◌<◌, ℕ, Bool, true, ◌&&◌, List, ◌∷◌, Some, ap, arith, cond, count_by, length, rules, sym}
use Rattle.std.specs.List.{list_all}
use Rattle.std.specs.Prelude.{is_some}
use Rattle.std.proofs.lemmas.List.Sums.{sum_by-cons}
use Rattle.ob_script.specs.Reading.{words_after}
use Rattle.ob_traces.specs.Traces.{is_cancelled, is_failed, is_success, outcome_of}
use Rattle.ob_traces.proofs.traces.read.settled.Goals as goal

-- one word more counts if it is so
counted : (is_so : List ℕ → Bool) (words later : List (List ℕ)) (word : List ℕ) (so : Bool)
    → words ≡ word ∷ later → is_so word ≡ so → count_by is_so words ≡ cond so 1 0 + count_by is_so later
counted is_so words later word so first told =
    ap (count_by is_so) first ∙ sum_by-cons (λ one. cond (is_so one) 1 0) word later
    ∙ ap (λ here. cond here 1 0 + count_by is_so later) told

-- all words are so if the first one and all others are
all_so : (is_so : List ℕ → Bool) (words later : List (List ℕ)) (word : List ℕ)
    → words ≡ word ∷ later → is_so word ≡ true → list_all is_so words ≡ list_all is_so later
all_so is_so words later word first told =
    ap (list_all is_so) first ∙ ap (λ here. here && list_all is_so later) told

pub loop-word-preserved : goal.loop-word-preserved
loop-word-preserved c =
    let inv = c.loop-word.invariant in
    let words = words_after c.loop-word.rest.now in
    let later = words_after c.in-Some.others.now in
    let word = c.in-Some.word.now in
    let told = Some c.in_ok-outcome.field-0 in
    let first : words ≡ word ∷ later = search rules in
    let fewer : length c.in-Some.others.now < length c.loop-word.rest.now = search rules in
    let is : outcome_of word ≡ told = sym c.in_ok-outcome.ensures in
    let now = c.with_one-settled.ensures in
    let success =
    counted (λ one. is_success (outcome_of one)) words later word (is_success told) first (ap is_success is) in
    let failed =
    counted (λ one. is_failed (outcome_of one)) words later word (is_failed told) first (ap is_failed is) in
    let cancelled =
    counted (λ one. is_cancelled (outcome_of one)) words later word (is_cancelled told) first (ap is_cancelled is) in
    record {
      each = inv.each ∙ all_so (λ one. is_some (outcome_of one)) words later word first (ap is_some is);
      success = omega (arith, inv.success, success, now.success);
      failed = omega (arith, inv.failed, failed, now.failed);
      cancelled = omega (arith, inv.cancelled, cancelled, now.cancelled);
      space = search rules;
      few = omega (arith, fewer, inv.few, now.one);
    }
