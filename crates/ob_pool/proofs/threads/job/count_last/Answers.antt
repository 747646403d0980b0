use Rattle.std.proofs.Common.{◌≡◌, ◌+◌, ◌-◌, ◌<◌, List, [], ◌∷◌, ◌++◌, length, get_or, ap, ◌∙◌, arith}
use Rattle.std.specs.Prelude.{slice_get, Some}
use Rattle.std.proofs.lemmas.List.{get_or_push, length_push}
use Rattle.std.proofs.lemmas.Option.{slice_get-get_or}
use Rattle.ob_history.specs.declared.receipt.Receipt.{Receipt}
use Rattle.ob_pool.specs.Inside.{counts_in, plus}
use Rattle.ob_pool.proofs.Counted.{counts_in_both, true_more}
use Rattle.ob_pool.proofs.threads.job.count_last.Goals as goal

-- what is found at the end of a list with one behind others
last_found : (receipts before : List Receipt) (one : Receipt) → receipts ≡ before ++ one ∷ [] →
    slice_get receipts (length receipts - 1) ≡ Some one
last_found receipts before one split =
    let long : length receipts ≡ length before + 1 = ap length split ∙ length_push before one in
    let place : length before ≡ length receipts - 1 = omega arith in
    let within : length receipts - 1 < length receipts = omega arith in
    slice_get-get_or receipts (length receipts - 1) one within
    ∙ ap (λ (found : Receipt). Some found) (ap (λ (all : List Receipt). get_or all (length receipts - 1) one) split
    ∙ get_or_push before one one (length receipts - 1) place)

pub returns-in-Some : goal.returns-in-Some
returns-in-Some c = λ before one split counted.
    let writers = c.args.writers in
    let receipts = c.args.receipts.now in
    let last = c.in-Some.last.now in
    let found = last_found receipts before one split in
    let told = c.in-Some.ensures.value in
    let same : one ≡ last = cc in
    true_more (counts_in writers before) (counts_in writers (last ∷ [])) (counts_in writers receipts)
    c.args.counts.now c.add.new.self counted c.add.ensures
    (ap (counts_in writers) split ∙ counts_in_both writers before (one ∷ [])
    ∙ ap (λ (its : Receipt). plus (counts_in writers before) (counts_in writers (its ∷ []))) same)

pub returns-in-None : goal.returns-in-None
returns-in-None c = λ before one split.
    let found = last_found c.args.receipts.now before one split in
    let told = c.in-None.ensures.value in
    absurd (cc)
