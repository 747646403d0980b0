use Rattle.std.proofs.Common.{sym, ap, ◌∙◌, rules}
use Rattle.std.specs.Prelude.{Some}
use Rattle.std.proofs.lemmas.Result.{err_from_is_err_and}
use Rattle.ob_types.specs.declared.message.Message.{Message}
use Rattle.ob_seq.specs.Effect.{rows_after}
use Rattle.ob_seq.specs.Looks.{gathered_after, current_after, progress_of}
use Rattle.ob_seq.specs.Rows.{front}
use Rattle.ob_transport.proofs.Offers.{has_bytes}
use Rattle.ob_transport.proofs.next.next_of.Goals as goal

pub returns-in_err-blocks-in-Some-Block-clause-no_memory :
    goal.returns-in_err-blocks-in-Some-Block-clause-no_memory
returns-in_err-blocks-in-Some-Block-clause-no_memory c =
    let p = err_from_is_err_and c.from_residual.result c.from_residual.ensures.1 in
    let settings = c.args.buffer.now.settings in
    rw p.1 (λ commands stands. has_bytes (current_after settings commands)
    (gathered_after settings commands c.args.limits.max_count c.args.limits.max_bytes)
    (progress_of (front (rows_after settings.estimate commands)))
    c.in-Some-Block.field-0-0
    (sym (c.in-Some-Block.ensures commands stands)
    ∙ ap (λ (message : Message). Some message) c.in-Some-Block.field-0-is)
    (λ none. absurd (let no = c.in_err-blocks-in-Some-Block.ensures.frugal commands stands none in cc)))

-- Named for the must-fail edits that fail here: `search` finds it unasked (CONTRIBUTING.md).
pub returns-else-rest-eq0-clause-offer : goal.returns-else-rest-eq0-clause-offer
returns-else-rest-eq0-clause-offer c = search rules
