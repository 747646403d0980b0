use Rattle.ob_connection.proofs.Words.{◌≡◌, ◌<◌, ℕ, List, false, refl, arith, nat_tests, length, Option, Some, None}
use Rattle.ob_connection.proofs.Words.{Command, Settings, answer_within, connection_limit, most_ids}
use Rattle.ob_types.specs.declared.command.Command.TheVariants.{Write}
use Rattle.ob_types.specs.declared.estimate.Estimate.{Estimate}
use Rattle.ob_seq.specs.Answer.{is_full, refusal_within}
use Rattle.ob_seq.specs.State.{writes_in}
use Rattle.ob_seq.specs.Effect.{rows_after}
use Rattle.ob_seq.specs.Rows.{Row}
use Rattle.ob_seq.proofs.Rows.EachRow.{row_for_each_write}
use Rattle.ob_connection.proofs.laws.the_limit_is_out_of_reach.Goals as goal

-- limits that are both not reached refuse alike
same_refusal : (one other : Option ℕ) (estimate : Estimate) (rows : List Row) (command : Command) →
    is_full one (length rows) ≡ is_full other (length rows) →
    refusal_within one estimate rows command ≡ refusal_within other estimate rows command
same_refusal one other estimate rows (Write message) same = rw same refl
same_refusal one other estimate rows command same = refl

same_answer : (one other : Option ℕ) (settings : Settings) (commands : List Command) (command : Command) →
    is_full one (length (rows_after settings.estimate commands))
    ≡ is_full other (length (rows_after settings.estimate commands)) →
    answer_within one settings commands command ≡ answer_within other settings commands command
same_answer one other settings commands command same = grind (arith, same_refusal)

-- a limit that is above the number of writes is not reached
not_full : (limit : ℕ) (estimate : Estimate) (commands : List Command) → writes_in commands < limit →
    is_full (Some limit) (length (rows_after estimate commands)) ≡ false
not_full limit estimate commands few =
    let count = row_for_each_write estimate commands in grind (arith, nat_tests)

pub returns-clause-unlimited : goal.returns-clause-unlimited
returns-clause-unlimited c settings commands command few =
    same_answer connection_limit None settings commands command (not_full most_ids settings.estimate commands few)

pub returns-clause-as_a_buffer : goal.returns-clause-as_a_buffer
returns-clause-as_a_buffer c settings commands command few = grind (arith, same_answer, not_full)
