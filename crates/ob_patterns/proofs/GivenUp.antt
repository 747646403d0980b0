-- What is given up is closed.
use Rattle.std.proofs.Common.{◌≡◌, sym, subst, ◌∙◌, List, [], ◌∷◌, ◌++◌, true, false, arith}
use Rattle.std.specs.Prelude.{Result, Ok, Err, is_err, IfOk, OnErr}
use Rattle.std.proofs.lemmas.List.Folds.{list_any-append}
use Rattle.ob_types.specs.declared.command.Command.{Command}
use Rattle.ob_types.specs.declared.command.Command.TheVariants.{Close, FailFlushed}
use Rattle.ob_types.specs.declared.promise.Cause.{Cause}
use Rattle.ob_types.specs.declared.refusal.Refusal.{Refusal}
use Rattle.ob_seq.specs.State.{is_close, is_closed, closed_after}
use Rattle.ob_connection.specs.Connected.{Connected, StandsFor, StandsForSome, Gives}
use Rattle.ob_connection.specs.Obeying.{GivesUp}
use Rattle.ob_connection.specs.declared.replies.Taken.{Taken}

-- a close at the end of a history closes it
closed_at_end : (commands : List Command) (cause : Cause) → is_closed (commands ++ Close cause ∷ []) ≡ true
closed_at_end commands cause = let more = list_any-append is_close commands (Close cause ∷ []) in grind arith

-- each history that a connection stands for tells alike whether it is closed
pub alike_closed : {now : Connected} {commands others : List Command} → StandsFor now commands → StandsFor now others →
    is_closed commands ≡ is_closed others
alike_closed stands too = sym stands.as_buffer.leaves.closed ∙ too.as_buffer.leaves.closed

-- a connection that was given up is closed
pub given_up_is_closed : {old new : Connected} {cause : Cause} {taken : Taken} → StandsForSome old →
    GivesUp old cause taken new → Gives new closed_after true
given_up_is_closed {cause = cause} some gives commands stands =
    let earlier = some.0 ++ FailFlushed cause false ∷ [] in
    let ended = gives.closes.stands earlier (gives.fails.stands some.0 some.1) in
    sym (closed_at_end earlier cause) ∙ alike_closed ended stands

-- so is one that refused that, since it was closed
pub closed_either_way : {old new : Connected} (cause : Cause) (result : Result Taken Refusal) → StandsForSome old →
    IfOk result (λ taken. GivesUp old cause taken new) → Gives old closed_after (is_err result) →
    OnErr result (new ≡ old) → Gives new closed_after true
closed_either_way cause (Ok taken) some gives closed same = given_up_is_closed some gives
closed_either_way cause (Err refusal) some gives closed same =
    subst (λ (one : Connected). Gives one closed_after true) (sym same) closed
