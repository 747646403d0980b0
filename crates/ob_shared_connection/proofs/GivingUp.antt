-- Who gives a connection up makes the two calls of that.
use Rattle.std.proofs.Common.{List, [], ◌∷◌, ◌++◌, ◌∙◌, subst, append_assoc, false, Result, Ok, Err, IfOk, OnOk}
use Rattle.ob_types.specs.declared.command.Command.{Command}
use Rattle.ob_types.specs.declared.command.Command.TheVariants.{Close, FailFlushed}
use Rattle.ob_types.specs.declared.promise.Cause.{Cause}
use Rattle.ob_types.specs.declared.refusal.Refusal.{Refusal}
use Rattle.ob_connection.specs.Connected.{Connected, StandsFor}
use Rattle.ob_connection.specs.Obeying.{GivesUp}
use Rattle.ob_connection.specs.declared.replies.Taken.{Taken}
use Rattle.ob_shared_connection.specs.Calls.{Continues, giving_up}

pub gives_up_goes_on : (old : Connected) (cause : Cause) (result : Result Taken Refusal) (new : Connected)
    → IfOk result (λ taken. GivesUp old cause taken new) → OnOk result (Continues old (giving_up cause) new)
gives_up_goes_on old cause (Ok taken) new gives_up = record {
  settings = gives_up.closes.settings ∙ gives_up.fails.settings;
  stands = λ history stands. subst (λ (commands : List Command). StandsFor new commands)
      (append_assoc history (FailFlushed cause false ∷ []) (Close cause ∷ []))
      (gives_up.closes.stands (history ++ FailFlushed cause false ∷ []) (gives_up.fails.stands history stands));
}
gives_up_goes_on old cause (Err refusal) new gives_up = tt
