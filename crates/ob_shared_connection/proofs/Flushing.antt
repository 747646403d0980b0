-- A write and the flush behind it make the two calls of that.
use Rattle.std.proofs.Common.{◌∙◌, List, [], ◌∷◌, ◌++◌, subst, append_assoc, Ok, Result}
use Rattle.ob_types.specs.declared.command.Command.{Command}
use Rattle.ob_types.specs.declared.command.Command.TheVariants.{Flush, Write}
use Rattle.ob_types.specs.declared.message.Message.{Message}
use Rattle.ob_types.specs.declared.refusal.Refusal.{Refusal}
use Rattle.ob_connection.specs.Connected.{Connected, StandsFor}
use Rattle.ob_connection.specs.Obeying.{Obeys, written_reply}
use Rattle.ob_connection.specs.declared.replies.Flushed.{Flushed}
use Rattle.ob_connection.specs.declared.replies.Written.{Written}
use Rattle.ob_shared_connection.specs.Calls.{Continues, Flushing}

pub write_and_flush_go_on : (old between new : Connected) (message : Message) (written : Written) (flushed : Flushed)
    → (let result : Result Written Refusal = Ok written in Obeys old (Write message) written_reply result between)
    → Flushing between flushed new → Continues old (Write message ∷ Flush ∷ []) new
write_and_flush_go_on old between new message written flushed writes flushes = record {
  settings = flushes.obeys.settings ∙ writes.settings;
  stands = λ history stands. subst (λ (commands : List Command). StandsFor new commands)
      (append_assoc history (Write message ∷ []) (Flush ∷ []))
      (flushes.obeys.stands (history ++ Write message ∷ []) (writes.stands history stands));
}
