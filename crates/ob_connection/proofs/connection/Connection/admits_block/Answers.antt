use Rattle.ob_connection.proofs.Words.{◌≡◌, [], ℕ, sym, ap, ◌∙◌, subst, whole, connection_limit, accepted_writes, Connected}
use Rattle.ob_connection.proofs.Words.{Result, Refusal}
use Rattle.ob_types.specs.PendingSize.{pending_size_of}
use Rattle.ob_types.specs.declared.command.Command.TheVariants.{Write}
use Rattle.ob_types.specs.declared.estimate.Estimate.{Estimate}
use Rattle.ob_types.specs.declared.message.Message.TheVariants.{Block}
use Rattle.ob_seq.specs.Steps.Commands.{admitted}
use Rattle.ob_connection.specs.Inside.{admission}
use Rattle.ob_connection.proofs.Asking.{first_there, size_of_block}
use Rattle.ob_connection.proofs.Obeyed.{refuses}
use Rattle.ob_connection.proofs.connection.Connection.admits_block.Goals as goal

pub returns-clause-admits : goal.returns-clause-admits
returns-clause-admits c bytes count =
    let unsent = c.self.inside.contents in
    let counted = c.pending_size_of_length-size.ensures ∙ size_of_block c.estimate.result c.args.n bytes count
    ∙ ap (λ (one : Estimate). pending_size_of one (Block bytes)) c.estimate.ensures in
    subst (λ (one : Connected). c.admits.result ≡ admission one (Block bytes)) c.self.view_is (c.admits.ensures
    ∙ ap (λ (n : ℕ). admitted connection_limit n c.pending_size_of_length-size.result (whole [] unsent))
    (c.accepted_writes.ensures.count ∙ ap accepted_writes (sym c.self.view_is))
    ∙ ap (λ (size : Result ℕ Refusal). admitted connection_limit
    (accepted_writes (record { unsent = unsent; gone = c.self.inside.gone })) size (whole [] unsent)) counted)

pub returns-clause-first : goal.returns-clause-first
returns-clause-first c bytes count =
    refuses (Write (Block bytes)) (first_there (Block bytes) (returns-clause-admits c bytes count))
