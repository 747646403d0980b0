use Rattle.ob_connection.proofs.Words.{◌∙◌}
use Rattle.std.proofs.lemmas.Result.{IfOk-weaker}
use Rattle.ob_connection.proofs.Offered.{gathered_there}
use Rattle.ob_connection.proofs.connection.Connection.gather.Goals as goal

pub returns-clause-blocks : goal.returns-clause-blocks
returns-clause-blocks c =
    let there = gathered_there c.self.view_is c.args.max_count c.args.max_bytes in
    IfOk-weaker c.gather.result _ _ (λ blocks is commands stands. is ∙ there commands stands) c.gather.ensures.blocks

pub returns-clause-frugal : goal.returns-clause-frugal
returns-clause-frugal c commands stands nothing =
    c.gather.ensures.frugal (gathered_there c.self.view_is c.args.max_count c.args.max_bytes commands stands ∙ nothing)
