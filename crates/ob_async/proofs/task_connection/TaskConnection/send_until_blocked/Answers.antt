use Rattle.std.proofs.Common.{subst}
use Rattle.ob_connection.specs.Sending.{EndsSending}
use Rattle.ob_async.specs.Waiting.{TaskConnectionValue}
use Rattle.ob_async.proofs.task_connection.TaskConnection.send_until_blocked.Goals as goal

pub returns-clause-ends : goal.returns-clause-ends
returns-clause-ends g c =
    subst (λ (it : TaskConnectionValue). EndsSending it.connection c.send_until_blocked-answer.result)
    c.self.view_is c.send_until_blocked-answer.ensures.ends
