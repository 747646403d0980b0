use Rattle.ob_shared_connection.proofs.Taking.{gathered_under_lock}
use Rattle.ob_shared_connection.proofs.transport.Transport.try_gather.Goals as goal

pub returns-clause-in_front : goal.returns-clause-in_front
returns-clause-in_front c =
    gathered_under_lock (λ blocks. blocks.items) c.args.max_count c.args.max_bytes _ c.in-Ok.told.0 _ c.in-Ok.ensures.under
