use Rattle.ob_connection.proofs.Words.{arith}
use Rattle.ob_connection.specs.Calls.{most_pieces}
use Rattle.ob_connection.proofs.Offered.{few_offers}
use Rattle.ob_connection.proofs.connection.Connection.offer_few.Goals as goal

pub returns : goal.returns
returns g c =
    few_offers 64 most_pieces c.args.max_count c.args.max_bytes c.args.self.now.unsent (omega arith) c.requires
    c.offer_at_most.ensures
