use Rattle.std.proofs.Common.{◌+◌, refl, sym, ap}
use Rattle.ob_types.specs.declared.message.Message.TheVariants.{Block}
use Rattle.ob_connection.specs.Obeying.{joined}
use Rattle.ob_shared_connection.proofs.lacking.bytes_added_by_parts.Goals as goal

pub returns-in-Some-clause-exact : goal.returns-in-Some-clause-exact
returns-in-Some-clause-exact c accepts =
    c.bytes_added_by.ensures.exact (Block (joined c.args.parts.now)) (record {
      counts = ap (λ n. n + c.args.connection.now.unsent.settings.estimate.overhead) (sym c.in-Some.ensures.some);
      short = refl;
    }) accepts
