use Rattle.std.proofs.Common.{refl, arith}
use Rattle.ob_types.specs.declared.message.Message.TheVariants.{Block}
use Rattle.ob_shared_connection.proofs.writes.WriteCopyAndFlushAct.adds.Goals as goal

pub returns : goal.returns
returns c =
    let told = c.bytes_added_by.ensures in
    let block = Block c.args.self.now.0.now in record {
      small = told.small;
      written = λ accepts. (let exact = told.exact block (record { counts = refl; short = refl }) accepts in omega (arith, exact));
      accepted = λ some. told.accepted some block (record { counts = refl; short = refl });
    }
