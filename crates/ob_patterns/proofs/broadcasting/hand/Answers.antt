use Rattle.std.proofs.Common.{rules, subst}
use Rattle.ob_types.specs.declared.message.Message.TheVariants.{Block}
use Rattle.ob_patterns.specs.Writing.{Adds, RefusesWrite, written_and_flushed}
use Rattle.ob_patterns.proofs.Flushing.{both_added, refuses}
use Rattle.ob_patterns.proofs.broadcasting.hand.Goals as goal

pub returns-in-Err : goal.returns-in-Err
returns-in-Err c = (
  search rules,
  subst (λ bytes. RefusesWrite c.args.connection.now (Block bytes) c.in-Err.refused.refusal)
      c.in-Ok.ensures.cases
      (refuses c.in-Err.ensures.obeys),
  search rules,
)

pub returns : goal.returns
returns c =
    let flushed = c.flush-flushed in (
      search rules,
      subst (λ bytes. Adds c.args.connection.now (written_and_flushed (Block bytes)) flushed.new.self)
          c.in-Ok.ensures.cases
          (both_added c.in_default-write.ensures.obeys flushed.result flushed.ensures.obeys flushed.ensures.frugal),
    )
