use Rattle.std.proofs.Common.{◌≡◌, length, take, refl, ap, subst, arith}
use Rattle.std.proofs.lemmas.List.{length-set, take_all}
use Rattle.ob_types.specs.declared.command.Command.TheVariants.{Write}
use Rattle.ob_types.specs.declared.message.Message.TheVariants.{Block as AsBlock}
use Rattle.ob_connection.specs.Obeying.{Obeys, joined, written_reply}
use Rattle.ob_c.specs.Calls.{slices_of}
use Rattle.ob_c.proofs.Listing.{list_more}
use Rattle.ob_c.proofs.parts.write_few.Goals as goal

pub loop-at-init : goal.loop-at-init
loop-at-init c = record { room = refl; listed = refl }

pub loop-at-preserved : goal.loop-at-preserved
loop-at-preserved c =
    let at = c.loop-at in record {
      room = rw length-set at.invariant.room;
      listed = list_more at.few _ c.args.parts.now at.at (omega (arith, at.invariant.room, c.requires, c.loop-at-test.true))
          c.loop-at-test.true refl at.invariant.listed;
    }

pub returns : goal.returns
returns c =
    let at = c.loop-at in
    let end : at.at ≡ length c.args.parts.now = omega (arith, c.loop-at-test.false, at.auto.at-end) in
    let all : take (length c.args.parts.now) at.few ≡ slices_of c.args.parts.now =
    rw (end, take_all (length c.args.parts.now) c.args.parts.now (omega arith)) at at.invariant.listed in
    subst (λ bytes. Obeys c.args.connection.now (Write (AsBlock bytes)) written_reply c.write_parts.result c.write_parts.new.self)
    (ap joined all) c.write_parts.ensures.obeys
