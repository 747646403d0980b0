use Rattle.std.proofs.Common.{sym, subst, eqb, Option}
use Rattle.std.specs.Slots.{slots_items}
use Rattle.ob_connection.specs.Connected.{Connected}
use Rattle.ob_covered.specs.Cover.{CoverValue}
use Rattle.ob_shared_connection.specs.Steps.{IsEndOf}
use Rattle.ob_shared_connection.proofs.Ending.{is_end}
use Rattle.ob_shared_connection.proofs.shared.Shared.end.Goals as goal

pub returns : goal.returns
returns c =
    let closed = c.close_with-closed.result in
    subst (λ (parts : Connected × Option CoverValue). IsEndOf c.args.seat.me.0 (record {
      connection = parts.0;
      cover = parts.1;
      handles = c.word-handles.result;
      is_left = eqb c.word-is_left.result 0;
    })) (sym c.into_parts-connection.ensures)
    (is_end c.args.seat.id c.args.seat.me.0 (slots_items closed.words) (slots_items closed.slots) c.word-is_left.result
    c.word-handles.result c.take-carried.result c.requires.rests.seat c.requires.rests.free c.close_with-closed.ensures.values.2
    c.word-is_left.ensures c.word-handles.ensures c.take-carried.ensures.value)
