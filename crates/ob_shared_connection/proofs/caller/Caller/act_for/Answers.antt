use Rattle.std.proofs.Common.{◌≡◌, List, ◌∷◌, sym, ap, ◌∙◌, subst, Ok}
use Rattle.atomic_table.specs.Seated.{TableId}
use Rattle.atomic_table.specs.Table.{rest}
use Rattle.ob_types.specs.declared.command.Command.{Command}
use Rattle.ob_shared_connection.specs.Calls.{IsCall}
use Rattle.ob_shared_connection.specs.Ruled.{view_with, table_of}
use Rattle.ob_shared_connection.specs.Steps.{Holds, Knows, carried_in, held_of}
use Rattle.ob_shared_connection.proofs.Told.{covered_still, is_call, next, still_holds, under_now}
use Rattle.ob_shared_connection.proofs.caller.Caller.act_for.Goals as goal

pub slot_mut-carried-requires : goal.slot_mut-carried-requires
slot_mut-carried-requires g c =
    let seat = c.args.self.now.seat in
    let slot = c.requires.holds.lock.slot in (
      c.args.self.now.seat_of ∙ ap table_of (sym c.deref.ensures),
      (carried_in seat.me.1, slot ∙ ap (λ slots. (0, carried_in seat.me.1) ∷ rest slots) (sym slot)),
    )

pub returns-clause-holds : goal.returns-clause-holds
returns-clause-holds g c =
    let me = c.args.self.now.seat.me in
    let commands = g.A.Act.commands c.args.act in
    let before = c.slot_mut-carried.result.now in
    let after = c.act.new.self in
    subst Holds (sym (c.list.ensures.me
    ∙ ap (λ (more : List Command). (view_with more me.0, (0, after) ∷ rest me.1)) c.requires.commands))
    (still_holds me commands before after c.requires.holds c.slot_mut-carried.ensures.value
    c.in_ok-answer.ensures.goes_on
    (covered_still me before after c.requires.holds c.slot_mut-carried.ensures.value c.in_ok-answer.ensures.cover
    c.in_ok-answer.ensures.under))

pub returns-clause-call : goal.returns-clause-call
returns-clause-call g c =
    let me = c.args.self.now.seat.me in
    let table = c.args.self.now.seat.table_id in
    let commands = g.A.Act.commands c.args.act in
    let Uncovered = g.A.Act.uncovered in
    let Does = g.A.Act.does c.args.act in
    let before = c.slot_mut-carried.result.now in
    let after = c.act.new.self in
    let told = c.in_ok-answer.ensures in
    let covered = covered_still me before after c.requires.holds c.slot_mut-carried.ensures.value told.cover told.under in
    let same : next me commands before after c.requires.holds c.slot_mut-carried.ensures.value told.goes_on covered
    ≡ c.list.new.seat.me = sym (c.list.ensures.me
    ∙ ap (λ (more : List Command). (view_with more me.0, (0, after) ∷ rest me.1)) c.requires.commands) in
    subst (λ (knows : Knows).
    IsCall Uncovered Does commands (held_of table me) (Ok c.in_ok-answer.answer) (held_of c.list.new.seat.table_id knows)) same
    (subst (λ (name : TableId).
    IsCall Uncovered Does commands (held_of table me) (Ok c.in_ok-answer.answer)
    (held_of name (next me commands before after c.requires.holds c.slot_mut-carried.ensures.value told.goes_on covered)))
    (sym c.list.ensures.seat.table)
    (is_call me commands before after c.requires.holds c.slot_mut-carried.ensures.value told.goes_on covered Uncovered Does table
    c.in_ok-answer.answer told.cover told.does))

pub act-requires : goal.act-requires
act-requires g c =
    let me = c.args.self.now.seat.me in
    under_now me c.slot_mut-carried.result.now c.requires.holds c.slot_mut-carried.ensures.value
