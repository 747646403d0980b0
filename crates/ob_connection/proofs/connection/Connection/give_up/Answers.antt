use Rattle.ob_connection.proofs.Words.{◌++◌, ◌∷◌, [], refl, sym, ap, ◌∙◌, told_by, Connected, false}
use Rattle.ob_types.specs.declared.command.Command.TheVariants.{Close, FailFlushed}
use Rattle.ob_connection.specs.Connected.{answer_of_connection}
use Rattle.ob_connection.specs.Obeying.{promises_after, taken_reply}
use Rattle.ob_connection.proofs.GivingUp.{closes_then, fails_line, same_interval}
use Rattle.ob_connection.proofs.connection.Connection.give_up.Goals as goal

pub unreachable-requires : goal.unreachable-requires
unreachable-requires c =
    let some = c.stands_for_some_commands.ensures in
    fails_line c.args.cause c.in_default.field-0 some.1 c.in_ok-ask_open.ensures.open
    (ap (told_by (taken_reply (promises_after c.args.self.now.unsent.settings some.0))) (sym c.in_default.is)
    ∙ (c.fail_flushed.ensures.obeys.answer c.fail_flushed.ensures.frugal).says some.0 some.1)

pub unreachable-requires-in_default-close : goal.unreachable-requires-in_default-close
unreachable-requires-in_default-close c =
    let some = c.stands_for_some_commands.ensures in
    let all = some.0 ++ FailFlushed c.args.cause false ∷ [] in
    let between = c.fail_flushed.new.self in
    closes_then c.args.cause c.in_default-close.field-0 some.1 c.in_ok-ask_open.ensures.open
    (ap (told_by (taken_reply (promises_after between.unsent.settings all))) (sym c.in_default-close.is)
    ∙ (c.close.ensures.obeys.answer c.close.ensures.frugal).says all (c.in-Ok.ensures.obeys.stands some.0 some.1)
    ∙ ap (λ settings. answer_of_connection settings all (Close c.args.cause)) c.in-Ok.ensures.obeys.settings)

pub returns-clause-gives_up : goal.returns-clause-gives_up
returns-clause-gives_up c = record {
  between = c.fail_flushed.new.self;
  failed = c.in-Ok._failed;
  closed = c.in-Ok-close._closed;
  fails = c.in-Ok.ensures.obeys;
  closes = c.in-Ok-close.ensures.obeys;
  failed_next = c.in-Ok.ensures.next;
  closed_next = c.in-Ok-close.ensures.next;
  failed_quiet = c.in-Ok.ensures.quiet refl;
  closed_quiet = c.in-Ok-close.ensures.quiet;
  all = same_interval _ (ap (λ (one : Connected). one.gone) c.self.view_is) (ap (λ (one : Connected). one.gone) c.self-2.view_is);
}
