use Rattle.std.proofs.Common.{◌≡◌, ◌∙◌, ◌<◌, List, Ok, ap, length, string_bytes, subst, sym}
use Rattle.ob_history.specs.History.{history_after, next_record, History, seen_now}
use Rattle.ob_history.specs.declared.record.Record.{Record}
use Rattle.ob_history.proofs.Calls.{record_at_place}
use Rattle.ob_cli.specs.Run.{told_after}
use Rattle.ob_script.proofs.Results.{OnOk-follows}
use Rattle.ob_cli.proofs.RunLines.{call-told, has_room, told-last}
use Rattle.ob_cli.proofs.run.session.RunSession.trace_command.Goals as goal

pub bounds-records-place : goal.bounds-records-place
bounds-records-place c =
    let history = c.args.self.now.recorded in
    let place = length c.records-place.result.now in
    let room = has_room c.in_ok-call.field-0 _ c.in_ok-call.ensures.answer c.if-not-branch.false in
    let last =
    record_at_place history c.call.new.self.recorded 0 c.args.command place (next_record history 0 c.args.command)
    room (ap length c.records-place.ensures.value) c.in_ok-call.ensures.after in
    subst (λ (records : List Record). place < length records) (sym c.records.ensures.value) last.0

pub returns-in-Ok-clause-text : goal.returns-in-Ok-clause-text
returns-in-Ok-clause-text c =
    let history = c.args.self.now.recorded in
    let command = c.args.command in
    let room = has_room c.in_ok-call.field-0 _ c.in_ok-call.ensures.answer c.if-not-branch.false in
    let after : c.call.new.self.recorded ≡ history_after history 0 command = c.in_ok-call.ensures.after in
    let told : Ok c.in-Ok.reply ≡ told_after history command =
    told-last history c.call.new.self.recorded command c.records.result.now (length c.records-place.result.now)
    c.index-records-place.result (Ok c.in-Ok.reply) room (ap length c.records-place.ensures.value)
    after c.records.ensures.value c.in-Ok.is in
    let seen : c.look-look.result ≡ (seen_now (history_after history 0 command)).look =
    c.look-look.ensures ∙ ap (λ (now : History). (seen_now now).look) after in
    OnOk-follows c.push_reply.result
    (call-told history command (Ok c.in-Ok.reply) c.look-look.result (string_bytes c.args.text.now)
    (string_bytes c.push_reply.new.text) told seen)
    c.push_reply.ensures
