use Rattle.std.proofs.Common.{◌<◌, arith, length, take, sym, ap, ◌∙◌, subst, add-one}
use Rattle.ob_seq.specs.Answer.{commands_after, commands_with}
use Rattle.ob_seq.specs.Pending.{StandsFor}
use Rattle.ob_history.specs.History.{accepted_commands}
use Rattle.ob_history.proofs.Histories.{accepted_with_next, command_of, found_at}
use Rattle.ob_history.proofs.recorded.replay.go_on.Goals as goal

pub loop-index-preserved : goal.loop-index-preserved
loop-index-preserved c =
    let records = c.args.records.now in
    let settings = c.args.buffer.now.settings in
    let index = c.loop-index.index in
    let earlier = take index records in
    let kept = c.index-records-index.result in
    let within : index < length records = omega (arith, c.loop-index-test.true, c.requires.within) in
    let found = found_at records index kept within c.index-records-index.is in
    let legal = c.requires.legal index kept found.0 in
    let same = c.in_ok-copy.ensures.same ∙ ap command_of (sym c.index-records-index.is) in
    record {
      settings = c.in_ok-_answer.ensures.settings ∙ c.loop-index.invariant.settings;
      stands = subst (StandsFor c.give.new.buffer)
          (ap (commands_with (accepted_commands earlier) c.in_ok-copy.field-0)
          (c.in_ok-_answer.ensures.answer (accepted_commands earlier) c.loop-index.invariant.stands)
          ∙ ap (λ other. commands_after other (accepted_commands earlier) c.in_ok-copy.field-0)
          c.loop-index.invariant.settings
          ∙ ap (commands_after settings (accepted_commands earlier)) same
          ∙ sym (accepted_with_next settings earlier kept legal.reply)
          ∙ ap accepted_commands (sym found.1 ∙ ap (λ count. take count records) (sym (add-one index))))
          (c.in_ok-_answer.ensures.stands (accepted_commands earlier) c.loop-index.invariant.stands);
    }
