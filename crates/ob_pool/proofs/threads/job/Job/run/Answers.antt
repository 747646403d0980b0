use Rattle.std.proofs.Common.{◌≡◌, ◌∷◌, drop, length, sym, ap, ◌∙◌, arith}
use Rattle.std.specs.Prelude.{vec_capacity, vec_len}
use Rattle.std.proofs.lemmas.Result.{IfOk-at_ok}
use Rattle.ob_shared.specs.Calls.{Maker}
use Rattle.ob_pool.proofs.Jobs.{commands_rest, made_more, numbered_still, place_next, places_rest, room_rest}
use Rattle.ob_pool.proofs.threads.job.Job.run.Goals as goal

pub one_step-same-requires-clause-numbered : goal.one_step-same-requires-clause-numbered
one_step-same-requires-clause-numbered g c =
    numbered_still c.heed-share.result.maker.caller c.steps.so_far.share.maker.caller c.args.self.maker.caller
    c.args.context.now.writers (ap (λ (maker : Maker). maker.caller) c.heed-share.ensures.maker)
    c.steps.invariant.caller c.requires.numbered

pub one_step-same-requires-clause-place : goal.one_step-same-requires-clause-place
one_step-same-requires-clause-place g c =
    place_next (vec_len c.steps.so_far.receipts) (vec_capacity c.steps.so_far.receipts) c.command-command.result.now c.steps.rest
    (drop 1 c.steps.rest) c.steps.invariant.places c.command-command.ensures

pub steps-preserved : goal.steps-preserved
steps-preserved g c =
    let kept = c.steps.invariant in
    let command = c.command-command.result.now in
    let plan = c.steps.rest in
    let rest = c.advance.new.self in
    let receipts = c.in-Ok.after.receipts in
    let step = c.one_step-same.ensures in
    let same = c.heed-share.ensures.maker in
    let begin : plan ≡ command ∷ rest = c.command-command.ensures ∙ ap (λ others. command ∷ others) (sym c.advance.ensures) in
    let count = IfOk-at_ok _ c.in-Ok.is step.count in
    let called = IfOk-at_ok _ c.in-Ok.is step.call in
    let places = IfOk-at_ok _ c.in-Ok.is step.places in
    record {
      lane = record { words = step.lane.words ∙ kept.lane.words; room = step.lane.room ∙ kept.lane.room };
      roomy = room_rest c.args.context.now.estimate c.args.context.now.task command plan rest c.args.self.room kept.roomy begin;
      caller = ap (λ (maker : Maker). maker.caller) called.made ∙ ap (λ (maker : Maker). maker.caller) same ∙ kept.caller;
      made = made_more c.in-Ok.after.share.maker.made c.heed-share.result.maker.made c.steps.so_far.share.maker.made
          c.args.self.maker.made (vec_len c.steps.so_far.receipts) (vec_len receipts)
          (ap (λ (maker : Maker). maker.made) called.made) (ap (λ (maker : Maker). maker.made) same) kept.made count;
      commands = commands_rest c.steps.so_far.receipts.items receipts.items command plan rest c.args.self.plan kept.commands begin
          called.commands;
      left = omega (arith, kept.left, ap length begin);
      places = places_rest (vec_len c.steps.so_far.receipts) (vec_len receipts) (vec_capacity c.steps.so_far.receipts)
          (vec_capacity receipts) command plan rest kept.places begin count places;
      counted = IfOk-at_ok _ c.in-Ok.is step.counted kept.counted;
    }
