use Rattle.std.proofs.Common.{◌≡◌, inr, List, [], ◌∷◌, ◌++◌, sym, ap, ◌∙◌, subst, rules}
use Rattle.std.specs.Prelude.{Result, IsErrOf, OnErr}
use Rattle.ob_types.specs.declared.refusal.Refusal.{Refusal}
use Rattle.ob_types.specs.declared.refusal.Refusal.TheVariants.{NoMemory}
use Rattle.ob_history.specs.History.{next_record, IsBeginning, History}
use Rattle.ob_history.specs.declared.record.Record.{Record}
use Rattle.ob_history.proofs.Lists.{begins_further}
use Rattle.ob_history.proofs.Calls.{called_begins}
use Rattle.ob_shared.specs.Calls.{with_record_of, Handed, ShareValue, sight_of}
use Rattle.ob_shared.proofs.Calling.{keeps_nothing, keeps_record, now_with}
use Rattle.ob_shared.proofs.shared_buffer.SharedBuffer.call.Given.{Over}
use Rattle.ob_shared.proofs.shared_buffer.SharedBuffer.call.Goals as goal
use Rattle.ob_shared.proofs.shared_buffer.SharedBuffer.call.Goals.{Joined-answer, in-Ok, in-Err}

-- what the share had seen begins what it has seen when it left
longer : (g : Over) (c : Joined-answer g) →
    IsBeginning c.args.caller.sight.seen c.leave-share.result.sight.seen
longer g c =
    let before = c.desk-desk.result.history in
    let after = c.call-answer.new.self.history in
    let seen = ap (λ (share : ShareValue). share.sight.seen) c.leave-share.ensures.share in
    let had = ap (λ (old : Handed). old.sight.seen) c.caller.view_is in
    subst (λ (records : List Record). IsBeginning c.args.caller.sight.seen records) (sym seen)
    (begins_further c.args.caller.sight.seen before.records after.records
    (subst (λ (records : List Record). IsBeginning records before.records) had c.desk-desk.ensures.part)
    (called_begins before c.desk-desk.result.maker.caller c.args.command c.call-answer.result after
    c.call-answer.ensures.is_call))

pub returns : goal.returns
returns g c =
    let before = c.desk-desk.result.history in
    let after = c.call-answer.new.self in
    let share = c.leave-share.result in
    let left = c.leave-share.ensures.share in
    let items = c.match-answer.receipts.items in
    let inside = c.caller.inside in
    let old : Handed = record {
      maker = inside.share.maker;
      sight = inside.share.sight;
      receipts = inside.receipts.items;
      told = inside.told.items;
      seen = inside.seen.items;
    } in
    elim c.match-answer.branch [
      | in-Ok w ↦
          let kept = keeps_record old before after.history c.desk-desk.result.maker after.maker share c.args.command
          w.in-Ok.receipt items c.desk-desk.ensures.maker w.in-Ok.ensures.is_call w.in-Ok.ensures.made left
          (ap (λ v. v.items) w.receipts-is ∙ w.push_reserved.ensures.items
          ∙ ap (λ its. its ++ w.in-Ok.receipt ∷ []) c.reserve-room.ensures.items) in
          record {
            recorded = λ ok. (
              before,
              c.desk-desk.ensures.opened,
              kept.0,
              subst (λ (its : Handed). now_with old share items
                  ≡ with_record_of its before.records (next_record before its.maker.caller c.args.command))
                  c.caller.view_is kept.1,
              subst (λ (records : List Record). IsBeginning records before.records)
                  (ap (λ (its : Handed). its.sight.seen) c.caller.view_is) c.desk-desk.ensures.part,
            );
            full = search rules;
            no_memory = search rules;
            refusals = search rules;
            refused = search rules;
            longer = longer g c;
          }
      | in-Err w ↦ record {
        recorded = search rules;
        full = search rules;
        no_memory = λ none. inr (
          before,
          c.desk-desk.ensures.opened,
          let is = subst (λ (answer : Result (Unit {0}) Refusal). IsErrOf answer NoMemory) w.answer-is none in
              w.in-Err.ensures.is_call.no_memory_last (search rules),
          ap (λ (s : ShareValue). s.sight) left
              ∙ ap (λ (h : History). sight_of h.records) w.in-Err.ensures.is_call.refused,
        );
        refusals = search rules;
        refused = subst (λ (answer : Result (Unit {0}) Refusal). OnErr answer
            (now_with old share items ≡ record c.args.caller { sight = share.sight })) (sym w.answer-is)
            (subst (λ (its : Handed). now_with old share items ≡ record its { sight = share.sight }) c.caller.view_is
            (keeps_nothing old share items
            (ap (λ (s : ShareValue). s.maker) left ∙ w.in-Err.ensures.none_made ∙ c.desk-desk.ensures.maker)
            (ap (λ v. v.items) w.receipts-is ∙ c.reserve-room.ensures.items)));
        longer = longer g c;
      }
    ]
