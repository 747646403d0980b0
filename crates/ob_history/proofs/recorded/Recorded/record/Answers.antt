use Rattle.std.specs.Prelude.{Result, Ok, Err, OnErr, IsErrOf}
use Rattle.ob_types.specs.declared.refusal.Refusal.{Refusal}
use Rattle.ob_types.specs.declared.refusal.Refusal.TheVariants.{NoMemory}
use Rattle.ob_types.specs.declared.reply.Reply.{Reply}
use Rattle.std.proofs.Common.{◌≡◌, true, false, [], ◌∷◌, ◌++◌, length, sym, ap, ◌∙◌, subst, arith, rules}
use Rattle.std.proofs.lemmas.Bool.{ne_eqb}
use Rattle.ob_seq.specs.Answer.{answer_to, commands_after, commands_with}
use Rattle.ob_seq.specs.Pending.{StandsFor}
use Rattle.ob_history.specs.History.{history_after, is_full, with_record, accepted_commands, IsLegal}
use Rattle.ob_history.specs.Inside.{history_of, settings_of}
use Rattle.ob_history.proofs.Calls.{after_with_place}
use Rattle.ob_history.proofs.Staying.{IsSound-more_room}
use Rattle.ob_history.proofs.Histories.{legal_with_next, accepted_with_next, same_record, same_history}
use Rattle.ob_history.specs.declared.record.Record.{Record}
use Rattle.ob_history.proofs.recorded.Recorded.record.Goals as goal

-- Named for the must-fail edits that fail here: `search` finds it unasked (CONTRIBUTING.md).
pub returns-in_err-reserve : goal.returns-in_err-reserve
returns-in_err-reserve c = search rules

pub returns-in_err-asked : goal.returns-in_err-asked
returns-in_err-asked c = search rules

pub invariant_of-self : goal.invariant_of-self
invariant_of-self c =
    let room = c.reserve.ensures in
    IsSound-more_room c.self.inside _ room.items room.len room.capacity c.self.invariant

pub invariant_of-self-in_err-asked : goal.invariant_of-self-in_err-asked
invariant_of-self-in_err-asked c =
    let room = c.reserve.ensures in
    IsSound-more_room c.self.inside _ room.items room.len room.capacity c.self.invariant

-- what is refused leaves the buffer as it was
kept : (result : Result Reply Refusal) {same : Type 0} → OnErr result same → IsErrOf result NoMemory → same
kept (Ok reply) refused wanted = absurd (cc)
kept (Err refusal) refused wanted = refused

pub invariant_of-self-then-wants_memory : goal.invariant_of-self-then-wants_memory
invariant_of-self-then-wants_memory c =
    let room = c.reserve.ensures in
    let wanted = c.wants_memory.ensures.0 c.if-wants_memory.true in
    rw (kept c.apply-reply.result c.apply-reply.ensures.obeys.refused wanted)
    (IsSound-more_room c.self.inside c.reserve.new.self room.items room.len room.capacity c.self.invariant)

-- the record that is pushed
abbrev asked_for : goal.After-self-1 → Record
asked_for c = record {
  place = c.len-place.result;
  caller = c.args.caller;
  command = c.in_ok-asked.asked;
  reply = c.apply-reply.result;
}

-- stands behind the others
pushed : (c : goal.After-self-1) → c.push_reserved.new.self.items ≡ c.self.inside.records.items ++ asked_for c ∷ []
pushed c =
    c.push_reserved.ensures.items ∙ ap (λ items. items ++ asked_for c ∷ []) c.reserve.ensures.items

-- at its place
placed : (c : goal.After-self-1) → c.len-place.result ≡ length c.self.inside.records.items
placed c = c.len-place.ensures ∙ c.reserve.ensures.len ∙ c.self.inside.records.ok.0

-- which is not NoMemory
told : (c : goal.After-self-1) → ¬ IsErrOf c.apply-reply.result NoMemory
told c wanted = absurd (let both : false ≡ true = sym c.if-wants_memory.false ∙ c.wants_memory.ensures.1 wanted in cc)

-- and has the answer to its command
answered : (c : goal.After-self-1) → c.apply-reply.result
    ≡ answer_to (settings_of c.self.inside) (accepted_commands c.self.inside.records.items) c.args.command
answered c =
    let before = accepted_commands c.self.inside.records.items in
    c.apply-reply.ensures.obeys.answer (told c) before c.self.invariant.stands
    ∙ ap (λ opened. answer_to opened before c.args.command) c.self.invariant.settings

pub invariant_of-self-2 : goal.invariant_of-self-2
invariant_of-self-2 c =
    let inside = c.self.inside in
    let settings = settings_of inside in
    let earlier = inside.records.items in
    let before = accepted_commands earlier in
    let asked = c.args.command in
    let same = c.in_ok-asked.ensures.same in
    let done = c.apply-reply.ensures.obeys in
    let stands = c.self.invariant.stands in
    let one = asked_for c in
    let room = c.reserve.ensures in
    let reply : one.reply ≡ answer_to settings before one.command =
    answered c ∙ ap (answer_to settings before) (sym same) in
    let legal = legal_with_next settings earlier one c.self.invariant.legal (placed c) reply in
    let accepted : commands_with before asked c.apply-reply.result ≡ accepted_commands c.push_reserved.new.self.items =
    ap (commands_with before asked) (done.answer (told c) before stands)
    ∙ ap (λ opened. commands_after opened before asked) c.self.invariant.settings
    ∙ ap (commands_after settings before) (sym same)
    ∙ sym (accepted_with_next settings earlier one reply)
    ∙ ap accepted_commands (sym (pushed c)) in
    let left = c.saturating_sub-self-inside.ensures in
    let behind = c.push_reserved.ensures in
    record {
      legal = subst (IsLegal settings) (sym (pushed c)) legal;
      stands = subst (StandsFor c.apply-reply.new.self) accepted (done.stands before stands);
      settings = done.settings ∙ c.self.invariant.settings;
      places = omega (arith, behind.len, room.len, left, c.if-len-self.false, c.len.ensures, c.self.invariant.places);
      memory = omega (
        arith,
        behind.len,
        behind.capacity,
        room.len,
        room.capacity,
        c.in_ok-reserve.ensures.ok,
        left,
        c.self.invariant.memory,
      );
      few_records = c.self.invariant.few_records;
      small_overhead = c.self.invariant.small_overhead;
      small_unknown = c.self.invariant.small_unknown;
    }

pub returns : goal.returns
returns c = record {
  full = search rules;
  no_memory = search rules;
  after = (λ wanted.
      let inside = c.self.inside in
      let free : is_full (history_of inside) ≡ false =
      ne_eqb _ _ (λ same. c.if-len-self.false (c.len.ensures ∙ inside.records.ok.0 ∙ same)) in
      same_history (settings_of inside) inside.limit (pushed c) c.saturating_sub-self-inside.ensures
      ∙ ap (with_record (history_of inside))
      (same_record c.args.caller (placed c) c.in_ok-asked.ensures.same (answered c))
      ∙ sym (after_with_place (history_of inside) c.args.caller c.args.command free)
      ∙ ap (λ history. history_after history c.args.caller c.args.command) c.self.view_is);
  frugal = search rules;
  refused = search rules;
}
