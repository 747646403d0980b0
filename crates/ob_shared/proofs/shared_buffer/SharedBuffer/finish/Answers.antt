use Rattle.std.proofs.Common.{◌≡◌, ◌≤◌, ℕ, List, ◌++◌, append-nil, drop, length, map, take, Some, None, refl, sym, ap, ◌∙◌, subst, arith}
use Rattle.std.specs.List.{All}
use Rattle.std.proofs.lemmas.List.{drop_all, take_all}
use Rattle.ob_history.specs.History.{IsBeginning, History, settlements_in}
use Rattle.ob_seq.specs.Pending.{times_settled}
use Rattle.ob_shared.specs.Calls.{StandsIn, first_short, IsForeign, after_meeting, Handed}
use Rattle.ob_shared.proofs.shared_buffer.SharedBuffer.finish.Goals as goal

-- a list that was written over as long as it was is what was written
written_whole : {X : Type 0} (new old : List X) (n : ℕ) → length new ≡ length old → length old ≡ n
    → take n (new ++ drop (length new) old) ≡ new
written_whole new old n same long =
    ap (λ rest. take n (new ++ rest)) (drop_all (length new) old (omega (arith, same)))
    ∙ ap (take n) (append-nil new) ∙ take_all n new (omega (arith, same, long))

pub returns-in-Some-clause-short : goal.returns-in-Some-clause-short
returns-in-Some-clause-short g c = rw (← c.args.self.callers.opened, ← c.deref.ensures.value) (λ complete caller.
    let short = c.in-Some.ensures.short complete caller in
    (λ is. short.0 (ap Some is), λ first. cc (short.1 first)))

pub returns-in-Some-clause-back : goal.returns-in-Some-clause-back
returns-in-Some-clause-back g c =
    let stored = c.into_inner-locked.result in
    record {
      history = stored;
      opened = c.is_as_opened.ensures;
      saw = subst (All (λ (one : Handed). IsBeginning one.sight.seen stored.records)) c.deref_mut.ensures.value
          c.meet_all.ensures.saw;
      met = written_whole c.meet_all.new.dones c.args.dones.items c.args.dones.len
          (omega (arith, c.meet_all.auto.dones, ap length c.deref_mut.ensures.value)) (sym c.args.dones.ok.0)
          ∙ c.meet_all.ensures.met ∙ ap (map (after_meeting stored.records)) c.deref_mut.ensures.value;
      foreign = λ caller place is.
          subst (λ (handed : List Handed). IsForeign stored.settings stored.records handed caller place)
          c.deref.ensures.value (c.in-Some.ensures.foreign caller place (ap Some is));
    }

pub into_recorded-requires-clause-as_many : goal.into_recorded-requires-clause-as_many
into_recorded-requires-clause-as_many g c = subst
    (λ (handed : List Handed). first_short handed ≡ None) c.deref.ensures.value (c.in-None.ensures.as_many refl)

pub into_recorded-requires-clause-stands : goal.into_recorded-requires-clause-stands
into_recorded-requires-clause-stands g c =
    let stored = c.into_inner-locked.result in
    subst (All (StandsIn stored.settings stored.records)) c.deref.ensures.value (c.in-None.ensures.stands refl)

pub returns-clause-short : goal.returns-clause-short
returns-clause-short g c = λ complete caller.
    let none_short = subst (λ (handed : List Handed). first_short handed ≡ None) c.deref.ensures.value
    (c.in-None.ensures.as_many refl) in
    (λ never. absurd never, λ first. absurd (cc (none_short, first)))

pub returns-clause-stands : goal.returns-clause-stands
returns-clause-stands g c =
    let stored = c.into_inner-locked.result in
    subst (λ (history : History). All (StandsIn history.settings history.records) c.args.dones.items)
    (sym c.into_recorded.ensures.recorded)
    (subst (All (StandsIn stored.settings stored.records)) c.deref.ensures.value (c.in-None.ensures.stands refl))

pub returns-clause-once : goal.returns-clause-once
returns-clause-once g c = λ id.
    let stored = c.into_inner-locked.result in
    subst (λ (history : History). times_settled id (settlements_in history.records) ≤ 1)
    (sym c.into_recorded.ensures.recorded)
    (c.a_history_settles_each_promise_once.ensures.once stored.settings stored.records id c.is_as_opened.ensures.legal)

-- `search` finds these three by itself, but needs seconds to give each up if a must-fail edit makes it false.
pub returns-clause-opened : goal.returns-clause-opened
returns-clause-opened g c = rw c.into_recorded.ensures.recorded c.is_as_opened.ensures

pub returns-clause-counted : goal.returns-clause-counted
returns-clause-counted g c = c.into_recorded.ensures.counted

pub returns-clause-own : goal.returns-clause-own
returns-clause-own g c = c.into_recorded.ensures.own
