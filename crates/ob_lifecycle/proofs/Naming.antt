-- A peer that is named took too little in a window.
use Rattle.std.proofs.Common.{◌≡◌, ℕ, ◌+◌, ◌-◌, ◌<◌, ◌≤◌, Bool, true, false, List, [], ◌∷◌, ◌++◌, ◌&&◌, not, max, min, length, sym, refl, ap, ◌∙◌, subst, append_assoc, append-nil, arith}
use Rattle.std.specs.Prelude.{Option, Some, None, if◌then◌else◌, nat_le, ◌==◌}
use Rattle.std.proofs.lemmas.Bool.Decides.{nat_tests}
use Rattle.std.proofs.lemmas.List.Elements.{filter-append}
use Rattle.std.proofs.lemmas.List.Sums.{sum_by_push}
use Rattle.ob_types.specs.declared.command.Command.{Command}
use Rattle.ob_types.specs.declared.command.Command.TheVariants.{Write}
use Rattle.ob_types.specs.declared.message.Message.{Message}
use Rattle.ob_seq.specs.Effect.{rows_after}
use Rattle.ob_seq.specs.Rows.{Settings, is_in_line, line, new_row}
use Rattle.ob_seq.specs.State.{empty_after}
use Rattle.ob_lifecycle.specs.Events.{most_told, Event, Accepted, Refused, Finishing, Ticked, Opened, clock_after}
use Rattle.ob_lifecycle.specs.Events.{commands_in}
use Rattle.ob_lifecycle.specs.Strain.{names_by, opened_now, rested, taken_by, taken_in, taken_of, ticked, told_time}
use Rattle.ob_lifecycle.specs.Strain.{watch_after, watched, KeepFlushed, TookLittle}
use Rattle.ob_lifecycle.specs.declared.limits.Limits.{Limits}
use Rattle.ob_lifecycle.specs.declared.watch.Watch.{Watch}
use Rattle.ob_lifecycle.proofs.Balance.{none_more, rows_more}
use Rattle.ob_lifecycle.proofs.Steps.{by_events, by_events_from, commands_more}
use Rattle.ob_lifecycle.proofs.Stalling.{clock_more, flushed_at_last, now_is}
use Rattle.ob_lifecycle.proofs.Watching.{watch_more}

-- a window that stands open: since a tick from which on something was flushed, with what the peer took
record Window (opened : Opened) (events : List Event) (since taken : ℕ) : Type 0 where
  before : List Event
  first : ℕ
  between : List Event
  parts : events ≡ before ++ Ticked first ∷ between
  opened_at : since ≡ clock_after opened (before ++ Ticked first ∷ [])
  flushed : KeepFlushed opened before (Ticked first ∷ between)
  took : taken ≡ min most_told (taken_in opened.limits.least_bytes between)

abbrev StandsOpen : Opened → List Event → Option ℕ → ℕ → Type 0
StandsOpen opened events None taken = Unit {0}
StandsOpen opened events (Some since) taken = Window opened events since taken

keep_more : (opened : Opened) (earlier events : List Event) (event : Event) → KeepFlushed opened earlier events
    → empty_after opened.settings (commands_in ((earlier ++ events) ++ event ∷ [])) ≡ false → KeepFlushed opened earlier (events ++ event ∷ [])
keep_more opened earlier [] event flushed last =
    (ap (λ e. empty_after opened.settings (commands_in (e ++ event ∷ []))) (sym (append-nil earlier)) ∙ last, tt)
keep_more opened earlier (first ∷ events) event flushed last = (
  flushed.0,
  keep_more opened (earlier ++ first ∷ []) events event flushed.1
      (ap (λ e. empty_after opened.settings (commands_in (e ++ event ∷ []))) (append_assoc earlier (first ∷ []) events) ∙ last),
)

-- something is flushed while it stands open
still_flushed : (opened : Opened) (events : List Event) (since taken : ℕ) → Window opened events since taken
    → empty_after opened.settings (commands_in events) ≡ false
still_flushed opened events since taken window =
    ap (λ e. empty_after opened.settings (commands_in e)) (window.parts ∙ sym (append_assoc window.before (Ticked window.first ∷ []) window.between))
    ∙ flushed_at_last opened (window.before ++ Ticked window.first ∷ []) window.between window.flushed.0 window.flushed.1

-- one more event that leaves something flushed
longer : (opened : Opened) (events : List Event) (event : Event) (since taken more : ℕ) → Window opened events since taken
    → empty_after opened.settings (commands_in (events ++ event ∷ [])) ≡ false
    → more ≡ min most_told (taken + taken_by opened.limits.least_bytes event) → Window opened (events ++ event ∷ []) since more
longer opened events event since taken more window flushed is =
    let sum = sum_by_push (taken_by opened.limits.least_bytes) window.between event in
    record {
      before = window.before;
      first = window.first;
      between = window.between ++ event ∷ [];
      parts = ap (λ e. e ++ event ∷ []) window.parts ∙ append_assoc window.before (Ticked window.first ∷ window.between) (event ∷ []);
      opened_at = window.opened_at;
      flushed = keep_more opened window.before (Ticked window.first ∷ window.between) event window.flushed
          (ap (λ e. empty_after opened.settings (commands_in (e ++ event ∷ []))) (sym window.parts) ∙ flushed);
      took = omega (arith, is, window.took, sum);
    }

longer_if : (opened : Opened) (events : List Event) (event : Event) (since : Option ℕ) (taken more : ℕ)
    → StandsOpen opened events since taken
    → (empty_after opened.settings (commands_in events) ≡ false → empty_after opened.settings (commands_in (events ++ event ∷ [])) ≡ false)
    → more ≡ min most_told (taken + taken_by opened.limits.least_bytes event) → StandsOpen opened (events ++ event ∷ []) since more
longer_if opened events event None taken more window flushed is = tt
longer_if opened events event (Some since) taken more window flushed is =
    longer opened events event since taken more window (flushed (still_flushed opened events since taken window)) is

-- what was taken fits
taken_fits : (opened : Opened) (events : List Event) (since : Option ℕ) (taken : ℕ) → StandsOpen opened events since taken
    → (since ≡ None → taken ≤ most_told) → taken ≤ most_told
taken_fits opened events None taken window fits = fits refl
taken_fits opened events (Some since) taken window fits = omega (arith, window.took)

-- a write flushes nothing, and takes nothing from the line
write_leaves : (settings : Settings) (commands : List Command) (message : Message)
    → empty_after settings (commands ++ Write message ∷ []) ≡ empty_after settings commands
write_leaves settings commands message =
    let rows = rows_after settings.estimate commands in
    ap (λ rows. length (line rows) == 0) (rows_more settings.estimate commands (Write message))
    ∙ ap (λ (l : List _). length l == 0) (filter-append is_in_line rows (new_row settings.estimate message ∷ []) ∙ append-nil (line rows))

-- a window, with what is taken never more than is told
record Sound (opened : Opened) (events : List Event) (watch : Watch) : Type 0 where
  stands : StandsOpen opened events watch.since watch.taken
  within : watch.taken ≤ most_told

sound_still : (opened : Opened) (events : List Event) (event : Event) (watch : Watch) → Sound opened events watch
    → (empty_after opened.settings (commands_in events) ≡ false → empty_after opened.settings (commands_in (events ++ event ∷ [])) ≡ false)
    → taken_by opened.limits.least_bytes event ≡ 0 → Sound opened (events ++ event ∷ []) watch
sound_still opened events event watch sound flushed none = record {
  stands = longer_if opened events event watch.since watch.taken watch.taken sound.stands flushed (omega (arith, sound.within, none));
  within = sound.within;
}

sound_command : (opened : Opened) (events : List Event) (command : Command) (watch : Watch) (empty : Bool) → Sound opened events watch
    → empty ≡ empty_after opened.settings (commands_in (events ++ Accepted command ∷ []))
    → Sound opened (events ++ Accepted command ∷ []) (if empty then rested watch
    else record watch { taken = min most_told (watch.taken + taken_of opened.limits.least_bytes command) })
sound_command opened events command watch true sound is = record { stands = tt; within = omega arith }
sound_command opened events command watch false sound is = record {
  stands = longer_if opened events (Accepted command) watch.since watch.taken _ sound.stands (λ was. sym is) refl;
  within = omega arith;
}

sound_accepted : (opened : Opened) (events : List Event) (command : Command) (watch : Watch) → Sound opened events watch
    → Sound opened (events ++ Accepted command ∷ []) (watched opened events (Accepted command) watch)
sound_accepted opened events (Write message) watch sound =
    sound_still opened events (Accepted (Write message)) watch sound
    (λ was. ap (λ commands. empty_after opened.settings commands) (commands_more events (Accepted (Write message) ∷ []))
    ∙ write_leaves opened.settings (commands_in events) message ∙ was) refl
sound_accepted opened events command watch sound = sound_command opened events command watch _ sound refl

-- a tick
fresh_window : (opened : Opened) (events : List Event) (now : ℕ) (watch : Watch)
    → (told_time now watch).now ≡ clock_after opened (events ++ Ticked now ∷ [])
    → empty_after opened.settings (commands_in (events ++ Ticked now ∷ [])) ≡ false
    → Sound opened (events ++ Ticked now ∷ []) (opened_now (told_time now watch))
fresh_window opened events now watch clock flushed = record {
  stands = record {
    before = events;
    first = now;
    between = [];
    parts = refl;
    opened_at = clock;
    flushed = (flushed, tt);
    took = omega arith;
  };
  within = omega arith;
}

sound_due : (opened : Opened) (events : List Event) (now : ℕ) (watch : Watch) (enough due : Bool) → Sound opened events watch
    → (told_time now watch).now ≡ clock_after opened (events ++ Ticked now ∷ [])
    → empty_after opened.settings (commands_in (events ++ Ticked now ∷ [])) ≡ false
    → Sound opened (events ++ Ticked now ∷ []) (if enough then opened_now (told_time now watch)
    else (if due then record (told_time now watch) { named = true } else told_time now watch))
sound_due opened events now watch true due sound clock flushed = fresh_window opened events now watch clock flushed
sound_due opened events now watch false true sound clock flushed = record {
  stands = longer_if opened events (Ticked now) watch.since watch.taken watch.taken sound.stands (λ was. flushed) (omega (arith, sound.within));
  within = sound.within;
}
sound_due opened events now watch false false sound clock flushed = record {
  stands = longer_if opened events (Ticked now) watch.since watch.taken watch.taken sound.stands (λ was. flushed) (omega (arith, sound.within));
  within = sound.within;
}

sound_ticked : (opened : Opened) (events : List Event) (now : ℕ) (watch : Watch) (since : Option ℕ) → Sound opened events watch
    → (told_time now watch).now ≡ clock_after opened (events ++ Ticked now ∷ [])
    → empty_after opened.settings (commands_in (events ++ Ticked now ∷ [])) ≡ false
    → Sound opened (events ++ Ticked now ∷ []) (ticked opened.limits since (told_time now watch))
sound_ticked opened events now watch None sound clock flushed = fresh_window opened events now watch clock flushed
sound_ticked opened events now watch (Some since) sound clock flushed = sound_due opened events now watch _ _ sound clock flushed

sound_tick : (opened : Opened) (events : List Event) (now : ℕ) (watch : Watch) (empty : Bool) → Sound opened events watch
    → (told_time now watch).now ≡ clock_after opened (events ++ Ticked now ∷ [])
    → empty ≡ empty_after opened.settings (commands_in (events ++ Ticked now ∷ []))
    → Sound opened (events ++ Ticked now ∷ []) (if empty then rested (told_time now watch)
    else ticked opened.limits (told_time now watch).since (told_time now watch))
sound_tick opened events now watch true sound clock is = record { stands = tt; within = omega arith }
sound_tick opened events now watch false sound clock is = sound_ticked opened events now watch watch.since sound clock (sym is)

sound_on : (opened : Opened) (events : List Event) (event : Event) (watch : Watch) → watch.now ≡ clock_after opened events
    → Sound opened events watch → Sound opened (events ++ event ∷ []) (watched opened events event watch)
sound_on opened events (Accepted command) watch clock sound = sound_accepted opened events command watch sound
sound_on opened events (Refused fault) watch clock sound =
    sound_still opened events (Refused fault) watch sound
    (λ was. ap (λ commands. empty_after opened.settings commands) (none_more events (Refused fault) refl) ∙ was) refl
sound_on opened events Finishing watch clock sound =
    sound_still opened events Finishing watch sound
    (λ was. ap (λ commands. empty_after opened.settings commands) (none_more events Finishing refl) ∙ was) refl
sound_on opened events (Ticked now) watch clock sound =
    sound_tick opened events now watch _ sound (ap (λ n. max n now) clock ∙ sym (clock_more opened events (Ticked now)))
    (ap (λ commands. empty_after opened.settings commands) (sym (none_more events (Ticked now) refl)))

sound_after : (opened : Opened) (events : List Event) → Sound opened events (watch_after opened events)
sound_after opened events =
    by_events (λ events. Sound opened events (watch_after opened events)) (record { stands = tt; within = omega arith })
    (λ earlier event before. subst (Sound opened (earlier ++ event ∷ [])) (sym (watch_more opened earlier event))
    (sound_on opened earlier event (watch_after opened earlier) (now_is opened earlier) before)) events

-- the clock never falls
risen : (opened : Opened) (events : List Event) (event : Event) (least : ℕ) → least ≤ clock_after opened events
    → least ≤ clock_after opened (events ++ event ∷ [])
risen opened events (Accepted command) least before = omega (arith, before, clock_more opened events (Accepted command))
risen opened events (Refused fault) least before = omega (arith, before, clock_more opened events (Refused fault))
risen opened events Finishing least before = omega (arith, before, clock_more opened events Finishing)
risen opened events (Ticked now) least before = omega (arith, before, clock_more opened events (Ticked now))

clock_rises : (opened : Opened) (earlier more : List Event) → clock_after opened earlier ≤ clock_after opened (earlier ++ more)
clock_rises opened earlier more =
    by_events_from (λ events. clock_after opened earlier ≤ clock_after opened events)
    (λ events event before. risen opened events event _ before) earlier more (omega arith)

began_before : (opened : Opened) (events : List Event) (since taken : ℕ) → Window opened events since taken → (now : ℕ)
    → since ≤ clock_after opened (events ++ Ticked now ∷ [])
began_before opened events since taken window now =
    let all : (window.before ++ Ticked window.first ∷ []) ++ (window.between ++ Ticked now ∷ []) ≡ events ++ Ticked now ∷ [] =
    append_assoc window.before (Ticked window.first ∷ []) (window.between ++ Ticked now ∷ [])
    ∙ sym (append_assoc window.before (Ticked window.first ∷ window.between) (Ticked now ∷ []))
    ∙ ap (λ e. e ++ Ticked now ∷ []) (sym window.parts) in
    let rises = clock_rises opened (window.before ++ Ticked window.first ∷ []) (window.between ++ Ticked now ∷ []) in
    omega (arith, window.opened_at, rises, ap (clock_after opened) all)

-- a tick that names finds a window that is long enough, in which too little was taken
record Due (limits : Limits) (watch : Watch) (since : Option ℕ) : Type 0 where
  start : ℕ
  opened : since ≡ Some start
  little : watch.taken < limits.least_bytes
  long : limits.window ≤ watch.now - start

due_by : (limits : Limits) (watch : Watch) (since : ℕ) (enough due : Bool) → enough ≡ nat_le limits.least_bytes watch.taken
    → due ≡ nat_le limits.window (watch.now - since) → watch.named ≡ false
    → (if enough then opened_now watch else (if due then record watch { named = true } else watch)).named ≡ true
    → Due limits watch (Some since)
due_by limits watch since true due is_enough is_due was named = absurd (cc)
due_by limits watch since false true is_enough is_due was named =
    record { start = since; opened = refl; little = grind (arith, nat_tests, is_enough); long = grind (arith, nat_tests, is_due) }
due_by limits watch since false false is_enough is_due was named = absurd (cc)

due_ticked : (limits : Limits) (watch : Watch) (since : Option ℕ) (empty : Bool) → watch.named ≡ false
    → (if empty then rested watch else ticked limits since watch).named ≡ true → Due limits watch since
due_ticked limits watch since true was named = absurd (cc)
due_ticked limits watch None false was named = absurd (cc)
due_ticked limits watch (Some since) false was named = due_by limits watch since _ _ refl refl was named

and_left : (a b : Bool) → (a && not b) ≡ true → a ≡ true
and_left true b is = refl
and_left false b is = absurd (cc)

and_right : (a b : Bool) → (a && not b) ≡ true → b ≡ false
and_right true true is = absurd (cc)
and_right true false is = refl
and_right false b is = absurd (cc)

pub took_little : (opened : Opened) (earlier : List Event) (now : ℕ) → opened.limits.least_bytes ≤ most_told
    → names_by now opened earlier ≡ true → TookLittle opened earlier now
took_little opened earlier now wanted names =
    let watch = watch_after opened earlier in
    let told = told_time now watch in
    let due : Due opened.limits told told.since =
    due_ticked opened.limits told told.since _ (and_right _ _ names)
    (ap (λ w. w.named) (sym (watch_more opened earlier (Ticked now))) ∙ and_left _ _ names) in
    let window : Window opened earlier due.start watch.taken =
    subst (λ s. StandsOpen opened earlier s watch.taken) due.opened (sound_after opened earlier).stands in
    let clock : told.now ≡ clock_after opened (earlier ++ Ticked now ∷ []) =
    ap (λ n. max n now) (now_is opened earlier) ∙ sym (clock_more opened earlier (Ticked now)) in
    record {
      before = window.before;
      first = window.first;
      between = window.between;
      parts = window.parts;
      flushed = window.flushed;
      little = omega (arith, window.took, due.little, wanted);
      apart = omega (arith, window.opened_at, due.long, clock, began_before opened earlier due.start watch.taken window now);
    }
