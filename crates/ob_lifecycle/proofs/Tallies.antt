-- What one more event makes of the numbers.
use Rattle.std.proofs.Common.{◌≡◌, ◌≤◌, true, false, List, [], ◌∷◌, ◌++◌, not, sym, refl, ap, ◌∙◌, reverse, max, cond, arith}
use Rattle.std.specs.Prelude.{Result, Ok, Err, is_ok}
use Rattle.std.specs.List.{list_any, take_while}
use Rattle.std.proofs.lemmas.List.{reverse-append}
use Rattle.std.proofs.lemmas.List.Sums.{fold-append, take_while-cons}
use Rattle.ob_types.specs.Traits.{traits_of, is_write}
use Rattle.ob_types.specs.declared.command.Command.{Command}
use Rattle.ob_types.specs.declared.promise.PromiseState.{PromiseState}
use Rattle.ob_types.specs.declared.refusal.Refusal.{Refusal}
use Rattle.ob_types.specs.declared.reply.Reply.{Reply}
use Rattle.ob_seq.specs.Effect.{greatest, rows_after}
use Rattle.ob_seq.specs.Rows.{Settings, total}
use Rattle.ob_connection.specs.Connected.{Connected, Gives as ConnectionGives}
use Rattle.ob_connection.specs.Obeying.{Obeys}
use Rattle.ob_types.specs.Replies.{is_cancelled, is_failed}
use Rattle.ob_lifecycle.specs.Events.{accepted_after, beyond, cancels_wait, ended_after, ended_by, ended_of, none}
use Rattle.ob_lifecycle.specs.Events.{peak_after, pending_after, plus, reached_by, tally_after, tally_by, together}
use Rattle.ob_lifecycle.specs.Events.{written_by, written_of, Counts, Fits, FitsSome, Event, Accepted, Refused}
use Rattle.ob_lifecycle.specs.Events.{Finishing, Ticked, Opened, along, commands_in}
use Rattle.ob_lifecycle.specs.Managed.{Managed, StandsFor, StandsForSome, opened_as}
use Rattle.ob_lifecycle.specs.declared.count.Count.{Count}
use Rattle.ob_lifecycle.specs.declared.tally.Tally.{Tally}
use Rattle.ob_lifecycle.proofs.Balance.{bytes_balanced, bytes_more, fewer_bytes_after, messages_balanced, messages_more, none_more}
use Rattle.ob_lifecycle.proofs.Steps.{along_more, by_events, commands_more}

-- counts and numbers are alike if all that is in them is
pub count_like : (one other : Count) → one.messages ≡ other.messages → one.bytes ≡ other.bytes → one ≡ other
count_like one other messages bytes =
    ap (λ m. record { messages = m; bytes = one.bytes }) messages ∙ ap (λ b. record { messages = other.messages; bytes = b }) bytes

pub tally_like : (one other : Tally) → one.accepted ≡ other.accepted → one.failed ≡ other.failed → one.cancelled ≡ other.cancelled
    → one.peak ≡ other.peak → one.cancels ≡ other.cancels → one ≡ other
tally_like one other accepted failed cancelled peak cancels =
    ap (λ a. record one { accepted = a }) accepted ∙ ap (λ a. record one { accepted = other.accepted; failed = a }) failed
    ∙ ap (λ a. record one { accepted = other.accepted; failed = other.failed; cancelled = a }) cancelled
    ∙ ap (λ a. record other { peak = a; cancels = one.cancels }) peak ∙ ap (λ a. record other { cancels = a }) cancels

pub plus_none : (count : Count) → plus count none ≡ count
plus_none count = count_like (plus count none) count (omega arith) (omega arith)

sum_more : (value : List Event → Event → Count) (events : List Event) (event : Event)
    → together (along value (events ++ event ∷ [])) ≡ plus (together (along value events)) (value events event)
sum_more value events event = count_like _ _ (messages_more value events event) (bytes_more value events event)

peak_more : (opened : Opened) (events : List Event) (event : Event)
    → peak_after opened (events ++ event ∷ []) ≡ max (peak_after opened events) (reached_by opened events event)
peak_more opened events event =
    ap greatest (along_more (reached_by opened) events event)
    ∙ fold-append max 0 (along (reached_by opened) events) (reached_by opened events event ∷ [])

-- what is pending is no more than the peak
pub peak_holds : (opened : Opened) (events : List Event)
    → (pending_after opened.settings (commands_in events)).bytes ≤ peak_after opened events
peak_holds opened events =
    by_events (λ events. (pending_after opened.settings (commands_in events)).bytes ≤ peak_after opened events) (omega arith)
    (λ earlier event before. omega (arith, peak_more opened earlier event)) events

-- the numbers after one more event
tally_step : (opened : Opened) (events : List Event) (event : Event) → tally_after opened (events ++ event ∷ []) ≡ record {
  accepted = plus (accepted_after opened events) (written_by opened events event);
  failed = plus (ended_after is_failed opened events) (ended_by is_failed opened events event);
  cancelled = plus (ended_after is_cancelled opened events) (ended_by is_cancelled opened events event);
  peak = max (peak_after opened events) (reached_by opened events event);
  cancels = cancels_wait (commands_in (events ++ event ∷ []));
}
tally_step opened events event =
    tally_like _ _ (sum_more (written_by opened) events event) (sum_more (ended_by is_failed opened) events event)
    (sum_more (ended_by is_cancelled opened) events event) (peak_more opened events event) refl

pub tally_accepted : (opened : Opened) (events : List Event) (command : Command)
    → tally_after opened (events ++ Accepted command ∷ []) ≡ tally_by opened.settings (commands_in events) command (tally_after opened events)
tally_accepted opened events command =
    tally_step opened events (Accepted command)
    ∙ ap (λ (commands : List Command). record {
      accepted = plus (accepted_after opened events) (written_of opened.settings command);
      failed = plus (ended_after is_failed opened events) (ended_of is_failed opened.settings (commands_in events) command);
      cancelled = plus (ended_after is_cancelled opened events) (ended_of is_cancelled opened.settings (commands_in events) command);
      peak = max (peak_after opened events) (total (rows_after opened.settings.estimate commands));
      cancels = cancels_wait commands;
    }) (commands_more events (Accepted command ∷ []))

tally_stays : (opened : Opened) (events : List Event) (event : Event) → commands_in (event ∷ []) ≡ []
    → written_by opened events event ≡ none → ended_by is_failed opened events event ≡ none
    → ended_by is_cancelled opened events event ≡ none → tally_after opened (events ++ event ∷ []) ≡ tally_after opened events
tally_stays opened events event no_command wrote failed cancelled =
    let same = none_more events event no_command in
    let reached : reached_by opened events event ≡ (pending_after opened.settings (commands_in events)).bytes =
    ap (λ commands. (pending_after opened.settings commands).bytes) same in
    tally_step opened events event ∙ tally_like _ _
    (ap (plus (accepted_after opened events)) wrote ∙ plus_none (accepted_after opened events))
    (ap (plus (ended_after is_failed opened events)) failed ∙ plus_none (ended_after is_failed opened events))
    (ap (plus (ended_after is_cancelled opened events)) cancelled ∙ plus_none (ended_after is_cancelled opened events))
    (omega (arith, reached, peak_holds opened events)) (ap cancels_wait same)

pub tally_refused : (opened : Opened) (events : List Event) (event : Event) → commands_in (event ∷ []) ≡ []
    → tally_after opened (events ++ event ∷ []) ≡ tally_after opened events
tally_refused opened events (Accepted command) none = absurd (cc)
tally_refused opened events (Refused fault) none = tally_stays opened events (Refused fault) refl refl refl refl
tally_refused opened events Finishing none = tally_stays opened events Finishing refl refl refl refl
tally_refused opened events (Ticked now) none = tally_stays opened events (Ticked now) refl refl refl refl

-- the numbers of a managed connection fit the commands of its events
pub fits_of : (managed : Managed) (events : List Event) → StandsFor managed events
    → Fits managed.connection.unsent.settings (commands_in events) managed.tally
fits_of managed events stands =
    let opened = opened_as managed in
    record {
      cancels = ap (λ t. t.cancels) stands.tally;
      peak = omega (arith, peak_holds opened events, ap (λ t. t.peak) stands.tally);
      messages = omega (
        arith,
        messages_balanced opened events,
        stands.messages,
        ap (λ t. t.accepted.messages) stands.tally,
        ap (λ t. t.failed.messages) stands.tally,
        ap (λ t. t.cancelled.messages) stands.tally,
      );
      bytes = omega (
        arith,
        bytes_balanced opened events,
        stands.bytes,
        ap (λ t. t.accepted.bytes) stands.tally,
        ap (λ t. t.failed.bytes) stands.tally,
        ap (λ t. t.cancelled.bytes) stands.tally,
      );
    }

pub fits_some : {managed : Managed} → StandsForSome managed → FitsSome managed.connection managed.tally
fits_some {managed = managed} some = (commands_in some.0, some.1.commands, fits_of managed some.0 some.1)

-- whether a cancellation waits for a flush, after one more command
pub cancels_step : (commands : List Command) (command : Command) → cancels_wait (commands ++ command ∷ [])
    ≡ list_any (λ command. (traits_of command).cancel) (cond (not (traits_of command).flush)
    (command ∷ take_while (λ command. not (traits_of command).flush) (reverse commands)) [])
cancels_step commands command =
    ap (λ commands. list_any (λ command. (traits_of command).cancel) commands)
    (ap (λ commands. take_while (λ command. not (traits_of command).flush) commands) (reverse-append commands (command ∷ []))
    ∙ take_while-cons (λ command. not (traits_of command).flush) command (reverse commands))

-- a command that writes nothing, ends nothing but as sent, and leaves cancellations as they are leaves the numbers
pub stays : (settings : Settings) (commands : List Command) (command : Command) (tally : Tally) → is_write command ≡ false
    → written_of settings command ≡ none → ended_of is_failed settings commands command ≡ none
    → ended_of is_cancelled settings commands command ≡ none
    → cancels_wait (commands ++ command ∷ []) ≡ cancels_wait commands → Fits settings commands tally
    → tally ≡ tally_by settings commands command tally
stays settings commands command tally other wrote failed cancelled cancels fits =
    tally_like tally (tally_by settings commands command tally)
    (sym (ap (plus tally.accepted) wrote ∙ plus_none tally.accepted)) (sym (ap (plus tally.failed) failed ∙ plus_none tally.failed))
    (sym (ap (plus tally.cancelled) cancelled ∙ plus_none tally.cancelled))
    (omega (arith, fits.peak, fewer_bytes_after settings commands command other)) (fits.cancels ∙ sym cancels)

pub quiet : {A E : Type 0} (old : Connected) (tally : Tally) (command : Command) (result : Result A E) → is_write command ≡ false
    → written_of old.unsent.settings command ≡ none
    → ((commands : List Command) → ended_of is_failed old.unsent.settings commands command ≡ none)
    → ((commands : List Command) → ended_of is_cancelled old.unsent.settings commands command ≡ none)
    → ((commands : List Command) → cancels_wait (commands ++ command ∷ []) ≡ cancels_wait commands)
    → Counts old tally command result tally
quiet old tally command (Ok value) other wrote failed cancelled cancels = λ commands stands fits.
    stays old.unsent.settings commands command tally other wrote (failed commands) (cancelled commands) (cancels commands) fits
quiet old tally command (Err refusal) other wrote failed cancelled cancels = refl

-- a command that fails what it lets go of
failing : (settings : Settings) (commands : List Command) (command : Command) (tally : Tally) (before after : Count)
    → is_write command ≡ false → written_of settings command ≡ none
    → ended_of is_failed settings commands command ≡ beyond (pending_after settings commands) (pending_after settings (commands ++ command ∷ []))
    → ended_of is_cancelled settings commands command ≡ none
    → cancels_wait (commands ++ command ∷ []) ≡ cancels_wait commands → Fits settings commands tally
    → before ≡ pending_after settings commands → after ≡ pending_after settings (commands ++ command ∷ [])
    → record tally { failed = plus tally.failed (beyond before after) } ≡ tally_by settings commands command tally
failing settings commands command tally before after other wrote failed cancelled cancels fits was now =
    tally_like _ (tally_by settings commands command tally)
    (sym (ap (plus tally.accepted) wrote ∙ plus_none tally.accepted))
    (ap (λ b. plus tally.failed (beyond b after)) was ∙ ap (λ a. plus tally.failed (beyond (pending_after settings commands) a)) now
    ∙ ap (plus tally.failed) (sym failed))
    (sym (ap (plus tally.cancelled) cancelled ∙ plus_none tally.cancelled))
    (omega (arith, fits.peak, fewer_bytes_after settings commands command other)) (fits.cancels ∙ sym cancels)

pub fails_counted : {A : Type 0} (old new : Connected) (command : Command) (tell : List PromiseState → A → Reply)
    (result : Result A Refusal) (tally after_it : Tally) (before after : Count) → Obeys old command tell result new
    → is_ok result ≡ true → is_write command ≡ false → written_of old.unsent.settings command ≡ none
    → ((commands : List Command) → ended_of is_failed old.unsent.settings commands command
    ≡ beyond (pending_after old.unsent.settings commands) (pending_after old.unsent.settings (commands ++ command ∷ [])))
    → ((commands : List Command) → ended_of is_cancelled old.unsent.settings commands command ≡ none)
    → ((commands : List Command) → cancels_wait (commands ++ command ∷ []) ≡ cancels_wait commands)
    → ConnectionGives old pending_after before → ConnectionGives new pending_after after
    → after_it ≡ record tally { failed = plus tally.failed (beyond before after) } → Counts old tally command result after_it
fails_counted old new command tell (Ok value) tally after_it before after obeys went other wrote failed cancelled cancels was now is =
    λ commands stands fits. is
    ∙ failing old.unsent.settings commands command tally before after other wrote (failed commands) (cancelled commands)
    (cancels commands) fits (was commands stands)
    (now _ (obeys.stands commands stands) ∙ ap (λ s. pending_after s (commands ++ command ∷ [])) obeys.settings)
fails_counted old new command tell (Err refusal) tally after_it before after obeys went other wrote failed cancelled cancels was now is =
    absurd (cc)
