-- What one more event makes of how often and for how long writers were stopped, and of the refusals.
use Rattle.std.proofs.Common.{◌≡◌, ◌≤◌, ◌+◌, ◌-◌, ℕ, Bool, true, false, List, [], ◌∷◌, ◌++◌, ◌&&◌, not, sym, refl, ap, ◌∙◌, arith, append_assoc, append-nil, cond}
use Rattle.std.specs.Prelude.{Option, Some, None, Result, Ok, Err, if◌then◌else◌, filter_map, count_by, sum_by, fold, max}
use Rattle.std.proofs.lemmas.List.Elements.{filter_map-append}
use Rattle.std.proofs.lemmas.List.Sums.{sum_by_push}
use Rattle.ob_types.specs.Marks.{turn}
use Rattle.ob_types.specs.declared.command.Command.{Command}
use Rattle.ob_types.specs.declared.command.Command.TheVariants.{FailFlushed, Close}
use Rattle.ob_types.specs.declared.promise.Cause.{Cause}
use Rattle.ob_types.specs.declared.promise.PromiseState.{PromiseState}
use Rattle.ob_types.specs.declared.refusal.Refusal.{Refusal}
use Rattle.ob_types.specs.declared.refusal.Refusal.TheVariants.{NoMemory, Oversize, TooMuch, Closed, NothingFlushed, TooFar, TooManyBytes}
use Rattle.ob_types.specs.declared.refusal.Refusal.TheVariants.{BadIndex, FlushedLeft, UnknownPromise}
use Rattle.ob_types.specs.declared.reply.Change.{Change}
use Rattle.ob_types.specs.declared.reply.Reply.{Reply}
use Rattle.ob_seq.specs.Answer.{reply_of, unless_refused}
use Rattle.ob_seq.specs.State.{writable_after}
use Rattle.ob_connection.specs.Connected.{Connected, StandsFor as ConnectionStandsFor, Gives as ConnectionGives}
use Rattle.ob_connection.specs.Obeying.{GivesUp, Obeys, promises_after, taken_reply}
use Rattle.ob_connection.specs.declared.replies.Taken.{Taken}
use Rattle.ob_lifecycle.specs.Events.{Event, Accepted, Refused, Finishing, Ticked, Opened, along, clock_after, commands_in, time_of}
use Rattle.ob_lifecycle.specs.Managed.{Managed, StandsFor, opened_as}
use Rattle.ob_lifecycle.specs.Strain.{as_told, fault_of, is_for, is_for_the_cap, is_for_the_end, is_stop, may_go_on, more_if, refusals_after}
use Rattle.ob_lifecycle.specs.Strain.{refused_more, stopped_after, stopped_by, stops_after, stops_by, strain_after, strained, times}
use Rattle.ob_lifecycle.specs.declared.fault.WriteFault.{WriteFault}
use Rattle.ob_lifecycle.specs.declared.strain.Strain.{Strain}
use Rattle.ob_lifecycle.proofs.Balance.{none_more}
use Rattle.ob_lifecycle.proofs.Stalling.{clock_more, now_is}
use Rattle.ob_lifecycle.proofs.Steps.{along_more, by_events, commands_more}

-- a count as it is told, and one more
told_step : (n : ℕ) (b : Bool) → as_told (n + cond b 1 0) ≡ more_if b (as_told n)
told_step n true = omega arith
told_step n false = omega arith

count_more : {X : Type 0} (p : X → Bool) (xs : List X) (x : X) → count_by p (xs ++ x ∷ []) ≡ count_by p xs + cond (p x) 1 0
count_more p xs x = sum_by_push (λ x. cond (p x) 1 0) xs x

stops_more : (opened : Opened) (events : List Event) (event : Event)
    → stops_after opened (events ++ event ∷ []) ≡ more_if (stops_by opened events event) (stops_after opened events)
stops_more opened events event =
    ap (λ moments. as_told (count_by (λ stops. stops) moments)) (along_more (stops_by opened) events event)
    ∙ ap as_told (count_more (λ stops. stops) (along (stops_by opened) events) (stops_by opened events event))
    ∙ told_step (count_by (λ stops. stops) (along (stops_by opened) events)) (stops_by opened events event)

stopped_more : (opened : Opened) (events : List Event) (event : Event)
    → stopped_after opened (events ++ event ∷ []) ≡ stopped_after opened events + stopped_by opened events event
stopped_more opened events event =
    ap (λ times. sum_by (λ time. time) times) (along_more (stopped_by opened) events event)
    ∙ sum_by_push (λ time. time) (along (stopped_by opened) events) (stopped_by opened events event)

times_more : (such : WriteFault → Bool) (events : List Event) (fault : WriteFault)
    → times such (events ++ Refused fault ∷ []) ≡ more_if (such fault) (times such events)
times_more such events fault =
    ap (λ faults. as_told (count_by such faults)) (filter_map-append fault_of events (Refused fault ∷ []))
    ∙ ap as_told (count_more such (filter_map fault_of events) fault)
    ∙ told_step (count_by such (filter_map fault_of events)) (such fault)

refusals_more : (events : List Event) (fault : WriteFault)
    → refusals_after (events ++ Refused fault ∷ []) ≡ refused_more fault (refusals_after events)
refusals_more events fault =
    rw (times_more (is_for Closed) events fault) (rw (times_more is_for_the_end events fault)
    (rw (times_more (is_for Oversize) events fault) (rw (times_more is_for_the_cap events fault)
    (rw (times_more (is_for TooMuch) events fault) (rw (times_more (is_for NoMemory) events fault)
    (rw (times_more (is_for NothingFlushed) events fault) (rw (times_more (is_for TooFar) events fault)
    (rw (times_more (is_for TooManyBytes) events fault) (rw (times_more (is_for BadIndex) events fault)
    (rw (times_more (is_for FlushedLeft) events fault) (rw (times_more (is_for UnknownPromise) events fault) refl)))))))))))

times_kept : (such : WriteFault → Bool) (events : List Event) (event : Event) → filter_map fault_of (event ∷ []) ≡ []
    → times such (events ++ event ∷ []) ≡ times such events
times_kept such events event none =
    ap (λ faults. as_told (count_by such faults)) (filter_map-append fault_of events (event ∷ [])
    ∙ ap (λ more. filter_map fault_of events ++ more) none ∙ append-nil (filter_map fault_of events))

refusals_kept : (events : List Event) (event : Event) → filter_map fault_of (event ∷ []) ≡ []
    → refusals_after (events ++ event ∷ []) ≡ refusals_after events
refusals_kept events event none =
    rw (times_kept (is_for Closed) events event none) (rw (times_kept is_for_the_end events event none)
    (rw (times_kept (is_for Oversize) events event none) (rw (times_kept is_for_the_cap events event none)
    (rw (times_kept (is_for TooMuch) events event none) (rw (times_kept (is_for NoMemory) events event none)
    (rw (times_kept (is_for NothingFlushed) events event none) (rw (times_kept (is_for TooFar) events event none)
    (rw (times_kept (is_for TooManyBytes) events event none) (rw (times_kept (is_for BadIndex) events event none)
    (rw (times_kept (is_for FlushedLeft) events event none) (rw (times_kept (is_for UnknownPromise) events event none) refl)))))))))))

strain_like : (one other : Strain) → one.stops ≡ other.stops → one.stopped ≡ other.stopped → one.refusals ≡ other.refusals
    → one ≡ other
strain_like one other stops stopped refusals =
    ap (λ s. record one { stops = s }) stops ∙ ap (λ s. record one { stops = other.stops; stopped = s }) stopped
    ∙ ap (λ r. record other { refusals = r }) refusals

-- what is no command stops nobody, and what is no tick lets no time pass
never_both : (b : Bool) → (b && not b) ≡ false
never_both true = refl
never_both false = refl

no_stop : (opened : Opened) (events : List Event) (event : Event) → commands_in (event ∷ []) ≡ []
    → stops_by opened events event ≡ false
no_stop opened events event none =
    ap (λ commands. may_go_on opened events && not (writable_after opened.settings commands)) (none_more events event none)
    ∙ never_both (may_go_on opened events)

no_time_by : (writable : Bool) (clock : ℕ) → (if writable then 0 else clock - clock) ≡ 0
no_time_by true clock = refl
no_time_by false clock = omega arith

no_time : (opened : Opened) (events : List Event) (event : Event) → filter_map time_of (event ∷ []) ≡ []
    → stopped_by opened events event ≡ 0
no_time opened events event none =
    ap (λ clock. if may_go_on opened events then 0 else clock - clock_after opened events)
    (clock_more opened events event ∙ ap (fold max (clock_after opened events)) none)
    ∙ no_time_by (may_go_on opened events) (clock_after opened events)

-- after a refusal, an accepted command, the asking for the end, and a tick
strain_refused : (opened : Opened) (events : List Event) (fault : WriteFault)
    → strain_after opened (events ++ Refused fault ∷ []) ≡ strained (Err fault) (strain_after opened events)
strain_refused opened events fault =
    strain_like _ (strained (Err fault) (strain_after opened events))
    (stops_more opened events (Refused fault)
    ∙ ap (λ b. more_if b (stops_after opened events)) (no_stop opened events (Refused fault) refl))
    (omega (arith, stopped_more opened events (Refused fault), no_time opened events (Refused fault) refl))
    (refusals_more events fault)

strain_told : (opened : Opened) (events : List Event) (command : Command) (change : Option Change)
    → is_stop change ≡ stops_by opened events (Accepted command)
    → strain_after opened (events ++ Accepted command ∷ []) ≡ strained (Ok change) (strain_after opened events)
strain_told opened events command change is =
    strain_like _ (strained (Ok change) (strain_after opened events))
    (stops_more opened events (Accepted command) ∙ ap (λ b. more_if b (stops_after opened events)) (sym is))
    (omega (arith, stopped_more opened events (Accepted command), no_time opened events (Accepted command) refl))
    (refusals_kept events (Accepted command) refl)

pub strain_asked : (opened : Opened) (events : List Event)
    → strain_after opened (events ++ Finishing ∷ []) ≡ strain_after opened events
strain_asked opened events =
    strain_like _ (strain_after opened events)
    (stops_more opened events Finishing ∙ ap (λ b. more_if b (stops_after opened events)) (no_stop opened events Finishing refl))
    (omega (arith, stopped_more opened events Finishing, no_time opened events Finishing refl))
    (refusals_kept events Finishing refl)

pub strain_ticked : (opened : Opened) (events : List Event) (now : ℕ)
    → strain_after opened (events ++ Ticked now ∷ []) ≡ record (strain_after opened events) {
      stopped = stopped_after opened events + stopped_by opened events (Ticked now);
    }
strain_ticked opened events now =
    strain_like _ (record (strain_after opened events) { stopped = stopped_after opened events + stopped_by opened events (Ticked now) })
    (stops_more opened events (Ticked now) ∙ ap (λ b. more_if b (stops_after opened events)) (no_stop opened events (Ticked now) refl))
    (stopped_more opened events (Ticked now)) (refusals_kept events (Ticked now) refl)

-- writers were not stopped for longer than the clock ran
clock_rises : (opened : Opened) (events : List Event) (event : Event)
    → clock_after opened events ≤ clock_after opened (events ++ event ∷ [])
clock_rises opened events (Accepted command) = omega (arith, clock_more opened events (Accepted command))
clock_rises opened events (Refused fault) = omega (arith, clock_more opened events (Refused fault))
clock_rises opened events Finishing = omega (arith, clock_more opened events Finishing)
clock_rises opened events (Ticked now) = omega (arith, clock_more opened events (Ticked now))

within_by : (writable : Bool) (stopped first last least : ℕ) → stopped + least ≤ first → first ≤ last
    → (stopped + (if writable then 0 else last - first)) + least ≤ last
within_by true stopped first last least within rises = omega (arith, within, rises)
within_by false stopped first last least within rises = omega (arith, within, rises)

pub stopped_within : (opened : Opened) (events : List Event) → stopped_after opened events + opened.now ≤ clock_after opened events
stopped_within opened events =
    by_events (λ events. stopped_after opened events + opened.now ≤ clock_after opened events) (omega arith)
    (λ earlier event before. omega (
      arith,
      stopped_more opened earlier event,
      within_by (may_go_on opened earlier) (stopped_after opened earlier) (clock_after opened earlier)
          (clock_after opened (earlier ++ event ∷ [])) opened.now before (clock_rises opened earlier event),
    )) events

-- the change that a reply reports says whether writers are stopped
said_by : (refusal : Option Refusal) (told reply : Reply) → Ok told ≡ unless_refused refusal reply → told ≡ reply
said_by None told reply is = cc
said_by (Some refusal) told reply is = absurd (cc)

is_stop_turn : (before after : Bool) → is_stop (turn before after) ≡ (before && not after)
is_stop_turn true true = refl
is_stop_turn true false = refl
is_stop_turn false true = refl
is_stop_turn false false = refl

abbrev as_ok : {A : Type 0} → A → Result A Refusal
as_ok value = Ok value

never_memory : {A : Type 0} (value : A) → ¬ (as_ok value ≡ Err NoMemory)
never_memory value is = cc

stop_told : {A : Type 0} (old new : Connected) (command : Command) (tell : List PromiseState → A → Reply) (value : A) (change : Option Change)
    → ((promises : List PromiseState) → (tell promises value).change ≡ change) → Obeys old command tell (as_ok value) new
    → (commands : List Command) → ConnectionStandsFor old commands
    → is_stop change
    ≡ (writable_after old.unsent.settings commands && not (writable_after old.unsent.settings (commands ++ command ∷ [])))
stop_told old new command tell value change said obeys commands stands =
    let settings = old.unsent.settings in
    let reply : tell (promises_after settings commands) value ≡ reply_of settings commands command =
    said_by _ _ _ ((obeys.answer (never_memory value)).says commands stands) in
    ap is_stop (sym (said (promises_after settings commands)) ∙ ap (λ r. r.change) reply) ∙ is_stop_turn _ _

pub strains_accepted : {A : Type 0} (old : Managed) (connection : Connected) (command : Command) (tell : List PromiseState → A → Reply)
    (value : A) (change : Option Change) (strain : Strain)
    → ((promises : List PromiseState) → (tell promises value).change ≡ change)
    → Obeys old.connection command tell (as_ok value) connection → strain ≡ strained (Ok change) old.strain
    → (events : List Event) → StandsFor old events → strain ≡ strain_after (opened_as old) (events ++ Accepted command ∷ [])
strains_accepted old connection command tell value change strain said obeys is events stands =
    let settings = old.connection.unsent.settings in
    is ∙ ap (strained (Ok change)) stands.strain
    ∙ sym (strain_told (opened_as old) events command change
    (stop_told old.connection connection command tell value change said obeys (commands_in events) stands.commands
    ∙ ap (λ commands. writable_after settings (commands_in events) && not (writable_after settings commands))
    (sym (commands_more events (Accepted command ∷ [])))))

pub strains_refused : (old : Managed) (fault : WriteFault) (strain : Strain) → strain ≡ strained (Err fault) old.strain
    → (events : List Event) → StandsFor old events → strain ≡ strain_after (opened_as old) (events ++ Refused fault ∷ [])
strains_refused old fault strain is events stands =
    is ∙ ap (strained (Err fault)) stands.strain ∙ sym (strain_refused (opened_as old) events fault)

-- a giving up stops nobody
quiet_strain : (change : Option Change) (strain : Strain) → change ≡ None → strained (Ok change) strain ≡ strain
quiet_strain None strain is = refl
quiet_strain (Some change) strain is = absurd (cc)

pub strains_up : (old : Managed) (connection : Connected) (cause : Cause) (taken : Taken) (strain : Strain)
    → GivesUp old.connection cause taken connection → strain ≡ strained (Ok taken.change) old.strain
    → (events : List Event) → StandsFor old events
    → strain ≡ strain_after (opened_as old) (events ++ Accepted (FailFlushed cause false) ∷ Accepted (Close cause) ∷ [])
strains_up old connection cause taken strain gives is events stands =
    let opened = opened_as old in
    let fails = FailFlushed cause false in
    let one = events ++ Accepted fails ∷ [] in
    let settings = old.connection.unsent.settings in
    let more : commands_in one ≡ commands_in events ++ fails ∷ [] = commands_more events (Accepted fails ∷ []) in
    let first : strain_after opened one ≡ strain_after opened events =
    strain_told opened events fails gives.failed.change
    (stop_told old.connection gives.between fails taken_reply gives.failed gives.failed.change (λ promises. refl) gives.fails (commands_in events) stands.commands
    ∙ ap (λ commands. writable_after settings (commands_in events) && not (writable_after settings commands)) (sym more))
    ∙ quiet_strain gives.failed.change (strain_after opened events) gives.failed_quiet in
    let second : strain_after opened (one ++ Accepted (Close cause) ∷ []) ≡ strain_after opened one =
    strain_told opened one (Close cause) gives.closed.change
    (stop_told gives.between connection (Close cause) taken_reply gives.closed gives.closed.change (λ promises. refl) gives.closes
    (commands_in events ++ fails ∷ []) (gives.fails.stands (commands_in events) stands.commands)
    ∙ ap (λ s. writable_after s (commands_in events ++ fails ∷ []) && not (writable_after s ((commands_in events ++ fails ∷ []) ++ Close cause ∷ []))) gives.fails.settings
    ∙ ap (λ c. writable_after settings c && not (writable_after settings (c ++ Close cause ∷ []))) (sym more)
    ∙ ap (λ c. writable_after settings (commands_in one) && not (writable_after settings c)) (sym (commands_more one (Accepted (Close cause) ∷ []))))
    ∙ quiet_strain gives.closed.change (strain_after opened one) gives.closed_quiet in
    is ∙ quiet_strain taken.change old.strain (ap (λ t. t.change) gives.all) ∙ stands.strain ∙ sym first ∙ sym second
    ∙ ap (strain_after opened) (append_assoc events (Accepted fails ∷ []) (Accepted (Close cause) ∷ []))

-- the time that a tick lets pass fits, and is what it adds
pub passes : (old : Managed) (now after : ℕ) (events : List Event) → StandsFor old events
    → after ≡ max old.ending.watch.now now → after ≡ clock_after (opened_as old) (events ++ Ticked now ∷ [])
passes old now after events stands is =
    is ∙ ap (λ clock. max clock now) (ap (λ w. w.now) stands.watch ∙ now_is (opened_as old) events)
    ∙ sym (clock_more (opened_as old) events (Ticked now))

pub pass_fits : (old : Managed) (now after : ℕ) (events : List Event) → StandsFor old events → after ≡ max old.ending.watch.now now
    → old.strain.stopped + (after - old.ending.watch.now) ≤ after
pass_fits old now after events stands is =
    let clock : old.ending.watch.now ≡ clock_after (opened_as old) events =
    ap (λ w. w.now) stands.watch ∙ now_is (opened_as old) events in
    omega (arith, is, clock, stopped_within (opened_as old) events, ap (λ s. s.stopped) stands.strain)

pub strains_ticked : (old : Managed) (now after : ℕ) (writable : Bool) (strain : Strain)
    → ConnectionGives old.connection writable_after writable → after ≡ max old.ending.watch.now now
    → strain ≡ record old.strain { stopped = old.strain.stopped + (if writable then 0 else after - old.ending.watch.now) }
    → (events : List Event) → StandsFor old events → strain ≡ strain_after (opened_as old) (events ++ Ticked now ∷ [])
strains_ticked old now after writable strain goes time is events stands =
    let opened = opened_as old in
    let clock : old.ending.watch.now ≡ clock_after opened events = ap (λ w. w.now) stands.watch ∙ now_is opened events in
    is ∙ ap (λ (s : Strain). record s { stopped = s.stopped + (if writable then 0 else after - old.ending.watch.now) }) stands.strain
    ∙ ap (λ w. record (strain_after opened events) { stopped = stopped_after opened events + (if w then 0 else after - old.ending.watch.now) })
    (goes (commands_in events) stands.commands)
    ∙ ap (λ n. record (strain_after opened events) { stopped = stopped_after opened events + (if may_go_on opened events then 0 else after - n) }) clock
    ∙ ap (λ n. record (strain_after opened events) { stopped = stopped_after opened events + (if may_go_on opened events then 0 else n - clock_after opened events) })
    (passes old now after events stands time)
    ∙ sym (strain_ticked opened events now)
