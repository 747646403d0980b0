-- A peer that takes nothing is named.
use Rattle.std.proofs.Common.{◌≡◌, ℕ, ◌+◌, ◌-◌, ◌<◌, ◌≤◌, Bool, true, false, List, [], ◌∷◌, ◌++◌, max, min, sym, refl, ap, ◌∙◌, subst, append_assoc, append-nil, arith}
use Rattle.std.specs.Prelude.{Option, Some, None, if◌then◌else◌, nat_le, filter_map, fold}
use Rattle.std.proofs.lemmas.Bool.Decides.{nat_tests}
use Rattle.std.proofs.lemmas.List.Elements.{filter_map-append}
use Rattle.std.proofs.lemmas.List.Sums.{fold-append, sum_by-cons}
use Rattle.ob_types.specs.Traits.{is_write}
use Rattle.ob_types.specs.declared.command.Command.{Command}
use Rattle.ob_seq.specs.State.{empty_after}
use Rattle.ob_lifecycle.specs.Events.{most_told, Event, Accepted, Refused, Finishing, Ticked, Opened, clock_after}
use Rattle.ob_lifecycle.specs.Events.{commands_in, time_of}
use Rattle.ob_lifecycle.specs.Strain.{opened_now, rested, taken_by, taken_in, taken_of, ticked, told_time, watch_after}
use Rattle.ob_lifecycle.specs.Strain.{watched, watched_from, KeepFlushed, TookNothing}
use Rattle.ob_lifecycle.specs.declared.limits.Limits.{Limits}
use Rattle.ob_lifecycle.specs.declared.watch.Watch.{Watch}
use Rattle.ob_lifecycle.proofs.Balance.{none_more}
use Rattle.ob_lifecycle.proofs.Steps.{by_events}
use Rattle.ob_lifecycle.proofs.Watching.{watch_more}

-- a window is open since this time at the latest, and the peer took too little in it
abbrev WaitsBy : ℕ → ℕ → Option ℕ → ℕ → Type 0
WaitsBy start least None taken = ⊥
WaitsBy start least (Some since) taken = (since ≤ start) × (taken < least)

abbrev Waits : ℕ → ℕ → Watch → Type 0
Waits start least watch = WaitsBy start least watch.since watch.taken

not_enough : (least taken : ℕ) → taken < least → nat_le least taken ≡ false
not_enough least taken few = grind (arith, nat_tests, few)

is_due : (window length : ℕ) → window ≤ length → nat_le window length ≡ true
is_due window length long = grind (arith, nat_tests, long)

by_due : (start least : ℕ) (watch : Watch) (due : Bool) → Waits start least watch
    → Waits start least (if due then record watch { named = true } else watch)
by_due start least watch true waits = waits
by_due start least watch false waits = waits

by_enough : (start least : ℕ) (watch : Watch) (enough due : Bool) → enough ≡ false → Waits start least watch
    → Waits start least (if enough then opened_now watch else (if due then record watch { named = true } else watch))
by_enough start least watch true due never waits = absurd (cc)
by_enough start least watch false due never waits = by_due start least watch due waits

ticked_waits : (limits : Limits) (start : ℕ) (since : Option ℕ) (watch : Watch) → watch.since ≡ since
    → WaitsBy start limits.least_bytes since watch.taken → Waits start limits.least_bytes (ticked limits since watch)
ticked_waits limits start None watch is waits = absurd waits
ticked_waits limits start (Some since) watch is waits =
    by_enough start limits.least_bytes watch (nat_le limits.least_bytes watch.taken) (nat_le limits.window (watch.now - since))
    (not_enough limits.least_bytes watch.taken waits.1)
    (subst (λ s. WaitsBy start limits.least_bytes s watch.taken) (sym is) waits)

-- each event by which the peer takes nothing leaves it so
fewer : (start least : ℕ) (since : Option ℕ) (taken other : ℕ) → other ≤ taken → WaitsBy start least since taken
    → WaitsBy start least since other
fewer start least None taken other less waits = waits
fewer start least (Some since) taken other less waits = (waits.0, omega (arith, less, waits.1))

by_command : (start least : ℕ) (command : Command) (empty write : Bool) (watch : Watch) → empty ≡ false
    → taken_of least command ≡ 0 → Waits start least watch
    → Waits start least (if write then watch else (if empty then rested watch
    else record watch { taken = min most_told (watch.taken + taken_of least command) }))
by_command start least command true write watch never none waits = absurd (cc)
by_command start least command false true watch never none waits = waits
by_command start least command false false watch never none waits =
    fewer start least watch.since watch.taken _ (omega (arith, none)) waits

waits_on : (opened : Opened) (start : ℕ) (earlier : List Event) (event : Event) (watch : Watch)
    → empty_after opened.settings (commands_in (earlier ++ event ∷ [])) ≡ false
    → taken_by opened.limits.least_bytes event ≡ 0 → Waits start opened.limits.least_bytes watch
    → Waits start opened.limits.least_bytes (watched opened earlier event watch)
waits_on opened start earlier (Accepted command) watch flushed none waits =
    by_command start opened.limits.least_bytes command _ (is_write command) watch flushed none waits
waits_on opened start earlier (Refused fault) watch flushed none waits = waits
waits_on opened start earlier Finishing watch flushed none waits = waits
waits_on opened start earlier (Ticked now) watch flushed none waits =
    let still : empty_after opened.settings (commands_in earlier) ≡ false =
    ap (λ commands. empty_after opened.settings commands) (sym (none_more earlier (Ticked now) refl)) ∙ flushed in
    let told = told_time now watch in
    subst (λ e. Waits start opened.limits.least_bytes (if e then rested told else ticked opened.limits told.since told)) (sym still)
    (ticked_waits opened.limits start told.since told refl waits)

waits_along : (opened : Opened) (start : ℕ) (earlier events : List Event) (watch : Watch) → KeepFlushed opened earlier events
    → taken_in opened.limits.least_bytes events ≡ 0 → Waits start opened.limits.least_bytes watch
    → Waits start opened.limits.least_bytes (watched_from opened earlier watch events)
waits_along opened start earlier [] watch flushed none waits = waits
waits_along opened start earlier (event ∷ events) watch flushed none waits =
    let both = sum_by-cons (taken_by opened.limits.least_bytes) event events in
    waits_along opened start (earlier ++ event ∷ []) events (watched opened earlier event watch) flushed.1
    (omega (arith, both, none)) (waits_on opened start earlier event watch flushed.0 (omega (arith, both, none)) waits)

-- a window never opens later than now
abbrev OpenedBy : Option ℕ → ℕ → Type 0
OpenedBy None now = Unit {0}
OpenedBy (Some since) now = since ≤ now

later : (since : Option ℕ) (now then_on : ℕ) → now ≤ then_on → OpenedBy since now → OpenedBy since then_on
later None now then_on less opened = tt
later (Some since) now then_on less opened = omega (arith, less, opened)

opened_due : (watch : Watch) (enough due : Bool) → OpenedBy watch.since watch.now
    → (let next = if enough then opened_now watch else (if due then record watch { named = true } else watch) in OpenedBy next.since next.now)
opened_due watch true due opened = omega arith
opened_due watch false true opened = opened
opened_due watch false false opened = opened

opened_ticked : (limits : Limits) (since : Option ℕ) (watch : Watch) → OpenedBy watch.since watch.now
    → OpenedBy (ticked limits since watch).since (ticked limits since watch).now
opened_ticked limits None watch opened = omega arith
opened_ticked limits (Some since) watch opened = opened_due watch _ _ opened

opened_command : (watch : Watch) (write empty : Bool) (taken : ℕ) → OpenedBy watch.since watch.now
    → (let next = if write then watch else (if empty then rested watch else record watch { taken = taken }) in OpenedBy next.since next.now)
opened_command watch true empty taken opened = opened
opened_command watch false true taken opened = tt
opened_command watch false false taken opened = opened

opened_empty : (limits : Limits) (empty : Bool) (watch : Watch) → OpenedBy watch.since watch.now
    → (let next = if empty then rested watch else ticked limits watch.since watch in OpenedBy next.since next.now)
opened_empty limits true watch opened = tt
opened_empty limits false watch opened = opened_ticked limits watch.since watch opened

opened_on : (opened : Opened) (earlier : List Event) (event : Event) (watch : Watch) → OpenedBy watch.since watch.now
    → OpenedBy (watched opened earlier event watch).since (watched opened earlier event watch).now
opened_on opened earlier (Accepted command) watch is = opened_command watch (is_write command) _ _ is
opened_on opened earlier (Refused fault) watch is = is
opened_on opened earlier Finishing watch is = is
opened_on opened earlier (Ticked now) watch is =
    opened_empty opened.limits _ (told_time now watch) (later watch.since watch.now (max watch.now now) (omega arith) is)

opened_within : (opened : Opened) (events : List Event) → OpenedBy (watch_after opened events).since (watch_after opened events).now
opened_within opened events =
    by_events (λ events. OpenedBy (watch_after opened events).since (watch_after opened events).now) tt
    (λ earlier event before. subst (λ w. OpenedBy w.since w.now) (sym (watch_more opened earlier event))
    (opened_on opened earlier event (watch_after opened earlier) before)) events

-- a window's clock is that of the events
pub clock_more : (opened : Opened) (events : List Event) (event : Event) → clock_after opened (events ++ event ∷ [])
    ≡ fold max (clock_after opened events) (filter_map time_of (event ∷ []))
clock_more opened events event =
    ap (fold max opened.now) (filter_map-append time_of events (event ∷ []))
    ∙ fold-append max opened.now (filter_map time_of events) (filter_map time_of (event ∷ []))

now_due : (watch : Watch) (enough due : Bool)
    → (if enough then opened_now watch else (if due then record watch { named = true } else watch)).now ≡ watch.now
now_due watch true due = refl
now_due watch false true = refl
now_due watch false false = refl

now_ticked : (limits : Limits) (since : Option ℕ) (watch : Watch) → (ticked limits since watch).now ≡ watch.now
now_ticked limits None watch = refl
now_ticked limits (Some since) watch = now_due watch _ _

now_command : (watch : Watch) (write empty : Bool) (taken : ℕ)
    → (if write then watch else (if empty then rested watch else record watch { taken = taken })).now ≡ watch.now
now_command watch true empty taken = refl
now_command watch false true taken = refl
now_command watch false false taken = refl

pub now_empty : (limits : Limits) (empty : Bool) (watch : Watch) → (if empty then rested watch else ticked limits watch.since watch).now ≡ watch.now
now_empty limits true watch = refl
now_empty limits false watch = now_ticked limits watch.since watch

now_on : (opened : Opened) (earlier : List Event) (event : Event) (watch : Watch)
    → (watched opened earlier event watch).now ≡ fold max watch.now (filter_map time_of (event ∷ []))
now_on opened earlier (Accepted command) watch = now_command watch (is_write command) _ _
now_on opened earlier (Refused fault) watch = refl
now_on opened earlier Finishing watch = refl
now_on opened earlier (Ticked now) watch = now_empty opened.limits _ (told_time now watch)

pub now_is : (opened : Opened) (events : List Event) → (watch_after opened events).now ≡ clock_after opened events
now_is opened events =
    by_events (λ events. (watch_after opened events).now ≡ clock_after opened events) refl
    (λ earlier event before. ap (λ w. w.now) (watch_more opened earlier event)
    ∙ now_on opened earlier event (watch_after opened earlier)
    ∙ ap (λ n. fold max n (filter_map time_of (event ∷ []))) before ∙ sym (clock_more opened earlier event)) events

-- a window waits from a tick on at which something is flushed
start_enough : (least : ℕ) (watch : Watch) (since : ℕ) (due : Bool) → 0 < least → watch.since ≡ Some since → since ≤ watch.now
    → (enough : Bool) → enough ≡ nat_le least watch.taken
    → Waits watch.now least (if enough then opened_now watch else (if due then record watch { named = true } else watch))
start_enough least watch since due wanted is within true enough = (omega arith, omega (arith, wanted))
start_enough least watch since due wanted is within false enough =
    by_due watch.now least watch due
    (subst (λ s. WaitsBy watch.now least s watch.taken) (sym is) (within, grind (arith, nat_tests, enough)))

start_ticked : (limits : Limits) (since : Option ℕ) (watch : Watch) → 0 < limits.least_bytes → watch.since ≡ since
    → OpenedBy since watch.now → Waits watch.now limits.least_bytes (ticked limits since watch)
start_ticked limits None watch wanted is within = (omega arith, omega (arith, wanted))
start_ticked limits (Some since) watch wanted is within =
    start_enough limits.least_bytes watch since _ wanted is within (nat_le limits.least_bytes watch.taken) refl

-- a window that waits is named once it is long enough
named_ticked : (limits : Limits) (start : ℕ) (since : Option ℕ) (watch : Watch) → WaitsBy start limits.least_bytes since watch.taken
    → start + limits.window ≤ watch.now → (ticked limits since watch).named ≡ true
named_ticked limits start None watch waits long = absurd waits
named_ticked limits start (Some since) watch waits long =
    ap (λ (e : Bool). (if e then opened_now watch else (if nat_le limits.window (watch.now - since) then record watch { named = true } else watch)).named)
    (not_enough limits.least_bytes watch.taken waits.1)
    ∙ ap (λ (d : Bool). (if d then record watch { named = true } else watch).named)
    (is_due limits.window (watch.now - since) (omega (arith, long, waits.0)))

pub flushed_at_last : (opened : Opened) (earlier events : List Event)
    → empty_after opened.settings (commands_in earlier) ≡ false → KeepFlushed opened earlier events
    → empty_after opened.settings (commands_in (earlier ++ events)) ≡ false
flushed_at_last opened earlier [] still flushed =
    ap (λ e. empty_after opened.settings (commands_in e)) (append-nil earlier) ∙ still
flushed_at_last opened earlier (event ∷ events) still flushed =
    ap (λ e. empty_after opened.settings (commands_in e)) (sym (append_assoc earlier (event ∷ []) events))
    ∙ flushed_at_last opened (earlier ++ event ∷ []) events flushed.0 flushed.1

watched_more : (opened : Opened) (earlier : List Event) (watch : Watch) (events more : List Event)
    → watched_from opened earlier watch (events ++ more) ≡ watched_from opened (earlier ++ events) (watched_from opened earlier watch events) more
watched_more opened earlier watch [] more = ap (λ e. watched_from opened e watch more) (sym (append-nil earlier))
watched_more opened earlier watch (event ∷ events) more =
    watched_more opened (earlier ++ event ∷ []) (watched opened earlier event watch) events more
    ∙ ap (λ e. watched_from opened e (watched_from opened (earlier ++ event ∷ []) (watched opened earlier event watch) events) more)
    (append_assoc earlier (event ∷ []) events)

pub named_at_last : (opened : Opened) (before between : List Event) (first last : ℕ) → TookNothing opened before first between last
    → (watch_after opened ((before ++ Ticked first ∷ between) ++ Ticked last ∷ [])).named ≡ true
named_at_last opened before between first last took =
    let least = opened.limits.least_bytes in
    let one = before ++ Ticked first ∷ [] in
    let all = before ++ Ticked first ∷ between in
    let told = told_time first (watch_after opened before) in
    let joined : one ++ between ≡ all = append_assoc before (Ticked first ∷ []) between in
    let still : empty_after opened.settings (commands_in before) ≡ false =
    ap (λ commands. empty_after opened.settings commands) (sym (none_more before (Ticked first) refl)) ∙ took.flushed.0 in
    let at_first : watch_after opened one ≡ ticked opened.limits told.since told =
    watch_more opened before (Ticked first)
    ∙ ap (λ e. if e then rested told else ticked opened.limits told.since told) still in
    let start : told.now ≡ clock_after opened one =
    ap (λ n. max n first) (now_is opened before) ∙ sym (clock_more opened before (Ticked first)) in
    let waits : Waits told.now least (watch_after opened one) =
    subst (Waits told.now least) (sym at_first)
    (start_ticked opened.limits told.since told took.wanted refl
    (later told.since (watch_after opened before).now told.now (omega arith) (opened_within opened before))) in
    let along : watched_from opened one (watch_after opened one) between ≡ watch_after opened all =
    sym (watched_more opened [] _ one between) ∙ ap (watch_after opened) joined in
    let waited : Waits told.now least (watch_after opened all) =
    subst (Waits told.now least) along
    (waits_along opened told.now one between (watch_after opened one) took.flushed.1 took.nothing waits) in
    let last_told = told_time last (watch_after opened all) in
    let open_still : empty_after opened.settings (commands_in all) ≡ false =
    ap (λ e. empty_after opened.settings (commands_in e)) (sym joined) ∙ flushed_at_last opened one between took.flushed.0 took.flushed.1 in
    let end : last_told.now ≡ clock_after opened (all ++ Ticked last ∷ []) =
    ap (λ n. max n last) (now_is opened all) ∙ sym (clock_more opened all (Ticked last)) in
    ap (λ w. w.named) (watch_more opened all (Ticked last))
    ∙ ap (λ e. (if e then rested last_told else ticked opened.limits last_told.since last_told).named) open_still
    ∙ named_ticked opened.limits told.now last_told.since last_told waited (omega (arith, took.apart, start, end))
