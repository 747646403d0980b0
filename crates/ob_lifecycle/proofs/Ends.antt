-- What the calls bring that are more than one command, or none.
use Rattle.std.proofs.Common.{◌≡◌, ◌≤◌, ◌+◌, ◌-◌, max, ℕ, Bool, true, false, List, [], ◌∷◌, ◌++◌, ◌||◌, ◌&&◌, map, length, not, sym, refl, ap, ◌∙◌, subst, append_assoc, append-nil, arith}
use Rattle.std.specs.Prelude.{Result, Ok, Err, IfOk, OnErr, Option, ◌==◌, is_err}
use Rattle.std.proofs.lemmas.List.Sums.{fold-append}
use Rattle.ob_types.specs.declared.command.Command.{Command}
use Rattle.ob_types.specs.declared.command.Command.TheVariants.{RemoveBytes, FailFlushed, Close}
use Rattle.ob_types.specs.declared.promise.Cause.{Cause}
use Rattle.ob_types.specs.declared.refusal.Refusal.{Refusal}
use Rattle.ob_seq.specs.Effect.{closed_row, effect, rows_after}
use Rattle.ob_seq.specs.Rows.{Row, Settings, line, unflushed}
use Rattle.ob_connection.specs.Calls.{Call}
use Rattle.ob_connection.specs.Connected.{Connected, Shrinks, StandsFor as ConnectionStandsFor, Gives as ConnectionGives}
use Rattle.ob_connection.specs.Connected.{waiting_count_after}
use Rattle.ob_connection.specs.Obeying.{GivesUp, as_result, taken_reply}
use Rattle.ob_connection.specs.Sending.{Sends, SendsInTurns}
use Rattle.ob_connection.specs.declared.connection.sending.SendFault.{SendFault}
use Rattle.ob_connection.specs.declared.connection.sending.Sent.{Sent}
use Rattle.ob_connection.specs.declared.replies.SentTurns.{SentTurns}
use Rattle.ob_connection.specs.declared.replies.Taken.{Taken}
use Rattle.ob_lifecycle.specs.Events.{Event, Accepted, Refused, Finishing, Ticked, Opened, commands_in, is_finishing}
use Rattle.ob_lifecycle.specs.Events.{is_over, was_over, sending_happens, giving_up_happens, tally_after, tally_by}
use Rattle.ob_lifecycle.specs.Events.{Counts, CountsGivingUp}
use Rattle.ob_lifecycle.specs.Managed.{Managed, StandsFor, StandsForSome, Brings, Gives, opened_as}
use Rattle.std.specs.Prelude.{is_ok, if◌then◌else◌}
use Rattle.ob_seq.specs.State.{empty_after}
use Rattle.ob_lifecycle.specs.Strain.{TookNothing, is_named, names_by, rested, told_time, ticked, watch_after, watched}
use Rattle.ob_lifecycle.specs.Strain.{watched_by, change_in, strain_after, strained}
use Rattle.ob_lifecycle.specs.declared.watch.Watch.{Watch}
use Rattle.ob_lifecycle.specs.declared.strain.Strain.{Strain}
use Rattle.ob_types.specs.declared.reply.Change.{Change}
use Rattle.ob_seq.specs.State.{writable_after}
use Rattle.ob_lifecycle.proofs.Stalling.{named_at_last, now_empty}
use Rattle.ob_lifecycle.proofs.Straining.{pass_fits, strain_asked, strains_refused, strains_ticked, strains_up}
use Rattle.ob_lifecycle.proofs.Watching.{watch_more}
use Rattle.ob_lifecycle.specs.declared.ending.Ending.{Ending}
use Rattle.ob_lifecycle.specs.declared.fault.WriteFault.TheVariants.{Refused as Declined}
use Rattle.ob_lifecycle.proofs.Steps.{and_all, commands_more, finishing_more, or_none, or_true, over_more}
use Rattle.ob_lifecycle.proofs.Bringing.{and_not, unmoved_over, brings_command, brings_one, left_by_reach, managed_with, opened_alike, reached, uncounted}
use Rattle.ob_lifecycle.proofs.Tallies.{cancels_step, fits_of, quiet, tally_accepted}
use Rattle.ob_lifecycle.specs.declared.tally.Tally.{Tally}

-- to ask for the end
pub brings_finish : (old : Managed) (asked ending : Ending) (waiting : ℕ) (finished : Bool)
    → ConnectionGives old.connection waiting_count_after waiting → asked ≡ record old.ending { asked = true }
    → ending ≡ record asked { over = asked.over || (asked.asked && (waiting == 0)) }
    → finished ≡ (ending.over && not asked.over)
    → Brings old (Finishing ∷ []) finished (managed_with old old.connection ending old.tally old.strain)
brings_finish old asked ending waiting finished waits asks is told =
    let all : ending ≡ record { asked = true; over = old.ending.over || (waiting == 0); watch = old.ending.watch } =
    is ∙ ap (λ (a : Ending). record a { over = a.over || (a.asked && (waiting == 0)) }) asks in
    let follows : (commands : List Command) → ConnectionStandsFor old.connection commands
    → ConnectionStandsFor old.connection (commands ++ commands_in (Finishing ∷ [])) =
    λ commands stands. subst (λ c. ConnectionStandsFor old.connection c) (sym (append-nil commands)) stands in
    brings_one old old.connection ending old.tally old.strain Finishing finished (record {
      settings = refl;
      stands = follows;
      asked = ap (λ e. e.asked) all ∙ sym (or_true old.ending.asked);
      over = λ events stands. ap (λ e. e.over) all ∙ ap (λ b. old.ending.over || b)
          (reached old old.connection Finishing waiting true refl follows waits (sym (or_true old.ending.asked)) events stands);
      told = told ∙ ap (λ a. ending.over && not a.over) asks;
      watch = λ events stands. ap (λ e. e.watch) all ∙ stands.watch ∙ sym (watch_more (opened_as old) events Finishing);
      counts = uncounted old Finishing old.tally refl refl;
      strained = λ events stands. stands.strain ∙ sym (strain_asked (opened_as old) events);
      messages = λ events stands. stands.messages;
      bytes = λ events stands. stands.bytes;
    })

sent_quietly : {A E : Type 0} (old : Connected) (tally : Tally) (n : ℕ) (result : Result A E) → Counts old tally (RemoveBytes n) result tally
sent_quietly old tally n result =
    quiet old tally (RemoveBytes n) result refl refl (λ commands. refl) (λ commands. refl) (λ commands. cancels_step commands (RemoveBytes n))

pub brings_once : (max_count max_bytes : ℕ) (before after : Option (List ℕ)) (old : Managed) (connection : Connected)
    (ending : Ending) (strain : Strain) (change : Option Change)
    (result : Result Sent SendFault) (bytes waiting : ℕ) (watch : Watch) (empty finished : Bool)
    → IfOk result (λ done. Sends max_count max_bytes old.connection before done connection after) → is_err result ≡ false
    → IfOk result (λ done. bytes ≡ done.bytes) → ConnectionGives connection waiting_count_after waiting
    → ConnectionGives connection empty_after empty
    → watch ≡ watched_by old.limits.least_bytes (RemoveBytes bytes) empty old.ending.watch
    → ending ≡ record old.ending { over = old.ending.over || (old.ending.asked && (waiting == 0)); watch = watch }
    → finished ≡ (ending.over && not old.ending.over)
    → IfOk result (λ done. change ≡ done.taken.change) → strain ≡ strained (Ok change) old.strain
    → Brings old (sending_happens (λ done. done.bytes) result) finished (managed_with old connection ending old.tally strain)
brings_once max_count max_bytes before after old connection ending strain change (Ok done) bytes waiting watch empty finished sends went same waits empties watches is told changes strains =
    brings_command old connection ending old.tally strain watch (RemoveBytes done.bytes) taken_reply (λ taken. taken.change) (as_result done.taken) waiting empty finished
    sends.obeys waits empties (watches ∙ ap (λ n. watched_by old.limits.least_bytes (RemoveBytes n) empty old.ending.watch) same) is told (sent_quietly old.connection old.tally done.bytes (as_result done.taken)) refl
    (λ promises taken. refl) (strains ∙ ap (λ c. strained (Ok c) old.strain) changes)
brings_once max_count max_bytes before after old connection ending strain change (Err fault) bytes waiting watch empty finished sends went same waits empties watches is told changes strains =
    absurd (cc)

pub brings_turns : (max_turns max_bytes : ℕ) (before after : Option (List ℕ)) (calls_before calls_after : Option (List Call))
    (old : Managed) (connection : Connected) (ending : Ending) (strain : Strain) (change : Option Change)
    (result : Result SentTurns SendFault) (bytes waiting : ℕ) (watch : Watch) (empty finished : Bool)
    → IfOk result (λ done. SendsInTurns max_turns max_bytes old.connection before calls_before done connection after calls_after)
    → is_err result ≡ false
    → IfOk result (λ done. bytes ≡ done.bytes) → ConnectionGives connection waiting_count_after waiting
    → ConnectionGives connection empty_after empty
    → watch ≡ watched_by old.limits.least_bytes (RemoveBytes bytes) empty old.ending.watch
    → ending ≡ record old.ending { over = old.ending.over || (old.ending.asked && (waiting == 0)); watch = watch }
    → finished ≡ (ending.over && not old.ending.over)
    → IfOk result (λ done. change ≡ done.taken.change) → strain ≡ strained (Ok change) old.strain
    → Brings old (sending_happens (λ done. done.bytes) result) finished (managed_with old connection ending old.tally strain)
brings_turns max_turns max_bytes before after calls_before calls_after old connection ending strain change (Ok done) bytes waiting watch empty finished sends went same waits empties watches is told changes strains =
    brings_command old connection ending old.tally strain watch (RemoveBytes done.bytes) taken_reply (λ taken. taken.change) (as_result done.taken) waiting empty finished
    sends.obeys waits empties (watches ∙ ap (λ n. watched_by old.limits.least_bytes (RemoveBytes n) empty old.ending.watch) same) is told (sent_quietly old.connection old.tally done.bytes (as_result done.taken)) refl
    (λ promises taken. refl) (strains ∙ ap (λ c. strained (Ok c) old.strain) changes)
brings_turns max_turns max_bytes before after calls_before calls_after old connection ending strain change (Err fault) bytes waiting watch empty finished sends went same waits empties watches is told changes strains =
    absurd (cc)

-- a close leaves nothing that waits
no_line : (cause : Cause) (rows : List Row) → length (line (map (closed_row cause) rows)) ≡ 0
no_line cause [] = refl
no_line cause (row ∷ rows) = no_line cause rows

no_fresh : (cause : Cause) (rows : List Row) → length (unflushed (map (closed_row cause) rows)) ≡ 0
no_fresh cause [] = refl
no_fresh cause (row ∷ rows) = no_fresh cause rows

pub none_waits : (settings : Settings) (commands : List Command) (cause : Cause)
    → waiting_count_after settings (commands ++ Close cause ∷ []) ≡ 0
none_waits settings commands cause =
    let rows = rows_after settings.estimate commands in
    let more : rows_after settings.estimate (commands ++ Close cause ∷ []) ≡ map (closed_row cause) rows =
    fold-append (effect settings.estimate) [] commands (Close cause ∷ []) in
    rw more (omega (arith, no_line cause rows, no_fresh cause rows))

-- an end that was asked for is reached by a close
over_by_close : (opened : Opened) (events : List Event) (cause : Cause)
    → is_over opened (events ++ Accepted (Close cause) ∷ []) ≡ is_finishing events
over_by_close opened events cause =
    let waits : waiting_count_after opened.settings (commands_in (events ++ Accepted (Close cause) ∷ [])) ≡ 0 =
    ap (λ commands. waiting_count_after opened.settings commands) (commands_more events (Accepted (Close cause) ∷ []))
    ∙ none_waits opened.settings (commands_in events) cause in
    ap (λ n. is_finishing (events ++ Accepted (Close cause) ∷ []) && (n == 0)) waits
    ∙ and_all (is_finishing (events ++ Accepted (Close cause) ∷ []))
    ∙ finishing_more events (Accepted (Close cause)) ∙ or_none (is_finishing events)

-- whether the end was reached, once what is flushed failed and the connection closed
over_by_both : (was asked between : Bool) → ((was || (asked && between)) || asked) ≡ (was || asked)
over_by_both true asked between = refl
over_by_both false true between = or_true between
over_by_both false false between = refl

over_at_last : (opened : Opened) (events : List Event) (cause : Cause)
    → was_over opened (events ++ Accepted (FailFlushed cause false) ∷ Accepted (Close cause) ∷ []) ≡ (was_over opened events || is_finishing events)
over_at_last opened events cause =
    let fails = Accepted (FailFlushed cause false) in
    let one = events ++ fails ∷ [] in
    let waits = waiting_count_after opened.settings (commands_in one) in
    let still : is_finishing one ≡ is_finishing events = finishing_more events fails ∙ or_none (is_finishing events) in
    ap (was_over opened) (sym (append_assoc events (fails ∷ []) (Accepted (Close cause) ∷ [])))
    ∙ over_more opened one (Accepted (Close cause))
    ∙ ap (λ b. was_over opened one || b) (over_by_close opened one cause ∙ still)
    ∙ ap (λ b. b || is_finishing events) (over_more opened events fails ∙ ap (λ b. was_over opened events || (b && (waits == 0))) still)
    ∙ over_by_both (was_over opened events) (is_finishing events) (waits == 0)

asked_at_last : (events : List Event) (cause : Cause)
    → is_finishing (events ++ Accepted (FailFlushed cause false) ∷ Accepted (Close cause) ∷ []) ≡ is_finishing events
asked_at_last events cause =
    let fails = Accepted (FailFlushed cause false) in
    ap is_finishing (sym (append_assoc events (fails ∷ []) (Accepted (Close cause) ∷ [])))
    ∙ finishing_more (events ++ fails ∷ []) (Accepted (Close cause)) ∙ or_none (is_finishing (events ++ fails ∷ []))
    ∙ finishing_more events fails ∙ or_none (is_finishing events)

counted_up : (old : Managed) (tally : Tally) (cause : Cause) (taken : Taken)
    → CountsGivingUp {E = Refusal} old.connection old.tally cause (Ok taken) tally → (events : List Event) → StandsFor old events
    → tally ≡ tally_after (opened_as old) (events ++ Accepted (FailFlushed cause false) ∷ Accepted (Close cause) ∷ [])
counted_up old tally cause taken counts events stands =
    let settings = old.connection.unsent.settings in
    let fails = FailFlushed cause false in
    let one = events ++ Accepted fails ∷ [] in
    let commands : commands_in events ++ fails ∷ [] ≡ commands_in one = sym (commands_more events (Accepted fails ∷ [])) in
    counts (commands_in events) stands.commands (fits_of old events stands)
    ∙ ap (λ t. tally_by settings (commands_in events ++ fails ∷ []) (Close cause) (tally_by settings (commands_in events) fails t)) stands.tally
    ∙ ap (tally_by settings (commands_in events ++ fails ∷ []) (Close cause)) (sym (tally_accepted (opened_as old) events fails))
    ∙ ap (λ c. tally_by settings c (Close cause) (tally_after (opened_as old) one)) commands
    ∙ sym (tally_accepted (opened_as old) one (Close cause))
    ∙ ap (tally_after (opened_as old)) (append_assoc events (Accepted fails ∷ []) (Accepted (Close cause) ∷ []))

-- nothing is flushed after a close, so no window is open, however the commands before it left it
none_in_line : (settings : Settings) (commands : List Command) (cause : Cause)
    → empty_after settings (commands ++ Close cause ∷ []) ≡ true
none_in_line settings commands cause =
    let rows = rows_after settings.estimate commands in
    let more : rows_after settings.estimate (commands ++ Close cause ∷ []) ≡ map (closed_row cause) rows =
    fold-append (effect settings.estimate) [] commands (Close cause ∷ []) in
    ap (λ rows. length (line rows) == 0) more ∙ ap (λ n. n == 0) (no_line cause rows)

rests_at_last : (between : Bool) (enough : ℕ) (cause : Cause) (watch : Watch)
    → rested (watched_by enough (FailFlushed cause false) between watch) ≡ rested watch
rests_at_last true enough cause watch = refl
rests_at_last false enough cause watch = refl

watched_up : (old : Managed) (connection : Connected) (watch : Watch) (cause : Cause) (taken : Taken) (empty : Bool)
    → GivesUp old.connection cause taken connection → ConnectionGives connection empty_after empty
    → watch ≡ watched_by old.limits.least_bytes (Close cause) empty old.ending.watch → (events : List Event) → StandsFor old events
    → watch ≡ watch_after (opened_as old) (events ++ Accepted (FailFlushed cause false) ∷ Accepted (Close cause) ∷ [])
watched_up old connection watch cause taken empty gives empties is events stands =
    let opened = opened_as old in
    let fails = FailFlushed cause false in
    let one = events ++ Accepted fails ∷ [] in
    let settings = old.connection.unsent.settings in
    let last : empty ≡ true =
    empties _ (gives.closes.stands _ (gives.fails.stands (commands_in events) stands.commands))
    ∙ none_in_line connection.unsent.settings (commands_in events ++ fails ∷ []) cause in
    let none : empty_after settings (commands_in (one ++ Accepted (Close cause) ∷ [])) ≡ true =
    ap (λ commands. empty_after settings commands) (commands_more one (Accepted (Close cause) ∷ []))
    ∙ none_in_line settings (commands_in one) cause in
    let between = empty_after settings (commands_in one) in
    is ∙ ap (λ e. watched_by old.limits.least_bytes (Close cause) e old.ending.watch) last
    ∙ sym (rests_at_last between old.limits.least_bytes cause old.ending.watch)
    ∙ ap (λ w. rested (watched_by old.limits.least_bytes fails between w)) stands.watch
    ∙ ap rested (sym (watch_more opened events (Accepted fails)))
    ∙ ap (λ e. watched_by old.limits.least_bytes (Close cause) e (watch_after opened one)) (sym none)
    ∙ sym (watch_more opened one (Accepted (Close cause)))
    ∙ ap (watch_after opened) (append_assoc events (Accepted fails ∷ []) (Accepted (Close cause) ∷ []))

given_up : (old : Managed) (connection : Connected) (ending : Ending) (tally : Tally) (strain : Strain) (cause : Cause) (taken : Taken) (waiting : ℕ) (watch : Watch) (empty finished : Bool)
    → GivesUp old.connection cause taken connection → ConnectionGives connection waiting_count_after waiting
    → ConnectionGives connection empty_after empty → watch ≡ watched_by old.limits.least_bytes (Close cause) empty old.ending.watch
    → ending ≡ record old.ending { over = old.ending.over || (old.ending.asked && (waiting == 0)); watch = watch }
    → finished ≡ (ending.over && not old.ending.over)
    → CountsGivingUp {E = Refusal} old.connection old.tally cause (Ok taken) tally
    → strain ≡ strained (Ok taken.change) old.strain
    → Brings old (Accepted (FailFlushed cause false) ∷ Accepted (Close cause) ∷ []) finished (managed_with old connection ending tally strain)
given_up old connection ending tally strain cause taken waiting watch empty finished gives waits empties watches is told counts strains =
    let both = Accepted (FailFlushed cause false) ∷ Accepted (Close cause) ∷ [] in
    let settings = gives.closes.settings ∙ gives.fails.settings in
    let opened : opened_as (managed_with old connection ending tally strain) ≡ opened_as old =
    opened_alike old connection ending tally strain settings in
    let follows : (commands : List Command) → ConnectionStandsFor old.connection commands
    → ConnectionStandsFor connection ((commands ++ FailFlushed cause false ∷ []) ++ Close cause ∷ []) =
    λ commands stands. gives.closes.stands (commands ++ FailFlushed cause false ∷ []) (gives.fails.stands commands stands) in
    let over : (events : List Event) → StandsFor old events → ending.over ≡ was_over (opened_as old) (events ++ both) =
    λ events stands.
    let none : waiting ≡ 0 =
    waits _ (follows (commands_in events) stands.commands)
    ∙ none_waits connection.unsent.settings (commands_in events ++ FailFlushed cause false ∷ []) cause in
    ap (λ e. e.over) is ∙ ap (λ n. old.ending.over || (old.ending.asked && (n == 0))) none
    ∙ ap (λ b. old.ending.over || b) (and_all old.ending.asked ∙ stands.asked)
    ∙ ap (λ b. b || is_finishing events) stands.over ∙ sym (over_at_last (opened_as old) events cause) in
    record {
      opened = opened;
      stands = λ events stands. record {
        commands = subst (λ c. ConnectionStandsFor connection c)
            (append_assoc (commands_in events) (FailFlushed cause false ∷ []) (Close cause ∷ []) ∙ sym (commands_more events both))
            (follows (commands_in events) stands.commands);
        asked = ap (λ e. e.asked) is ∙ stands.asked ∙ sym (asked_at_last events cause);
        over = over events stands ∙ ap (λ o. was_over o (events ++ both)) (sym opened);
        watch = ap (λ e. e.watch) is ∙ watched_up old connection watch cause taken empty gives empties watches events stands
            ∙ ap (λ o. watch_after o (events ++ both)) (sym opened);
        tally = counted_up old tally cause taken counts events stands ∙ ap (λ o. tally_after o (events ++ both)) (sym opened);
        strain = strains_up old connection cause taken strain gives strains events stands
            ∙ ap (λ o. strain_after o (events ++ both)) (sym opened);
        messages = omega (arith, ap (λ t. t.accepted.messages) (counts (commands_in events) stands.commands (fits_of old events stands)), stands.messages);
        bytes = omega (arith, ap (λ t. t.accepted.bytes) (counts (commands_in events) stands.commands (fits_of old events stands)), stands.bytes);
      };
      told = λ events stands. told ∙ ap (λ b. b && not old.ending.over) (over events stands)
          ∙ ap (λ b. was_over (opened_as old) (events ++ both) && not b) stands.over;
    }

-- a connection that is given up
pub brings_give_up : (old : Managed) (connection : Connected) (ending : Ending) (tally : Tally) (strain : Strain) (cause : Cause)
    (result : Result Taken Refusal) (waiting : ℕ) (watch : Watch) (empty finished : Bool)
    → IfOk result (λ taken. GivesUp old.connection cause taken connection) → OnErr result (connection ≡ old.connection)
    → ConnectionGives connection waiting_count_after waiting
    → ConnectionGives connection empty_after empty
    → watch ≡ (if is_ok result then watched_by old.limits.least_bytes (Close cause) empty old.ending.watch else old.ending.watch)
    → ending ≡ record old.ending { over = old.ending.over || (old.ending.asked && (waiting == 0)); watch = watch }
    → finished ≡ (ending.over && not old.ending.over)
    → CountsGivingUp old.connection old.tally cause result tally
    → strain ≡ strained (change_in (λ taken. taken.change) (λ refusal. Declined refusal) result) old.strain
    → Brings old (giving_up_happens cause result) finished (managed_with old connection ending tally strain)
brings_give_up old connection ending tally strain cause (Ok taken) waiting watch empty finished gives kept waits empties watches is told counts strains =
    given_up old connection ending tally strain cause taken waiting watch empty finished gives waits empties watches is told counts strains
brings_give_up old connection ending tally strain cause (Err refusal) waiting watch empty finished gives kept waits empties watches is told counts strains =
    brings_one old connection ending tally strain (Refused (Declined refusal)) finished
    (left_by_reach old connection ending tally strain watch (Refused (Declined refusal)) waiting finished (ap (λ c. c.unsent.settings) kept)
    (λ commands stands. subst (λ c. ConnectionStandsFor c (commands ++ [])) (sym kept)
    (subst (λ c. ConnectionStandsFor old.connection c) (sym (append-nil commands)) stands))
    waits refl is told (λ events stands. watches ∙ stands.watch ∙ sym (watch_more (opened_as old) events (Refused (Declined refusal)))) (uncounted old (Refused (Declined refusal)) tally refl counts)
    (strains_refused old (Declined refusal) strain strains)
    (λ events stands. omega (arith, ap (λ t. t.accepted.messages) counts, stands.messages))
    (λ events stands. omega (arith, ap (λ t. t.accepted.bytes) counts, stands.bytes)))

ticks_to : (old : Managed) (watch : Watch) (empty : Bool) (now : ℕ) → ConnectionGives old.connection empty_after empty
    → watch ≡ (if empty then rested (told_time now old.ending.watch)
    else ticked old.limits (told_time now old.ending.watch).since (told_time now old.ending.watch))
    → (events : List Event) → StandsFor old events → watch ≡ watch_after (opened_as old) (events ++ Ticked now ∷ [])
ticks_to old watch empty now empties is events stands =
    is ∙ ap (λ e. if e then rested (told_time now old.ending.watch)
    else ticked old.limits (told_time now old.ending.watch).since (told_time now old.ending.watch)) (empties (commands_in events) stands.commands)
    ∙ ap (watched (opened_as old) events (Ticked now)) stands.watch ∙ sym (watch_more (opened_as old) events (Ticked now))

-- the clock after a tick
pub ticks_on : (old : Managed) (watch : Watch) (empty : Bool) (now : ℕ)
    → watch ≡ (if empty then rested (told_time now old.ending.watch)
    else ticked old.limits (told_time now old.ending.watch).since (told_time now old.ending.watch))
    → watch.now ≡ max old.ending.watch.now now
ticks_on old watch empty now is = ap (λ w. w.now) is ∙ now_empty old.limits empty (told_time now old.ending.watch)

pub tick_fits : (old : Managed) (watch : Watch) (empty : Bool) (now : ℕ) → StandsForSome old
    → watch ≡ (if empty then rested (told_time now old.ending.watch)
    else ticked old.limits (told_time now old.ending.watch).since (told_time now old.ending.watch))
    → old.strain.stopped + (watch.now - old.ending.watch.now) ≤ watch.now
tick_fits old watch empty now some is = pass_fits old now watch.now some.0 some.1 (ticks_on old watch empty now is)

-- a tick
pub brings_tick : (old : Managed) (watch : Watch) (strain : Strain) (empty writable : Bool) (now : ℕ) → ConnectionGives old.connection empty_after empty
    → watch ≡ (if empty then rested (told_time now old.ending.watch)
    else ticked old.limits (told_time now old.ending.watch).since (told_time now old.ending.watch))
    → ConnectionGives old.connection writable_after writable
    → strain ≡ record old.strain { stopped = old.strain.stopped + (if writable then 0 else watch.now - old.ending.watch.now) }
    → Brings old (Ticked now ∷ []) false (managed_with old old.connection (record old.ending { watch = watch }) old.tally strain)
brings_tick old watch strain empty writable now empties is goes strains = brings_one old old.connection (record old.ending { watch = watch }) old.tally strain (Ticked now) false (record {
  settings = refl;
  stands = λ commands stands. subst (λ c. ConnectionStandsFor old.connection c) (sym (append-nil commands)) stands;
  asked = sym (or_none old.ending.asked);
  over = λ events stands. unmoved_over old (Ticked now) refl refl events stands;
  told = and_not old.ending.over;
  watch = λ events stands. ticks_to old watch empty now empties is events stands;
  counts = uncounted old (Ticked now) old.tally refl refl;
  strained = λ events stands. strains_ticked old now watch.now writable strain goes (ticks_on old watch empty now is) strains events stands;
  messages = λ events stands. stands.messages;
  bytes = λ events stands. stands.bytes;
})

pub names_at : (old : Managed) (watch : Watch) (empty : Bool) (now : ℕ) (named : Bool)
    → ConnectionGives old.connection empty_after empty
    → watch ≡ (if empty then rested (told_time now old.ending.watch)
    else ticked old.limits (told_time now old.ending.watch).since (told_time now old.ending.watch))
    → named ≡ (watch.named && not old.ending.watch.named) → Gives old (names_by now) named
names_at old watch empty now named empties is told events stands =
    told ∙ ap (λ w. w.named && not old.ending.watch.named) (ticks_to old watch empty now empties is events stands)
    ∙ ap (λ w. (watch_after (opened_as old) (events ++ Ticked now ∷ [])).named && not w.named) stands.watch

-- a peer that took nothing stands named after the tick, whatever events are told of
pub stands_named : (old new : Managed) (now : ℕ) (before between : List Event) (first : ℕ) → Brings old (Ticked now ∷ []) false new
    → StandsFor old (before ++ Ticked first ∷ between) → TookNothing (opened_as old) before first between now
    → Gives new is_named true
stands_named old new now before between first brings stands took events other =
    let all = (before ++ Ticked first ∷ between) ++ Ticked now ∷ [] in
    let named : new.ending.watch.named ≡ true =
    ap (λ w. w.named) (brings.stands (before ++ Ticked first ∷ between) stands).watch
    ∙ ap (λ opened. is_named opened all) brings.opened ∙ named_at_last (opened_as old) before between first now took in
    sym named ∙ ap (λ w. w.named) other.watch

-- a shrink keeps what the connection stands for
shrunk_connection : (old new : Connected) → Shrinks old new → (commands : List Command) → ConnectionStandsFor old commands
    → ConnectionStandsFor new commands
shrunk_connection old new shrinks commands stands =
    let is : new ≡ record old { unsent = record old.unsent { room = new.unsent.room; capacity = new.unsent.capacity } } =
    shrinks.same ∙ ap (λ unsent. record old { unsent = unsent }) shrinks.unsent.same in
    subst (λ connection. ConnectionStandsFor connection commands) (sym is) (record {
      past = stands.past;
      forgotten = stands.forgotten;
      as_buffer = record { accepted = stands.as_buffer.accepted; leaves = stands.as_buffer.leaves };
    })

shrunk_settings : (old new : Connected) → Shrinks old new → new.unsent.settings ≡ old.unsent.settings
shrunk_settings old new shrinks = ap (λ unsent. unsent.settings) shrinks.unsent.same

pub shrunk_opened : (old : Managed) (connection : Connected) → Shrinks old.connection connection
    → opened_as (record old { connection = connection }) ≡ opened_as old
shrunk_opened old connection shrinks =
    opened_alike old connection old.ending old.tally old.strain (shrunk_settings old.connection connection shrinks)

pub shrunk_stands : (old : Managed) (connection : Connected) → Shrinks old.connection connection → (events : List Event)
    → StandsFor old events → StandsFor (record old { connection = connection }) events
shrunk_stands old connection shrinks events stands =
    let same = shrunk_opened old connection shrinks in record {
      commands = shrunk_connection old.connection connection shrinks (commands_in events) stands.commands;
      asked = stands.asked;
      over = stands.over ∙ ap (λ opened. was_over opened events) (sym same);
      watch = stands.watch ∙ ap (λ opened. watch_after opened events) (sym same);
      tally = stands.tally ∙ ap (λ opened. tally_after opened events) (sym same);
      strain = stands.strain ∙ ap (λ opened. strain_after opened events) (sym same);
      messages = stands.messages;
      bytes = stands.bytes;
    }
