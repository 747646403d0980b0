-- What a call brings that goes through its connection.
use Rattle.std.proofs.Common.{◌≡◌, ◌≤◌, ℕ, Bool, false, List, [], ◌∷◌, ◌++◌, ◌||◌, ◌&&◌, not, sym, refl, ap, ◌∙◌, subst, append-nil, arith, true}
use Rattle.std.specs.Prelude.{Option, Result, Ok, Err, ◌==◌}
use Rattle.ob_types.specs.declared.command.Command.{Command}
use Rattle.ob_types.specs.declared.promise.PromiseState.{PromiseState}
use Rattle.ob_types.specs.declared.refusal.Refusal.{Refusal}
use Rattle.ob_types.specs.declared.reply.Reply.{Reply}
use Rattle.ob_connection.specs.Connected.{Connected, StandsFor as ConnectionStandsFor, Gives as ConnectionGives}
use Rattle.ob_connection.specs.Connected.{waiting_count_after}
use Rattle.ob_connection.specs.Obeying.{Obeys}
use Rattle.ob_lifecycle.specs.Events.{most_told, none, tally_after, tally_by, written_of, Counts, Event, Accepted}
use Rattle.ob_lifecycle.specs.Events.{Refused, commands_in, happens, asks_for_the_end, is_finishing, is_over, was_over}
use Rattle.ob_lifecycle.specs.Managed.{Managed, StandsFor, StandsForSome, Brings, opened_as}
use Rattle.std.specs.Prelude.{if◌then◌else◌, is_ok}
use Rattle.ob_seq.specs.State.{empty_after}
use Rattle.ob_lifecycle.specs.Strain.{watch_after, watched, watched_by, change_in, strain_after, strained}
use Rattle.ob_lifecycle.specs.declared.watch.Watch.{Watch}
use Rattle.ob_lifecycle.specs.declared.strain.Strain.{Strain}
use Rattle.ob_types.specs.declared.reply.Change.{Change}
use Rattle.ob_lifecycle.proofs.Straining.{strains_accepted, strains_refused}
use Rattle.ob_lifecycle.proofs.Watching.{watch_more}
use Rattle.ob_lifecycle.specs.declared.ending.Ending.{Ending}
use Rattle.ob_lifecycle.specs.declared.tally.Tally.{Tally}
use Rattle.ob_lifecycle.specs.declared.fault.WriteFault.TheVariants.{Refused as Declined}
use Rattle.ob_lifecycle.proofs.Steps.{commands_more, finishing_more, or_none, over_more, over_seen}
use Rattle.ob_lifecycle.proofs.Tallies.{fits_of, tally_accepted, tally_refused}

-- the value after a call of the connection
abbrev pub managed_with : Managed → Connected → Ending → Tally → Strain → Managed
managed_with old connection ending tally strain =
    record old { connection = connection; ending = ending; tally = tally; strain = strain }

pub opened_alike : (old : Managed) (connection : Connected) (ending : Ending) (tally : Tally) (strain : Strain)
    → connection.unsent.settings ≡ old.connection.unsent.settings
    → opened_as (managed_with old connection ending tally strain) ≡ opened_as old
opened_alike old connection ending tally strain same =
    ap (λ settings. record { settings = settings; limits = old.limits; now = old.opened }) same

-- what a call leaves that brought one event
pub record Left (old : Managed) (connection : Connected) (ending : Ending) (tally : Tally) (strain : Strain) (event : Event)
    (finished : Bool) : Type 0 where
  pub settings : connection.unsent.settings ≡ old.connection.unsent.settings
  pub stands : (commands : List Command) → ConnectionStandsFor old.connection commands
      → ConnectionStandsFor connection (commands ++ commands_in (event ∷ []))
  pub asked : ending.asked ≡ (old.ending.asked || asks_for_the_end event)
  pub over : (events : List Event) → StandsFor old events
      → ending.over ≡ (old.ending.over || is_over (opened_as old) (events ++ event ∷ []))
  pub told : finished ≡ (ending.over && not old.ending.over)
  pub counts : (events : List Event) → StandsFor old events → tally ≡ tally_after (opened_as old) (events ++ event ∷ [])
  pub strained : (events : List Event) → StandsFor old events → strain ≡ strain_after (opened_as old) (events ++ event ∷ [])
  pub watch : (events : List Event) → StandsFor old events → ending.watch ≡ watch_after (opened_as old) (events ++ event ∷ [])
  pub messages : (events : List Event) → StandsFor old events → tally.accepted.messages ≤ most_told
  pub bytes : (events : List Event) → StandsFor old events → tally.accepted.bytes ≤ most_told

stands_by_one : (old : Managed) (connection : Connected) (ending : Ending) (tally : Tally) (strain : Strain) (event : Event) (finished : Bool)
    → Left old connection ending tally strain event finished → (events : List Event) → StandsFor old events
    → StandsFor (managed_with old connection ending tally strain) (events ++ event ∷ [])
stands_by_one old connection ending tally strain event finished left events stands =
    record {
      commands = subst (λ commands. ConnectionStandsFor connection commands) (sym (commands_more events (event ∷ [])))
          (left.stands (commands_in events) stands.commands);
      asked = left.asked ∙ ap (λ b. b || asks_for_the_end event) stands.asked ∙ sym (finishing_more events event);
      over = left.over events stands ∙ ap (λ b. b || is_over (opened_as old) (events ++ event ∷ [])) stands.over
          ∙ sym (over_more (opened_as old) events event)
          ∙ ap (λ o. was_over o (events ++ event ∷ [])) (sym (opened_alike old connection ending tally strain left.settings));
      tally = left.counts events stands
          ∙ ap (λ o. tally_after o (events ++ event ∷ [])) (sym (opened_alike old connection ending tally strain left.settings));
      strain = left.strained events stands
          ∙ ap (λ o. strain_after o (events ++ event ∷ [])) (sym (opened_alike old connection ending tally strain left.settings));
      watch = left.watch events stands
          ∙ ap (λ o. watch_after o (events ++ event ∷ [])) (sym (opened_alike old connection ending tally strain left.settings));
      messages = left.messages events stands;
      bytes = left.bytes events stands;
    }

-- so it brings that event
pub brings_one : (old : Managed) (connection : Connected) (ending : Ending) (tally : Tally) (strain : Strain) (event : Event) (finished : Bool)
    → Left old connection ending tally strain event finished → Brings old (event ∷ []) finished (managed_with old connection ending tally strain)
brings_one old connection ending tally strain event finished left =
    let opened = opened_alike old connection ending tally strain left.settings in
    record {
      opened = opened;
      stands = stands_by_one old connection ending tally strain event finished left;
      told = λ events stands. left.told
          ∙ ap (λ b. b && not old.ending.over) ((stands_by_one old connection ending tally strain event finished left events stands).over
          ∙ ap (λ o. was_over o (events ++ event ∷ [])) opened)
          ∙ ap (λ b. was_over (opened_as old) (events ++ event ∷ []) && not b) stands.over;
    }

-- who asks how many messages wait knows whether the end is reached
pub reached : (old : Managed) (connection : Connected) (event : Event) (waiting : ℕ) (asked : Bool)
    → connection.unsent.settings ≡ old.connection.unsent.settings
    → ((commands : List Command) → ConnectionStandsFor old.connection commands
    → ConnectionStandsFor connection (commands ++ commands_in (event ∷ [])))
    → ConnectionGives connection waiting_count_after waiting → asked ≡ (old.ending.asked || asks_for_the_end event)
    → (events : List Event) → StandsFor old events
    → (asked && (waiting == 0)) ≡ is_over (opened_as old) (events ++ event ∷ [])
reached old connection event waiting asked same follows waits is events stands =
    let more : commands_in events ++ commands_in (event ∷ []) ≡ commands_in (events ++ event ∷ []) = sym (commands_more events (event ∷ [])) in
    let finishing : asked ≡ is_finishing (events ++ event ∷ []) =
    is ∙ ap (λ b. b || asks_for_the_end event) stands.asked ∙ sym (finishing_more events event) in
    let count : waiting ≡ waiting_count_after old.connection.unsent.settings (commands_in (events ++ event ∷ [])) =
    waits _ (follows (commands_in events) stands.commands)
    ∙ ap (λ s. waiting_count_after s (commands_in events ++ commands_in (event ∷ []))) same
    ∙ ap (λ commands. waiting_count_after old.connection.unsent.settings commands) more in
    ap (λ b. b && (waiting == 0)) finishing ∙ ap (λ n. is_finishing (events ++ event ∷ []) && (n == 0)) count

-- what a call of the connection leaves that asks how many messages wait
pub left_by_reach : (old : Managed) (connection : Connected) (ending : Ending) (tally : Tally) (strain : Strain) (watch : Watch) (event : Event) (waiting : ℕ)
    (finished : Bool)
    → connection.unsent.settings ≡ old.connection.unsent.settings
    → ((commands : List Command) → ConnectionStandsFor old.connection commands
    → ConnectionStandsFor connection (commands ++ commands_in (event ∷ [])))
    → ConnectionGives connection waiting_count_after waiting → asks_for_the_end event ≡ false
    → ending ≡ record old.ending { over = old.ending.over || (old.ending.asked && (waiting == 0)); watch = watch }
    → finished ≡ (ending.over && not old.ending.over)
    → ((events : List Event) → StandsFor old events → watch ≡ watch_after (opened_as old) (events ++ event ∷ []))
    → ((events : List Event) → StandsFor old events → tally ≡ tally_after (opened_as old) (events ++ event ∷ []))
    → ((events : List Event) → StandsFor old events → strain ≡ strain_after (opened_as old) (events ++ event ∷ []))
    → ((events : List Event) → StandsFor old events → tally.accepted.messages ≤ most_told)
    → ((events : List Event) → StandsFor old events → tally.accepted.bytes ≤ most_told)
    → Left old connection ending tally strain event finished
left_by_reach old connection ending tally strain watch event waiting finished same follows waits other is told watches counts strains messages bytes =
    let asked : ending.asked ≡ (old.ending.asked || asks_for_the_end event) =
    ap (λ e. e.asked) is ∙ sym (or_none old.ending.asked) ∙ ap (λ b. old.ending.asked || b) (sym other) in
    let kept : old.ending.asked ≡ (old.ending.asked || asks_for_the_end event) =
    sym (or_none old.ending.asked) ∙ ap (λ b. old.ending.asked || b) (sym other) in
    record {
      settings = same;
      stands = follows;
      asked = asked;
      over = λ events stands. ap (λ e. e.over) is
          ∙ ap (λ b. old.ending.over || b) (reached old connection event waiting old.ending.asked same follows waits kept events stands);
      told = told;
      watch = λ events stands. ap (λ e. e.watch) is ∙ watches events stands;
      counts = counts;
      strained = strains;
      messages = messages;
      bytes = bytes;
    }

-- an end that is reached was told, so what changes no command tells nothing
stays_over : (was now : Bool) → (now ≡ true → was ≡ true) → was ≡ (was || now)
stays_over true now seen = refl
stays_over false true seen = seen refl
stays_over false false seen = refl

pub and_not : (b : Bool) → false ≡ (b && not b)
and_not true = refl
and_not false = refl

pub unmoved_over : (old : Managed) (event : Event) → commands_in (event ∷ []) ≡ [] → asks_for_the_end event ≡ false
    → (events : List Event) → StandsFor old events
    → old.ending.over ≡ (old.ending.over || is_over (opened_as old) (events ++ event ∷ []))
unmoved_over old event no_command other events stands =
    let settings = old.connection.unsent.settings in
    let asked : is_finishing (events ++ event ∷ []) ≡ is_finishing events =
    finishing_more events event ∙ ap (λ b. is_finishing events || b) other ∙ or_none (is_finishing events) in
    let commands : commands_in (events ++ event ∷ []) ≡ commands_in events =
    commands_more events (event ∷ []) ∙ ap (λ more. commands_in events ++ more) no_command ∙ append-nil (commands_in events) in
    let same : is_over (opened_as old) (events ++ event ∷ []) ≡ is_over (opened_as old) events =
    ap (λ b. b && (waiting_count_after settings (commands_in (events ++ event ∷ [])) == 0)) asked
    ∙ ap (λ c. is_finishing events && (waiting_count_after settings c == 0)) commands in
    stays_over old.ending.over _ (λ now. stands.over ∙ over_seen (opened_as old) events (sym same ∙ now))

-- the numbers after a command that was counted, and after a refusal
pub counted : {A : Type 0} (E : Type 0) (old : Managed) (command : Command) (value : A) (tally : Tally)
    → Counts {E = E} old.connection old.tally command (Ok value) tally → (events : List Event) → StandsFor old events
    → tally ≡ tally_after (opened_as old) (events ++ Accepted command ∷ [])
counted E old command value tally counts events stands =
    counts (commands_in events) stands.commands (fits_of old events stands)
    ∙ ap (λ t. tally_by old.connection.unsent.settings (commands_in events) command t) stands.tally
    ∙ sym (tally_accepted (opened_as old) events command)

pub uncounted : (old : Managed) (event : Event) (tally : Tally) → commands_in (event ∷ []) ≡ [] → tally ≡ old.tally
    → (events : List Event) → StandsFor old events → tally ≡ tally_after (opened_as old) (events ++ event ∷ [])
uncounted old event tally no_command same events stands =
    same ∙ stands.tally ∙ sym (tally_refused (opened_as old) events event no_command)

-- the window after a command, and after what is none
pub watched_on : (old : Managed) (connection : Connected) (command : Command) (watch : Watch) (empty : Bool)
    → connection.unsent.settings ≡ old.connection.unsent.settings
    → ((commands : List Command) → ConnectionStandsFor old.connection commands
    → ConnectionStandsFor connection (commands ++ command ∷ []))
    → ConnectionGives connection empty_after empty
    → watch ≡ watched_by old.limits.least_bytes command empty old.ending.watch → (events : List Event) → StandsFor old events
    → watch ≡ watch_after (opened_as old) (events ++ Accepted command ∷ [])
watched_on old connection command watch empty same follows empties is events stands =
    let settings = old.connection.unsent.settings in
    let now : empty ≡ empty_after settings (commands_in (events ++ Accepted command ∷ [])) =
    empties _ (follows (commands_in events) stands.commands)
    ∙ ap (λ s. empty_after s (commands_in events ++ command ∷ [])) same
    ∙ ap (λ commands. empty_after settings commands) (sym (commands_more events (Accepted command ∷ []))) in
    is ∙ ap (λ e. watched_by old.limits.least_bytes command e old.ending.watch) now
    ∙ ap (watched (opened_as old) events (Accepted command)) stands.watch
    ∙ sym (watch_more (opened_as old) events (Accepted command))

-- a call of one command brings it, or its refusal
pub brings_command : {A : Type 0} (old : Managed) (connection : Connected) (ending : Ending) (tally : Tally) (strain : Strain) (watch : Watch)
    (command : Command) (tell : List PromiseState → A → Reply) (change : A → Option Change) (result : Result A Refusal) (waiting : ℕ) (empty finished : Bool)
    → Obeys old.connection command tell result connection → ConnectionGives connection waiting_count_after waiting
    → ConnectionGives connection empty_after empty
    → watch ≡ (if is_ok result then watched_by old.limits.least_bytes command empty old.ending.watch else old.ending.watch)
    → ending ≡ record old.ending { over = old.ending.over || (old.ending.asked && (waiting == 0)); watch = watch }
    → finished ≡ (ending.over && not old.ending.over) → Counts old.connection old.tally command result tally
    → written_of old.connection.unsent.settings command ≡ none
    → ((promises : List PromiseState) (value : A) → (tell promises value).change ≡ change value)
    → strain ≡ strained (change_in change (λ refusal. Declined refusal) result) old.strain
    → Brings old (happens command result) finished (managed_with old connection ending tally strain)
brings_command {A = A} old connection ending tally strain watch command tell change (Ok value) waiting empty finished obeys waits empties watches is told counts wrote said strains =
    brings_one old connection ending tally strain (Accepted command) finished
    (left_by_reach old connection ending tally strain watch (Accepted command) waiting finished obeys.settings obeys.stands waits refl is told
    (watched_on old connection command watch empty obeys.settings obeys.stands empties watches)
    (counted Refusal old command value tally counts)
    (strains_accepted old connection command tell value (change value) strain (λ promises. said promises value) obeys strains)
    (λ events stands. omega (arith, ap (λ t. t.accepted.messages) (counts (commands_in events) stands.commands (fits_of old events stands)), ap (λ c. c.messages) wrote, stands.messages))
    (λ events stands. omega (arith, ap (λ t. t.accepted.bytes) (counts (commands_in events) stands.commands (fits_of old events stands)), ap (λ c. c.bytes) wrote, stands.bytes)))
brings_command old connection ending tally strain watch command tell change (Err refusal) waiting empty finished obeys waits empties watches is told counts wrote said strains =
    brings_one old connection ending tally strain (Refused (Declined refusal)) finished
    (left_by_reach old connection ending tally strain watch (Refused (Declined refusal)) waiting finished obeys.settings
    (λ commands stands. subst (λ c. ConnectionStandsFor connection c) (sym (append-nil commands)) (obeys.stands commands stands))
    waits refl is told (λ events stands. watches ∙ stands.watch ∙ sym (watch_more (opened_as old) events (Refused (Declined refusal)))) (uncounted old (Refused (Declined refusal)) tally refl counts)
    (strains_refused old (Declined refusal) strain strains)
    (λ events stands. omega (arith, ap (λ t. t.accepted.messages) counts, stands.messages))
    (λ events stands. omega (arith, ap (λ t. t.accepted.bytes) counts, stands.bytes)))

-- a command that was accepted while no end was asked for reaches none
pub brings_unasked : {A : Type 0} (old : Managed) (connection : Connected) (tally : Tally) (strain : Strain) (watch : Watch)
    (command : Command) (tell : List PromiseState → A → Reply) (change : A → Option Change) (value : A) (empty : Bool)
    → old.ending.asked ≡ false → Obeys {A = A} old.connection command tell (Ok value) connection
    → ConnectionGives connection empty_after empty
    → watch ≡ watched_by old.limits.least_bytes command empty old.ending.watch
    → Counts {A = A} {E = Refusal} old.connection old.tally command (Ok value) tally
    → written_of old.connection.unsent.settings command ≡ none
    → ((promises : List PromiseState) (value : A) → (tell promises value).change ≡ change value)
    → strain ≡ strained (Ok (change value)) old.strain
    → Brings old (Accepted command ∷ []) false (managed_with old connection (record old.ending { watch = watch }) tally strain)
brings_unasked old connection tally strain watch command tell change value empty unasked obeys empties watches counts wrote said strains =
    brings_one old connection (record old.ending { watch = watch }) tally strain (Accepted command) false (record {
      settings = obeys.settings;
      stands = obeys.stands;
      asked = sym (or_none old.ending.asked);
      over = λ events stands.
          let goes_on : is_finishing (events ++ Accepted command ∷ []) ≡ false =
          finishing_more events (Accepted command) ∙ or_none (is_finishing events) ∙ sym stands.asked ∙ unasked in
          sym (or_none old.ending.over)
          ∙ ap (λ b. old.ending.over || (b && (waiting_count_after old.connection.unsent.settings (commands_in (events ++ Accepted command ∷ [])) == 0))) (sym goes_on);
      told = and_not old.ending.over;
      watch = watched_on old connection command watch empty obeys.settings obeys.stands empties watches;
      counts = counted Refusal old command value tally counts;
      strained = strains_accepted old connection command tell value (change value) strain (λ promises. said promises value) obeys strains;
      messages = λ events stands. omega (arith, ap (λ t. t.accepted.messages) (counts (commands_in events) stands.commands (fits_of old events stands)), ap (λ c. c.messages) wrote, stands.messages);
      bytes = λ events stands. omega (arith, ap (λ t. t.accepted.bytes) (counts (commands_in events) stands.commands (fits_of old events stands)), ap (λ c. c.bytes) wrote, stands.bytes);
    })

-- and what brings events stands for some
pub stands_on : (old new : Managed) (brought : List Event) (finished : Bool) → StandsForSome old
    → Brings old brought finished new → StandsForSome new
stands_on old new brought finished some brings = (some.0 ++ brought, brings.stands some.0 some.1)
