-- What is pending, from what a connection shows, and what a flush leaves of it.
use Rattle.std.proofs.Common.{◌≡◌, ℕ, ◌+◌, ◌-◌, ◌≤◌, true, false, List, [], ◌∷◌, ◌++◌, map, length, sym, refl, ap, ◌∙◌, subst, arith}
use Rattle.std.specs.Prelude.{Result, Ok, Err, IfOk, is_ok, filter, count_by}
use Rattle.std.specs.List.{AllByRecursion}
use Rattle.std.proofs.lemmas.List.{length-map}
use Rattle.std.proofs.lemmas.List.Sums.{sum_by-cons}
use Rattle.ob_types.specs.declared.command.Command.{Command}
use Rattle.ob_types.specs.declared.command.Command.TheVariants.{Write, Flush}
use Rattle.ob_types.specs.declared.command.Command.TheVariants.{Cancel, FailFlushed, Close}
use Rattle.ob_types.specs.declared.estimate.Estimate.{Estimate}
use Rattle.ob_types.specs.declared.promise.Cause.{Cause}
use Rattle.ob_types.specs.declared.refusal.Refusal.{Refusal}
use Rattle.ob_seq.specs.Effect.{effect, flushed_row, rows_after}
use Rattle.ob_seq.specs.Looks.{flushed_after}
use Rattle.ob_seq.specs.Rows.{Row, Settings, is_cancelled as is_taken_back, is_flushed, is_unflushed, line, new_row, unflushed, unread_part}
use Rattle.ob_seq.proofs.Rows.Order.{each_append}
use Rattle.ob_connection.specs.Connected.{Connected, Gives as ConnectionGives}
use Rattle.ob_connection.specs.Connected.{waiting_count_after}
use Rattle.ob_connection.specs.Obeying.{GivesUp, Obeys, flushed_reply}
use Rattle.ob_connection.specs.declared.replies.Flushed.{Flushed}
use Rattle.ob_connection.specs.declared.replies.Taken.{Taken}
use Rattle.ob_lifecycle.specs.Events.{beyond, cancels_wait, is_pending, none, pending_after, plus, tally_by, Counts}
use Rattle.ob_lifecycle.specs.Events.{CountsGivingUp}
use Rattle.ob_lifecycle.specs.declared.count.Count.{Count}
use Rattle.ob_lifecycle.specs.declared.tally.Tally.{Tally}
use Rattle.ob_lifecycle.proofs.Ages.{effect_ages, one_if, AllAge, AllAlike}
use Rattle.ob_lifecycle.proofs.Balance.{alike_after, fewer_bytes_after, fewer_messages_after, rows_more}
use Rattle.ob_lifecycle.proofs.Steps.{by_events}
use Rattle.ob_lifecycle.proofs.Tallies.{cancels_step, count_like, plus_none, tally_like}

-- the pending messages are those that wait, less those in line that were voided
flushed_few : (rows : List Row) → length (filter (λ row. is_flushed row.place) rows) ≤ length (line rows)
flushed_few [] = omega arith
flushed_few (row ∷ rows) = let rest = flushed_few rows in grind (arith, rest)

pending_parts : (rows : List Row)
    → count_by is_pending rows ≡ length (filter (λ row. is_flushed row.place) rows) + length (unflushed rows)
pending_parts [] = refl
pending_parts (row ∷ rows) =
    let rest = pending_parts rows in
    let more = sum_by-cons one_if row rows in
    grind (arith, rest, more)

pub flushed_count : (settings : Settings) (commands : List Command) → length (flushed_after settings commands)
    ≡ length (filter (λ row. is_flushed row.place) (rows_after settings.estimate commands))
flushed_count settings commands = length-map (filter (λ row. is_flushed row.place) (rows_after settings.estimate commands)) unread_part

pub flushed_within : (settings : Settings) (commands : List Command)
    → length (flushed_after settings commands) ≤ length (line (rows_after settings.estimate commands))
flushed_within settings commands =
    omega (arith, flushed_count settings commands, flushed_few (rows_after settings.estimate commands))

pub pending_by_looks : (settings : Settings) (commands : List Command) (waiting size flushed : ℕ)
    → waiting ≡ waiting_count_after settings commands → size ≡ length (line (rows_after settings.estimate commands))
    → flushed ≡ length (flushed_after settings commands)
    → waiting - (size - flushed) ≡ (pending_after settings commands).messages
pending_by_looks settings commands waiting size flushed waits is_size is_flushed_count =
    omega (
      arith,
      waits,
      is_size,
      is_flushed_count,
      flushed_count settings commands,
      flushed_few (rows_after settings.estimate commands),
      pending_parts (rows_after settings.estimate commands),
    )

-- a row that no flush has reached and whose promise was not taken back, or any other
pub record Clean (row : Row) : Type 0 where
  pub waits : is_unflushed row.place ≡ true → is_taken_back row.promise ≡ false

clean_ages : (before after : List Row) → AllAge (Unit {0}) before after → AllByRecursion Clean before → AllByRecursion Clean after
clean_ages [] [] each all = tt
clean_ages [] (row ∷ after) each all = absurd each
clean_ages (was ∷ before) [] each all = tt
clean_ages (was ∷ before) (row ∷ after) each all = (
  record { waits = λ fresh. ap is_taken_back (each.0.promise tt fresh) ∙ all.0.waits (each.0.fresh tt fresh) },
  clean_ages before after each.1 all.1,
)

clean_flushed : (rows : List Row) → AllByRecursion Clean (map flushed_row rows)
clean_flushed [] = tt
clean_flushed (row ∷ rows) = (record { waits = grind arith }, clean_flushed rows)

-- without a cancellation since the last flush, all are so
clean_step : (estimate : Estimate) (commands : List Command) (command : Command)
    → (cancels_wait commands ≡ false → AllByRecursion Clean (rows_after estimate commands))
    → cancels_wait (commands ++ command ∷ []) ≡ false
    → AllByRecursion Clean (effect estimate (rows_after estimate commands) command)
clean_step estimate commands (Write message) before without =
    each_append Clean (rows_after estimate commands) (new_row estimate message ∷ [])
    (before (sym (cancels_step commands (Write message)) ∙ without)) (record { waits = λ fresh. refl }, tt)
clean_step estimate commands Flush before without = clean_flushed (rows_after estimate commands)
clean_step estimate commands (Cancel id) before without =
    let never : true ≡ false = sym (cancels_step commands (Cancel id)) ∙ without in absurd (cc)
clean_step estimate commands command before without =
    let rows = rows_after estimate commands in
    clean_ages rows (effect estimate rows command) (effect_ages (Unit {0}) estimate rows command (λ other. refl) refl)
    (before (sym (cancels_step commands command) ∙ without))

pub clean_after : (estimate : Estimate) (commands : List Command) → cancels_wait commands ≡ false
    → AllByRecursion Clean (rows_after estimate commands)
clean_after estimate commands without =
    by_events (λ commands. cancels_wait commands ≡ false → AllByRecursion Clean (rows_after estimate commands)) (λ without. tt)
    (λ earlier command before without. subst (AllByRecursion Clean) (sym (rows_more estimate earlier command))
    (clean_step estimate earlier command before without)) commands without

-- so a flush voids nothing then
clean_alike : (rows : List Row) → AllByRecursion Clean rows → AllAlike rows (map flushed_row rows)
clean_alike [] all = tt
clean_alike (row ∷ rows) all = (grind (arith, all.0.waits), clean_alike rows all.1)

flush_leaves : (settings : Settings) (commands : List Command) → cancels_wait commands ≡ false
    → pending_after settings (commands ++ Flush ∷ []) ≡ pending_after settings commands
flush_leaves settings commands without =
    alike_after settings commands Flush (clean_alike (rows_after settings.estimate commands) (clean_after settings.estimate commands without))

beyond_itself : (count other : Count) → other ≡ count → beyond count other ≡ none
beyond_itself count other same = ap (beyond count) same ∙ count_like (beyond count count) none (omega arith) (omega arith)

pub flush_plain : {E : Type 0} (old : Connected) (tally : Tally) (result : Result Flushed E) → tally.cancels ≡ false
    → Counts old tally Flush result tally
flush_plain old tally (Ok value) without = λ commands stands fits.
    let settings = old.unsent.settings in
    tally_like tally (tally_by settings commands Flush tally) (sym (plus_none tally.accepted)) (sym (plus_none tally.failed))
    (sym (ap (plus tally.cancelled) (beyond_itself _ _ (flush_leaves settings commands (sym fits.cancels ∙ without))) ∙ plus_none tally.cancelled))
    (omega (arith, fits.peak, fewer_bytes_after settings commands Flush refl)) (without ∙ sym (cancels_step commands Flush))
flush_plain old tally (Err refusal) without = refl

pub flush_counted : (old new : Connected) (result : Result Flushed Refusal) (tally after_it : Tally) (before after : Count)
    → Obeys old Flush flushed_reply result new → is_ok result ≡ true → ConnectionGives old pending_after before
    → ConnectionGives new pending_after after
    → after_it ≡ record tally { cancelled = plus tally.cancelled (beyond before after); cancels = false }
    → Counts old tally Flush result after_it
flush_counted old new (Ok value) tally after_it before after obeys went was now is = λ commands stands fits.
    let settings = old.unsent.settings in
    let later : after ≡ pending_after settings (commands ++ Flush ∷ []) =
    now _ (obeys.stands commands stands) ∙ ap (λ s. pending_after s (commands ++ Flush ∷ [])) obeys.settings in
    is ∙ tally_like _ (tally_by settings commands Flush tally) (sym (plus_none tally.accepted)) (sym (plus_none tally.failed))
    (ap (λ b. plus tally.cancelled (beyond b after)) (was commands stands)
    ∙ ap (λ a. plus tally.cancelled (beyond (pending_after settings commands) a)) later)
    (omega (arith, fits.peak, fewer_bytes_after settings commands Flush refl)) (sym (cancels_step commands Flush))
flush_counted old new (Err refusal) tally after_it before after obeys went was now is = absurd (cc)

pub cancel_counted : {A E : Type 0} (old : Connected) (id : ℕ) (result : Result A E) (tally : Tally) → is_ok result ≡ true
    → Counts old tally (Cancel (record { 0 = id })) result (record tally { cancels = true })
cancel_counted old id (Ok value) tally went = λ commands stands fits.
    let cancel = Cancel (record { 0 = id }) in
    let settings = old.unsent.settings in
    tally_like _ (tally_by settings commands cancel tally) (sym (plus_none tally.accepted)) (sym (plus_none tally.failed))
    (sym (plus_none tally.cancelled)) (omega (arith, fits.peak, fewer_bytes_after settings commands cancel refl))
    (sym (cancels_step commands cancel))
cancel_counted old id (Err refusal) tally went = absurd (cc)

-- what is lost in two steps is lost in one
lost_in_two : (sum first second third : Count) → second.messages ≤ first.messages → second.bytes ≤ first.bytes
    → third.messages ≤ second.messages → third.bytes ≤ second.bytes
    → plus sum (beyond first third) ≡ plus (plus sum (beyond first second)) (beyond second third)
lost_in_two sum first second third messages bytes more_messages more_bytes = count_like _ _ (omega arith) (omega arith)

pub gives_up_counted : (old new : Connected) (cause : Cause) (result : Result Taken Refusal) (tally after_it : Tally)
    (before after : Count) → IfOk result (λ taken. GivesUp old cause taken new)
    → is_ok result ≡ true → ConnectionGives old pending_after before → ConnectionGives new pending_after after
    → after_it ≡ record tally { failed = plus tally.failed (beyond before after) } → CountsGivingUp old tally cause result after_it
gives_up_counted old new cause (Ok taken) tally after_it before after gives went was now is = λ commands stands fits.
    let settings = old.unsent.settings in
    let up : GivesUp old cause taken new = gives in
    let fails = FailFlushed cause false in
    let between = commands ++ fails ∷ [] in
    let same = up.closes.settings ∙ up.fails.settings in
    let later : after ≡ pending_after settings (between ++ Close cause ∷ []) =
    now _ (up.closes.stands between (up.fails.stands commands stands)) ∙ ap (λ s. pending_after s (between ++ Close cause ∷ [])) same in
    let twice = tally_by settings between (Close cause) (tally_by settings commands fails tally) in
    is ∙ tally_like _ twice
    (sym (plus_none (plus tally.accepted none) ∙ plus_none tally.accepted))
    (ap (λ b. plus tally.failed (beyond b after)) (was commands stands)
    ∙ ap (λ a. plus tally.failed (beyond (pending_after settings commands) a)) later
    ∙ lost_in_two tally.failed (pending_after settings commands) (pending_after settings between)
    (pending_after settings (between ++ Close cause ∷ [])) (fewer_messages_after settings commands fails refl)
    (fewer_bytes_after settings commands fails refl) (fewer_messages_after settings between (Close cause) refl)
    (fewer_bytes_after settings between (Close cause) refl))
    (sym (plus_none (plus tally.cancelled none) ∙ plus_none tally.cancelled))
    (omega (arith, fits.peak, fewer_bytes_after settings commands fails refl, fewer_bytes_after settings between (Close cause) refl))
    (fits.cancels ∙ sym (cancels_step between (Close cause) ∙ cancels_step commands fails))
gives_up_counted old new cause (Err refusal) tally after_it before after gives went was now is = absurd (cc)
