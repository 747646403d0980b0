-- What one more call sends, and what a legal history sends, record by record.
use Rattle.std.proofs.Common.{◌≡◌, ℕ, ◌+◌, Bool, true, false, List, [], ◌∷◌, ◌++◌, refl, ap, ◌∙◌, cond, arith}
use Rattle.std.proofs.Common.{append-nil, length, take, sym, subst, append_assoc}
use Rattle.std.proofs.lemmas.Grind.{flat_map-append}
use Rattle.std.proofs.lemmas.List.Sums.{sum_by-append, sum_by-cons}
use Rattle.std.proofs.Math.Seq.{take-append_seam}
use Rattle.std.specs.Prelude.{Option, None, fold, is_ok, sum_by, Some, slice_get}
use Rattle.std.specs.List.{flat_map}
use Rattle.ob_types.specs.declared.command.Command.{Command}
use Rattle.ob_types.specs.declared.estimate.Estimate.{Estimate}
use Rattle.ob_types.specs.declared.refusal.Refusal.{Refusal}
use Rattle.ob_seq.specs.Answer.{answer_to, commands_after, first_refusal, reply_of, unless_refused}
use Rattle.ob_seq.specs.Effect.{effect, rows_after}
use Rattle.ob_seq.specs.Rows.{Row, Settings}
use Rattle.ob_history.specs.History.{history_after, is_full, next_record, with_record, accepted_commands, History}
use Rattle.ob_history.specs.History.{IsLegal}
use Rattle.ob_history.proofs.Histories.{accepted_with_next, accepted_with_one}
use Rattle.ob_history.specs.declared.record.Record.{Record}
use Rattle.ob_transport.specs.Sent.{bytes_sent_by, sent_bytes, sent_units, units_sent_by, Occasion, occasions_from}
use Rattle.ob_transport.specs.Sent.{Sent, nothing, sent_by, sent_in}

abbrev pub bytes_at : Occasion → List ℕ
bytes_at occasion = bytes_sent_by occasion.rows occasion.command

abbrev pub units_at : Occasion → ℕ
units_at occasion = units_sent_by occasion.rows occasion.command

-- the occasion of one more command comes after the others
occasions_more : (estimate : Estimate) (rows : List Row) (commands : List Command) (command : Command) →
    occasions_from estimate rows (commands ++ command ∷ [])
    ≡ occasions_from estimate rows commands
    ++ record { rows = fold (effect estimate) rows commands; command = command } ∷ []
occasions_more estimate rows [] command = refl
occasions_more estimate rows (first ∷ commands) command =
    ap (λ more. record { rows = rows; command = first } ∷ more)
    (occasions_more estimate (effect estimate rows first) commands command)

module _ (settings : Settings) where
  -- what accepted commands send
  abbrev pub bytes_of : List Command → List ℕ
  bytes_of commands = flat_map bytes_at (occasions_from settings.estimate [] commands)

  abbrev pub units_of : List Command → ℕ
  units_of commands = sum_by units_at (occasions_from settings.estimate [] commands)

  pub bytes_more : (commands : List Command) (command : Command) →
      bytes_of (commands ++ command ∷ []) ≡ bytes_of commands
      ++ bytes_sent_by (rows_after settings.estimate commands) command
  bytes_more commands command =
      let one : Occasion = record { rows = rows_after settings.estimate commands; command = command } in
      ap (flat_map bytes_at) (occasions_more settings.estimate [] commands command)
      ∙ flat_map-append bytes_at (occasions_from settings.estimate [] commands) (one ∷ [])
      ∙ ap (λ more. bytes_of commands ++ more) (append-nil (bytes_at one))

  pub units_more : (commands : List Command) (command : Command) →
      units_of (commands ++ command ∷ [])
      ≡ units_of commands + units_sent_by (rows_after settings.estimate commands) command
  units_more commands command =
      let one : Occasion = record { rows = rows_after settings.estimate commands; command = command } in
      ap (sum_by units_at) (occasions_more settings.estimate [] commands command)
      ∙ sum_by-append units_at (occasions_from settings.estimate [] commands) (one ∷ [])
      ∙ ap (λ more. units_of commands + more) (sum_by-cons units_at one [] ∙ omega arith)

  -- an accepted command comes after the others
  accepted_behind : (commands : List Command) (command : Command) →
      first_refusal settings.estimate commands command ≡ None →
      commands_after settings commands command ≡ commands ++ command ∷ []
  accepted_behind commands command accepted =
      ap (λ (refusal : Option Refusal). cond (is_ok (unless_refused refusal (reply_of settings commands command)))
      (commands ++ command ∷ []) commands) accepted

module _ (history : History) (caller : ℕ) (command : Command) where
  -- the accepted commands once one more is recorded
  recorded : accepted_commands (with_record history (next_record history caller command)).records
      ≡ commands_after history.settings (accepted_commands history.records) command
  recorded = accepted_with_next history.settings history.records (next_record history caller command) refl

  module _ {A : Type 0} (of : Settings → List Command → A) where
    -- what no accepted command more would change stays as it was, whatever becomes of the call
    stays_along : of history.settings (accepted_commands history.records ++ command ∷ [])
        ≡ of history.settings (accepted_commands history.records) →
        of (history_after history caller command).settings
        (accepted_commands (history_after history caller command).records)
        ≡ of history.settings (accepted_commands history.records)
    stays_along same = by_place (is_full history)
      where
        by_answer : (accepted : Bool) →
            of history.settings (cond accepted (accepted_commands history.records ++ command ∷ [])
            (accepted_commands history.records)) ≡ of history.settings (accepted_commands history.records)
        by_answer true = same
        by_answer false = refl

        by_place : (full : Bool) →
            (let after = cond full history (with_record history (next_record history caller command)) in
            of after.settings (accepted_commands after.records)
            ≡ of history.settings (accepted_commands history.records))
        by_place true = refl
        by_place false =
            ap (of history.settings) recorded
            ∙ by_answer (is_ok (answer_to history.settings (accepted_commands history.records) command))

  -- if the command sends no bytes, the history sends no more of them
  pub no_bytes_sent : bytes_sent_by (rows_after history.settings.estimate (accepted_commands history.records)) command
      ≡ [] →
      sent_bytes (history_after history caller command).settings (history_after history caller command).records
      ≡ sent_bytes history.settings history.records
  no_bytes_sent none =
      let commands = accepted_commands history.records in
      stays_along bytes_of (bytes_more history.settings commands command
      ∙ ap (λ more. bytes_of history.settings commands ++ more) none
      ∙ append-nil (bytes_of history.settings commands))

  pub no_units_sent : units_sent_by (rows_after history.settings.estimate (accepted_commands history.records)) command
      ≡ 0 →
      sent_units (history_after history caller command).settings (history_after history caller command).records
      ≡ sent_units history.settings history.records
  no_units_sent none =
      let commands = accepted_commands history.records in
      stays_along units_of (units_more history.settings commands command
      ∙ ap (λ more. units_of history.settings commands + more) none ∙ omega arith)

  module _ (place : is_full history ≡ false)
      (accepted : first_refusal history.settings.estimate (accepted_commands history.records) command ≡ None) where
    -- a recorded and accepted command comes after the others
    accepted_commands_after : accepted_commands (history_after history caller command).records
        ≡ accepted_commands history.records ++ command ∷ []
    accepted_commands_after =
        ap (λ full. accepted_commands (cond full history
        (with_record history (next_record history caller command))).records) place
        ∙ recorded ∙ accepted_behind history.settings (accepted_commands history.records) command accepted

    settings_after : (history_after history caller command).settings ≡ history.settings
    settings_after = ap (λ full. (cond full history
        (with_record history (next_record history caller command))).settings) place

    -- so what is said of a history is said of them
    pub one_more : {A : Type 0} (of : Settings → List Command → A) →
        of (history_after history caller command).settings
        (accepted_commands (history_after history caller command).records)
        ≡ of history.settings (accepted_commands history.records ++ command ∷ [])
    one_more of =
        ap (λ settings. of settings (accepted_commands (history_after history caller command).records)) settings_after
        ∙ ap (of history.settings) accepted_commands_after

    -- and it sends what it sends
    pub bytes_sent : sent_bytes (history_after history caller command).settings
        (history_after history caller command).records
        ≡ sent_bytes history.settings history.records
        ++ bytes_sent_by (rows_after history.settings.estimate (accepted_commands history.records)) command
    bytes_sent = one_more bytes_of ∙ bytes_more history.settings (accepted_commands history.records) command

    pub units_sent : sent_units (history_after history caller command).settings
        (history_after history caller command).records
        ≡ sent_units history.settings history.records + units_sent_by
        (rows_after history.settings.estimate (accepted_commands history.records)) command
    units_sent = one_more units_of ∙ units_more history.settings (accepted_commands history.records) command

-- what stands behind others is found at their number
pub at_seam : {X : Type 0} (before : List X) (one : X) (rest : List X) →
    slice_get (before ++ one ∷ rest) (length before) ≡ Some one
at_seam [] one rest = refl
at_seam (first ∷ before) one rest = at_seam before one rest

module _ (settings : Settings) where
  abbrev Grows : {A : Type 0} → (A → A → A) → (Sent → A) → (List Record → A) → List Record → Record → Type 0
  Grows plus part of before one =
      of (before ++ one ∷ []) ≡ plus (of before)
      (part (cond (is_ok one.reply)
      (sent_by (rows_after settings.estimate (accepted_commands before)) one.command) nothing))

  bytes_grow : (before : List Record) (one : Record) →
      Grows (λ bytes more. bytes ++ more) (λ sent. sent.bytes) (sent_bytes settings) before one
  bytes_grow before one = ap (bytes_of settings) (accepted_with_one before one) ∙ by_reply (is_ok one.reply)
    where
      by_reply : (ok : Bool) →
          bytes_of settings (cond ok (accepted_commands before ++ one.command ∷ []) (accepted_commands before))
          ≡ bytes_of settings (accepted_commands before)
          ++ (cond ok (sent_by (rows_after settings.estimate (accepted_commands before)) one.command) nothing).bytes
      by_reply true = bytes_more settings (accepted_commands before) one.command
      by_reply false = sym (append-nil (bytes_of settings (accepted_commands before)))

  units_grow : (before : List Record) (one : Record) →
      Grows (λ units more. units + more) (λ sent. sent.units) (sent_units settings) before one
  units_grow before one = ap (units_of settings) (accepted_with_one before one) ∙ by_reply (is_ok one.reply)
    where
      by_reply : (ok : Bool) →
          units_of settings (cond ok (accepted_commands before ++ one.command ∷ []) (accepted_commands before))
          ≡ units_of settings (accepted_commands before)
          + (cond ok (sent_by (rows_after settings.estimate (accepted_commands before)) one.command) nothing).units
      by_reply true = units_more settings (accepted_commands before) one.command
      by_reply false = omega arith

  module _ (records : List Record) (legal : IsLegal settings records) where
    -- before a record of a legal history stand those before its place
    before_place : (before : List Record) (one : Record) (rest : List Record) → before ++ one ∷ rest ≡ records →
        take one.place records ≡ before
    before_place before one rest split =
        let there = subst (λ (all : List Record). slice_get all (length before) ≡ Some one) split
        (at_seam before one rest) in
        ap (λ n. take n records) (legal (length before) one there).place
        ∙ subst (λ (all : List Record). take (length before) all ≡ before) split
        (take-append_seam before (one ∷ rest))

    -- what grows with each record by what it sends is what the records send together
    module _ {A : Type 0} (plus : A → A → A) (part : Sent → A) (whole parts : List Record → A)
        (grows : (before : List Record) (one : Record) → Grows plus part whole before one)
        (adds : (before : List Record) (one : Record) →
        parts (before ++ one ∷ []) ≡ plus (parts before) (part (sent_in settings records one))) where
      along : (before rest : List Record) → before ++ rest ≡ records → whole before ≡ parts before →
          whole records ≡ parts records
      along before [] split same =
          let all : before ≡ records = sym (append-nil before) ∙ split in
          sym (ap whole all) ∙ same ∙ ap parts all
      along before (one ∷ rest) split same =
          let by_rows : List Record → A =
          λ earlier. part (cond (is_ok one.reply)
          (sent_by (rows_after settings.estimate (accepted_commands earlier)) one.command) nothing) in
          along (before ++ one ∷ []) rest (append_assoc before (one ∷ []) rest ∙ split)
          (grows before one
          ∙ ap (λ earlier. plus (whole before) (by_rows earlier)) (sym (before_place before one rest split))
          ∙ ap (λ sum. plus sum (part (sent_in settings records one))) same ∙ sym (adds before one))

    pub bytes_by_records : sent_bytes settings records
        ≡ flat_map (λ one. (sent_in settings records one).bytes) records
    bytes_by_records =
        along (λ bytes more. bytes ++ more) (λ sent. sent.bytes) (sent_bytes settings)
        (flat_map (λ one. (sent_in settings records one).bytes)) bytes_grow
        (λ before one. flat_map-append (λ (its : Record). (sent_in settings records its).bytes) before (one ∷ [])
        ∙ ap (λ more. flat_map (λ (its : Record). (sent_in settings records its).bytes) before ++ more)
        (append-nil (sent_in settings records one).bytes)) [] records refl refl

    pub units_by_records : sent_units settings records
        ≡ sum_by (λ one. (sent_in settings records one).units) records
    units_by_records =
        along (λ units more. units + more) (λ sent. sent.units) (sent_units settings)
        (sum_by (λ one. (sent_in settings records one).units)) units_grow
        (λ before one. sum_by-append (λ (its : Record). (sent_in settings records its).units) before (one ∷ [])
        ∙ ap (λ more. sum_by (λ (its : Record). (sent_in settings records its).units) before + more)
        (sum_by-cons (λ (its : Record). (sent_in settings records its).units) one [] ∙ omega arith)) [] records refl refl
