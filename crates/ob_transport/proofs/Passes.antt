-- A pass sends what the sink took.
use Rattle.std.proofs.Common.{◌≡◌, ℕ, suc, ◌+◌, ◌-◌, ◌<◌, ◌≤◌, Bool, true, false, List, [], ◌∷◌, ◌++◌, length, map}
use Rattle.std.proofs.Common.{take, refl, sym, ap, ◌∙◌, subst, cond, eqb, leb, ltb, arith, append-nil, length-append}
use Rattle.std.specs.Prelude.{Option, Some, None, Result, Ok, Err, option_map}
use Rattle.std.specs.List.{concat}
use Rattle.std.proofs.Math.Seq.{take-append_seam}
use Rattle.std.proofs.lemmas.Bool.Decides.{nat_tests}
use Rattle.ob_types.specs.declared.command.Command.{Command}
use Rattle.ob_types.specs.declared.command.Command.TheVariants.{Remove, RemoveWith, RemoveBytes, Progress}
use Rattle.ob_types.specs.declared.message.Message.{Message}
use Rattle.ob_types.specs.declared.message.Message.TheVariants.{Block, Region, Other}
use Rattle.ob_types.specs.declared.refusal.Refusal.TheVariants.{Closed, TooFar, TooManyBytes}
use Rattle.ob_seq.specs.Answer.{are_accepted, first_refusal, refusal_of, refusal_of_progress}
use Rattle.ob_seq.specs.Effect.{block_bytes, blocks_in_front, byte_run, progressed_row, rows_after, with_front}
use Rattle.ob_seq.specs.Effect.{bytes_in}
use Rattle.ob_seq.specs.Rows.{front, is_in_line, line, Row, unread_part}
use Rattle.ob_seq.specs.Looks.{progress_of}
use Rattle.ob_seq.proofs.Inside.Gathered.{gathered_first, length_of_concat}
use Rattle.ob_history.specs.History.{history_after, is_full, accepted_commands, History, LacksPlaces}
use Rattle.ob_transport.specs.Pass.{GrowAlike, GrowAlikeBut, IsBooked, IsPass, Clears, SendsBytes, SendsUnits}
use Rattle.ob_transport.specs.Pass.{booked_units, ready, Standing, standing}
use Rattle.ob_transport.specs.Sent.{front_bytes, units_at, unread_bytes, bytes_sent_by, units_sent_by, current_in}
use Rattle.ob_transport.specs.Sent.{gathered_in, progress_in, rows_in, sent_bytes_in, sent_units_in, unread_in, Content}
use Rattle.ob_transport.specs.Sent.{with_more_bytes, with_more_units}
use Rattle.ob_transport.specs.declared.fault.Pass.{Pass}
use Rattle.ob_transport.specs.declared.fault.Pass.TheVariants.{Idle, Stalled, Cleared, Took}
use Rattle.ob_transport.specs.declared.fault.PassFault.{PassFault}
use Rattle.ob_transport.specs.declared.fault.PassFault.TheVariants.{Sink, HistoryFull, NoMemory, Unbooked}
use Rattle.ob_transport.specs.declared.limits.Limits.{Limits}
use Rattle.ob_transport.proofs.Assured.{first_has_place}
use Rattle.ob_transport.proofs.Open.{open_with_front, region_within, rows_more}
use Rattle.ob_transport.proofs.Sent.{bytes_sent, no_bytes_sent, no_units_sent, one_more, units_sent}

-- the row of what stands in front
pub record FrontRow (rows : List Row) (message : Message) : Type 0 where
  pub row : Row
  pub is : front rows ≡ Some row
  pub part : unread_part row ≡ message

front_row : (rows : List Row) (message : Message) → option_map unread_part (front rows) ≡ Some message →
    FrontRow rows message
front_row rows message is = by_front (front rows) refl is
  where
    by_front : (found : Option Row) → front rows ≡ found → option_map unread_part found ≡ Some message →
        FrontRow rows message
    by_front None at is = absurd (cc)
    by_front (Some row) at is = record { row = row; is = at; part = cc }

-- the front of rows with its progress raised
front_progressed : (n : ℕ) (rows : List Row) →
    front (with_front (progressed_row n) rows) ≡ option_map (progressed_row n) (front rows)
front_progressed n [] = refl
front_progressed n (row ∷ rows) = by_line (is_in_line row) refl (front_progressed n rows)
  where
    by_line : (here : Bool) → is_in_line row ≡ here →
        front (with_front (progressed_row n) rows) ≡ option_map (progressed_row n) (front rows) →
        front (cond here (progressed_row n row ∷ rows) (row ∷ with_front (progressed_row n) rows))
        ≡ option_map (progressed_row n) (cond here (Some row) (front rows))
    by_line true is rest = ap (λ here. cond here (Some (progressed_row n row)) (front rows)) is
    by_line false is rest = ap (λ here. cond here (Some row) (front (with_front (progressed_row n) rows))) is ∙ rest

-- with this result what is taken is sent, but for bytes that are reported as unbooked
abbrev Grows : Standing → Result Pass PassFault → Standing → Type 0
Grows before (Ok pass) after = GrowAlike before after
Grows before (Err (Sink fault)) after = GrowAlike before after
Grows before (Err HistoryFull) after = GrowAlike before after
Grows before (Err NoMemory) after = GrowAlike before after
Grows before (Err (Unbooked taken)) after = GrowAlikeBut taken before after

-- so if no bytes are unbooked, both grow alike
pub alike_of : {before after : Standing} (result : Result Pass PassFault) → Grows before result after →
    IsBooked result → GrowAlike before after
alike_of (Ok pass) grows booked = grows
alike_of (Err (Sink fault)) grows booked = grows
alike_of (Err HistoryFull) grows booked = grows
alike_of (Err NoMemory) grows booked = grows
alike_of (Err (Unbooked taken)) grows booked = absurd (booked taken refl)

module _ (before : Standing) where
  -- if neither grows, both grow alike
  alike_still : (after : Standing) → after.sink.bytes ≡ before.sink.bytes → after.sink.units ≡ before.sink.units →
      sent_bytes_in after.history ≡ sent_bytes_in before.history →
      sent_units_in after.history ≡ sent_units_in before.history → GrowAlike before after
  alike_still after bytes units sent_bytes sent_units = record {
    bytes = (
      [],
      bytes ∙ sym (append-nil before.sink.bytes),
      sent_bytes
          ∙ sym (append-nil (sent_bytes_in before.history)),
    );
    units = (0, omega (arith, units), omega (arith, sent_units));
  }

  pub alike_same : GrowAlike before before
  alike_same = alike_still before refl refl refl refl

  stays : (after : Standing) → after ≡ before → GrowAlike before after
  stays after is = subst (GrowAlike before) (sym is) alike_same

  module _ (caller : ℕ) where
    -- a command that sends nothing
    clears_grow : (command : Command) → bytes_sent_by (rows_in before.history) command ≡ [] →
        units_sent_by (rows_in before.history) command ≡ 0 →
        (result : Result Pass PassFault) (after : Standing) → Clears caller command before result after →
        Grows before result after
    clears_grow command bytes units (Ok Idle) after clears = absurd clears
    clears_grow command bytes units (Ok Stalled) after clears = absurd clears
    clears_grow command bytes units (Ok (Took n)) after clears = absurd clears
    clears_grow command bytes units (Ok Cleared) after clears =
        subst (GrowAlike before) (sym clears.1)
        (alike_still (record before { history = history_after before.history caller command }) refl refl
        (no_bytes_sent before.history caller command bytes) (no_units_sent before.history caller command units))
    clears_grow command bytes units (Err (Sink fault)) after clears = absurd clears
    clears_grow command bytes units (Err HistoryFull) after clears = stays after clears.1
    clears_grow command bytes units (Err NoMemory) after clears = stays after clears.2
    clears_grow command bytes units (Err (Unbooked taken)) after clears = absurd clears

    module _ (all : are_accepted before.history.settings [] (accepted_commands before.history.records) ≡ true)
      where
        -- with something in front a command is refused for itself alone
        accepted_there : (row : Row) → front (rows_in before.history) ≡ Some row → (command : Command) →
            refusal_of before.history.settings.estimate (rows_in before.history) command ≡ None →
            first_refusal before.history.settings.estimate (accepted_commands before.history.records) command ≡ None
        accepted_there row is command fits =
            let commands = accepted_commands before.history.records in
            ap (λ closed. cond closed (Some Closed) (refusal_of before.history.settings.estimate
            (rows_in before.history) command))
            (open_with_front before.history.settings commands all row is) ∙ fits

        removal_fits : (n : ℕ) → n ≤ length (unread_in before.history) →
            refusal_of before.history.settings.estimate (rows_in before.history) (RemoveBytes n) ≡ None
        removal_fits n within = ap (λ many. cond many (Some TooManyBytes) None)
            (few (bytes_in (byte_run (rows_in before.history))) (length (unread_in before.history)) n within
            (length_of_concat (byte_run (rows_in before.history))))
          where
            few : (bytes unread n : ℕ) → n ≤ unread → unread ≡ bytes → ltb bytes n ≡ false
            few bytes unread n within same = grind (arith, nat_tests)

        module _ (row : Row) (is : front (rows_in before.history) ≡ Some row) (offered : List ℕ)
            (first : (n : ℕ) → n ≤ length offered →
            (take n offered ≡ take n (unread_in before.history)) × (n ≤ length (unread_in before.history))) where
          -- offered bytes that were taken are sent by their removal, and if memory ran out for that, they are the
          -- first unread ones
          sends_bytes_grow : (result : Result Pass PassFault) (after : Standing) →
              SendsBytes caller offered before result after → Grows before result after
          sends_bytes_grow (Ok Idle) after sends = absurd sends
          sends_bytes_grow (Ok Stalled) after sends =
              subst (GrowAlike before) (sym sends.left)
              (alike_still (record before { history = ready before }) refl refl refl refl)
          sends_bytes_grow (Ok (Took n)) after sends =
              let these = first n sends.1 in
              let place = first_has_place before.history caller sends.2.places in
              subst (GrowAlike before) (sym sends.2.left) (record {
                bytes = (
                  take n offered,
                  refl,
                  bytes_sent (ready before) caller (RemoveBytes n) place
                      (accepted_there row is (RemoveBytes n) (removal_fits n these.1))
                      ∙ ap (λ bytes. sent_bytes_in before.history ++ bytes) (sym these.0),
                );
                units = (0, omega arith, no_units_sent (ready before) caller (RemoveBytes n) refl ∙ omega arith);
              })
          sends_bytes_grow (Ok Cleared) after sends = absurd sends
          sends_bytes_grow (Err (Sink fault)) after sends =
              subst (GrowAlike before) (sym sends.left) (alike_still _ refl refl refl refl)
          sends_bytes_grow (Err HistoryFull) after sends = stays after sends.1
          sends_bytes_grow (Err NoMemory) after sends = stays after sends
          sends_bytes_grow (Err (Unbooked taken)) after sends =
              let these = first taken sends.1 in
              subst (GrowAlikeBut taken before) (sym sends.3.left) (record {
                unread = these.1;
                booked = before.sink;
                alike = alike_still (record before { history = ready before }) refl refl refl refl;
                taken_last = ap (λ bytes. with_more_bytes bytes before.sink) these.0;
              })

        module _ (length : ℕ) (there : FrontRow (rows_in before.history) (Region length))
            (less : progress_in before.history < length) where
          region_bytes : front_bytes (front (rows_in before.history)) ≡ []
          region_bytes = ap front_bytes there.is ∙ ap block_bytes there.part

          region_units : (n : ℕ) → units_sent_by (rows_in before.history) (Progress n) ≡ n
          region_units n = ap (λ found. units_at n (option_map unread_part found)) there.is
              ∙ ap (λ message. units_at n (Some message)) there.part

          progress_fits : (n : ℕ) → n ≤ length - progress_in before.history →
              refusal_of before.history.settings.estimate (rows_in before.history) (Progress n) ≡ None
          progress_fits n within =
              let row = there.row in
              ap (λ found. refusal_of_progress found n) there.is
              ∙ ap (λ (far : Bool). cond far (Some TooFar) None)
              (near row.progress (progress_in before.history) n length (ap progress_of there.is) within less
              (region_within before.history.settings
              (accepted_commands before.history.records) all row length there.is there.part))
            where
              near : (own progress n length : ℕ) → progress ≡ own → n ≤ length - progress → progress < length →
                  length ≤ 9223372036854775807 →
                  ltb 9223372036854775807 (own + n) ≡ false
              near own progress n length same within less short = grind (arith, nat_tests)

          module _ (n : ℕ) (within : n ≤ length - progress_in before.history)
              (places : ¬ LacksPlaces before.history 2) where
            -- the history with their progress
            abbrev progressed : History
            progressed = history_after (ready before) caller (Progress n)

            accepted : first_refusal before.history.settings.estimate (accepted_commands before.history.records)
                (Progress n) ≡ None
            accepted = accepted_there there.row there.is (Progress n) (progress_fits n within)

            -- after its progress the region still stands in front
            still_there : front_bytes (front (rows_in progressed)) ≡ []
            still_there =
                let place = first_has_place before.history caller places in
                let commands = accepted_commands before.history.records in
                one_more (ready before) caller (Progress n) place accepted
                (λ settings commands. front_bytes (front (rows_after settings.estimate commands)))
                ∙ ap (λ rows. front_bytes (front rows))
                (rows_more before.history.settings.estimate commands (Progress n))
                ∙ ap front_bytes (front_progressed n (rows_in before.history))
                ∙ ap (λ found. front_bytes (option_map (progressed_row n) found)) there.is
                ∙ ap block_bytes there.part

            first_bytes : sent_bytes_in progressed ≡ sent_bytes_in before.history
            first_bytes = no_bytes_sent (ready before) caller (Progress n) refl

            first_units : sent_units_in progressed ≡ sent_units_in before.history + n
            first_units =
                units_sent (ready before) caller (Progress n) (first_has_place before.history caller places) accepted
                ∙ ap (λ units. sent_units_in before.history + units) (region_units n)

            -- and the removal with its last unit sends nothing more
            booked_bytes : (whole : Bool) →
                sent_bytes_in (cond whole (history_after progressed caller Remove) progressed)
                ≡ sent_bytes_in before.history
            booked_bytes true = no_bytes_sent progressed caller Remove still_there ∙ first_bytes
            booked_bytes false = first_bytes

            booked_sent : (whole : Bool) →
                sent_units_in (cond whole (history_after progressed caller Remove) progressed)
                ≡ sent_units_in before.history + n
            booked_sent true = no_units_sent progressed caller Remove refl ∙ first_units
            booked_sent false = first_units

            units_alike : GrowAlike before (record {
              history = booked_units caller (length - progress_in before.history) n (ready before);
              sink = with_more_units n before.sink;
            })
            units_alike =
                let whole = eqb n (length - progress_in before.history) in
                record {
                  bytes = (
                    [],
                    sym (append-nil before.sink.bytes),
                    booked_bytes whole ∙ sym (append-nil (sent_bytes_in before.history)),
                  );
                  units = (n, refl, booked_sent whole);
                }

          -- offered units that were taken are sent by their progress
          sends_units_grow : (result : Result Pass PassFault) (after : Standing) →
              SendsUnits caller (length - progress_in before.history) before result after →
              Grows before result after
          sends_units_grow (Ok Idle) after sends = absurd sends
          sends_units_grow (Ok Stalled) after sends =
              subst (GrowAlike before) (sym sends.left)
              (alike_still (record before { history = ready before }) refl refl refl refl)
          sends_units_grow (Ok (Took n)) after sends =
              subst (GrowAlike before) (sym sends.2.left)
              (units_alike n sends.1 sends.2.places)
          sends_units_grow (Ok Cleared) after sends = absurd sends
          sends_units_grow (Err (Sink fault)) after sends =
              subst (GrowAlike before) (sym sends.left) (alike_still _ refl refl refl refl)
          sends_units_grow (Err HistoryFull) after sends = stays after sends.1
          sends_units_grow (Err NoMemory) after sends = stays after sends.1.left
          sends_units_grow (Err (Unbooked taken)) after sends = absurd sends

        region_cleared : (length : ℕ) → FrontRow (rows_in before.history) (Region length) →
            bytes_sent_by (rows_in before.history) Remove ≡ []
        region_cleared length there = ap front_bytes there.is ∙ ap block_bytes there.part

  module _ (limits : Limits) (caller : ℕ) (all : are_accepted before.history.settings []
      (accepted_commands before.history.records) ≡ true) where
    -- what a pass takes is sent, by what stands in front
    pub pass_grows : (result : Result Pass PassFault) (after : Standing) → IsPass limits caller before result after →
        Grows before result after
    pass_grows result after pass = by_message (current_in before.history) refl
      where
        by_gathered : (bytes : List ℕ) → current_in before.history ≡ Some (Block bytes) → (blocks : List (List ℕ)) →
            gathered_in limits before.history ≡ blocks →
            Grows before result after
        by_gathered bytes is [] none = clears_grow caller (RemoveBytes 0) refl refl result after
            (pass.no_bytes bytes is none)
        by_gathered bytes is (block ∷ blocks) some =
            let there = front_row (rows_in before.history) (Block bytes) is in
            sends_bytes_grow caller all there.row there.is (concat (gathered_in limits before.history))
            (gathered_first limits.max_count limits.max_bytes (byte_run (rows_in before.history))) result after
            (pass.bytes bytes is (λ none. absurd (cc)))

        by_rest : (length : ℕ) → current_in before.history ≡ Some (Region length) → (done : Bool) →
            leb length (progress_in before.history) ≡ done →
            Grows before result after
        by_rest length is true done =
            clears_grow caller Remove (region_cleared caller all length
            (front_row (rows_in before.history) (Region length) is)) refl result after
            (pass.no_units length is (grind (arith, nat_tests)))
        by_rest length is false done =
            let less = more length (progress_in before.history) done in
            sends_units_grow caller all length (front_row (rows_in before.history) (Region length) is) less result
            after (pass.units length is less)
          where
            more : (length progress : ℕ) → leb length progress ≡ false → progress < length
            more length progress done = grind (arith, nat_tests)

        by_message : (message : Option Message) → current_in before.history ≡ message → Grows before result after
        by_message None is =
            subst (λ result. Grows before result after) (sym (pass.idle is).0) (stays after (pass.idle is).1)
        by_message (Some (Block bytes)) is = by_gathered bytes is (gathered_in limits before.history) refl
        by_message (Some (Region length)) is = by_rest length is (leb length (progress_in before.history)) refl
        by_message (Some (Other value)) is = clears_grow caller (RemoveWith (record { 0 = 1 })) refl refl result after
            (pass.other value is)

-- with nothing in front no byte is unread
none_in_line : (rows : List Row) → front rows ≡ None → line rows ≡ []
none_in_line [] none = refl
none_in_line (row ∷ rows) none = by_line (is_in_line row) none (none_in_line rows)
  where
    by_line : (here : Bool) → cond here (Some row) (front rows) ≡ None → (front rows ≡ None → line rows ≡ []) →
        cond here (row ∷ line rows) (line rows) ≡ []
    by_line true none rest = absurd (cc)
    by_line false none rest = rest none

none_unread : (rows : List Row) → front rows ≡ None → length (unread_bytes rows) ≡ 0
none_unread rows none = ap (λ rows. length (concat (blocks_in_front (map unread_part rows)))) (none_in_line rows none)

module _ (history : History) (caller : ℕ)
    (all : are_accepted history.settings [] (accepted_commands history.records) ≡ true)
    (place : is_full history ≡ false) where
  -- a removal of bytes with which the line begins sends them
  pub removal_sends : (bytes rest : List ℕ) → unread_in history ≡ bytes ++ rest →
      sent_bytes_in (history_after history caller (RemoveBytes (length bytes))) ≡ sent_bytes_in history ++ bytes
  removal_sends [] rest begins = no_bytes_sent history caller (RemoveBytes 0) refl
      ∙ sym (append-nil (sent_bytes_in history))
  removal_sends (byte ∷ bytes) rest begins = by_front (front (rows_in history)) refl
    where
      these : List ℕ
      these = byte ∷ bytes

      by_front : (found : Option Row) → front (rows_in history) ≡ found →
          sent_bytes_in (history_after history caller (RemoveBytes (length (byte ∷ bytes)))) ≡ sent_bytes_in history
          ++ (byte ∷ bytes)
      by_front None none = absurd (some (length bytes) (length rest) (none_unread (rows_in history) none)
          (ap (λ bytes. length bytes) begins ∙ length-append (byte ∷ bytes) rest))
        where
          some : {n : ℕ} (m k : ℕ) → n ≡ 0 → n ≡ suc m + k → ⊥
          some m k none is = omega (arith, none, is)
      by_front (Some row) is =
          let content : Content = record { bytes = []; units = 0; failures = 0 } in
          let n = length (byte ∷ bytes) in
          let enough : n ≤ length (unread_in history) = omega
          (arith, ap (λ bytes. length bytes) begins, length-append (byte ∷ bytes) rest) in
          bytes_sent history caller (RemoveBytes n) place
          (accepted_there (standing history content) caller all row is (RemoveBytes n)
          (removal_fits (standing history content) caller all n enough))
          ∙ ap (λ sent. sent_bytes_in history ++ sent) (ap (take n) begins ∙ take-append_seam (byte ∷ bytes) rest)
