-- One more record at the end of a history, and that its settlements are what its commands settle, given one after
-- another.
use Rattle.std.proofs.Common.{◌≡◌, ℕ, zero, suc, ◌<◌, Bool, true, false, List, [], ◌∷◌, ◌++◌, ◌⊎◌, inl, inr, length}
use Rattle.std.proofs.Common.{take, refl, sym, ap, ◌∙◌, cond, append-nil, arith, append_assoc, subst}
use Rattle.std.proofs.lemmas.List.{map-append}
use Rattle.std.proofs.lemmas.List.Elements.{filter-append}
use Rattle.std.proofs.Math.Seq.{take-append_seam}
use Rattle.std.specs.Prelude.{Some, Result, is_ok, slice_get, slice_index_or, filter, map}
use Rattle.ob_types.specs.declared.command.Command.{Command}
use Rattle.ob_types.specs.declared.refusal.Refusal.{Refusal}
use Rattle.ob_types.specs.declared.reply.Reply.{Reply}
use Rattle.ob_seq.specs.Rows.{Settings}
use Rattle.ob_seq.specs.Answer.{answer_to, commands_after}
use Rattle.ob_seq.specs.Pending.{settled_along, settled_by}
use Rattle.ob_history.specs.History.{accepted_commands, is_accepted, History, IsLegal, settlements_in}
use Rattle.ob_history.specs.declared.record.Record.{Record}

-- what stands at an index of a list with one more: what stood there before, or the new one at the end
pub record IsOld (records : List Record) (one : Record) (index : ℕ) (found : Record) : Type 0 where
  pub there : slice_get records index ≡ Some found
  pub before : take index (records ++ one ∷ []) ≡ take index records

pub record IsNew (records : List Record) (one : Record) (index : ℕ) (found : Record) : Type 0 where
  pub last : index ≡ length records
  pub same : one ≡ found
  pub before : take index (records ++ one ∷ []) ≡ records

old_or_new : (records : List Record) (one : Record) (index : ℕ) (found : Record) →
    slice_get (records ++ one ∷ []) index ≡ Some found →
    IsOld records one index found ⊎ IsNew records one index found
old_or_new [] one zero found is = inr (record { last = refl; same = cc; before = refl })
old_or_new [] one (suc index) found is = absurd (cc)
old_or_new (first ∷ records) one zero found is = inl (record { there = is; before = refl })
old_or_new (first ∷ records) one (suc index) found is =
    elim (old_or_new records one index found is) [
      | inl old ↦ inl (record { there = old.there; before = ap (λ rest. first ∷ rest) old.before })
      | inr new ↦ inr (record {
        last = ap suc new.last;
        same = new.same;
        before = ap (λ rest. first ∷ rest) new.before;
      })
    ]

-- a legal history stays legal with a record that stands rightly at its end
pub legal_with_next : (settings : Settings) (records : List Record) (one : Record) →
    IsLegal settings records → one.place ≡ length records →
    one.reply ≡ answer_to settings (accepted_commands records) one.command → IsLegal settings (records ++ one ∷ [])
legal_with_next settings records one legal place reply index found is =
    elim (old_or_new records one index found is) [
      | inl old ↦ record {
        place = (legal index found old.there).place;
        reply = (legal index found old.there).reply
            ∙ ap (λ before. answer_to settings (accepted_commands before) found.command) (sym old.before);
      }
      | inr new ↦ record {
        place = ap (λ (other : Record). other.place) (sym new.same) ∙ place ∙ sym new.last;
        reply = ap (λ (other : Record). other.reply) (sym new.same) ∙ reply
            ∙ ap (λ before. answer_to settings (accepted_commands before) one.command) (sym new.before)
            ∙ ap (λ (other : Record). answer_to settings
            (accepted_commands (take index (records ++ one ∷ []))) other.command) new.same;
      }
    ]

-- what a record asked
abbrev pub command_of : Record → Command
command_of one = one.command

-- one more record adds its command to the accepted ones, if it was accepted
pub accepted_with_one : (records : List Record) (one : Record) →
    accepted_commands (records ++ one ∷ []) ≡ cond (is_ok one.reply) (accepted_commands records ++ one.command ∷ [])
    (accepted_commands records)
accepted_with_one records one =
    ap (map command_of) (filter-append is_accepted records (one ∷ []))
    ∙ map-append command_of (filter is_accepted records) (filter is_accepted (one ∷ []))
    ∙ by_reply (is_ok one.reply)
  where
    by_reply : (accepted : Bool) →
        accepted_commands records ++ map command_of (cond accepted (one ∷ []) [])
        ≡ cond accepted (accepted_commands records ++ one.command ∷ []) (accepted_commands records)
    by_reply true = refl
    by_reply false = append-nil (accepted_commands records)

-- with the next record the accepted commands are those after its command
pub accepted_with_next : (settings : Settings) (records : List Record) (one : Record) →
    one.reply ≡ answer_to settings (accepted_commands records) one.command →
    accepted_commands (records ++ one ∷ []) ≡ commands_after settings (accepted_commands records) one.command
accepted_with_next settings records one reply =
    accepted_with_one records one
    ∙ ap (λ (answer : Result Reply Refusal). cond (is_ok answer) (accepted_commands records ++ one.command ∷ [])
    (accepted_commands records)) reply

-- records and receipts with the same parts are the same
pub same_record : {place place' : ℕ} (caller : ℕ) {command command' : Command} {reply reply' : Result Reply Refusal} →
    place ≡ place' → command ≡ command' → reply ≡ reply' →
    (let one : Record = record { place = place; caller = caller; command = command; reply = reply } in
    let other : Record = record { place = place'; caller = caller; command = command'; reply = reply' } in
    one ≡ other)
same_record {place} {place'} caller {command} {command'} {reply} {reply'} places commands replies =
    ap (λ first. let one : Record = record { place = first; caller = caller; command = command; reply = reply } in one)
    places
    ∙ ap (λ second. let one : Record = record {
      place = place';
      caller = caller;
      command = second;
      reply = reply;
    } in one) commands
    ∙ ap (λ third. let one : Record = record {
      place = place';
      caller = caller;
      command = command';
      reply = third;
    } in one) replies

-- a history with the same records and the same number of reserved calls is the same
pub same_history : (settings : Settings) (limit : ℕ) {records records' : List Record} {reserved reserved' : ℕ} →
    records ≡ records' → reserved ≡ reserved' →
    (let one : History = record { settings = settings; limit = limit; records = records; reserved = reserved } in
    let other : History = record { settings = settings; limit = limit; records = records'; reserved = reserved' } in
    one ≡ other)
same_history settings limit {records} {records'} {reserved} {reserved'} all ahead =
    ap (λ first. let one : History = record {
      settings = settings;
      limit = limit;
      records = first;
      reserved = reserved;
    } in one) all
    ∙ ap (λ second. let one : History = record {
      settings = settings;
      limit = limit;
      records = records';
      reserved = second;
    } in one) ahead

-- the record at an index of a list: it is found there, and comes last among those up to it
pub found_at : (records : List Record) (index : ℕ) (one : Record) → index < length records →
    one ≡ slice_index_or records index one →
    (slice_get records index ≡ Some one) × (take (suc index) records ≡ take index records ++ one ∷ [])
found_at [] index one within is = absurd (omega arith)
found_at (first ∷ records) zero one within is = (ap Some (sym is), ap (λ other. other ∷ []) (sym is))
found_at (first ∷ records) (suc index) one within is =
    let rest = found_at records index one (omega arith) is in
    (rest.0, ap (λ more. first ∷ more) rest.1)

-- what stands behind a beginning
pub found_behind : (before : List Record) (one : Record) (more : List Record) →
    slice_get (before ++ one ∷ more) (length before) ≡ Some one
found_behind [] one more = refl
found_behind (first ∷ before) one more = found_behind before one more

-- what stands at an index of a beginning stands there in the whole, behind the same records
in_beginning : (records : List Record) (count index : ℕ) (one : Record) →
    slice_get (take count records) index ≡ Some one →
    (slice_get records index ≡ Some one) × (take index (take count records) ≡ take index records)
in_beginning [] zero index one is = absurd (cc)
in_beginning [] (suc count) index one is = absurd (cc)
in_beginning (first ∷ records) zero index one is = absurd (cc)
in_beginning (first ∷ records) (suc count) zero one is = (is, refl)
in_beginning (first ∷ records) (suc count) (suc index) one is =
    let rest = in_beginning records count index one is in
    (rest.0, ap (λ more. first ∷ more) rest.1)

-- a beginning of a legal history is legal
pub legal_beginning : (settings : Settings) (records : List Record) (count : ℕ) → IsLegal settings records →
    IsLegal settings (take count records)
legal_beginning settings records count legal index one is =
    let there = in_beginning records count index one is in
    let at = legal index one there.0 in
    record {
      place = at.place;
      reply = at.reply ∙ ap
          (λ before. answer_to settings (accepted_commands before) one.command) (sym there.1);
    }

settled_behind : (settings : Settings) (before more : List Record) → IsLegal settings (before ++ more) →
    settlements_in more ≡ settled_along settings (accepted_commands before) (map command_of more)
settled_behind settings before [] legal = refl
settled_behind settings before (one ∷ more) legal =
    let reply : one.reply ≡ answer_to settings (accepted_commands before) one.command =
    (legal (length before) one (found_behind before one more)).reply
    ∙ ap (λ earlier. answer_to settings (accepted_commands earlier) one.command)
    (take-append_seam before (one ∷ more)) in
    let rest =
    settled_behind settings (before ++ one ∷ []) more
    (subst (IsLegal settings) (sym (append_assoc before (one ∷ []) more)) legal) in
    ap (λ answer. settled_by answer ++ settlements_in more) reply
    ∙ ap (λ others. settled_by (answer_to settings (accepted_commands before) one.command) ++ others)
    (rest ∙ ap (λ commands. settled_along settings commands (map command_of more))
    (accepted_with_next settings before one reply))

-- the settlements of a legal history are those along all its commands
pub settlements_of_legal : (settings : Settings) (records : List Record) → IsLegal settings records →
    settlements_in records ≡ settled_along settings [] (map command_of records)
settlements_of_legal settings records legal = settled_behind settings [] records legal
