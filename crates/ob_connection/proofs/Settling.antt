-- What messages settle that are taken away, as an interval of ids and as the model lists it.
use Rattle.ob_connection.proofs.Words.{◌≡◌, refl, arith, ℕ, zero, suc, ◌+◌, ◌-◌, ◌≤◌, List, [], ◌∷◌, ◌++◌}
use Rattle.ob_connection.proofs.Words.{length, map, take, drop, Ok, Option, Outcome, PromiseState}
use Rattle.ob_connection.proofs.Words.{Past, held, Connected}
use Rattle.std.proofs.lemmas.List.{drop_at, length-map, nil_from_length, take_all}
use Rattle.ob_types.specs.declared.promise.Cause.{Cause}
use Rattle.ob_types.specs.declared.promise.Outcome.TheVariants.{Failed}
use Rattle.ob_types.specs.declared.reply.Answer.TheVariants.{Count}
use Rattle.ob_types.specs.declared.reply.Change.{Change}
use Rattle.ob_seq.specs.Steps.Commands.{failures, entry_settlements}
use Rattle.ob_seq.specs.Steps.Step.{front_id, unflushed_id}
use Rattle.ob_seq.specs.Unsent.{fixed_state, pending_entries, states_of, waiting_state}
use Rattle.ob_seq.specs.declared.entry.Entry.{Entry}
use Rattle.ob_seq.proofs.Inside.Rooms.{fresh_states, promises_there}
use Rattle.ob_seq.proofs.Rows.History.{same_reply}
use Rattle.ob_connection.specs.Obeying.{IsNext, settled_from, taken_reply}
use Rattle.ob_connection.specs.declared.replies.Taken.{Taken}
use Rattle.ob_connection.proofs.Steps.{front_id_there}

-- the promises of the first `count` entries in line settle what the entries do
settled_entries : (outcome : Outcome) (id count : ℕ) (line : List Entry) (rest : List PromiseState) →
    count ≤ length line →
    settled_from outcome id (take count (map fixed_state line ++ rest))
    ≡ entry_settlements outcome id (take count (pending_entries line))
settled_entries outcome id zero line rest few = refl
settled_entries outcome id (suc count) [] rest few = absurd (omega arith)
settled_entries outcome id (suc count) (entry ∷ line) rest few =
    let more = settled_entries outcome (suc id) count line rest (omega arith) in
    grind arith

-- the promises of what waits
waiting_promises : {connection : Connected} (past : Past connection) →
    drop connection.gone (held past).promises ≡ states_of connection.unsent
waiting_promises {connection} past = grind (arith, drop_at, length-map)

-- what was taken away from this number on, up to another
abbrev pub taken_between : ℕ → ℕ → Outcome → Option Change → Taken
taken_between from to outcome change =
    record { count = to - from; change = change; from = from; to = to; outcome = outcome }

-- what was taken away since goes on from what was gone
pub is_next : (old new : Connected) {outcome : Outcome} {from : ℕ} {change : Option Change} {taken : Taken} → from ≡ old.gone →
    taken ≡ taken_between from new.gone outcome change → old.gone ≤ new.gone → IsNext old outcome (Ok taken) new
is_next old new same is more =
    let all : old.gone + (new.gone - old.gone) ≡ new.gone = omega (arith, more) in rw (is, same) (grind arith)

-- the first `count` in line that were taken away are reported as the model reports them
pub line_replied : {connection : Connected} (past : Past connection) (to count : ℕ) (outcome : Outcome)
    (change told : Option Change) → to ≡ connection.gone + count → count ≤ length connection.unsent.line →
    change ≡ told →
    taken_reply (held past).promises (taken_between connection.gone to outcome change)
    ≡ record {
      answer = Count count;
      settled = entry_settlements outcome (front_id (held past)) (take count (held past).line);
      change = told;
    }
line_replied {connection} past to count outcome change told end few same =
    grind (arith, same_reply, waiting_promises, settled_entries, front_id_there)

-- the promises of unflushed entries settle as failed what a close does
settled_failures : (cause : Cause) (id : ℕ) (unflushed : List Entry) →
    settled_from (Failed cause) id (map waiting_state unflushed) ≡ failures cause id (map waiting_state unflushed)
settled_failures cause id [] = refl
settled_failures cause id (entry ∷ unflushed) = let more = settled_failures cause (suc id) unflushed in grind arith

-- so a close reports them as the model does
pub close_replied : {connection : Connected} (past : Past connection) (to : ℕ) (cause : Cause)
    (change told : Option Change) → to ≡ connection.gone + length connection.unsent.unflushed →
    length connection.unsent.line ≡ 0 → change ≡ told →
    taken_reply (held past).promises (taken_between connection.gone to (Failed cause) change)
    ≡ record {
      answer = Count (length (held past).unflushed);
      settled = failures cause (unflushed_id (held past)) (drop (unflushed_id (held past)) (held past).promises);
      change = told;
    }
close_replied {connection} past to cause change told end empty same =
    grind (arith, length-map, nil_from_length, promises_there, same_reply, waiting_promises, take_all, settled_failures, fresh_states)
