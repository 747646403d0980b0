use Rattle.ob_connection.proofs.Words.{Bool, ◌≡◌, ◌+◌, refl, sym, ap, ◌∙◌, arith, length, Pending, held}
use Rattle.ob_connection.proofs.Words.{Becomes, Connected, connected_of}
use Rattle.std.proofs.lemmas.Result.{err_from_is_err_and}
use Rattle.std.proofs.lemmas.List.{length-map, take_all}
use Rattle.ob_types.specs.declared.command.Command.TheVariants.{FailFlushed}
use Rattle.ob_types.specs.declared.promise.Outcome.TheVariants.{Failed}
use Rattle.ob_seq.specs.Steps.Commands.{failing_step, front_taken, entry_settlements}
use Rattle.ob_seq.specs.Steps.Step.{front_id, times}
use Rattle.ob_seq.specs.Unsent.{pending_entries, pending_entry}
use Rattle.ob_seq.proofs.Rows.History.{same_reply}
use Rattle.ob_connection.specs.declared.replies.Taken.{Taken}
use Rattle.ob_connection.specs.Obeying.{taken_reply}
use Rattle.ob_connection.proofs.Steps.{nothing_told, same_change, some_past, word_of_times, becomes_roomed, closed}
use Rattle.ob_connection.proofs.Steps.{taken}
use Rattle.ob_connection.proofs.Obeyed.{ids_within, obeys}
use Rattle.ob_connection.proofs.Settling.{line_replied}
use Rattle.ob_connection.proofs.Taking.{line_becomes, line_stands}
use Rattle.ob_connection.proofs.connection.Connection.fail_flushed.Goals as goal

pub returns-in_err-ask_open-clause-obeys : goal.returns-in_err-ask_open-clause-obeys
returns-in_err-ask_open-clause-obeys c =
    let err = err_from_is_err_and c.from_residual.result c.from_residual.ensures.1 in
    rw (err.1, err.2, c.in_err-ask_open.ensures.refusal)
    (obeys (FailFlushed c.args.cause c.args.notify) (closed (failing_step c.args.cause c.args.notify) taken_reply c.in_err-ask_open.ensures.closed))

pub invariant_of-self : goal.invariant_of-self
invariant_of-self c =
    line_stands c.args.cause c.args.notify c.line_count-count.ensures c.take_first.ensures
    (ap (λ (one : Connected). one.unsent.closed) c.self.view_is ∙ c.in_ok-ask_open.ensures.open) c.self.invariant

pub returns-clause-obeys : goal.returns-clause-obeys
returns-clause-obeys c =
    let inside = connected_of c.self.inside in
    let line = c.self.inside.contents.line in
    let outcome = Failed c.args.cause in
    let step = failing_step c.args.cause c.args.notify in
    let seen = length-map line pending_entry in
    let count : c.line_count-count.result ≡ length (pending_entries line) = c.line_count-count.ensures ∙ sym seen in
    let becomes : Becomes (λ now. (step now).after) inside c.give_back.new.self =
    becomes_roomed (λ now. (step now).after)
    (record { unsent = c.take_first.new.self; gone = c.self.inside.gone + c.line_count-count.result }) c.give_back.ensures.same
    (line_becomes c.args.cause c.args.notify c.line_count-count.ensures c.take_first.ensures) in
    let end : c.give_back.new.self.gone ≡ c.self.inside.gone + length (pending_entries line) =
    ap (λ (one : Connected). one.gone) c.give_back.ensures.same ∙ ap (λ n. c.self.inside.gone + n) count in
    rw (← c.self.view_is) (obeys (FailFlushed c.args.cause c.args.notify) (taken step taken_reply
    (ap (λ (one : Connected). one.unsent.closed) c.self.view_is ∙ c.in_ok-ask_open.ensures.open) c.taken_since.result (λ past. refl)
    (λ past. ap (taken_reply (held past).promises) c.taken_since.ensures
    ∙ line_replied past c.give_back.new.self.gone (length (pending_entries line)) outcome _ _ end (omega (arith, seen))
    (same_change c.word-before.ensures (ap (λ (one : Pending). one.word) (becomes past).1))
    ∙ same_reply refl (ap (entry_settlements outcome (front_id (held past)))
    (take_all (length (pending_entries line)) (pending_entries line) (omega arith))) refl)
    becomes))

pub returns-clause-quiet : goal.returns-clause-quiet
returns-clause-quiet c silent =
    let outcome = Failed c.args.cause in
    let count = c.line_count-count.result in
    let past = some_past (connected_of c.self.inside) in
    let step = λ (notice : Bool) (one : Pending). times count (front_taken notice outcome) one in
    let after = ap (λ (one : Pending). one.word) (c.take_first.ensures.taken past.outcomes outcome) in
    ap (λ (one : Taken). one.change) c.taken_since.ensures
    ∙ nothing_told (c.word-before.ensures
    ∙ sym (ap (λ (one : Connected). one.unsent.word) c.give_back.ensures.same
    ∙ after ∙ ap (λ notice. (step notice (held past)).word) silent ∙ word_of_times outcome count (held past)))

pub overflow_add-self : goal.overflow_add-self
overflow_add-self c = omega (arith, c.line_count-count.ensures, ids_within c.self.invariant)
