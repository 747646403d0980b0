use Rattle.ob_connection.proofs.Words.{[], ◌≡◌, ◌+◌, sym, ap, ◌∙◌, arith, length, Pending, held}
use Rattle.ob_connection.proofs.Words.{accepted_writes, Connected, waiting_count}
use Rattle.std.proofs.lemmas.Result.{err_from_is_err_and}
use Rattle.std.proofs.lemmas.List.{length-map}
use Rattle.ob_types.specs.declared.command.Command.TheVariants.{Close}
use Rattle.ob_seq.specs.Steps.Commands.{closing_step}
use Rattle.ob_seq.specs.Unsent.{pending_entry}
use Rattle.ob_connection.specs.declared.replies.Taken.{Taken}
use Rattle.ob_connection.specs.Obeying.{taken_reply}
use Rattle.ob_connection.proofs.Steps.{nothing_told, same_change, closed, refused, steps_roomed, taken}
use Rattle.ob_connection.proofs.Obeyed.{obeys}
use Rattle.ob_seq.proofs.Inside.LetGo.{flushed_left, none_left}
use Rattle.ob_connection.proofs.Settling.{close_replied}
use Rattle.ob_connection.proofs.Taking.{close_becomes, close_stands}
use Rattle.ob_connection.proofs.connection.Connection.close.Goals as goal

pub returns-in_err-ask_open-clause-obeys : goal.returns-in_err-ask_open-clause-obeys
returns-in_err-ask_open-clause-obeys c =
    let err = err_from_is_err_and c.from_residual.result c.from_residual.ensures.1 in
    rw (err.1, err.2, c.in_err-ask_open.ensures.refusal)
    (obeys (Close c.args.cause) (closed (closing_step c.args.cause) taken_reply c.in_err-ask_open.ensures.closed))

pub returns-then-line_count-gt0-clause-obeys : goal.returns-then-line_count-gt0-clause-obeys
returns-then-line_count-gt0-clause-obeys c =
    rw (← c.self.view_is) (obeys (Close c.args.cause) (refused (closing_step c.args.cause) taken_reply
    (ap (λ (one : Connected). one.unsent.closed) c.self.view_is ∙ c.in_ok-ask_open.ensures.open) _
    (λ same. absurd (cc)) (λ past. flushed_left c.args.cause (held past)
    (omega (arith, length-map c.self.inside.contents.line pending_entry, c.line_count.ensures, c.if-line_count-gt0.true)))))

pub invariant_of-self : goal.invariant_of-self
invariant_of-self c =
    close_stands c.args.cause (c.accepted_writes-self-inside.ensures.count ∙ ap accepted_writes (sym c.self.view_is))
    (omega (arith, c.line_count.ensures, c.if-line_count-gt0.false)) c.shut.ensures.closed
    (ap (λ (one : Connected). one.unsent.closed) c.self.view_is ∙ c.in_ok-ask_open.ensures.open) c.self.invariant

pub returns-clause-obeys : goal.returns-clause-obeys
returns-clause-obeys c =
    let old = c.self.inside.contents in
    let step = closing_step c.args.cause in
    let empty : length old.line ≡ 0 = omega (arith, c.line_count.ensures, c.if-line_count-gt0.false) in
    let all : c.accepted_writes-self-inside.result ≡ c.self.inside.gone + waiting_count old =
    c.accepted_writes-self-inside.ensures.count ∙ ap accepted_writes (sym c.self.view_is) in
    rw (← c.self.view_is) (obeys (Close c.args.cause)
    (steps_roomed (record { unsent = c.shut.new.self; gone = c.accepted_writes-self-inside.result }) c.give_back.ensures.same
    (taken step taken_reply (ap (λ (one : Connected). one.unsent.closed) c.self.view_is ∙ c.in_ok-ask_open.ensures.open)
    c.taken_since-taken.result (λ past. none_left c.args.cause (held past) (length-map old.line pending_entry ∙ empty))
    (λ past. ap (taken_reply (held past).promises) c.taken_since-taken.ensures
    ∙ close_replied past c.accepted_writes-self-inside.result c.args.cause _ _ (omega (arith, all, empty)) empty
    (same_change c.word-before.ensures
    (ap (λ (one : Pending). one.word) (c.shut.ensures.closed past.outcomes c.args.cause))))
    (close_becomes c.args.cause all empty c.shut.ensures.closed))))

pub returns-clause-quiet : goal.returns-clause-quiet
returns-clause-quiet c =
    ap (λ (one : Taken). one.change) c.taken_since-taken.ensures
    ∙ nothing_told (c.word-before.ensures
    ∙ sym (ap (λ (one : Pending). one.word) (c.shut.ensures.closed [] c.args.cause)))

pub returns-clause-room : goal.returns-clause-room
returns-clause-room c =
    let shut = ap (λ (one : Pending). one.closed) (c.shut.ensures.closed [] c.args.cause) in
    c.give_back.ensures.closed shut c.shut.ensures.none
