use Rattle.std.proofs.Common.{◌≡◌, ◌≤◌, sym, ap, ◌∙◌, arith}
use Rattle.ob_core.specs.Step.{IsFree}
use Rattle.ob_lanes.proofs.Ends.{none_left, mark_is_clear, held_shown, foreign_clear, runs}
use Rattle.ob_lanes.proofs.lane.Lane.finish.Goals as goal

free : (c : goal.After-word_of) → IsFree c.self.inside.running.seat.me.0.lane
free c = record { debt = c.self.invariant.debt_is }

whole : (c : goal.After-word_of) → c.args.words.grant.room ≤ c.self.inside.running.seat.me.0.lane.room
whole c =
    let read : c.words-inside.inside.0.1.0.room ≡ c.words.inside.grant.room =
    ap (λ w. w.grant.room) c.words-inside.view_is in
    let seen : c.words.inside.grant.room ≡ c.args.words.grant.room = ap (λ w. w.grant.room) c.words.view_is in
    let enough = c.if-self-words.false in
    let mine = c.self.invariant.room in
    omega (arith, read, seen, enough, mine)

pub returns-clause-total : goal.returns-clause-total
returns-clause-total c =
    c.from.ensures ∙ c.total_of.ensures
    ∙ none_left c.args.words.grant c.self.inside.running.seat _ c.end-both.ensures.end (free c) (whole c)

pub returns-clause-mark : goal.returns-clause-mark
returns-clause-mark c =
    rw c.word_of.ensures
    (mark_is_clear c.args.words.grant c.self.inside.running.seat _ c.end-both.ensures.end (free c) (whole c))

pub returns-clause-held : goal.returns-clause-held
returns-clause-held c =
    rw (c.word_of.ensures, ← c.self.view_is)
    (held_shown c.args.words.grant c.self.inside.running.seat _ c.end-both.ensures.end)

pub returns-clause-foreign : goal.returns-clause-foreign
returns-clause-foreign c =
    rw c.word_of.ensures (foreign_clear c.args.words.grant c.self.inside.running.seat _ c.end-both.ensures.end)

pub returns-clause-run : goal.returns-clause-run
returns-clause-run c =
    rw (c.from.ensures, c.total_of.ensures, c.word_of.ensures)
    (runs c.args.words.grant c.self.inside.running.seat _ c.end-both.ensures.end c.args.self
    (ap (λ w. w.grant) c.requires) (sym (ap (λ v. v.lane) c.self.view_is)) (sym (ap (λ v. v.made) c.self.view_is))
    (sym (ap (λ v. v.seen) c.self.view_is)) (sym (ap (λ v. v.name) c.self.view_is))
    (sym (ap (λ v. v.taken) c.self.view_is)) c.self.invariant.live)
