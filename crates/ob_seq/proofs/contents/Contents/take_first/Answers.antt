use Rattle.std.proofs.lemmas.List.{length-take-le}
use Rattle.ob_seq.proofs.Words.{[], ◌≡◌, ◌-◌, ◌++◌, ◌≤◌, ◌+◌, ℕ, List, length, ap, ◌∙◌, arith, map, take, drop, times}
use Rattle.ob_seq.proofs.Words.{Outcome, Settings, Success, Unsent, counted, ended, front_taken, length-map, unsent_of, whole, cond, word_after_fall}
use Rattle.ob_seq.proofs.Inside.Fields.{line_count}
use Rattle.ob_seq.proofs.Inside.LetGo.{all_taken, word_fallen}
use Rattle.ob_seq.proofs.Inside.Rooms.{fewer_waiting}
use Rattle.ob_seq.proofs.contents.Contents.take_first.Goals as goal

pub returns : goal.returns
returns c =
    let inside = c.self.inside in
    let old = c.args.self.now in
    let items = inside.entries.items in
    let count = c.args.count in
    let notice = c.args.notice in
    let took = c.take_first-fallen in
    let settings : Settings = record { marks = inside.opened; estimate = inside.estimate } in
    let word = word_fallen inside.marks notice inside.word (counted items) (counted (drop count items)) in
    let now : Unsent = unsent_of (record inside { entries = took.new.self; flushed = inside.flushed - count; total = inside.total - took.result; word = c.after_removal-self-inside.result }) in
    let line = line_count old inside c.self.view_is c.self.invariant in
    let some : count ≤ length old.line = c.requires in
    let left : took.result + counted (drop count items) ≡ counted items = rw took.ensures.items at took.ensures.counted in
    let falls : c.after_removal-self-inside.result ≡ word =
    c.after_removal-self-inside.ensures
    ∙ ap (λ (size : ℕ). cond notice (word_after_fall inside.marks inside.word size (inside.total - took.result)) inside.word)
    (omega (arith, left))
    ∙ ap (λ (total : ℕ). word_fallen inside.marks notice inside.word (counted items) total)
    (omega (arith, left, c.self.invariant.total)) in
    let taken : (gone : List Outcome) (outcome : Outcome) → whole (gone ++ map (ended outcome) (take count old.line)) now
    ≡ times count (front_taken notice outcome) (whole gone old) =
    λ gone outcome. rw (← c.self.view_is, falls, took.ensures.items)
    (all_taken settings inside.marks inside.closed notice items inside.flushed inside.word gone outcome count
    (rw (← c.self.view_is) at some)) in
    let many = length-map (take count old.line) (ended Success) ∙ length-take-le count old.line some in
    let fewer = fewer_waiting notice Success count (map (ended Success) (take count old.line)) old now many (taken [] Success) in
    record {
      taken = taken;
      fewer = fewer;
      room = rw (← c.self.view_is) took.ensures.room;
    }
