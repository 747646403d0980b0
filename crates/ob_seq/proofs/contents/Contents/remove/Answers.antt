use Rattle.ob_seq.proofs.Words.{[], ◌≡◌, ◌∷◌, ◌<◌, ℕ, Bool, true, not, length, length-map, refl, sym, arith, ltb, nat_tests}
use Rattle.ob_seq.proofs.Words.{change_between, Cancelled, Outcome, Pending, front_taken}
use Rattle.ob_seq.proofs.Words.{Some, Option, if◌then◌else◌, front_id, List, PromiseId}
use Rattle.ob_types.specs.declared.reply.Change.{Change}
use Rattle.ob_seq.specs.Steps.Step.{is_first_voided}
use Rattle.ob_seq.specs.Steps.Commands.{removal_reply}
use Rattle.ob_seq.specs.Steps.Within.{front_reply}
use Rattle.ob_seq.proofs.Inside.Fields.{line_count}
use Rattle.ob_seq.proofs.Inside.Steps.{makes_taken}
use Rattle.ob_seq.proofs.Inside.Rooms.{front_id_there, taken_waiting}
use Rattle.ob_seq.proofs.contents.Contents.remove.Goals as goal

some_line : (now : Pending) → 0 < length now.line → ltb 0 (length now.line) ≡ true
some_line now some = grind (arith, nat_tests)

settled : (settles voided : Bool) (id : ℕ) (outcome : Outcome) → settles ≡ not voided →
    (let all : List (PromiseId × Outcome) = if settles then (record { 0 = id }, outcome) ∷ [] else [] in all)
    ≡ (let all : List (PromiseId × Outcome) = if voided then [] else (record { 0 = id }, outcome) ∷ [] in all)
settled settles voided id outcome is = grind arith

-- the reply of a removal of the front
replied : (outcome : Outcome) (now new : Pending) (settles : Bool) (id : ℕ) (change : Option Change) → 0 < length now.line →
    settles ≡ not (is_first_voided now.line) → id ≡ front_id now → change ≡ change_between now.word new.word →
    new ≡ front_taken true outcome now →
    front_reply id outcome (Some (record { settles = settles; change = change })) ≡ removal_reply outcome now
replied outcome now new settles id change some is at turned taken =
    rw (some_line now some, at, turned, taken, settled settles (is_first_voided now.line) (front_id now) outcome is) refl

pub returns-clause-makes : goal.returns-clause-makes
returns-clause-makes c gone outcome =
    grind (arith, length-map, line_count, makes_taken, replied, front_id_there, some_line)

pub returns-clause-fewer : goal.returns-clause-fewer
returns-clause-fewer c =
    sym (taken_waiting true Cancelled _ c.args.self.now c.take_front-settles.new.self
    (c.take_front-settles.ensures.taken [] Cancelled))
