use Rattle.ob_seq.proofs.Words.{◌≡◌, List, ◌∷◌, sym, ap, ◌∙◌, arith, Settings, Entry}
use Rattle.ob_seq.proofs.Words.{take, drop, whole, front_taken, Unsent, counted}
use Rattle.ob_seq.proofs.Inside.Fields.{line_count}
use Rattle.ob_seq.proofs.Inside.LetGo.{ends_as}
use Rattle.ob_seq.proofs.Inside.States.{kept_taken, unsent_from}
use Rattle.ob_seq.proofs.contents.Contents.take_front.Goals as goal

pub returns-clause-taken : goal.returns-clause-taken
returns-clause-taken c gone outcome =
    let inside = c.self.inside in
    let settings : Settings = record { marks = inside.opened; estimate = inside.estimate } in
    let entry = c.in-Some.entry in
    let items = c.pop_front.new.self.items in
    let is : inside.entries.items ≡ entry ∷ items = c.in-Some.ensures.items in
    let count = line_count c.args.self.now inside c.self.view_is c.self.invariant in
    let sum : inside.total ≡ counted (entry ∷ items) = c.self.invariant.total ∙ ap counted is in
    let now = ap (λ (all : List Entry). front_taken c.args.notice outcome (whole gone (unsent_from settings inside.marks
    inside.closed (take inside.flushed all) (drop inside.flushed all) inside.word))) (sym is)
    ∙ ap (λ (held : Unsent). front_taken c.args.notice outcome (whole gone held)) c.self.view_is in
    rw (ends_as entry.taken_back outcome) (kept_taken gone settings inside.marks inside.closed c.args.notice outcome entry
    items inside.flushed inside.word c.after_removal-self-inside.result (omega (arith, c.requires))
    (rw (← sum) c.after_removal-self-inside.ensures) ∙ now)
