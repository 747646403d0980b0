use Rattle.std.proofs.Common.{◌∷◌, drop, sym, ap, ◌∙◌}
use Rattle.ob_pool.proofs.PlannedRuns.{fewer_in, first_and_rest, within_of}
use Rattle.ob_pool.proofs.plan.Rest.command.Goals as goal

pub returns : goal.returns
returns c =
    let runs = c.self.inside.runs.items in
    let at = c.self.inside.at in
    let done = c.self.inside.done in
    let run = c.index.result.now in
    let within = within_of runs at done (λ none. c.requires (sym c.self.view_is ∙ none)) in
    let fewer = fewer_in runs at done run within c.index.ensures c.self.invariant in
    sym c.self.view_is ∙ first_and_rest runs at done run within c.index.ensures fewer
    ∙ ap (λ all. run.command ∷ drop 1 all) c.self.view_is
