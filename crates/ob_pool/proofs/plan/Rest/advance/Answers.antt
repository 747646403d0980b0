use Rattle.std.proofs.Common.{sym, ◌∙◌}
use Rattle.ob_pool.proofs.PlannedRuns.{fewer_in, rest_behind_run, rest_in_run, within_of}
use Rattle.ob_pool.proofs.plan.Rest.advance.Goals as goal

pub returns-then-left-gt1 : goal.returns-then-left-gt1
returns-then-left-gt1 c =
    let runs = c.self.inside.runs.items in
    let at = c.self.inside.at in
    let done = c.self.inside.done in
    let run = c.index.result.now in
    let within = within_of runs at done (λ none. c.requires (sym c.self.view_is ∙ none)) in
    let fewer = fewer_in runs at done run within c.index.ensures c.self.invariant in
    rest_in_run runs at done run c.args.self.now within c.index.ensures fewer c.self.view_is

pub returns-else-left-gt1 : goal.returns-else-left-gt1
returns-else-left-gt1 c =
    let runs = c.self.inside.runs.items in
    let at = c.self.inside.at in
    let done = c.self.inside.done in
    let run = c.index.result.now in
    let within = within_of runs at done (λ none. c.requires (sym c.self.view_is ∙ none)) in
    let fewer = fewer_in runs at done run within c.index.ensures c.self.invariant in
    rest_behind_run runs at done run c.args.self.now within c.index.ensures fewer c.if-left-gt1.false c.self.view_is
