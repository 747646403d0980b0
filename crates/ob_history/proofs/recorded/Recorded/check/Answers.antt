use Rattle.std.proofs.Common.{rules}
use Rattle.std.proofs.lemmas.Option.{slice_get_within}
use Rattle.ob_history.proofs.recorded.Recorded.check.Goals as goal

-- Named for the must-fail edits that fail here (CONTRIBUTING.md).
pub returns-in-None : goal.returns-in-None
returns-in-None c = search (rules, slice_get_within c.args.self.now.records c.args.receipt.now.place)
