use Rattle.std.proofs.Common.{◌≤◌, length, subst, sym}
use Rattle.ob_history.specs.History.{most_records, IsLegal}
use Rattle.ob_cli.specs.Run.{first_history}
use Rattle.ob_cli.proofs.cli.entry.tell_more.Goals as goal

pub summary_of-requires : goal.summary_of-requires
summary_of-requires g c = record {
  legal = subst (IsLegal (first_history c.args.options.now).settings) (sym c.records.ensures.value) c.requires.legal;
  few = subst (λ records. length records ≤ most_records) (sym c.records.ensures.value) c.requires.few;
}
