use Rattle.std.proofs.Common.{◌≡◌, List, ap, ◌∙◌, subst}
use Rattle.ob_history.specs.History.{History, IsLegal}
use Rattle.ob_history.specs.declared.record.Record.{Record}
use Rattle.ob_history.proofs.Told.{IsFound, found_at_place, found_settles, none_settles, settled_is_found}
use Rattle.ob_history.proofs.recorded.Recorded.settling.Goals as goal
use Rattle.ob_history.proofs.recorded.Recorded.settling.Goals.{After-first_settling}

-- the walk goes over the records of the history
walked : (c : After-first_settling) → IsFound c.args.id c.args.self.now.records c.first_settling.result
walked c =
    let records : c.deref.result.now ≡ c.args.self.now.records =
    c.deref.ensures.value ∙ ap (λ (history : History). history.records) c.self.view_is in
    subst (λ (others : List Record). IsFound c.args.id others c.first_settling.result) records c.first_settling.ensures

legal : (c : After-first_settling) → IsLegal c.args.self.now.settings c.args.self.now.records
legal c = subst (λ (history : History). IsLegal history.settings history.records) c.self.view_is c.self.invariant.legal

pub returns : goal.returns
returns c =
    let records = c.args.self.now.records in
    let settings = c.args.self.now.settings in
    let found = c.first_settling.result in record {
      settles = found_settles c.args.id records found (walked c);
      there = found_at_place c.args.id records settings (legal c) found (walked c);
      none = none_settles c.args.id records found (walked c);
      told = settled_is_found c.args.id records settings (legal c) found (walked c);
    }
