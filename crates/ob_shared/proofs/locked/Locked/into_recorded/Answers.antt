use Rattle.std.proofs.Common.{◌≡◌, ◌≤◌, length, sym, subst, arith}
use Rattle.std.specs.List.{All}
use Rattle.ob_history.specs.History.{History}
use Rattle.ob_shared.specs.Calls.{StandsIn}
use Rattle.ob_shared.proofs.Finishing.{all_is_handed_in}
use Rattle.ob_shared.proofs.HandedIn.{as_many_as_callers}
use Rattle.ob_shared.proofs.locked.Locked.into_recorded.Goals as goal
use Rattle.ob_shared.proofs.locked.Locked.into_recorded.Goals.{After-audit}

pub returns-clause-counted : goal.returns-clause-counted
returns-clause-counted g c =
    let callers = c.args.callers.now in
    let enough = as_many_as_callers callers.count c.args.dones.items c.requires.all in
    let whole : c.merged-all.result.parts ≡ g.L.Ledger.parts =
    omega (arith, enough, callers.parts, c.merged-all.ensures.parts, c.merged-all.ensures.within, c.self.invariant) in
    omega (arith, c.self.invariant, c.audit.ensures.whole whole, c.merged-all.ensures.amount)

pub returns-clause-own : goal.returns-clause-own
returns-clause-own g c =
    let callers = c.args.callers.now in
    let dones = c.args.dones.items in
    let stored = c.self.inside.recorded in
    let few : length dones ≤ callers.count =
    omega (arith, callers.parts, c.merged-all.ensures.parts, c.merged-all.ensures.within, c.self.invariant) in
    let stands : All (StandsIn stored.settings stored.records) dones =
    subst (λ (history : History). All (StandsIn history.settings history.records) dones)
    (sym c.self.view_is) c.requires.stands in
    all_is_handed_in stored.settings stored.records callers.count dones c.requires.all few c.requires.as_many
    (sym (returns-clause-counted g c)) stands
