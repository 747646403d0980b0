use Rattle.std.proofs.Common.{◌≡◌, None, Option, Some, refl, ap, subst, sym, ◌∙◌}
use Rattle.std.specs.Prelude.{Err, IfSome, IsErrOf, Ok}
use Rattle.std.specs.Result.{is_ok}
use Rattle.std.proofs.lemmas.Bool.{true≢false}
use Rattle.ob_pool.specs.Drive.{first_history, plans_fault}
use Rattle.ob_pool.specs.declared.config.Config.{Config}
use Rattle.ob_pool.specs.declared.fault.DriveFault.{DriveFault}
use Rattle.ob_cli.specs.Drive.{ComesTo, plans_in}
use Rattle.ob_cli.specs.declared.request_fault.RequestFault.TheVariants.{Drive}
use Rattle.ob_cli.proofs.drive.drive_session.Goals as goal

-- what comes to a report was not refused for a fault of its plans
without_fault : {T : Type 0} (report : T) (found : Option DriveFault) →
    IfSome found (λ fault. IsErrOf (Ok report) fault) → found ≡ None
without_fault report None refused = refl
without_fault report (Some fault) refused = absurd (true≢false (ap is_ok refused))

-- what comes to a fault was refused for the first one of its plans, if they have one
first_told : (T : Type 0) (fault : DriveFault) (found : Option DriveFault) →
    IfSome found (λ first. IsErrOf {T = T} (Err fault) first) → IfSome found (λ first. fault ≡ first)
first_told T fault None refused = tt
first_told T fault (Some first) refused = cc refused

-- one fault of the drive is told
told_once : {T : Type 0} (told fault : DriveFault) → IsErrOf {T = T} (Err (Drive told)) (Drive fault) → told ≡ fault
told_once told fault is = cc

pub returns-in-Ok-clause-told : goal.returns-in-Ok-clause-told
returns-in-Ok-clause-told g c =
    let plans = c.in_ok-plans.ensures ∙ ap plans_in c.deref.ensures.value in
    let first = ap first_history c.config-config.ensures in
    rw (plans, first) at c.in-Ok.ensures.report

pub returns-in-Ok-clause-faultless : goal.returns-in-Ok-clause-faultless
returns-in-Ok-clause-faultless g c =
    let plans = c.in_ok-plans.ensures ∙ ap plans_in c.deref.ensures.value in
    let given = ap (λ (config : Config). plans_fault config.estimate config.task c.in_ok-plans.plans.items)
    c.config-config.ensures in
    sym (given ∙ ap (plans_fault c.args.options.now.estimate c.args.options.now.task) plans)
    ∙ without_fault c.in-Ok.report _ c.in-Ok.ensures.refused

pub returns-clause-drive : goal.returns-clause-drive
returns-clause-drive g c = λ fault is.
    let plans = c.in_ok-plans.ensures ∙ ap plans_in c.deref.ensures.value in
    let given = ap (λ (config : Config). plans_fault config.estimate config.task c.in_ok-plans.plans.items)
    c.config-config.ensures in
    let found = given ∙ ap (plans_fault c.args.options.now.estimate c.args.options.now.task) plans in
    subst (ComesTo c.args.options.now (plans_in c.args.session.writers.items))
    (told_once c.in-Err.fault fault is) (record {
      first = subst (λ found. IfSome found (λ first. c.in-Err.fault ≡ first)) found
          (first_told _ c.in-Err.fault _ c.in-Err.ensures.refused);
      later = λ none. c.in-Err.ensures.planned (found ∙ none);
    })
