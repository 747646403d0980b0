use Rattle.std.proofs.Common.{◌<◌, length, refl, ap, subst, rules}
use Rattle.std.specs.Prelude.{IfErr, IfOk, IsErrOf}
use Rattle.std.proofs.lemmas.Result.{IfErr-weaker}
use Rattle.ob_pool.specs.Drive.{first_history, ComesOfWork, NamesOneOf, number_of}
use Rattle.ob_pool.specs.Report.{TellsOf}
use Rattle.ob_pool.proofs.Jobs.{comes_late, names_one, refused_late, refused_when_full}
use Rattle.ob_pool.proofs.Faultless.{no_fault, whatever_fault}
use Rattle.ob_pool.proofs.driving.drive.Goals as goal

pub returns-in-Err-clause-refused : goal.returns-in-Err-clause-refused
returns-in-Err-clause-refused g c = rw c.in-Err.ensures.fault refl

pub returns-in-Err-clause-planned : goal.returns-in-Err-clause-planned
returns-in-Err-clause-planned g c = λ none. absurd (cc (none, c.in-Err.ensures.fault))

pub returns-in-Err-clause-full : goal.returns-in-Err-clause-full
returns-in-Err-clause-full g c = λ writer refusal is.
    refused_late c.in-Err.fault writer refusal c.in-Err.ensures.early is

pub returns-in-Ok-new-clause-refused : goal.returns-in-Ok-new-clause-refused
returns-in-Ok-new-clause-refused g c =
    let config = c.args.config in
    whatever_fault c.in-Ok.checked config.estimate config.task c.args.plans.items (λ fault. IsErrOf c.drive_open.result fault)
    c.in-Ok.ensures.estimate c.in-Ok.ensures.task c.in-Ok.ensures.plans c.in-Ok.ensures.checked

pub returns-in-Ok-new-clause-planned : goal.returns-in-Ok-new-clause-planned
returns-in-Ok-new-clause-planned g c = λ none.
    let writers = length c.in-Ok.checked.plans in
    IfErr-weaker c.drive_open.result (ComesOfWork writers) (λ fault. 3 < number_of fault) (comes_late writers)
    c.drive_open.ensures.planned

pub returns-in-Ok-new-clause-full : goal.returns-in-Ok-new-clause-full
returns-in-Ok-new-clause-full g c = λ writer refusal is.
    refused_when_full c.drive_open.result (length c.in-Ok.checked.plans) writer refusal c.drive_open.ensures.planned is

pub returns-in-Ok-new-clause-writers : goal.returns-in-Ok-new-clause-writers
returns-in-Ok-new-clause-writers g c =
    let writers = length c.in-Ok.checked.plans in
    subst (λ count. IfErr c.drive_open.result (NamesOneOf count)) (ap length c.in-Ok.ensures.plans)
    (IfErr-weaker c.drive_open.result (ComesOfWork writers) (NamesOneOf writers) (names_one writers)
    c.drive_open.ensures.planned)

pub returns-in-Ok-new-clause-unasked : goal.returns-in-Ok-new-clause-unasked
returns-in-Ok-new-clause-unasked g c =
    let config = c.args.config in
    λ some. absurd (no_fault c.in-Ok.checked config.estimate config.task c.args.plans.items c.in-Ok.ensures.estimate
    c.in-Ok.ensures.task c.in-Ok.ensures.plans c.in-Ok.ensures.checked some)

pub returns-in-Ok-new-clause-report : goal.returns-in-Ok-new-clause-report
returns-in-Ok-new-clause-report g c =
    subst (λ plans. IfOk c.drive_open.result (TellsOf (first_history c.args.config) plans)) c.in-Ok.ensures.plans
    c.drive_open.ensures.report

pub returns-in-Err-new-clause-refused : goal.returns-in-Err-new-clause-refused
returns-in-Err-new-clause-refused g c =
    let config = c.args.config in
    whatever_fault c.in-Ok.checked config.estimate config.task c.args.plans.items _
    c.in-Ok.ensures.estimate c.in-Ok.ensures.task c.in-Ok.ensures.plans c.in-Ok.ensures.checked

-- what the edits of `drive` fail at, so that the check tells it at once
pub returns-in-Err-clause-unasked : goal.returns-in-Err-clause-unasked
returns-in-Err-clause-unasked g c = search rules

pub returns-in-Err-new-clause-full : goal.returns-in-Err-new-clause-full
returns-in-Err-new-clause-full g c = search rules

pub returns-in-Err-new-clause-writers : goal.returns-in-Err-new-clause-writers
returns-in-Err-new-clause-writers g c = search rules

pub returns-in-Ok-new-clause-sink : goal.returns-in-Ok-new-clause-sink
returns-in-Ok-new-clause-sink g c = search rules
