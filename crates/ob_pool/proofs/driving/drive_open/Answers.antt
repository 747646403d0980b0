use Rattle.std.proofs.Common.{◌≡◌, ℕ, ◌+◌, ◌++◌, [], ◌∷◌, length, sym, ap, ◌∙◌, subst, arith, rules}
use Rattle.std.specs.List.{All}
use Rattle.std.proofs.lemmas.List.Elements.{All-contains, Contains-push}
use Rattle.std.proofs.lemmas.Result.{IfErr-weaker, IfOk-weaker}
use Rattle.ob_types.specs.Marks.{Marks}
use Rattle.ob_core.specs.World.{Grant}
use Rattle.ob_seq.specs.Rows.{Settings}
use Rattle.ob_history.specs.History.{IsBeginning, IsLegal, records_of}
use Rattle.ob_shared.specs.Calls.{HandsInAll, Handed, ShareValue, Opened}
use Rattle.ob_transport.specs.Sent.{sent_bytes, sent_units}
use Rattle.ob_pool.specs.Drive.{ComesOfWork}
use Rattle.ob_pool.specs.Inside.{HaveHandedIn}
use Rattle.ob_pool.specs.Report.{IsCounted, AreAtRest}
use Rattle.ob_pool.specs.Threads.{IsNumbered}
use Rattle.ob_pool.specs.declared.report.Report.{Report}
use Rattle.ob_pool.proofs.Ending.{HaveEnded, all_carried, callers_told, failings_told, numbered_from}
use Rattle.ob_pool.proofs.Jobs.{comes_of_more, all_numbered}
use Rattle.ob_pool.proofs.Faultless.{no_failing_step, steps_are_planned, others_send_nothing}
use Rattle.ob_pool.proofs.Taking.{taken_further, taken_whole}
use Rattle.ob_pool.proofs.driving.drive_open.Goals as goal

-- all have handed in what they were asked
have_ended : (g : _) (c : goal.After-into_report g) (report : Report) →
    HaveHandedIn report.recorded.records (c.in-Ok-run.ended.dones.items ++ c.in-Ok-run.ended.done ∷ []) →
    HaveEnded report.recorded.records c.in-Ok-run.ended.dones.items c.in-Ok-run.ended.done c.args.ready.checked.plans
have_ended g c report handed = record {
  same = c.in-Ok-run.ensures.done ∙ c.in_ok-opened.ensures.asked;
  handed = handed;
  last = c.in-Ok-run.ensures.transported.caller
      ∙ ap (λ (its : ShareValue). its.maker.caller) c.in_ok-opened.ensures.share;
}

pub run-requires-clause-ready : goal.run-requires-clause-ready
run-requires-clause-ready g c = λ κs lives.
    let count : c.len-writers.result ≡ length c.args.ready.checked.plans = search rules in
    record {
      words = search rules;
      roomy = search rules;
      numbered = subst (λ writers. All (IsNumbered writers) c.in_ok-opened.opened.jobs.items) (sym count)
          (all_numbered c.in_ok-opened.opened.jobs.items c.args.ready.checked.plans c.in_ok-opened.ensures.asked);
      room = search rules;
      whole = search rules;
    }

pub into_report-requires-clause-numbered : goal.into_report-requires-clause-numbered
into_report-requires-clause-numbered g c =
    let count : c.len-writers.result ≡ length c.args.ready.checked.plans = search rules in
    let numbered = numbered_from c.in-Ok-run.ended.dones.items 0 c.args.ready.checked.plans
    (c.in-Ok-run.ensures.done ∙ c.in_ok-opened.ensures.asked) in
    record {
      callers = numbered.0;
      count = numbered.1 ∙ sym count;
      last = c.in-Ok-run.ensures.transported.caller
          ∙ ap (λ (its : ShareValue). its.maker.caller) c.in_ok-opened.ensures.share ∙ sym count;
    }

pub returns-in-Err-clause-planned : goal.returns-in-Err-clause-planned
returns-in-Err-clause-planned g c =
    let count : c.len-writers.result ≡ length c.args.ready.checked.plans = search rules in
    subst (λ writers. ComesOfWork writers c.in-Err.fault) count c.in-Err.ensures.fault

pub returns-in-Ok-run-clause-planned : goal.returns-in-Ok-run-clause-planned
returns-in-Ok-run-clause-planned g c =
    IfErr-weaker c.into_report.result (ComesOfWork 0) (ComesOfWork (length c.args.ready.checked.plans))
    (comes_of_more (length c.args.ready.checked.plans)) c.into_report.ensures.fault

pub returns-in-Ok-run-clause-report : goal.returns-in-Ok-run-clause-report
returns-in-Ok-run-clause-report g c =
    let opened = c.requires.name.opened in
    let count : c.len-writers.result ≡ length c.args.ready.checked.plans = search rules in
    IfOk-weaker c.into_report.result _ _ (λ report ended. record {
      legal = ended.opened.legal;
      settings = ended.opened.settings ∙ ap (λ (opened : Opened). opened.settings) opened ∙ c.requires.settings;
      limit = ended.opened.limit ∙ ap (λ (opened : Opened). opened.limit) opened ∙ c.requires.limit;
      carried_out = all_carried _ _ _ _ (have_ended g c report ended.handed);
      callers = callers_told _ _ _ _ (have_ended g c report ended.handed);
      counts = subst (λ writers. IsCounted writers report) count ended.counts;
      rest = subst (λ (marks : Marks). AreAtRest marks report.hand)
          (ap (λ (grant : Grant). grant.marks) c.in-Ok.ensures.words) ended.rest;
    }) c.into_report.ensures.ended

pub returns-in-Ok-run-clause-sink : goal.returns-in-Ok-run-clause-sink
returns-in-Ok-run-clause-sink g c =
    let settings = g.L.Named.opened.settings in
    let done = c.in-Ok-run.ended.done in
    let all = c.in-Ok-run.ended.dones.items ++ done ∷ [] in
    let before = g.S.Sink.content c.args.sink.now in
    let after = g.S.Sink.content c.run.new.sink in
    let planned = steps_are_planned c.args.ready.checked.estimate c.args.ready.checked.task c.args.ready.checked.plans
    c.requires.checked.faultless in
    let none = no_failing_step c.args.ready.checked.plans planned in
    let failed = c.in-Ok-run.ensures.transported.failings in
    IfOk-weaker c.into_report.result _ _ (λ report ended.
    let records = report.recorded.records in
    let ends = have_ended g c report ended.handed in
    let here = Contains-push c.in-Ok-run.ended.dones.items done in
    let seen = All-contains (λ (one : Handed). IsBeginning one.sight.seen records) all done ended.handed.saw here in
    let own = All-contains (HandsInAll records) all done ended.handed.own here in
    let legal = subst (λ (its : Settings). IsLegal its records) ended.opened.settings ended.opened.legal in
    let quiet = others_send_nothing settings records c.args.ready.checked.plans (all_carried _ _ _ _ ends) planned
    (callers_told _ _ _ _ ends) in
    let whole = taken_whole settings records done.receipts (length c.args.ready.checked.plans) before after legal
    (taken_further settings done.sight.seen records done.receipts before after seen c.in-Ok-run.ensures.transported.taken)
    (own ∙ ap (λ (caller : ℕ). records_of caller records) ends.last) quiet in
    record {
      failings = omega (arith, failings_told _ _ _ _ ends none, failed);
      taken = record {
        bytes = whole.0
            ∙ ap (λ (its : Settings). before.bytes ++ sent_bytes its records) (sym ended.opened.settings);
        units = whole.1
            ∙ ap (λ (its : Settings). before.units + sent_units its records) (sym ended.opened.settings);
      };
    }) c.into_report.ensures.ended
