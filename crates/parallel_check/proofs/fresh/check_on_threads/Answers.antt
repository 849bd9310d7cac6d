use Rattle.std.proofs.Common.{map}
use Rattle.std.proofs.lemmas.Result.{IfOk-weaker}
use Rattle.project_reading.specs.Texts.{text_seen}
use Rattle.project_check.proofs.Reports.{safe_on_ok}
use Rattle.parallel_check.proofs.fresh.check_on_threads.Goals as goal

pub returns-in-Ok-clause-report : goal.returns-in-Ok-clause-report
returns-in-Ok-clause-report g c =
    IfOk-weaker c.report_of.result _ _ (λ report h. h (map text_seen c.args.texts.now) c.in-Ok.ensures.typed) c.report_of.ensures

pub returns-in-Ok-clause-safe : goal.returns-in-Ok-clause-safe
returns-in-Ok-clause-safe g c = safe_on_ok c.report_of.result (map text_seen c.args.texts.now)

pub returns-in-Err-clause-report : goal.returns-in-Err-clause-report
returns-in-Err-clause-report g c =
    IfOk-weaker c.faults_of.result _ _ (λ report h. h (map text_seen c.args.texts.now) c.in-Err.ensures.faults) c.faults_of.ensures

pub returns-in-Err-clause-safe : goal.returns-in-Err-clause-safe
returns-in-Err-clause-safe g c = safe_on_ok c.faults_of.result (map text_seen c.args.texts.now)
