use Rattle.std.proofs.Common.{map}
use Rattle.project_reading.specs.Texts.{text_seen}
use Rattle.project_check.proofs.Reports.{safe_on_ok}
use Rattle.project_check.proofs.printing.check_texts.Goals as goal

pub returns-in-Ok-clause-exact : goal.returns-in-Ok-clause-exact
returns-in-Ok-clause-exact c = c.printed.ensures.exact (map text_seen c.args.texts.now) c.in-Ok.ensures.report

pub returns-in-Ok-clause-safe : goal.returns-in-Ok-clause-safe
returns-in-Ok-clause-safe c = safe_on_ok c.printed.result (map text_seen c.args.texts.now)
