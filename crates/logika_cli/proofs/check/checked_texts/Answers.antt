use Rattle.std.proofs.Common.{map, subst}
use Rattle.project_reading.specs.Texts.{text_seen}
use Rattle.project_reports.specs.Reports.{IsReport}
use Rattle.logika_cli.proofs.CheckLaws.{AnswerIsDue-read, StopsUnwritten-read}
use Rattle.logika_cli.proofs.check.checked_texts.Goals as goal

pub returns-in-Ok-check_texts-clause-checks : goal.returns-in-Ok-check_texts-clause-checks
returns-in-Ok-check_texts-clause-checks g c =
    let checked = c.in-Ok-check_texts.checked in
    let output = subst (λ texts. IsReport 1 (map text_seen texts) checked.text.items checked.code) c.as_slice.ensures c.in-Ok-check_texts.ensures.exact in
    AnswerIsDue-read _ _ _ c.in-Ok.ensures.reads.0 output c.in-Ok-check_texts.ensures.code

pub returns-clause-checks : goal.returns-clause-checks
returns-clause-checks g c = rw c.from.ensures (StopsUnwritten-read _ _ _ c.in-Err.end c.in-Err.ensures.reads)
