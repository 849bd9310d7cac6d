use Rattle.run_source.proofs.EndLaws.{IsReportDue-read, StopsUnwritten-source}
use Rattle.run_source.proofs.run.run_read.Goals as goal

pub returns-in-Ok-run_text : goal.returns-in-Ok-run_text
returns-in-Ok-run_text g c = λ folder.
    IsReportDue-read _ _ _ _ _ folder c.in-Ok.bytes.items c.in-Ok-run_text.ran.text.items c.in-Ok-run_text.ran.code c.in-Ok.ensures c.in-Ok-run_text.ensures

pub returns-in-Err : goal.returns-in-Err
returns-in-Err g c = λ folder. rw c.stop_of_source.ensures (StopsUnwritten-source _ _ _ _ _ folder c.in-Err.end c.in-Err.ensures)
