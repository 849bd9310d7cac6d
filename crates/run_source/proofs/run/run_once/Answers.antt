use Rattle.std.proofs.Common.{[]}
use Rattle.command_ends.proofs.StatusLaws.{HasStatus-concluded}
use Rattle.run_source.proofs.RowLaws.{Rows-status}
use Rattle.run_source.proofs.run.run_once.Goals as goal

pub returns-clause-status : goal.returns-clause-status
returns-clause-status g c = λ folder.
    HasStatus-concluded [] c.answer_run.result _ (c.answer_run.ensures folder) c.conclude.ensures.code c.conclude.ensures.line

pub returns-clause-rows : goal.returns-clause-rows
returns-clause-rows g c = λ folder. Rows-status (returns-clause-status g c folder)
