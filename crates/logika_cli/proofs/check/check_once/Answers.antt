use Rattle.std.proofs.Common.{map}
use Rattle.std.specs.String.{string_bytes}
use Rattle.command_ends.proofs.StatusLaws.{HasStatus-concluded, missed-concluded}
use Rattle.logika_cli.proofs.RowsLaws.{Rows-status}
use Rattle.logika_cli.proofs.check.check_once.Goals as goal

pub returns-clause-status : goal.returns-clause-status
returns-clause-status g c =
    HasStatus-concluded (map string_bytes c.args.files.now) c.answer_check-answer.result _ c.answer_check-answer.ensures.answers c.conclude.ensures.code
    c.conclude.ensures.line

pub returns-clause-rows : goal.returns-clause-rows
returns-clause-rows g c = Rows-status (returns-clause-status g c)

pub returns-clause-missed : goal.returns-clause-missed
returns-clause-missed g c =
    missed-concluded (map string_bytes c.args.files.now) c.answer_check-answer.result _ _ c.conclude.ensures.code c.answer_check-answer.ensures.code
    c.answer_check-answer.ensures.missed
