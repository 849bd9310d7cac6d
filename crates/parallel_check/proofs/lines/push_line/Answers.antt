use Rattle.std.proofs.Common.{refl}
use Rattle.verdict_laws.specs.Rules.{unclosed, unaccepted}
use Rattle.program_answers.proofs.Methods.{line_pushed}
use Rattle.parallel_check.proofs.lines.push_line.Goals as goal

pub returns-in-Ok-push : goal.returns-in-Ok-push
returns-in-Ok-push c =
    line_pushed unclosed unaccepted c.args.typed.now c.args.number c.args.number c.args.lines.now c.push.new.self c.in-Ok.line refl c.in-Ok-push.ensures.ok
    c.in-Ok.ensures
