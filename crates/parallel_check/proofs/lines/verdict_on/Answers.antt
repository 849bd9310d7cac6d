use Rattle.std.proofs.Common.{ap, length, subst, sym, ◌∙◌}
use Rattle.legs.specs.Legs.{IsLegsEnd}
use Rattle.verdicts.specs.Choice.{plain_verdict}
use Rattle.method_answers.proofs.Verdicts.{verdict_many}
use Rattle.verdict_laws.specs.Rules.{unclosed, unaccepted}
use Rattle.program_keys.proofs.Adding.{many_legs}
use Rattle.parallel_check.proofs.Verdicts.{used, verdict_in_front}
use Rattle.parallel_check.proofs.lines.verdict_on.Goals as goal

pub returns-in-Ok-clause-verdict : goal.returns-in-Ok-clause-verdict
returns-in-Ok-clause-verdict c =
    verdict_in_front c.args.typed.now c.args.method c.in-Ok.legs c.in-Ok.ensures.legs c.args.answers.now (plain_verdict c.method_verdict.result)
    c.requires.answers c.method_verdict.ensures

pub returns-in-Ok-clause-used : goal.returns-in-Ok-clause-used
returns-in-Ok-clause-used c = c.len.ensures ∙ used c.args.typed.now c.args.method c.in-Ok.legs c.in-Ok.ensures.legs

pub returns-in-Many-clause-verdict : goal.returns-in-Many-clause-verdict
returns-in-Many-clause-verdict c =
    let many = subst (IsLegsEnd c.args.typed.now c.args.method) c.in-Many.is c.in-Err.ensures.end in
    verdict_many unclosed unaccepted c.args.typed.now c.args.method many.0

pub returns-in-Many-clause-used : goal.returns-in-Many-clause-used
returns-in-Many-clause-used c =
    let many = subst (IsLegsEnd c.args.typed.now c.args.method) c.in-Many.is c.in-Err.ensures.end in
    sym (ap length (many_legs c.args.typed.now c.args.method many.0))
