use Rattle.std.proofs.Common.{Result, subst}
use Rattle.run_values.specs.declared.held.Held.{Held}
use Rattle.expression_values.specs.declared.ending.EvalEnd.{EvalEnd}
use Rattle.expression_values.specs.Answers.{AnswersValue}
use Rattle.expression_values.proofs.TwoParts.{binary_made}
use Rattle.expression_values.proofs.forms.binary.Goals as goal

pub returns : goal.returns
returns c records assigned a b go is_left evaluated found =
    let right = subst (λ (answer : Result Held EvalEnd). AnswersValue records assigned b answer) c.in-Ok.is found in
    binary_made records assigned c.args.node.0 c.args.operator a b _ _ _ go is_left evaluated right.0 right.1 (c.strict.ensures records)
