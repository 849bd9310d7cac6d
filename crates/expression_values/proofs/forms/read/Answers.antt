use Rattle.std.proofs.Common.{◌∙◌, Result, SFits, to_z, of_z, rules, ap, subst}
use Rattle.std.specs.Int.{w128}
use Rattle.std.proofs.lemmas.Int.{to_z-of_z}
use Rattle.slang_values.specs.Value.{number_of}
use Rattle.run_values.specs.declared.held.Held.{Held}
use Rattle.expression_values.specs.declared.ending.EvalEnd.{EvalEnd}
use Rattle.expression_values.specs.Answers.{AnswersValue}
use Rattle.expression_values.proofs.TwoParts.{read_made}
use Rattle.expression_values.proofs.forms.read.Goals as goal

pub returns-in-Ok : goal.returns-in-Ok
returns-in-Ok c records assigned a i found_head found_index =
    let head = subst (λ (answer : Result Held EvalEnd). AnswersValue records assigned a answer) c.in-Ok.ensures.parts.0 found_head in
    let index = subst (λ (answer : Result Held EvalEnd). AnswersValue records assigned i answer) c.in-Ok.ensures.parts.1 found_index in
    let z = c.number.result in
    let fits : SFits w128 z = search rules in
    read_made records assigned c.args.node.0 a i _ (to_z w128 (of_z w128 z)) _ head.0 head.1 index.0
    (to_z-of_z w128 z fits ∙ c.number.ensures ∙ ap number_of (c.as_value.ensures ∙ index.1)) (c.read.ensures records)
