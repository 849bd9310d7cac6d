use Rattle.std.proofs.Common.{[], ◌∷◌, subst, sym}
use Rattle.std.specs.Option.{option_map}
use Rattle.slang_tree.specs.TypeTree.{type_tree}
use Rattle.type_rules.specs.TypeNames.{judged_type}
use Rattle.type_rules.specs.Expressions.{judged_result_word, written_types}
use Rattle.text_types.specs.Found.{IsJudged}
use Rattle.text_types.proofs.Parts.{judged_one}
use Rattle.expression_forms.specs.Context.{context_seen}
use Rattle.expression_forms.proofs.Lists.{result_parts}
use Rattle.expression_judging.proofs.Each.{type_in}
use Rattle.expression_judging.proofs.judging.result_found.Goals as goal

pub returns-in-Some : goal.returns-in-Some
returns-in-Some c = λ at fits.
    let context = context_seen c.args.context in
    let tree = type_tree c.in-Some.ty in
    subst (λ ty. IsJudged c.args.told.now.found c.result_word-in-Some.new.told.found c.result_word-in-Some.result
    (judged_result_word context c.args.place (written_types at (option_map type_tree ty))))
    (sym c.in-Some.is)
    (result_parts context c.args.place (judged_type at.names tree ∷ [])
    (judged_one (subst (IsJudged c.args.told.now.found c.variable_type-found.new.told.found c.variable_type-found.result)
    (type_in c.args.scope.now at tree fits) c.variable_type-found.ensures))
    c.result_word-in-Some.ensures)
