use Rattle.std.specs.Option.{option_map}
use Rattle.slang_tree.specs.ExprTree.{expr_tree}
use Rattle.type_rules.specs.Meanings.{meaning_of}
use Rattle.type_rules.specs.Expressions.{judged_right}
use Rattle.type_rules.specs.Statements.{target_faults, target_type}
use Rattle.text_types.specs.TextType.{text_value}
use Rattle.target_judging.proofs.Calls.{value_assigned}
use Rattle.target_judging.proofs.changing.assignment.Goals as goal

pub returns-clause-told : goal.returns-clause-told
returns-clause-told c = λ at fits.
    let name = c.args.name.now in
    let meaning = meaning_of at name.text in
    value_assigned c.args.told.now.found c.target-ty.new.told.found c.judged_right.new.told.found c.against_optional.new.told.found
    (target_faults at name meaning) c.in_ok-found.found (option_map text_value c.target-ty.result) (target_type meaning) (judged_right at (expr_tree c.args.value.now))
    (c.target-ty.ensures.told at fits) (c.in_ok-found.ensures.judged at fits) (c.target-ty.ensures.ty at fits) c.against_optional.ensures
