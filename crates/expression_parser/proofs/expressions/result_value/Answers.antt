use Rattle.std.proofs.Common.{Some, ap, ◌∙◌, sym}
use Rattle.slang_tree.specs.ExprTree as e
use Rattle.slang_tree.proofs.Lines.{expr_tree-Res}
use Rattle.slang_machine.specs.Open.{of_result, whole_type}
use Rattle.slang_machine.specs.States.{whole, have, result_or_type}
use Rattle.token_cursor.specs.Outcome.{outcome}
use Rattle.token_cursor.specs.Gives.{ahead}
use Rattle.token_cursor.proofs.Exits.{passed_on}
use Rattle.expression_parser.proofs.Purposes.{result_type, closes_result, result_open}
use Rattle.expression_parser.proofs.expressions.result_value.Goals as goal

pub returns-in_err-ty-clause-refused : goal.returns-in_err-ty-clause-refused
returns-in_err-ty-clause-refused c =
    passed_on c.from_residual.result _ _ _ c.from_residual.ensures.1 c.in_err-ty.ensures.refused (λ due none around.
    none (result_or_type c.args.place around) (whole_type (of_result c.args.place around)) (λ ty. have (whole (e.result c.args.place (Some ty))) around)
    (result_type c.args.place around) (closes_result c.args.place around))

pub returns-clause-reads : goal.returns-clause-reads
returns-clause-reads c = λ around.
    let place = c.args.place in
    let more = ahead c.element_type.new.tokens in
    c.in_ok-ty.ensures.reads (result_or_type place around) (whole_type (of_result place around)) (λ ty. have (whole (e.result place (Some ty))) around)
    (result_type place around) (closes_result place around)
    ∙ result_open place around c.in_ok-ty.ty more c.in_ok-ty.ensures.absent
    ∙ ap (λ x. outcome (have (whole x) around) more) (sym (expr_tree-Res place c.in_ok-ty.ty))
