use Rattle.std.proofs.Common.{codes, nat_eq, nat_le, refl, ap, ◌∙◌, SFits, rules}
use Rattle.std.specs.Option.{option_map}
use Rattle.std.specs.Int.{w128}
use Rattle.std.proofs.lemmas.Int.{to_z-of_z}
use Rattle.std.proofs.lemmas.Result.{on_ok_weaker}
use Rattle.slang_lexer.specs.declared.token.TokenKind.TheVariants as kind
use Rattle.slang_lexer.specs.Spelling.{signs, words}
use Rattle.slang_tree.specs.TypeTree.{type_tree}
use Rattle.slang_tree.specs.ExprTree.{expr_tree, number, truth, falsity, name, result, entry_value, old_value, minus, negation}
use Rattle.slang_tree.proofs.Lines.{expr_tree-Number, expr_tree-True, expr_tree-False, expr_tree-Name, expr_tree-Res, expr_tree-In, expr_tree-Old, expr_tree-Minus, expr_tree-Not}
use Rattle.slang_grammar.specs.Operators.{prefix_level, whole_level}
use Rattle.slang_grammar.specs.Expressions.{level}
use Rattle.print_expressions.specs.Bare.{nowhere}
use Rattle.print_expressions.specs.Operators.{row_of}
use Rattle.print_expressions.specs.Hefts.{one, around, followed, heft, peak_of}
use Rattle.print_expressions.specs.Accounts.{left_stays, right_stays, head_stays, first_stays, first_before}
use Rattle.expression_standing.specs.Account.{account_of, accounts_of}
use Rattle.print_layout.specs.Pieces.{none, blank}
use Rattle.token_printing.specs.Gaps.{gap_seen}
use Rattle.expression_printing.proofs.Adds.{adds_then, adds_text, adds_word, adds_name, adds_tree}
use Rattle.expression_printing.proofs.Forms.{number_added, operator_added, placed_added, bracketed_added, application_added, indices_added, exprs_added, sequence_added, one_behind, tight_of}
use Rattle.expression_printing.proofs.expressions.+printing.Goals as goal

pub add_placed-returns-in_ok-add_expr : goal.add_placed-returns-in_ok-add_expr
add_placed-returns-in_ok-add_expr t c =
    on_ok_weaker c.add_text.result
    (λ h. bracketed_added c.args.light (gap_seen c.args.gap) c.args.stands c.args.expr.now c.if-stands.false c.in_ok-add_word.ensures c.in_ok-add_expr.ensures h)
    c.add_text.ensures

pub add_tight-returns : goal.add_tight-returns
add_tight-returns t c =
    on_ok_weaker c.add_placed.result
    (λ h. placed_added c.args.light none c.stands_behind_prefix.result (nat_le prefix_level (level (account_of c.args.light c.args.expr.now))) c.args.expr.now
    (c.stands_behind_prefix.ensures c.args.light) h) c.add_placed.ensures

pub add_binary-returns : goal.add_binary-returns
add_binary-returns t c =
    let row = row_of c.args.operator in
    let left = account_of c.args.light c.args.left.now in
    let right = account_of c.args.light c.args.right.now in
    on_ok_weaker c.add_placed-2.result
    (λ h. adds_then
    (placed_added c.args.light (gap_seen c.args.gap) c.left_stands.result (left_stays c.args.light row left right) c.args.left.now c.left_stands.ensures
    c.in_ok-add_placed.ensures)
    (adds_then (operator_added c.args.operator c.operator_sign.result.now c.operator_sign.ensures c.in_ok-add_word.ensures)
    (placed_added c.args.light blank c.right_stands.result (right_stays c.args.light row left right) c.args.right.now c.right_stands.ensures h)))
    c.add_placed-2.ensures

pub add_application-returns : goal.add_application-returns
add_application-returns t c =
    let head = account_of c.args.light c.args.head.now in
    let next = around (peak_of (accounts_of c.args.light c.args.arguments.now)) in
    on_ok_weaker c.add_arguments.result
    (λ h. application_added c.args.light (gap_seen c.args.gap) c.args.head.now c.args.arguments.now
    (placed_added c.args.light (gap_seen c.args.gap) c.stands_before_arguments.result (head_stays c.args.light head next) c.args.head.now
    c.stands_before_arguments.ensures c.in_ok-add_placed.ensures) h) c.add_arguments.ensures

pub add_update-returns : goal.add_update-returns
unfolding signs words
add_update-returns t c =
    let light = c.args.light in
    let head = account_of light c.args.head.now in
    let index = account_of light c.args.index.now in
    let element = account_of light c.args.element.now in
    let next = around (followed (heft (first_before light index element)) (heft element)).peak in
    on_ok_weaker c.add_text-2.result
    (λ h. adds_then
    (adds_then
    (adds_then (placed_added light (gap_seen c.args.gap) c.stands_before_element.result (head_stays light head next) c.args.head.now
    c.stands_before_element.ensures c.in_ok-add_placed.ensures)
    (adds_then (adds_text kind.LeftParen nowhere (codes "(") refl c.in_ok-add_text.ensures)
    (placed_added light none c.stands_first.result (first_stays light index element) c.args.index.now c.stands_first.ensures c.in_ok-add_placed-2.ensures)))
    (adds_then (adds_word blank kind.TildeArrow nowhere (codes "~>") refl c.in_ok-add_word.ensures) c.in_ok-add_expr.ensures))
    (adds_text kind.RightParen nowhere (codes ")") refl h)) c.add_text-2.ensures

pub add_field-returns : goal.add_field-returns
unfolding signs words
add_field-returns t c =
    on_ok_weaker c.add_name.result
    (λ h. adds_then
    (placed_added c.args.light (gap_seen c.args.gap) c.stands_before_dot.result (head_stays c.args.light (account_of c.args.light c.args.head.now) one)
    c.args.head.now c.stands_before_dot.ensures c.in_ok-add_placed.ensures)
    (adds_then (adds_text kind.Dot nowhere (codes ".") refl c.in_ok-add_text.ensures) (adds_name none c.args.name.now h)))
    c.add_name.ensures

pub add_sequence-returns : goal.add_sequence-returns
add_sequence-returns t c =
    on_ok_weaker c.add_arguments.result
    (λ h. sequence_added c.args.light (gap_seen c.args.gap) c.args.ty.now c.args.elements.now c.in_ok-add_word.ensures c.in_ok-add_element.ensures h)
    c.add_arguments.ensures

pub add_quantified-returns : goal.add_quantified-returns
unfolding signs words
add_quantified-returns t c =
    let light = c.args.light in
    on_ok_weaker c.add_body.result
    (λ h. adds_then
    (adds_then
    (adds_then c.in_ok-add_quantifier.ensures (adds_then (adds_text kind.LeftParen nowhere (codes "(") refl c.in_ok-add_text.ensures)
    (placed_added light none c.stands_first.result (first_stays light (account_of light c.args.low.now) (account_of light c.args.high.now)) c.args.low.now
    c.stands_first.ensures c.in_ok-add_placed.ensures)))
    (adds_then (adds_word blank kind.Until nowhere (codes "until") refl c.in_ok-add_word.ensures) c.in_ok-add_expr.ensures))
    (adds_then (adds_text kind.RightParen nowhere (codes ")") refl c.in_ok-add_text-2.ensures) h)) c.add_body.ensures

pub add_indices-returns : goal.add_indices-returns
unfolding signs words
add_indices-returns t c =
    on_ok_weaker c.add_body.result
    (λ h. adds_then
    (adds_then c.in_ok-add_quantifier.ensures (adds_then (adds_text kind.LeftParen nowhere (codes "(") refl c.in_ok-add_text.ensures)
    (placed_added c.args.light none c.stands_as_head.result (nat_eq (level (account_of c.args.light c.args.head.now)) whole_level) c.args.head.now
    (c.stands_as_head.ensures c.args.light) c.in_ok-add_placed.ensures)))
    (adds_then (adds_text kind.Dot nowhere (codes ".") refl c.in_ok-add_text-2.ensures)
    (adds_then (indices_added c.in_ok-add_text-3.ensures) (adds_then (adds_text kind.RightParen nowhere (codes ")") refl c.in_ok-add_text-4.ensures) h))))
    c.add_body.ensures

pub add_arguments-returns : goal.add_arguments-returns
unfolding signs words
add_arguments-returns t c =
    on_ok_weaker c.add_text-2.result
    (λ h. adds_then (adds_then (adds_text kind.LeftParen nowhere (codes "(") refl c.in_ok-add_text.ensures) c.in_ok-add_exprs.ensures)
    (adds_text kind.RightParen nowhere (codes ")") refl h)) c.add_text-2.ensures

pub add_body-returns : goal.add_body-returns
unfolding signs words
add_body-returns t c =
    on_ok_weaker c.add_text-2.result
    (λ h. adds_then
    (adds_then (adds_text kind.LeftParen nowhere (codes "(") refl c.in_ok-add_text.ensures)
    (adds_then (adds_name none c.args.name.now c.in_ok-add_name.ensures)
    (adds_then (adds_word blank kind.FatArrow nowhere (codes "=>") refl c.in_ok-add_word.ensures) c.in_ok-add_expr.ensures)))
    (adds_text kind.RightParen nowhere (codes ")") refl h)) c.add_text-2.ensures

pub add_expr-returns-in-Number : goal.add_expr-returns-in-Number
add_expr-returns-in-Number t c =
    let within : SFits w128 c.in-Number.z = search rules in
    on_ok_weaker c.add_number.result
    (λ h. adds_tree c.args.light (gap_seen c.args.gap) (expr_tree c.args.expr.now) (number c.in-Number.field-0 c.in-Number.z)
    (ap expr_tree c.in-Number.is ∙ expr_tree-Number c.in-Number.field-0 c.in-Number.z)
    (number_added (gap_seen c.args.gap) c.args.light _ c.in-Number.z c.in-Number.field-0 (to_z-of_z w128 c.in-Number.z within) h)) c.add_number.ensures

pub add_expr-returns-in-True : goal.add_expr-returns-in-True
unfolding signs words
add_expr-returns-in-True t c =
    on_ok_weaker c.add_word.result
    (λ h. adds_tree c.args.light (gap_seen c.args.gap) (expr_tree c.args.expr.now) (truth c.in-True.field-0) (ap expr_tree c.in-True.is ∙ expr_tree-True c.in-True.field-0)
    (adds_word (gap_seen c.args.gap) kind.True nowhere (codes "T") refl h)) c.add_word.ensures

pub add_expr-returns-in-False : goal.add_expr-returns-in-False
unfolding signs words
add_expr-returns-in-False t c =
    on_ok_weaker c.add_word-in-False.result
    (λ h. adds_tree c.args.light (gap_seen c.args.gap) (expr_tree c.args.expr.now) (falsity c.in-False.field-0) (ap expr_tree c.in-False.is ∙ expr_tree-False c.in-False.field-0)
    (adds_word (gap_seen c.args.gap) kind.False nowhere (codes "F") refl h)) c.add_word-in-False.ensures

pub add_expr-returns-in-Name : goal.add_expr-returns-in-Name
add_expr-returns-in-Name t c =
    on_ok_weaker c.add_name.result
    (λ h. adds_tree c.args.light (gap_seen c.args.gap) (expr_tree c.args.expr.now) (name c.in-Name.name.text c.in-Name.name.place)
    (ap expr_tree c.in-Name.is ∙ expr_tree-Name c.in-Name.name) (adds_name (gap_seen c.args.gap) c.in-Name.name h)) c.add_name.ensures

pub add_expr-returns-in_ok-add_word-in-Res : goal.add_expr-returns-in_ok-add_word-in-Res
unfolding signs words
add_expr-returns-in_ok-add_word-in-Res t c =
    on_ok_weaker c.add_element.result
    (λ h. adds_tree c.args.light (gap_seen c.args.gap) (expr_tree c.args.expr.now) (result c.in-Res.field-0 (option_map type_tree c.in-Res.ty))
    (ap expr_tree c.in-Res.is ∙ expr_tree-Res c.in-Res.field-0 c.in-Res.ty)
    (adds_then (adds_word (gap_seen c.args.gap) kind.Res nowhere (codes "Res") refl c.in_ok-add_word-in-Res.ensures) h)) c.add_element.ensures

pub add_expr-returns-in_ok-add_word-in-In : goal.add_expr-returns-in_ok-add_word-in-In
unfolding signs words
add_expr-returns-in_ok-add_word-in-In t c =
    on_ok_weaker c.add_named.result
    (λ h. adds_tree c.args.light (gap_seen c.args.gap) (expr_tree c.args.expr.now) (entry_value c.in-In.field-0 c.in-In.name)
    (ap expr_tree c.in-In.is ∙ expr_tree-In c.in-In.field-0 c.in-In.name)
    (adds_then (adds_word (gap_seen c.args.gap) kind.In nowhere (codes "In") refl c.in_ok-add_word-in-In.ensures) h)) c.add_named.ensures

pub add_expr-returns-in_ok-add_word-in-Old : goal.add_expr-returns-in_ok-add_word-in-Old
unfolding signs words
add_expr-returns-in_ok-add_word-in-Old t c =
    on_ok_weaker c.add_named-in-Old.result
    (λ h. adds_tree c.args.light (gap_seen c.args.gap) (expr_tree c.args.expr.now) (old_value c.in-Old.field-0 c.in-Old.name)
    (ap expr_tree c.in-Old.is ∙ expr_tree-Old c.in-Old.field-0 c.in-Old.name)
    (adds_then (adds_word (gap_seen c.args.gap) kind.Old nowhere (codes "Old") refl c.in_ok-add_word-in-Old.ensures) h)) c.add_named-in-Old.ensures

pub add_expr-returns-in_ok-add_word-in-Minus : goal.add_expr-returns-in_ok-add_word-in-Minus
unfolding signs words
add_expr-returns-in_ok-add_word-in-Minus t c =
    on_ok_weaker c.add_tight.result
    (λ h. adds_tree c.args.light (gap_seen c.args.gap) (expr_tree c.args.expr.now) (minus c.in-Minus.field-0 (expr_tree c.in-Minus.operand))
    (ap expr_tree c.in-Minus.is ∙ expr_tree-Minus c.in-Minus.field-0 c.in-Minus.operand)
    (adds_then (adds_word (gap_seen c.args.gap) kind.Minus nowhere (codes "-") refl c.in_ok-add_word-in-Minus.ensures)
    (tight_of c.args.light _ c.in-Minus.operand c.get.ensures h))) c.add_tight.ensures

pub add_expr-returns-in_ok-add_word-in-Not : goal.add_expr-returns-in_ok-add_word-in-Not
unfolding signs words
add_expr-returns-in_ok-add_word-in-Not t c =
    on_ok_weaker c.add_tight-in-Not.result
    (λ h. adds_tree c.args.light (gap_seen c.args.gap) (expr_tree c.args.expr.now) (negation c.in-Not.field-0 (expr_tree c.in-Not.operand))
    (ap expr_tree c.in-Not.is ∙ expr_tree-Not c.in-Not.field-0 c.in-Not.operand)
    (adds_then (adds_word (gap_seen c.args.gap) kind.Bang nowhere (codes "!") refl c.in_ok-add_word-in-Not.ensures)
    (tight_of c.args.light _ c.in-Not.operand c.get-in-Not.ensures h))) c.add_tight-in-Not.ensures

pub add_exprs-returns-in_ok-add_expr-in-Some : goal.add_exprs-returns-in_ok-add_expr-in-Some
add_exprs-returns-in_ok-add_expr-in-Some t c =
    on_ok_weaker c.add_behind.result
    (λ h. exprs_added c.args.light (gap_seen c.args.first) (gap_seen c.args.next) c.args.exprs.now _ _ c.in-Some.ensures.cases.0 c.in_ok-add_expr-in-Some.ensures h) c.add_behind.ensures

pub add_behind-loop-expr-preserved : goal.add_behind-loop-expr-preserved
add_behind-loop-expr-preserved t c =
    one_behind c.args.light (gap_seen c.args.gap) c.args.exprs.now c.loop-expr.expr-index _ c.loop-expr-test.true c.expr-item.is c.loop-expr.invariant c.in_ok-add_text.ensures c.in_ok-add_expr.ensures
