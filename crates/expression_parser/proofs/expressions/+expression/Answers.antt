use Rattle.std.proofs.Common.{◌≡◌, ℕ, ◌<◌, ◌≤◌, [], ◌∷◌, ◌++◌, cond, not, Some, None, Result, Ok, List, map, length, refl, ap, ◌∙◌, sym, subst, arith, rules}
use mir.Syntax.{w128}
use mir.Val.{SFits, of_z, to_z}
use Rattle.std.proofs.lemmas.Int.{to_z-of_z}
use Rattle.std.proofs.lemmas.List.{length-map, length-append}
use Rattle.std.specs.Prelude.{IfOk}
use Rattle.std.specs.Option.{option_map}
use Rattle.std.proofs.lemmas.Result.{IfOk-weaker, on_ok_weaker, IfOk-at_ok, IfErr-at_err}
use Rattle.slang_lexer.specs.declared.token.TokenKind.TheVariants as kind
use Rattle.slang_tree.specs.declared.expression.Expr.{Expr}
use Rattle.slang_tree.specs.declared.expression.Expr.TheVariants as exprs
use Rattle.slang_tree.specs.TypeTree.{TypeTree, type_tree}
use Rattle.slang_tree.specs.ExprTree as e
use Rattle.slang_tree.specs.ExprTree.{ExprTree, expr_tree, exprs_of, place_of}
use Rattle.slang_tree.proofs.Lines.{expr_tree-Number, expr_tree-True, expr_tree-False, expr_tree-Name}
use Rattle.slang_tokens.specs.Tok.{tok}
use Rattle.slang_machine.specs.Open.{inside, under, right_of, low_of, high_of, argument_of, element_at, of_elements, whole_type}
use Rattle.slang_machine.specs.States.{whole, dotted, between, indices_of, want, have, argument_or_end, elements_due, element_or_end, sequence_or_type, field_written, range_left, bound_left}
use Rattle.slang_machine.specs.Expressions.{application, body_around}
use Rattle.token_cursor.specs.Outcome.{outcome}
use Rattle.token_cursor.specs.Gives.{ahead}
use Rattle.token_cursor.specs.Lists.{behind}
use Rattle.token_cursor.proofs.Steps.{expects, expects_name}
use Rattle.token_cursor.proofs.Exits.{passed_on, built, refused_by, refused_as, kept_with, kept_refused}
use Rattle.expression_parser.specs.declared.begin.Head.TheVariants as head
use Rattle.expression_parser.specs.declared.build.BracketForm.TheVariants as brackets
use Rattle.expression_parser.specs.declared.build.RangeForm.TheVariants as ranges
use Rattle.expression_parser.specs.Begins.{behind_head, behind_begin}
use Rattle.expression_parser.specs.Below.{StopsBefore}
use Rattle.expression_parser.specs.Forms.{operand_form, form_tree, range_form, applied_tree, quantified_tree}
use Rattle.expression_parser.specs.Expects.{ReadsExprs}
use Rattle.expression_parser.proofs.Haves.{have_prefix, have_whole, have_low, have_indices, takes_left, joins_right, closes, until_due, index_arrow, argument_goes_on, bracket_opens, dot_opens}
use Rattle.expression_parser.proofs.Pairs.{beside_with, beside_refused, refusal_at}
use Rattle.expression_parser.proofs.Starts.{exprs_start}
use Rattle.expression_parser.proofs.Turns.{expr_or_end, expr_end, list_start, map_push, not_false, behind_no_longer}
use Rattle.expression_parser.proofs.Purposes.{closes_inside, closes_element, closes_high, closes_body, opens_sequence, elements_open, element_list, reads_elements, argument_list, argument_closes, argument_opens, first_argument, argument_closing, more_arguments}
use Rattle.expression_parser.proofs.expressions.+expression.Goals as goal

-- expression

pub expression-returns-in_err-operand-clause-refused : goal.expression-returns-in_err-operand-clause-refused
expression-returns-in_err-operand-clause-refused t c =
    passed_on c.from_residual.result _ _ _ c.from_residual.ensures.1 c.in_err-operand.ensures.refused (λ due none around same no. none around)

pub expression-returns-clause-reads : goal.expression-returns-clause-reads
expression-returns-clause-reads t c =
    IfOk-weaker c.operators.result _ _ (λ expr reads around same no.
    c.in_ok-operand.ensures.reads around
    ∙ have_whole (operand_form c.in_ok-operand.operand) around (ahead c.operand.new.tokens) c.in_ok-operand.ensures.ends no
    ∙ ap (λ x. outcome (have (whole x) around) (ahead c.operand.new.tokens)) (sym c.in_ok-left.ensures)
    ∙ reads around same) c.operators.ensures.reads

pub expression-returns-clause-refused : goal.expression-returns-clause-refused
expression-returns-clause-refused t c =
    refused_as c.operators.result _ _ (λ due none around same no.
    c.in_ok-operand.ensures.reads around
    ∙ have_whole (operand_form c.in_ok-operand.operand) around (ahead c.operand.new.tokens) c.in_ok-operand.ensures.ends no
    ∙ ap (λ x. outcome (have (whole x) around) (ahead c.operand.new.tokens)) (sym c.in_ok-left.ensures)
    ∙ none around same) c.operators.ensures.refused

-- operators

pub operators-operators-preserved : goal.operators-operators-preserved
operators-operators-preserved t c =
    let row = c.in-Some.row in
    let left = expr_tree c.operators.left in
    let made = c.in_ok-left.ensures.made in
    let right = expr_tree made.0 in
    let more = ahead c.expression-right.new.tokens in
    let stops : StopsBefore c.pull.result more = IfOk-at_ok (λ (x : Expr). StopsBefore c.pull.result more) made.1 c.expression-right.ensures.stops in
    let shorter : length more < length (ahead c.advance.new.self) = IfOk-at_ok (λ (x : Expr). length more < length (ahead c.advance.new.self)) made.1 c.expression-right.ensures.shorter in
    record {
      reads = λ around same.
          c.operators.invariant.reads around same
          ∙ takes_left around left row (ahead c.operators.tokens) c.in-Some.ensures.some.0 (omega (arith, same, c.in-Some.ensures.some.1))
          ∙ ap (outcome (want (right_of left row around))) (sym c.advance.ensures)
          ∙ IfOk-at_ok _ made.1 c.expression-right.ensures.reads (right_of left row around) (sym c.pull.ensures.value) refl
          ∙ joins_right right left row around more c.in-Some.ensures.some.2 (subst (λ n. StopsBefore n more) c.pull.ensures.value stops)
          ∙ ap (λ x. outcome (have (whole x) around) more) (sym made.2);
      ends = stops.operand;
      no_longer = omega (arith, shorter, ap length c.advance.ensures, behind_no_longer (ahead c.operators.tokens), c.operators.invariant.no_longer);
    }

pub operators-returns-in_err-left-clause-refused : goal.operators-returns-in_err-left-clause-refused
operators-returns-in_err-left-clause-refused t c =
    let row = c.in-Some.row in
    let left = expr_tree c.operators.left in
    passed_on c.from_residual.result _ _ _ c.from_residual.ensures.1
    (refusal_at _ c.expression-right.result _ c.in_err-left.ensures.refused c.expression-right.ensures.refused) (λ due none around same.
    c.operators.invariant.reads around same
    ∙ takes_left around left row (ahead c.operators.tokens) c.in-Some.ensures.some.0 (omega (arith, same, c.in-Some.ensures.some.1))
    ∙ ap (outcome (want (right_of left row around))) (sym c.advance.ensures)
    ∙ none (right_of left row around) (sym c.pull.ensures.value) refl)

pub operators-returns-clause-reads : goal.operators-returns-clause-reads
operators-returns-clause-reads t c =
    kept_with c.kept.result c.operators.left c.refuse_mixed.result _ _ c.kept.ensures c.refuse_mixed.ensures.stops (λ stops. c.operators.invariant.reads)

pub operators-returns-clause-refused : goal.operators-returns-clause-refused
operators-returns-clause-refused t c =
    kept_refused c.kept.result c.operators.left c.refuse_mixed.result _ _ c.kept.ensures c.refuse_mixed.ensures.refused (λ due none around same.
    c.operators.invariant.reads around same ∙ none (expr_tree c.operators.left) around same)

-- operand

pub operand-returns-in_err-beginning-clause-refused : goal.operand-returns-in_err-beginning-clause-refused
operand-returns-in_err-beginning-clause-refused t c =
    passed_on c.from_residual.result _ _ _ c.from_residual.ensures.1 c.in_err-beginning.ensures.refused (λ due none around. none around)

pub operand-returns-in-Prefix-clause-reads : goal.operand-returns-in-Prefix-clause-reads
operand-returns-in-Prefix-clause-reads t c = λ around.
    let token = tok c.in_ok-beginning.token.now in
    let place = c.in_ok-beginning.token.now.place in
    let inner = operand_form c.in_ok-inner-in-Prefix.inner in
    let more = ahead c.operand.new.tokens in
    c.in_ok-beginning.ensures.reads around
    ∙ ap (λ b. outcome (behind_begin around token b) (ahead c.begin.new.tokens)) c.in-Prefix.is
    ∙ c.in_ok-inner-in-Prefix.ensures.reads (under c.in-Prefix.prefix place around)
    ∙ have_prefix inner c.in-Prefix.prefix place around more c.in_ok-inner-in-Prefix.ensures.ends
    ∙ ap (λ o. outcome (have o around) more) (sym c.in_ok-prefixed-in-Prefix.ensures)

pub operand-posts-init : goal.operand-posts-init
operand-posts-init t c = record {
  reads = λ around.
      c.in_ok-beginning.ensures.reads around
      ∙ ap (λ b. outcome (behind_begin around (tok c.in_ok-beginning.token.now) b) (ahead c.begin.new.tokens)) c.in-Head.is
      ∙ c.in_ok-head_expr.ensures.reads around;
  shorter = omega (arith, c.in_ok-beginning.ensures.shorter, c.in_ok-head_expr.ensures.no_longer);
}

pub operand-posts-preserved : goal.operand-posts-preserved
operand-posts-preserved t c = record {
  reads = λ around. c.posts.invariant.reads around ∙ c.in_ok-operand.ensures.reads around;
  shorter = omega (arith, c.posts.invariant.shorter, c.in_ok-operand.ensures.shorter);
}

-- post

pub post-returns-then-take-clause-reads : goal.post-returns-then-take-clause-reads
post-returns-then-take-clause-reads t c =
    built c.applied.result c.brackets.result (λ made read. operand_form made ≡ whole (applied_tree (form_tree c.args.head) read)) _ _
    c.applied.ensures.made c.brackets.ensures.reads (λ made read reads same around.
    let head = form_tree c.args.head in
    bracket_opens (operand_form c.args.head) around (ahead c.args.tokens.now) (sym c.take.ensures.found ∙ c.if-take.true)
    ∙ ap (outcome (argument_or_end head [] around)) (sym c.if-take.ensures.moved)
    ∙ reads head around
    ∙ ap (λ o. outcome (have o around) (ahead c.brackets.new.tokens)) (sym same))

pub post-returns-then-take-clause-refused : goal.post-returns-then-take-clause-refused
post-returns-then-take-clause-refused t c =
    refused_by c.applied.result c.brackets.result _ _ c.applied.ensures.refused c.brackets.ensures.refused (λ due none around.
    let head = form_tree c.args.head in
    bracket_opens (operand_form c.args.head) around (ahead c.args.tokens.now) (sym c.take.ensures.found ∙ c.if-take.true)
    ∙ ap (outcome (argument_or_end head [] around)) (sym c.if-take.ensures.moved)
    ∙ none head around)

pub post-returns-clause-reads : goal.post-returns-clause-reads
post-returns-clause-reads t c =
    built c.dotted.result c.name.result (λ made written. operand_form made ≡ dotted (form_tree c.args.head) written) _ _
    c.dotted.ensures.made c.name.ensures.reads (λ made written reads same around.
    let head = form_tree c.args.head in
    dot_opens (operand_form c.args.head) around (ahead c.args.tokens.now) c.requires (sym c.take.ensures.found ∙ c.if-take.false)
    ∙ ap (λ ts. outcome (field_written head around) (behind ts)) (sym c.if-take.ensures.moved)
    ∙ ap (outcome (field_written head around)) (sym c.advance.ensures)
    ∙ reads (field_written head around) (λ n. have (dotted head n) around) (expects_name _ _ refl refl (λ token. refl))
    ∙ ap (λ o. outcome (have o around) (ahead c.name.new.tokens)) (sym same))

pub post-returns-clause-refused : goal.post-returns-clause-refused
post-returns-clause-refused t c =
    refused_by c.dotted.result c.name.result _ _ c.dotted.ensures.refused c.name.ensures.refused (λ due none around.
    let head = form_tree c.args.head in
    dot_opens (operand_form c.args.head) around (ahead c.args.tokens.now) c.requires (sym c.take.ensures.found ∙ c.if-take.false)
    ∙ ap (λ ts. outcome (field_written head around) (behind ts)) (sym c.if-take.ensures.moved)
    ∙ ap (outcome (field_written head around)) (sym c.advance.ensures)
    ∙ none (field_written head around) (λ n. have (dotted head n) around) (expects_name _ _ refl refl (λ token. refl)))

-- closed_expression

pub closed_expression-returns-in_err-inner-clause-refused : goal.closed_expression-returns-in_err-inner-clause-refused
closed_expression-returns-in_err-inner-clause-refused t c =
    passed_on c.from_residual.result _ _ _ c.from_residual.ensures.1 c.in_err-inner.ensures.refused (λ due none at to x. none at x.begins.apart x.begins.no_range)

pub closed_expression-returns-clause-reads : goal.closed_expression-returns-clause-reads
closed_expression-returns-clause-reads t c =
    kept_with c.kept.result c.in_ok-inner.inner c.expect.result _ _ c.kept.ensures c.expect.ensures.reads (λ reads at to x.
    let inner = expr_tree c.in_ok-inner.inner in
    c.in_ok-inner.ensures.reads at x.begins.apart x.begins.no_range
    ∙ reads (have (whole inner) at) (to inner) (closes inner at to _ x c.in_ok-inner.ensures.stops))

pub closed_expression-returns-clause-refused : goal.closed_expression-returns-clause-refused
closed_expression-returns-clause-refused t c =
    kept_refused c.kept.result c.in_ok-inner.inner c.expect.result _ _ c.kept.ensures c.expect.ensures.refused (λ due none at to x.
    let inner = expr_tree c.in_ok-inner.inner in
    c.in_ok-inner.ensures.reads at x.begins.apart x.begins.no_range
    ∙ none (have (whole inner) at) (to inner) (closes inner at to _ x c.in_ok-inner.ensures.stops))

-- head_expr

pub head_expr-returns-in-Number-clause-reads : goal.head_expr-returns-in-Number-clause-reads
head_expr-returns-in-Number-clause-reads t c = λ around.
    let more = ahead c.args.tokens.now in
    let place = c.args.token.now.place in
    let fits : SFits w128 c.in-Number.value = search rules in
    ap (λ h. outcome (behind_head around (tok c.args.token.now) h) more) c.in-Number.is
    ∙ ap (λ x. outcome (have (whole x) around) more) (sym (expr_tree-Number place c.in-Number.value))
    ∙ ap (λ z. outcome (have (whole (expr_tree (exprs.Number place z))) around) more) (sym (to_z-of_z w128 c.in-Number.value fits))

pub head_expr-returns-in-True-clause-reads : goal.head_expr-returns-in-True-clause-reads
head_expr-returns-in-True-clause-reads t c = λ around.
    let more = ahead c.args.tokens.now in
    ap (λ h. outcome (behind_head around (tok c.args.token.now) h) more) c.in-True.is
    ∙ ap (λ x. outcome (have (whole x) around) more) (sym (expr_tree-True c.args.token.now.place))

pub head_expr-returns-in-False-clause-reads : goal.head_expr-returns-in-False-clause-reads
head_expr-returns-in-False-clause-reads t c = λ around.
    let more = ahead c.args.tokens.now in
    ap (λ h. outcome (behind_head around (tok c.args.token.now) h) more) c.in-False.is
    ∙ ap (λ x. outcome (have (whole x) around) more) (sym (expr_tree-False c.args.token.now.place))

pub head_expr-returns-in-Entry-clause-reads : goal.head_expr-returns-in-Entry-clause-reads
head_expr-returns-in-Entry-clause-reads t c =
    IfOk-weaker c.entry_value.result _ _ (λ expr reads around.
    ap (λ h. outcome (behind_head around (tok c.args.token.now) h) (ahead c.args.tokens.now)) c.in-Entry.is ∙ reads around) c.entry_value.ensures.reads

pub head_expr-returns-in-Entry-clause-refused : goal.head_expr-returns-in-Entry-clause-refused
head_expr-returns-in-Entry-clause-refused t c =
    refused_as c.entry_value.result _ _ (λ due none around.
    ap (λ h. outcome (behind_head around (tok c.args.token.now) h) (ahead c.args.tokens.now)) c.in-Entry.is ∙ none around) c.entry_value.ensures.refused

pub head_expr-returns-in-Old-clause-reads : goal.head_expr-returns-in-Old-clause-reads
head_expr-returns-in-Old-clause-reads t c =
    IfOk-weaker c.old_value.result _ _ (λ expr reads around.
    ap (λ h. outcome (behind_head around (tok c.args.token.now) h) (ahead c.args.tokens.now)) c.in-Old.is ∙ reads around) c.old_value.ensures.reads

pub head_expr-returns-in-Old-clause-refused : goal.head_expr-returns-in-Old-clause-refused
head_expr-returns-in-Old-clause-refused t c =
    refused_as c.old_value.result _ _ (λ due none around.
    ap (λ h. outcome (behind_head around (tok c.args.token.now) h) (ahead c.args.tokens.now)) c.in-Old.is ∙ none around) c.old_value.ensures.refused

pub head_expr-returns-in-Result-clause-reads : goal.head_expr-returns-in-Result-clause-reads
head_expr-returns-in-Result-clause-reads t c =
    IfOk-weaker c.result_value.result _ _ (λ expr reads around.
    ap (λ h. outcome (behind_head around (tok c.args.token.now) h) (ahead c.args.tokens.now)) c.in-Result.is ∙ reads around) c.result_value.ensures.reads

pub head_expr-returns-in-Result-clause-refused : goal.head_expr-returns-in-Result-clause-refused
head_expr-returns-in-Result-clause-refused t c =
    refused_as c.result_value.result _ _ (λ due none around.
    ap (λ h. outcome (behind_head around (tok c.args.token.now) h) (ahead c.args.tokens.now)) c.in-Result.is ∙ none around) c.result_value.ensures.refused

pub head_expr-returns-in-Sequence-clause-reads : goal.head_expr-returns-in-Sequence-clause-reads
head_expr-returns-in-Sequence-clause-reads t c =
    IfOk-weaker c.sequence_value.result _ _ (λ expr reads around.
    ap (λ h. outcome (behind_head around (tok c.args.token.now) h) (ahead c.args.tokens.now)) c.in-Sequence.is ∙ reads around) c.sequence_value.ensures.reads

pub head_expr-returns-in-Sequence-clause-refused : goal.head_expr-returns-in-Sequence-clause-refused
head_expr-returns-in-Sequence-clause-refused t c =
    refused_as c.sequence_value.result _ _ (λ due none around.
    ap (λ h. outcome (behind_head around (tok c.args.token.now) h) (ahead c.args.tokens.now)) c.in-Sequence.is ∙ none around) c.sequence_value.ensures.refused

pub head_expr-returns-in-Quantifier-clause-reads : goal.head_expr-returns-in-Quantifier-clause-reads
head_expr-returns-in-Quantifier-clause-reads t c =
    IfOk-weaker c.quantified.result _ _ (λ expr reads around.
    ap (λ h. outcome (behind_head around (tok c.args.token.now) h) (ahead c.args.tokens.now)) c.in-Quantifier.is ∙ reads around) c.quantified.ensures.reads

pub head_expr-returns-in-Quantifier-clause-refused : goal.head_expr-returns-in-Quantifier-clause-refused
head_expr-returns-in-Quantifier-clause-refused t c =
    refused_as c.quantified.result _ _ (λ due none around.
    ap (λ h. outcome (behind_head around (tok c.args.token.now) h) (ahead c.args.tokens.now)) c.in-Quantifier.is ∙ none around) c.quantified.ensures.refused

pub head_expr-returns-in-Bracket-clause-reads : goal.head_expr-returns-in-Bracket-clause-reads
head_expr-returns-in-Bracket-clause-reads t c =
    IfOk-weaker c.closed_expression.result _ _ (λ expr reads around.
    ap (λ h. outcome (behind_head around (tok c.args.token.now) h) (ahead c.args.tokens.now)) c.in-Bracket.is
    ∙ reads (inside around) (λ x. have (whole x) around) (closes_inside around)) c.closed_expression.ensures.reads

pub head_expr-returns-in-Bracket-clause-refused : goal.head_expr-returns-in-Bracket-clause-refused
head_expr-returns-in-Bracket-clause-refused t c =
    refused_as c.closed_expression.result _ _ (λ due none around.
    ap (λ h. outcome (behind_head around (tok c.args.token.now) h) (ahead c.args.tokens.now)) c.in-Bracket.is
    ∙ none (inside around) (λ x. have (whole x) around) (closes_inside around)) c.closed_expression.ensures.refused

-- sequence_value

pub sequence_value-returns-in_err-ty-clause-refused : goal.sequence_value-returns-in_err-ty-clause-refused
sequence_value-returns-in_err-ty-clause-refused t c =
    passed_on c.from_residual.result _ _ _ c.from_residual.ensures.1 c.in_err-ty.ensures.refused (λ due none around.
    let place = c.args.place in
    none (sequence_or_type place around) (whole_type (of_elements place around)) (λ ty. elements_due place ty around) (element_or_end place None [] around)
    (λ ty. element_or_end place (Some ty) [] around) (opens_sequence place around))

pub sequence_value-returns-clause-reads : goal.sequence_value-returns-clause-reads
sequence_value-returns-clause-reads t c =
    let place = c.args.place in
    let ty = option_map type_tree c.in_ok-ty.ty in
    built c.sequence.result c.exprs.result (λ made read. expr_tree made ≡ e.sequence place ty (exprs_of (map expr_tree read))) _ _
    c.sequence.ensures.made c.exprs.ensures.reads (λ made read reads same around.
    c.in_ok-ty.ensures.reads (sequence_or_type place around) (whole_type (of_elements place around)) (λ ty. elements_due place ty around)
    (element_or_end place None [] around) (λ ty. element_or_end place (Some ty) [] around) (opens_sequence place around)
    ∙ ap (λ s. outcome s (ahead c.sequence_head.new.tokens)) (elements_open place around ty)
    ∙ reads (element_list place ty around) (reads_elements place ty around)
    ∙ ap (λ x. outcome (have (whole x) around) (ahead c.exprs.new.tokens)) (sym same))

pub sequence_value-returns-clause-refused : goal.sequence_value-returns-clause-refused
sequence_value-returns-clause-refused t c =
    let place = c.args.place in
    let ty = option_map type_tree c.in_ok-ty.ty in
    refused_by c.sequence.result c.exprs.result _ _ c.sequence.ensures.refused c.exprs.ensures.refused (λ due none around.
    c.in_ok-ty.ensures.reads (sequence_or_type place around) (whole_type (of_elements place around)) (λ ty. elements_due place ty around)
    (element_or_end place None [] around) (λ ty. element_or_end place (Some ty) [] around) (opens_sequence place around)
    ∙ ap (λ s. outcome s (ahead c.sequence_head.new.tokens)) (elements_open place around ty)
    ∙ none (element_list place ty around) (reads_elements place ty around))

-- brackets

pub brackets-returns-then-take-clause-reads : goal.brackets-returns-then-take-clause-reads
brackets-returns-then-take-clause-reads t c = λ head around.
    argument_closes head around (ahead c.args.tokens.now) (sym c.take.ensures.found ∙ c.if-take.true)
    ∙ ap (outcome (have (whole (application head [])) around)) (sym c.if-take.ensures.moved)
    ∙ ap (λ (list : List Expr). outcome (have (whole (application head (map expr_tree list))) around) (ahead c.take.new.self)) (sym c.new.ensures)

pub brackets-returns-in_err-first-clause-refused : goal.brackets-returns-in_err-first-clause-refused
brackets-returns-in_err-first-clause-refused t c =
    passed_on c.from_residual.result _ _ _ c.from_residual.ensures.1 c.in_err-first.ensures.refused (λ due none head around.
    argument_opens head around (ahead c.args.tokens.now) (sym c.take.ensures.found ∙ c.if-take.false)
    ∙ ap (outcome (want (argument_of head [] around))) (sym c.if-take.ensures.moved)
    ∙ none (argument_of head [] around) refl refl)

pub brackets-returns-then-take-2-clause-reads : goal.brackets-returns-then-take-2-clause-reads
brackets-returns-then-take-2-clause-reads t c =
    let first = expr_tree c.in_ok-first.first in
    built c.update.result c.closed_expression.result (λ made read. made ≡ brackets.Update c.in_ok-first.first read) _ _
    c.update.ensures.made c.closed_expression.ensures.reads (λ made read reads same head around.
    argument_opens head around (ahead c.args.tokens.now) (sym c.take.ensures.found ∙ c.if-take.false)
    ∙ ap (outcome (want (argument_of head [] around))) (sym c.if-take.ensures.moved)
    ∙ c.in_ok-first.ensures.reads (argument_of head [] around) refl refl
    ∙ index_arrow first head around (ahead c.expression.new.tokens) c.in_ok-first.ensures.stops (sym c.take-2.ensures.found ∙ c.if-take-2.true)
    ∙ ap (outcome (want (element_at head first around))) (sym c.if-take-2.ensures.moved)
    ∙ reads (element_at head first around) (λ expr. have (whole (e.update (place_of head) head first expr)) around) (closes_element head first around)
    ∙ ap (λ m. outcome (have (whole (applied_tree head m)) around) (ahead c.closed_expression.new.tokens)) (sym same))

pub brackets-returns-then-take-2-clause-refused : goal.brackets-returns-then-take-2-clause-refused
brackets-returns-then-take-2-clause-refused t c =
    let first = expr_tree c.in_ok-first.first in
    refused_by c.update.result c.closed_expression.result _ _ c.update.ensures.refused c.closed_expression.ensures.refused (λ due none head around.
    argument_opens head around (ahead c.args.tokens.now) (sym c.take.ensures.found ∙ c.if-take.false)
    ∙ ap (outcome (want (argument_of head [] around))) (sym c.if-take.ensures.moved)
    ∙ c.in_ok-first.ensures.reads (argument_of head [] around) refl refl
    ∙ index_arrow first head around (ahead c.expression.new.tokens) c.in_ok-first.ensures.stops (sym c.take-2.ensures.found ∙ c.if-take-2.true)
    ∙ ap (outcome (want (element_at head first around))) (sym c.if-take-2.ensures.moved)
    ∙ none (element_at head first around) (λ expr. have (whole (e.update (place_of head) head first expr)) around) (closes_element head first around))

pub brackets-returns-clause-reads : goal.brackets-returns-clause-reads
brackets-returns-clause-reads t c =
    let first = c.in_ok-first.first in
    kept_with c.arguments_of.result (brackets.Arguments c.add_arguments-end.new.list) c.add_arguments-end.result _ _
    c.arguments_of.ensures c.add_arguments-end.ensures.reads (λ reads head around.
    argument_opens head around (ahead c.args.tokens.now) (sym c.take.ensures.found ∙ c.if-take.false)
    ∙ ap (outcome (want (argument_of head [] around))) (sym c.if-take.ensures.moved)
    ∙ c.in_ok-first.ensures.reads (argument_of head [] around) refl refl
    ∙ ap (outcome (have (whole (expr_tree first)) (argument_of head [] around))) (sym c.if-take-2.ensures.moved)
    ∙ reads first head around (first_argument first _ (ahead c.expression.new.tokens) _ c.in_ok-arguments.ensures c.if-take-2.ensures.moved c.in_ok-first.ensures.stops
    (sym c.take-2.ensures.found ∙ c.if-take-2.false)))

pub brackets-returns-clause-refused : goal.brackets-returns-clause-refused
brackets-returns-clause-refused t c =
    let first = c.in_ok-first.first in
    kept_refused c.arguments_of.result (brackets.Arguments c.add_arguments-end.new.list) c.add_arguments-end.result _ _
    c.arguments_of.ensures c.add_arguments-end.ensures.refused (λ due none head around.
    argument_opens head around (ahead c.args.tokens.now) (sym c.take.ensures.found ∙ c.if-take.false)
    ∙ ap (outcome (want (argument_of head [] around))) (sym c.if-take.ensures.moved)
    ∙ c.in_ok-first.ensures.reads (argument_of head [] around) refl refl
    ∙ ap (outcome (have (whole (expr_tree first)) (argument_of head [] around))) (sym c.if-take-2.ensures.moved)
    ∙ none first head around (first_argument first _ (ahead c.expression.new.tokens) _ c.in_ok-arguments.ensures c.if-take-2.ensures.moved c.in_ok-first.ensures.stops
    (sym c.take-2.ensures.found ∙ c.if-take-2.false)))

-- add_arguments

pub add_arguments-returns-then-take-clause-reads : goal.add_arguments-returns-then-take-clause-reads
add_arguments-returns-then-take-clause-reads t c =
    on_ok_weaker c.add_exprs.result (λ reads first head around x.
    argument_goes_on (expr_tree first) head around (ahead c.args.tokens.now) x.ends (sym c.take.ensures.found ∙ c.if-take.true)
    ∙ ap (outcome (argument_or_end head (expr_tree first ∷ []) around)) (sym c.if-take.ensures.moved)
    ∙ ap (λ (l : List Expr). outcome (argument_or_end head (map expr_tree l) around) (ahead c.take.new.self)) (sym x.alone)
    ∙ reads (argument_list head around) (more_arguments first c.args.list.now head around x.alone)) c.add_exprs.ensures.reads

pub add_arguments-returns-then-take-clause-refused : goal.add_arguments-returns-then-take-clause-refused
add_arguments-returns-then-take-clause-refused t c =
    refused_as c.add_exprs.result _ _ (λ due none first head around x.
    argument_goes_on (expr_tree first) head around (ahead c.args.tokens.now) x.ends (sym c.take.ensures.found ∙ c.if-take.true)
    ∙ ap (outcome (argument_or_end head (expr_tree first ∷ []) around)) (sym c.if-take.ensures.moved)
    ∙ ap (λ (l : List Expr). outcome (argument_or_end head (map expr_tree l) around) (ahead c.take.new.self)) (sym x.alone)
    ∙ none (argument_list head around) (more_arguments first c.args.list.now head around x.alone)) c.add_exprs.ensures.refused

pub add_arguments-returns-clause-reads : goal.add_arguments-returns-clause-reads
add_arguments-returns-clause-reads t c =
    on_ok_weaker c.expect.result (λ reads first head around x.
    let at = argument_of head [] around in
    ap (outcome (have (whole (expr_tree first)) at)) (sym c.if-take.ensures.moved)
    ∙ reads (have (whole (expr_tree first)) at) (have (whole (application head (expr_tree first ∷ []))) around)
    (argument_closing first c.args.list.now head around (ahead c.args.tokens.now) _ x c.if-take.ensures.moved (sym c.take.ensures.found ∙ c.if-take.false))
    ∙ ap (λ (l : List Expr). outcome (have (whole (application head (map expr_tree l))) around) (ahead c.expect.new.self)) (sym x.alone)) c.expect.ensures.reads

pub add_arguments-returns-clause-refused : goal.add_arguments-returns-clause-refused
add_arguments-returns-clause-refused t c =
    refused_as c.expect.result _ _ (λ due none first head around x.
    let at = argument_of head [] around in
    ap (outcome (have (whole (expr_tree first)) at)) (sym c.if-take.ensures.moved)
    ∙ none (have (whole (expr_tree first)) at) (have (whole (application head (expr_tree first ∷ []))) around)
    (argument_closing first c.args.list.now head around (ahead c.args.tokens.now) _ x c.if-take.ensures.moved (sym c.take.ensures.found ∙ c.if-take.false)))
    c.expect.ensures.refused

-- exprs

pub exprs-returns-in_err-refuse_empty-clause-refused : goal.exprs-returns-in_err-refuse_empty-clause-refused
exprs-returns-in_err-refuse_empty-clause-refused t c =
    passed_on c.from_residual.result _ _ _ c.from_residual.ensures.1 c.in_err-refuse_empty.ensures.refused (λ due none list x. none list)

pub exprs-returns-clause-reads : goal.exprs-returns-clause-reads
exprs-returns-clause-reads t c =
    kept_with c.kept.result c.add_exprs-end.new.list c.add_exprs-end.result _ _ c.kept.ensures c.add_exprs-end.ensures.reads (λ reads list x.
    exprs_start list c.args.some (ahead c.args.tokens.now) x c.in_ok-refuse_empty.ensures.begun
    ∙ ap (λ (l : List Expr). outcome (list.member_or_end (map expr_tree l)) (ahead c.args.tokens.now)) (sym c.new-list.ensures)
    ∙ reads list (subst (λ (l : List Expr). ReadsExprs list (length l)) (sym c.new-list.ensures) x))

pub exprs-returns-clause-refused : goal.exprs-returns-clause-refused
exprs-returns-clause-refused t c =
    kept_refused c.kept.result c.add_exprs-end.new.list c.add_exprs-end.result _ _ c.kept.ensures c.add_exprs-end.ensures.refused (λ due none list x.
    exprs_start list c.args.some (ahead c.args.tokens.now) x c.in_ok-refuse_empty.ensures.begun
    ∙ ap (λ (l : List Expr). outcome (list.member_or_end (map expr_tree l)) (ahead c.args.tokens.now)) (sym c.new-list.ensures)
    ∙ none list (subst (λ (l : List Expr). ReadsExprs list (length l)) (sym c.new-list.ensures) x))

-- add_exprs

-- so many members stand there
enough : (list : List Expr) (count : ℕ) → count ≤ length list → count ≤ length (map expr_tree list)
enough list count h = subst (λ n. count ≤ n) (sym (length-map list expr_tree)) h

enough_more : (list : List ExprTree) (expr : ExprTree) (count : ℕ) → count ≤ length list → count ≤ length (list ++ expr ∷ [])
enough_more list expr count h = rw (length-append list (expr ∷ [])) (omega (arith, h))

pub add_exprs-members-init : goal.add_exprs-members-init
add_exprs-members-init t c = record {
  reads = λ all x.
      let so_far = map expr_tree c.args.list.now in
      let tokens = ahead c.args.tokens.now in
      list_start kind.RightParen (all.member_or_end so_far) (want (all.member so_far)) (all.over so_far) tokens _ c.take-more.result
      (expr_or_end all so_far tokens (x.each so_far (enough c.args.list.now _ (omega arith)))) c.take-more.ensures.found c.take-more.ensures.moved;
  grown = omega arith;
  no_longer = c.take-more.ensures.no_longer;
  shorter = λ e. c.take-more.ensures.shorter (not_false _ e);
}

pub add_exprs-members-preserved : goal.add_exprs-members-preserved
add_exprs-members-preserved t c =
    let so_far = map expr_tree c.members.list in
    let expr = expr_tree c.in_ok-member.member in
    let grown = map_push expr_tree c.members.list c.push.new.self c.in_ok-member.member c.in_ok-push.ensures.ok in
    record {
      reads = λ all x.
          let few = enough c.members.list _ c.members.invariant.grown in
          let l = x.each so_far few in
          let next_far = so_far ++ expr ∷ [] in
          let l' = x.each next_far (enough_more so_far expr _ few) in
          c.members.invariant.reads all x
          ∙ ap (λ b. outcome (cond b (want (all.member so_far)) (all.over so_far)) (ahead c.members.tokens)) c.members-test.true
          ∙ c.in_ok-member.ensures.reads (all.member so_far) l.begins.apart l.begins.no_range
          ∙ expr_end all so_far expr (ahead c.expression.new.tokens) l l' c.in_ok-member.ensures.stops
          ∙ c.in_ok-more.ensures.reads (want (all.member next_far)) (all.over next_far)
          ∙ ap (λ xs. outcome (cond c.in_ok-more.more (want (all.member xs)) (all.over xs)) (ahead c.goes_on.new.self)) (sym grown);
      grown = rw c.in_ok-push.ensures.ok (rw (length-append c.members.list (c.in_ok-member.member ∷ [])) (omega (arith, c.members.invariant.grown)));
      no_longer = omega (arith, c.members.invariant.no_longer, c.in_ok-member.ensures.shorter, c.in_ok-more.ensures.shorter);
      shorter = λ e. omega (arith, c.members.invariant.no_longer, c.in_ok-member.ensures.shorter, c.in_ok-more.ensures.shorter);
    }

pub add_exprs-returns-in_err-member-clause-refused : goal.add_exprs-returns-in_err-member-clause-refused
add_exprs-returns-in_err-member-clause-refused t c =
    passed_on c.from_residual.result _ _ _ c.from_residual.ensures.1 c.in_err-member.ensures.refused (λ due none all x.
    let so_far = map expr_tree c.members.list in
    let l = x.each so_far (enough c.members.list _ c.members.invariant.grown) in
    c.members.invariant.reads all x
    ∙ ap (λ b. outcome (cond b (want (all.member so_far)) (all.over so_far)) (ahead c.members.tokens)) c.members-test.true
    ∙ none (all.member so_far) l.begins.apart l.begins.no_range)

pub add_exprs-returns-in_err-more-clause-refused : goal.add_exprs-returns-in_err-more-clause-refused
add_exprs-returns-in_err-more-clause-refused t c =
    passed_on c.from_residual-in_err-more.result _ _ _ c.from_residual-in_err-more.ensures.1 c.in_err-more.ensures.refused (λ due none all x.
    let so_far = map expr_tree c.members.list in
    let expr = expr_tree c.in_ok-member.member in
    let few = enough c.members.list _ c.members.invariant.grown in
    let l = x.each so_far few in
    let next_far = so_far ++ expr ∷ [] in
    let l' = x.each next_far (enough_more so_far expr _ few) in
    c.members.invariant.reads all x
    ∙ ap (λ b. outcome (cond b (want (all.member so_far)) (all.over so_far)) (ahead c.members.tokens)) c.members-test.true
    ∙ c.in_ok-member.ensures.reads (all.member so_far) l.begins.apart l.begins.no_range
    ∙ expr_end all so_far expr (ahead c.expression.new.tokens) l l' c.in_ok-member.ensures.stops
    ∙ none (want (all.member next_far)) (all.over next_far))

-- range

pub range-returns-in_err-operand-clause-refused : goal.range-returns-in_err-operand-clause-refused
range-returns-in_err-operand-clause-refused t c =
    passed_on c.from_residual.result _ _ _ c.from_residual.ensures.1 c.in_err-operand.ensures.refused (λ due none by place around. none (low_of by place around))

pub range-returns-in-Ok-clause-reads : goal.range-returns-in-Ok-clause-reads
range-returns-in-Ok-clause-reads t c = λ by place around.
    c.in_ok-operand.ensures.reads (low_of by place around)
    ∙ have_indices (operand_form c.in_ok-operand.operand) (expr_tree c.in-Ok.head) by place around (ahead c.operand.new.tokens)
    (sym c.is_at.ensures ∙ c.in-Ok.ensures.0) c.in-Ok.ensures.1
    ∙ ap (outcome (bound_left by place (indices_of (expr_tree c.in-Ok.head)) around)) (sym c.advance.ensures)

pub range-returns-in-Err-clause-reads : goal.range-returns-in-Err-clause-reads
range-returns-in-Err-clause-reads t c =
    IfOk-weaker c.bounds.result _ _ (λ range reads by place around.
    c.in_ok-operand.ensures.reads (low_of by place around)
    ∙ ap (λ o. outcome (have (operand_form o) (low_of by place around)) (ahead c.operand.new.tokens)) (sym c.in-Err.ensures.0)
    ∙ reads by place around) c.bounds.ensures.reads

pub range-returns-in-Err-clause-refused : goal.range-returns-in-Err-clause-refused
range-returns-in-Err-clause-refused t c =
    refused_as c.bounds.result _ _ (λ due none by place around.
    c.in_ok-operand.ensures.reads (low_of by place around)
    ∙ ap (λ o. outcome (have (operand_form o) (low_of by place around)) (ahead c.operand.new.tokens)) (sym c.in-Err.ensures.0)
    ∙ none by place around) c.bounds.ensures.refused

-- bounds

pub bounds-returns-in_err-low-clause-refused : goal.bounds-returns-in_err-low-clause-refused
bounds-returns-in_err-low-clause-refused t c =
    passed_on c.from_residual-in_err-low.result _ _ _ c.from_residual-in_err-low.ensures.1 c.in_err-low.ensures.refused (λ due none by place around.
    let low = low_of by place around in
    have_low (operand_form c.args.operand) by place around (ahead c.args.tokens.now) c.requires.ends c.requires.no_range
    ∙ ap (λ x. outcome (have (whole x) low) (ahead c.args.tokens.now)) (sym c.in_ok-left.ensures)
    ∙ none low refl)

pub bounds-returns-clause-reads : goal.bounds-returns-clause-reads
bounds-returns-clause-reads t c =
    let left = expr_tree c.in_ok-low.low in
    built c.between.result c.upper_bound.result (λ made read. made ≡ ranges.Between c.in_ok-low.low read) _ _
    c.between.ensures.made c.upper_bound.ensures.reads (λ made read reads same by place around.
    let low = low_of by place around in
    have_low (operand_form c.args.operand) by place around (ahead c.args.tokens.now) c.requires.ends c.requires.no_range
    ∙ ap (λ x. outcome (have (whole x) low) (ahead c.args.tokens.now)) (sym c.in_ok-left.ensures)
    ∙ c.in_ok-low.ensures.reads low refl
    ∙ reads (have (whole left) low) (high_of by place left around) (λ expr. bound_left by place (between left expr) around)
    (until_due left by place around _ c.in_ok-low.ensures.stops) (closes_high by place left around)
    ∙ ap (λ m. outcome (bound_left by place (range_form m) around) (ahead c.upper_bound.new.tokens)) (sym same))

pub bounds-returns-clause-refused : goal.bounds-returns-clause-refused
bounds-returns-clause-refused t c =
    let left = expr_tree c.in_ok-low.low in
    refused_by c.between.result c.upper_bound.result _ _ c.between.ensures.refused c.upper_bound.ensures.refused (λ due none by place around.
    let low = low_of by place around in
    have_low (operand_form c.args.operand) by place around (ahead c.args.tokens.now) c.requires.ends c.requires.no_range
    ∙ ap (λ x. outcome (have (whole x) low) (ahead c.args.tokens.now)) (sym c.in_ok-left.ensures)
    ∙ c.in_ok-low.ensures.reads low refl
    ∙ none (have (whole left) low) (high_of by place left around) (λ expr. bound_left by place (between left expr) around)
    (until_due left by place around _ c.in_ok-low.ensures.stops) (closes_high by place left around))

-- upper_bound

pub upper_bound-returns-in_err-expect-clause-refused : goal.upper_bound-returns-in_err-expect-clause-refused
upper_bound-returns-in_err-expect-clause-refused t c =
    passed_on c.from_residual.result _ _ _ c.from_residual.ensures.1 c.in_err-expect.ensures.refused (λ due none from at to x y. none from (want at) x)

pub upper_bound-returns-clause-reads : goal.upper_bound-returns-clause-reads
upper_bound-returns-clause-reads t c =
    IfOk-weaker c.closed_expression.result _ _ (λ expr reads from at to x y. c.in_ok-expect.ensures.reads from (want at) x ∙ reads at to y) c.closed_expression.ensures.reads

pub upper_bound-returns-clause-refused : goal.upper_bound-returns-clause-refused
upper_bound-returns-clause-refused t c =
    refused_as c.closed_expression.result _ _ (λ due none from at to x y. c.in_ok-expect.ensures.reads from (want at) x ∙ none at to y) c.closed_expression.ensures.refused

-- bound_range

pub bound_range-returns-in_err-range-clause-refused : goal.bound_range-returns-in_err-range-clause-refused
bound_range-returns-in_err-range-clause-refused t c =
    passed_on c.from_residual.result _ _ _ c.from_residual.ensures.1 c.in_err-range.ensures.refused (λ due none by place around. none by place around)

pub bound_range-returns-clause-reads : goal.bound_range-returns-clause-reads
bound_range-returns-clause-reads t c =
    beside_with c.beside.result c.in_ok-range.range c.bound_name.result _ _ c.beside.ensures c.bound_name.ensures.reads (λ written reads by place around.
    c.in_ok-range.ensures.reads by place around ∙ reads by place (range_form c.in_ok-range.range) around)

pub bound_range-returns-clause-refused : goal.bound_range-returns-clause-refused
bound_range-returns-clause-refused t c =
    beside_refused c.beside.result c.in_ok-range.range c.bound_name.result _ _ c.beside.ensures c.bound_name.ensures.refused (λ due none by place around.
    c.in_ok-range.ensures.reads by place around ∙ none by place (range_form c.in_ok-range.range) around)

-- quantified

pub quantified-returns-in_err-expect-clause-refused : goal.quantified-returns-in_err-expect-clause-refused
quantified-returns-in_err-expect-clause-refused t c =
    passed_on c.from_residual.result _ _ _ c.from_residual.ensures.1 c.in_err-expect.ensures.refused (λ due none around.
    none (range_left c.args.by c.args.place around) (want (low_of c.args.by c.args.place around)) (expects kind.LeftParen _ _ refl refl (λ token. refl)))

pub quantified-returns-in_err-range-clause-refused : goal.quantified-returns-in_err-range-clause-refused
quantified-returns-in_err-range-clause-refused t c =
    passed_on c.from_residual-in_err-range.result _ _ _ c.from_residual-in_err-range.ensures.1 c.in_err-range.ensures.refused (λ due none around.
    c.in_ok-expect.ensures.reads (range_left c.args.by c.args.place around) (want (low_of c.args.by c.args.place around)) (expects kind.LeftParen _ _ refl refl (λ token. refl))
    ∙ none c.args.by c.args.place around)

pub quantified-returns-clause-reads : goal.quantified-returns-clause-reads
quantified-returns-clause-reads t c =
    let by = c.args.by in
    let place = c.args.place in
    let range = range_form c.in_ok-range.range in
    let variable = c.in_ok-range.variable in
    built c.quantify.result c.closed_expression.result (λ made read. expr_tree made ≡ quantified_tree by place range variable (expr_tree read)) _ _
    c.quantify.ensures.made c.closed_expression.ensures.reads (λ made read reads same around.
    c.in_ok-expect.ensures.reads (range_left by place around) (want (low_of by place around)) (expects kind.LeftParen _ _ refl refl (λ token. refl))
    ∙ c.in_ok-range.ensures.reads by place around
    ∙ reads (body_around by place range variable around) (λ expr. have (whole (quantified_tree by place range variable expr)) around) (closes_body by place range variable around)
    ∙ ap (λ x. outcome (have (whole x) around) (ahead c.closed_expression.new.tokens)) (sym same))

pub quantified-returns-clause-refused : goal.quantified-returns-clause-refused
quantified-returns-clause-refused t c =
    let by = c.args.by in
    let place = c.args.place in
    let range = range_form c.in_ok-range.range in
    let variable = c.in_ok-range.variable in
    refused_by c.quantify.result c.closed_expression.result _ _ c.quantify.ensures.refused c.closed_expression.ensures.refused (λ due none around.
    c.in_ok-expect.ensures.reads (range_left by place around) (want (low_of by place around)) (expects kind.LeftParen _ _ refl refl (λ token. refl))
    ∙ c.in_ok-range.ensures.reads by place around
    ∙ none (body_around by place range variable around) (λ expr. have (whole (quantified_tree by place range variable expr)) around) (closes_body by place range variable around))
