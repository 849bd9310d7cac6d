-- What expressions are read for inside others.
use Rattle.std.proofs.Common.{◌≡◌, ◌≤◌, ℕ, true, false, cond, List, [], ◌∷◌, ◌++◌, Option, Some, None, refl, sym, ap, subst, ◌∙◌, arith, length}
use Rattle.std.specs.Prelude.{IfNone}
use Rattle.std.specs.Option.{option_map}
use Rattle.slang_lexer.specs.declared.token.TokenKind.TheVariants as kind
use Rattle.slang_values.specs.declared.operators.Quantifier.{Quantifier}
use Rattle.slang_tree.specs.declared.place.Place.{Place}
use Rattle.slang_tree.specs.declared.expression.Name.{Name}
use Rattle.slang_tree.specs.declared.expression.Expr.{Expr}
use Rattle.slang_tree.specs.declared.expression.TypeName.{TypeName}
use Rattle.slang_tree.specs.TypeTree.{TypeTree, type_tree}
use Rattle.slang_tree.specs.ExprTree as e
use Rattle.slang_tree.specs.ExprTree.{ExprTree, expr_tree, exprs_of, place_of}
use Rattle.slang_tokens.specs.Tok.{Tok}
use Rattle.slang_machine.specs.Open.{Around, inside, argument_of, element_at, element_of, high_of, body_over, body_over_indices, of_result, of_elements, whole_type}
use Rattle.slang_machine.specs.States.{State, Operand, Range, between, indices_of, whole, want, have, result_or_type, sequence_or_type, elements_due, element_or_end, argument_or_end, bound_left, want_type}
use Rattle.slang_machine.specs.Expressions.{is, on, application, body_around, next_want, next_have}
use Rattle.slang_machine.specs.Statements.{next_whole}
use Rattle.token_cursor.specs.Outcome.{outcome}
use Rattle.token_cursor.specs.Lists.{begins, behind, member_or_end}
use Rattle.token_cursor.specs.Gives.{Expects}
use Rattle.token_cursor.specs.Types.{OpensList, BeginsType, ClosesType, optional_state}
use Rattle.token_cursor.proofs.Steps.{alike}
use Rattle.token_cursor.proofs.Turns.{or_end}
use Rattle.expression_parser.specs.Below.{StopsBefore}
use Rattle.expression_parser.specs.Expects.{ClosesExpr, ExprList, IsExprList, ReadsExprs, IsFirstArgument}
use Rattle.expression_parser.specs.Forms.{quantified_tree}
use Rattle.expression_parser.proofs.Haves.{argument_ends}

pub closes_inside : (around : Around) → ClosesExpr (inside around) (λ expr. have (whole expr) around)
closes_inside around = record { begins = record { apart = refl; no_range = refl }; behind = λ expr token. refl }

pub closes_element : (head index : ExprTree) (around : Around)
    → ClosesExpr (element_at head index around) (λ expr. have (whole (e.update (place_of head) head index expr)) around)
closes_element head index around = record { begins = record { apart = refl; no_range = refl }; behind = λ expr token. refl }

pub closes_high : (by : Quantifier) (place : Place) (low : ExprTree) (around : Around)
    → ClosesExpr (high_of by place low around) (λ expr. bound_left by place (between low expr) around)
closes_high by place low around = record { begins = record { apart = refl; no_range = refl }; behind = λ expr token. refl }

pub closes_body : (by : Quantifier) (place : Place) (range : Range) (variable : Name) (around : Around)
    → ClosesExpr (body_around by place range variable around) (λ expr. have (whole (quantified_tree by place range variable expr)) around)
closes_body by place (between low high) variable around = record { begins = record { apart = refl; no_range = refl }; behind = λ expr token. refl }
closes_body by place (indices_of head) variable around = record { begins = record { apart = refl; no_range = refl }; behind = λ expr token. refl }

-- Types in front of lists.

pub result_type : (place : Place) (around : Around) → BeginsType kind.LeftBracket (result_or_type place around) (whole_type (of_result place around))
result_type place around = record {
  at_end = refl;
  no_other = refl;
  begins = λ token h. ap (λ b. cond b (Some (want_type (whole_type (of_result place around)))) (next_have next_whole (whole (e.result place None)) around token)) h;
}

pub closes_result : (place : Place) (around : Around) → ClosesType (whole_type (of_result place around)) (λ ty. have (whole (e.result place (Some ty))) around)
closes_result place around = record { read = λ ty. refl; closed = λ ty. refl }

pub opens_sequence : (place : Place) (around : Around)
    → OpensList (sequence_or_type place around) (whole_type (of_elements place around)) (λ ty. elements_due place ty around) (element_or_end place None [] around)
    (λ ty. element_or_end place (Some ty) [] around)
opens_sequence place around = record {
  begins = record { at_end = refl; no_other = refl; begins = λ token h. ap (λ b. cond b (Some (want_type (whole_type (of_elements place around)))) (on (is kind.LeftParen token) (element_or_end place None [] around))) h };
  closes = record { read = λ ty. refl; closed = λ ty. refl };
  without = λ token h. ap (λ b. cond b (Some (want_type (whole_type (of_elements place around)))) (on (is kind.LeftParen token) (element_or_end place None [] around))) h;
  typed_end = λ ty. refl;
  typed_due = λ ty. refl;
  with_type = λ ty token. refl;
}

pub elements_open : (place : Place) (around : Around) (ty : Option TypeTree)
    → optional_state (element_or_end place None [] around) (λ t. element_or_end place (Some t) [] around) ty ≡ element_or_end place ty [] around
elements_open place around None = refl
elements_open place around (Some ty) = refl

-- Lists.

abbrev pub element_list : Place → Option TypeTree → Around → ExprList
element_list place ty around = record {
  member = λ elements. element_of place ty elements around;
  member_or_end = λ elements. element_or_end place ty elements around;
  over = λ elements. have (whole (e.sequence place ty (exprs_of elements))) around;
}

pub reads_elements : (place : Place) (ty : Option TypeTree) (around : Around) → ReadsExprs (element_list place ty around) 0
reads_elements place ty around = record {
  each = λ elements few. record {
    begins = record { apart = refl; no_range = refl };
    at_end = refl;
    operand = refl;
    next_member = λ token. refl;
    behind = λ expr token. refl;
  };
}

abbrev pub argument_list : ExprTree → Around → ExprList
argument_list head around = record {
  member = λ arguments. argument_of head arguments around;
  member_or_end = λ arguments. argument_or_end head arguments around;
  over = λ arguments. have (whole (application head arguments)) around;
}

pub reads_arguments : (head : ExprTree) (around : Around) → ReadsExprs (argument_list head around) 1
reads_arguments head around = record { each = each } where
  each : (arguments : List ExprTree) → 1 ≤ length arguments → IsExprList (argument_list head around) arguments
  each [] few = absurd (omega arith)
  each (argument ∷ arguments) few = record {
    begins = record { apart = refl; no_range = refl };
    at_end = refl;
    operand = refl;
    next_member = λ token. refl;
    behind = λ expr token. refl;
  }

-- where an argument or the end may come
pub argument_or_end_turn : (head : ExprTree) (arguments : List ExprTree) (around : Around) (tokens : List Tok)
    → outcome (argument_or_end head arguments around) tokens
    ≡ member_or_end kind.RightParen (want (argument_of head arguments around)) (have (whole (application head arguments)) around) tokens
argument_or_end_turn head arguments around tokens =
    let over : State = have (whole (application head arguments)) around in
    let at : Around = argument_of head arguments around in
    or_end kind.RightParen (argument_or_end head arguments around) (want at) over tokens refl refl
    (λ token h. ap (λ b. cond b (Some over) (next_want at token)) h)
    (λ token h. ap (λ b. cond b (Some over) (next_want at token)) h)

pub argument_closes : (head : ExprTree) (around : Around) (tokens : List Tok) → begins kind.RightParen tokens ≡ true
    → outcome (argument_or_end head [] around) tokens ≡ outcome (have (whole (application head [])) around) (behind tokens)
argument_closes head around tokens h =
    argument_or_end_turn head [] around tokens
    ∙ ap (λ b. cond b (outcome (have (whole (application head [])) around) (behind tokens)) (outcome (want (argument_of head [] around)) tokens)) h

pub argument_opens : (head : ExprTree) (around : Around) (tokens : List Tok) → begins kind.RightParen tokens ≡ false
    → outcome (argument_or_end head [] around) tokens ≡ outcome (want (argument_of head [] around)) tokens
argument_opens head around tokens h =
    argument_or_end_turn head [] around tokens
    ∙ ap (λ b. cond b (outcome (have (whole (application head [])) around) (behind tokens)) (outcome (want (argument_of head [] around)) tokens)) h

-- without its type, `Res` is an operand already
pub result_open : (place : Place) (around : Around) (ty : Option TypeName) (tokens : List Tok) → IfNone ty (begins kind.LeftBracket tokens ≡ false)
    → outcome (optional_state (result_or_type place around) (λ t. have (whole (e.result place (Some t))) around) (option_map type_tree ty)) tokens
    ≡ outcome (have (whole (e.result place (option_map type_tree ty))) around) tokens
result_open place around None tokens absent =
    let bare : Operand = whole (e.result place None) in
    alike (result_or_type place around) (have bare around) tokens refl refl (λ token rest same.
    ap (λ b. cond b (Some (want_type (whole_type (of_result place around)))) (next_have next_whole bare around token)) (sym (ap (begins kind.LeftBracket) same) ∙ absent))
result_open place around (Some ty) tokens absent = refl

-- The first argument.

pub first_argument : (first : Expr) (list : List Expr) (tokens tokens' : List Tok) → list ≡ first ∷ [] → tokens' ≡ tokens → StopsBefore 0 tokens
    → begins kind.TildeArrow tokens ≡ false → IsFirstArgument first list tokens'
first_argument first list tokens tokens' e m s h = record {
  alone = e;
  ends = subst (StopsBefore 0) (sym m) s;
  no_index = ap (begins kind.TildeArrow) m ∙ h;
}

pub argument_closing : (first : Expr) (list : List Expr) (head : ExprTree) (around : Around) (tokens tokens' : List Tok) → IsFirstArgument first list tokens
    → tokens' ≡ tokens → begins kind.Comma tokens ≡ false
    → Expects kind.RightParen tokens' (have (whole (expr_tree first)) (argument_of head [] around)) (have (whole (application head (expr_tree first ∷ []))) around)
argument_closing first list head around tokens tokens' x m h =
    argument_ends (expr_tree first) head around tokens' (subst (StopsBefore 0) (sym m) x.ends) (ap (begins kind.TildeArrow) m ∙ x.no_index) (ap (begins kind.Comma) m ∙ h)

pub more_arguments : (first : Expr) (list : List Expr) (head : ExprTree) (around : Around) → list ≡ first ∷ [] → ReadsExprs (argument_list head around) (length list)
more_arguments first list head around e = subst (λ l. ReadsExprs (argument_list head around) (length l)) (sym e) (reads_arguments head around)
