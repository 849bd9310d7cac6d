-- How an expression is printed: as an account of the grammar without places. Plainly, it has brackets only where they are needed. Where a text
-- would nest too deep so, it is printed lightly, with brackets also where they make what it adds to the weights less.
use Rattle.std.specs.Prelude.{ℕ, ◌+◌, nat_eq, nat_le, nat_lt, nat_abs, Bool, true, false, ◌&&◌, ◌||◌, if◌then◌else◌, List, map, Option, Some, None, codes}
use Rattle.std.specs.Option.{option_map}
use Rattle.std.specs.Int.Digits.{digits_of}
use denote.Enum.Bare.{sameb}
use Rattle.slang_values.specs.declared.operators.Quantifier.{Quantifier}
use Rattle.slang_values.specs.declared.operators.Quantifier.TheVariants as quantifier
use Rattle.slang_tree.specs.TypeTree.{TypeTree, z_name, b_name, unit_name, sequence_name, record_name}
use Rattle.slang_tree.specs.ExprTree.{ExprTree, ExprTrees}
use Rattle.slang_tree.specs.ExprTree as e
use Rattle.slang_grammar.specs.contracts.operator.Side.{the_type}
use Rattle.slang_grammar.specs.declared.operator.Side.{Side}
use Rattle.slang_grammar.specs.declared.operator.Side.TheVariants.{Left, Right}
use Rattle.slang_grammar.specs.declared.operator.Prefix.TheVariants as prefix
use Rattle.slang_grammar.specs.declared.operator.Infix.{Infix}
use Rattle.slang_grammar.specs.Operators.{prefix_level, whole_level}
use Rattle.slang_grammar.specs.Parts.{TypeText, z_type, b_type, unit_type, sequence_type, record_type, ElementText}
use Rattle.slang_grammar.specs.Expressions.{QuantifierWord, all_word, exists_word, ExprText, number, truth, falsity, variable, result, entry_value, old_value, sequence, quantified, quantified_indices, bracketed, application, update, field, prefixed, binary, ExprsText, no_exprs, last_expr, expr_then, level, joins}
use Rattle.print_expressions.specs.Bare.{nowhere, bare_name}
use Rattle.print_expressions.specs.Operators.{row_of}
use Rattle.print_expressions.specs.Hefts.{Heft, one, around, followed, binary_heft, heft, peak_of, stays}

-- ---- numbers, types, names

-- the digits of a number, without leading zeros
unfoldable pub numeral : ℕ → List ℕ
numeral n = if nat_eq n 0 then codes "0" else map (λ d. 48 + d) (digits_of 10 n)

abbrev pub type_account : TypeTree → TypeText
type_account (z_name place) = z_type nowhere
type_account (b_name place) = b_type nowhere
type_account (unit_name place) = unit_type nowhere
type_account (sequence_name place element) = sequence_type nowhere nowhere (type_account element) nowhere
type_account (record_name written) = record_type (bare_name written)

abbrev pub element_account : TypeTree → ElementText
element_account ty = record { left = nowhere; ty = type_account ty; right = nowhere }

abbrev pub word_of : Quantifier → QuantifierWord
word_of quantifier.All = all_word
word_of quantifier.Exists = exists_word

-- ---- brackets

abbrev pub in_brackets : ExprText → ExprText
in_brackets text = bracketed nowhere text nowhere

-- in brackets, where it does not stand without them
abbrev pub in_brackets_unless : Bool → ExprText → ExprText
in_brackets_unless stands text = if stands then text else in_brackets text

abbrev pub is_side : Side → Option Side → Bool
is_side side None = false
is_side side (Some other) = sameb the_type other side

-- an operand on a side of an operator that binds it
abbrev pub is_operand : Side → Infix → ExprText → Bool
is_operand side row text =
    nat_lt row.level (level text) || (nat_eq (level text) row.level && (is_side side (Some row.joins) && is_side side (joins text)))

abbrev pub as_operand : Side → Infix → ExprText → ExprText
as_operand side row text = in_brackets_unless (is_operand side row text) text

-- behind a prefix
abbrev pub as_prefixed : ExprText → ExprText
as_prefixed text = in_brackets_unless (nat_le prefix_level (level text)) text

-- in front of arguments or of a dot
abbrev pub as_head : ExprText → ExprText
as_head text = in_brackets_unless (nat_eq (level text) whole_level) text

-- the same where the expression may be printed lightly: the part of an operator on its left, and that on its right
unfoldable pub left_stays : Bool → Infix → ExprText → ExprText → Bool
left_stays light row left right =
    let next = heft (as_operand Right row right) in
    stays light (is_operand Left row left) (binary_heft (heft left) next) (binary_heft (around (heft left).peak) next)

abbrev pub left_operand : Bool → Infix → ExprText → ExprText → ExprText
left_operand light row left right = in_brackets_unless (left_stays light row left right) left

unfoldable pub right_stays : Bool → Infix → ExprText → ExprText → Bool
right_stays light row left right =
    let own = heft (left_operand light row left right) in
    stays light (is_operand Right row right) (binary_heft own (heft right)) (binary_heft own (around (heft right).peak))

abbrev pub right_operand : Bool → Infix → ExprText → ExprText → ExprText
right_operand light row left right = in_brackets_unless (right_stays light row left right) right

-- in front of what adds so much
unfoldable pub head_stays : Bool → ExprText → Heft → Bool
head_stays light text next =
    stays light (nat_eq (level text) whole_level) (followed (heft text) next) (followed (around (heft text).peak) next)

abbrev pub head_before : Bool → ExprText → Heft → ExprText
head_before light text next = in_brackets_unless (head_stays light text next) text

-- the first of two expressions that count together
unfoldable pub first_stays : Bool → ExprText → ExprText → Bool
first_stays light text next = stays light true (followed (heft text) (heft next)) (followed (around (heft text).peak) (heft next))

abbrev pub first_before : Bool → ExprText → ExprText → ExprText
first_before light text next = in_brackets_unless (first_stays light text next) text

-- ---- expressions

abbrev pub binary_account : Bool → Infix → ExprText → ExprText → ExprText
binary_account light row left right = binary (left_operand light row left right) row nowhere (right_operand light row left right)

abbrev pub application_account : Bool → ExprText → ExprsText → ExprText
application_account light head arguments = application (head_before light head (around (peak_of arguments))) nowhere arguments nowhere

abbrev pub update_account : Bool → ExprText → ExprText → ExprText → ExprText
update_account light head index element =
    let first = first_before light index element in
    update (head_before light head (around (followed (heft first) (heft element)).peak)) nowhere first nowhere element nowhere

abbrev mutual
  -- lightly, or plainly
  pub expr_account : Bool → ExprTree → ExprText
  expr_account light (e.number place z) = number (numeral (nat_abs z)) nowhere
  expr_account light (e.truth place) = truth nowhere
  expr_account light (e.falsity place) = falsity nowhere
  expr_account light (e.name text place) = variable (record { text = text; place = nowhere })
  expr_account light (e.result place ty) = result nowhere (option_map element_account ty)
  expr_account light (e.entry_value place written) = entry_value nowhere nowhere (bare_name written) nowhere
  expr_account light (e.old_value place written) = old_value nowhere nowhere (bare_name written) nowhere
  expr_account light (e.minus place operand) = prefixed prefix.Minus nowhere (as_prefixed (expr_account light operand))
  expr_account light (e.negation place operand) = prefixed prefix.Not nowhere (as_prefixed (expr_account light operand))
  expr_account light (e.binary place operator left right) =
      binary_account light (row_of operator) (expr_account light left) (expr_account light right)
  expr_account light (e.application place head arguments) = application_account light (expr_account light head) (exprs_account light arguments)
  expr_account light (e.update place head index element) =
      update_account light (expr_account light head) (expr_account light index) (expr_account light element)
  expr_account light (e.field place head written) = field (head_before light (expr_account light head) one) nowhere (bare_name written)
  expr_account light (e.sequence place ty elements) = sequence nowhere (option_map element_account ty) nowhere (exprs_account light elements) nowhere
  expr_account light (e.quantified place by low high named body) =
      quantified (word_of by) nowhere nowhere (first_before light (expr_account light low) (expr_account light high)) nowhere (expr_account light high) nowhere
      (record { left = nowhere; variable = bare_name named; arrow = nowhere; right = nowhere }) (expr_account light body)
  expr_account light (e.quantified_indices place by head named body) =
      quantified_indices (word_of by) nowhere nowhere (as_head (expr_account light head)) nowhere nowhere nowhere
      (record { left = nowhere; variable = bare_name named; arrow = nowhere; right = nowhere }) (expr_account light body)

  -- no comma stands behind the last
  pub exprs_account : Bool → ExprTrees → ExprsText
  exprs_account light e.no_exprs = no_exprs
  exprs_account light (e.expr_then tree e.no_exprs) = last_expr (expr_account light tree)
  exprs_account light (e.expr_then tree (e.expr_then next trees)) = expr_then (expr_account light tree) nowhere (exprs_account light (e.expr_then next trees))
