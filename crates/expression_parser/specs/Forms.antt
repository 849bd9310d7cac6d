-- Operands, ranges and brackets of the code as the machine sees them.
use Rattle.std.specs.Prelude.{◌≡◌, ◌&&◌, Bool, true, false, map, codes, ⊤}
use Rattle.std.specs.Str.{bytes_eq}
use Rattle.slang_values.specs.declared.operators.Quantifier.{Quantifier}
use Rattle.slang_tree.specs.declared.place.Place.{Place}
use Rattle.slang_tree.specs.declared.expression.Name.{Name}
use Rattle.slang_tree.specs.ExprTree as e
use Rattle.slang_tree.specs.ExprTree.{ExprTree, expr_tree, place_of}
use Rattle.slang_machine.specs.States.{Operand, whole, dotted, Range, between, indices_of}
use Rattle.slang_machine.specs.Expressions.{operand_tree, application}
use Rattle.expression_parser.specs.declared.build.OperandForm.{OperandForm}
use Rattle.expression_parser.specs.declared.build.OperandForm.TheVariants as operands
use Rattle.expression_parser.specs.declared.build.RangeForm.{RangeForm}
use Rattle.expression_parser.specs.declared.build.RangeForm.TheVariants as ranges
use Rattle.expression_parser.specs.declared.build.BracketForm.{BracketForm}
use Rattle.expression_parser.specs.declared.build.BracketForm.TheVariants as brackets

abbrev pub operand_form : OperandForm → Operand
operand_form (operands.Whole expr) = whole (expr_tree expr)
operand_form (operands.Dotted head written) = dotted (expr_tree head) written

-- the expression that an operand is
abbrev pub form_tree : OperandForm → ExprTree
form_tree form = operand_tree (operand_form form)

abbrev pub range_form : RangeForm → Range
range_form (ranges.Between low high) = between (expr_tree low) (expr_tree high)
range_form (ranges.IndicesOf head) = indices_of (expr_tree head)

-- a head with what stands in brackets behind it
abbrev pub applied_tree : ExprTree → BracketForm → ExprTree
applied_tree head (brackets.Arguments arguments) = application head (map expr_tree arguments)
applied_tree head (brackets.Update index element) = e.update (place_of head) head (expr_tree index) (expr_tree element)

abbrev pub quantified_tree : Quantifier → Place → Range → Name → ExprTree → ExprTree
quantified_tree by place (between low high) variable body = e.quantified place by low high variable body
quantified_tree by place (indices_of head) variable body = e.quantified_indices place by head variable body

-- behind this operand a closing bracket ends a range: the indices of that head
abbrev pub IsIndicesOf : Operand → ExprTree → Type 0
IsIndicesOf (whole expr) head = ⊥
IsIndicesOf (dotted other written) head = (bytes_eq written.text (codes "indices") ≡ true) × (other ≡ head)

-- behind this operand no range ends
abbrev pub IsNoRange : Operand → Bool → Type 0
IsNoRange (whole expr) closed = ⊤
IsNoRange (dotted other written) closed = closed && bytes_eq written.text (codes "indices") ≡ false
