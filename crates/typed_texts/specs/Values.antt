-- The expressions of the program and the constants of a text, with their nodes, in a scope in which they have no fault.
use Rattle.std.specs.Prelude.{ℕ, pos, true, false, Option, Some}
use Rattle.slang_values.specs.Tree.{sequence_of, record_of}
use Rattle.slang_values.specs.declared.operators.Unary.{Unary}
use Rattle.slang_tree.specs.declared.place.Place.{Place}
use Rattle.slang_tree.specs.ExprTree.{ExprTree, ExprTrees}
use Rattle.slang_tree.specs.ExprTree as e
use Rattle.slang_tree.specs.DeclTree.{ConstTree, const_number, const_minus, const_truth, const_falsity, const_sequence, const_record, ConstTrees, no_consts, const_then}
use Rattle.program_trees.specs.Programs.{TypedExpr, number, truth, variable, unary, binary, read, update, listed, TypedExprs, no_exprs, expr_then}
use Rattle.program_trees.specs.Variables.{Variable}
use Rattle.type_rules.specs.Meanings.{Meaning, record_class, Scope, meaning_of}
use Rattle.type_rules.specs.Meanings as meanings
use Rattle.type_rules.specs.Judged.{known_type}
use Rattle.type_rules.specs.Expressions.{in_program, Callee, a_value, a_record, a_method, callee, judged, judged_each, written_elements}
use Rattle.type_rules.specs.Constants.{judged_consts}
use Rattle.typed_texts.specs.Numbered.{Numbered, plain, single, headed, joined, pair}
use Rattle.typed_texts.specs.Claims.{selector, type_of_elements}

abbrev pub Value : Type 0
Value = Numbered Place (TypedExpr Variable)

abbrev pub Values : Type 0
Values = Numbered Place (TypedExprs Variable)

-- what stands for a part that has a fault
abbrev pub no_value : ℕ → TypedExpr Variable
no_value node = number node (pos 0)

abbrev pub value_meant : ℕ → Option Meaning → TypedExpr Variable
value_meant node (Some (meanings.variable x is_var type)) = variable node x
value_meant node other = no_value node

abbrev pub first_value : ℕ → TypedExprs Variable → TypedExpr Variable
first_value node no_exprs = no_value node
first_value node (expr_then expr exprs) = expr

-- An element of a sequence, or a record with its fields. The name of a record has no node of its own.
abbrev pub value_applied : Place → Callee → Value → Values → Value
value_applied place a_value head arguments =
    headed place (λ node parts. read node parts.0 (first_value node parts.1)) (joined pair head arguments)
value_applied place (a_record n) head arguments = headed place (λ node parts. listed node (record_of n) parts) arguments
value_applied place (a_method signature modifies) head arguments = single place no_value

abbrev mutual
  pub value_of_tree : Scope → ExprTree → Value
  value_of_tree scope (e.number place z) = single place (λ node. number node z)
  value_of_tree scope (e.truth place) = single place (λ node. truth node true)
  value_of_tree scope (e.falsity place) = single place (λ node. truth node false)
  value_of_tree scope (e.name text place) = single place (λ node. value_meant node (meaning_of scope text))
  value_of_tree scope (e.minus place operand) = headed place (λ node a. unary node Unary.Neg a) (value_of_tree scope operand)
  value_of_tree scope (e.negation place operand) = headed place (λ node a. unary node Unary.Not a) (value_of_tree scope operand)
  value_of_tree scope (e.binary place operator left right) =
      headed place (λ node parts. binary node operator parts.0 parts.1) (joined pair (value_of_tree scope left) (value_of_tree scope right))
  value_of_tree scope (e.application place head arguments) =
      value_applied place (callee scope head) (value_of_tree scope head) (values_of_trees scope arguments)
  value_of_tree scope (e.update place head index element) =
      headed place (λ node parts. update node parts.0 parts.1.0 parts.1.1)
      (joined pair (value_of_tree scope head) (joined pair (value_of_tree scope index) (value_of_tree scope element)))
  value_of_tree scope (e.field place head written) =
      headed place (λ node a. unary node (selector scope (known_type (judged scope in_program head)) written.text) a) (value_of_tree scope head)
  value_of_tree scope (e.sequence place ty elements) =
      headed place
      (λ node parts. listed node (sequence_of (type_of_elements (written_elements scope ty) (judged_each scope in_program elements))) parts)
      (values_of_trees scope elements)
  -- words of claims are none of the program's
  value_of_tree scope (e.result place ty) = single place no_value
  value_of_tree scope (e.entry_value place written) = single place no_value
  value_of_tree scope (e.old_value place written) = single place no_value
  value_of_tree scope (e.quantified place quantifier low high named body) = single place no_value
  value_of_tree scope (e.quantified_indices place quantifier head named body) = single place no_value

  pub values_of_trees : Scope → ExprTrees → Values
  values_of_trees scope e.no_exprs = plain no_exprs
  values_of_trees scope (e.expr_then tree trees) = joined expr_then (value_of_tree scope tree) (values_of_trees scope trees)

-- ---- constants

abbrev pub record_meant : Option Meaning → ℕ
record_meant (Some (record_class n)) = n
record_meant other = 0

abbrev mutual
  -- a minus in front of a number has a node of its own
  pub constant_of_tree : Scope → ConstTree → Value
  constant_of_tree scope (const_number place z) = single place (λ node. number node z)
  constant_of_tree scope (const_minus place digits z) = headed place (λ node a. unary node Unary.Neg a) (single digits (λ node. number node z))
  constant_of_tree scope (const_truth place) = single place (λ node. truth node true)
  constant_of_tree scope (const_falsity place) = single place (λ node. truth node false)
  constant_of_tree scope (const_sequence place ty elements) =
      headed place
      (λ node parts. listed node (sequence_of (type_of_elements (written_elements scope ty) (judged_consts scope elements))) parts)
      (constants_of_trees scope elements)
  constant_of_tree scope (const_record written fields) =
      headed written.place (λ node parts. listed node (record_of (record_meant (meaning_of scope written.text))) parts)
      (constants_of_trees scope fields)

  pub constants_of_trees : Scope → ConstTrees → Values
  constants_of_trees scope no_consts = plain no_exprs
  constants_of_trees scope (const_then tree trees) = joined expr_then (constant_of_tree scope tree) (constants_of_trees scope trees)
