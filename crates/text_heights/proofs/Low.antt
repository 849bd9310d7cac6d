-- How high what comes of an expression of a text is.
use Rattle.std.proofs.Common.{ℕ, ◌+◌, ◌*◌, ◌≤◌, max, Bool, true, false, cond, length, Option, Some, None, arith}
use Rattle.slang_values.specs.Tree.{unary, binary, Trees, no_trees, tree_then}
use Rattle.slang_values.specs.Measure.{height}
use Rattle.slang_values.specs.Measure as trees
use Rattle.slang_values.specs.declared.operators.Unary.{Unary}
use Rattle.slang_tree.specs.declared.place.Place.{Place}
use Rattle.slang_tree.specs.declared.expression.Operator.{Operator}
use Rattle.slang_tree.specs.ExprTree.{ExprTree, ExprTrees, no_exprs, expr_then}
use Rattle.slang_tree.specs.ExprTree as e
use Rattle.slang_tree.specs.DeclTree.{ConstTree, const_number, const_minus, const_truth, const_falsity, const_sequence, const_record, ConstTrees, no_consts, const_then}
use Rattle.program_trees.specs.Operators.{connective, connected, exchanged, negated}
use Rattle.program_trees.specs.Claims.{ClaimName, ClaimTree}
use Rattle.program_trees.specs.Programs.{TypedExpr, TypedExprs}
use Rattle.program_trees.specs.Programs as programs
use Rattle.program_trees.specs.Variables.{Variable, global}
use Rattle.typed_programs.specs.Parts.{expr_height}
use Rattle.typed_programs.specs.Parts as parts
use Rattle.type_rules.specs.Meanings.{Meaning, variable, bound_variable, block_variable, record_class, method, Scope, meaning_of, with_bound}
use Rattle.type_rules.specs.Expressions.{Context, Callee, a_value, a_record, a_method, callee}
use Rattle.typed_texts.specs.Claims.{claim_meant, entry_meant, old_meant, first_claim, claim_applied, claim_of_tree, claims_of_trees}
use Rattle.typed_texts.specs.Values.{Value, Values, value_meant, first_value, value_applied, value_of_tree, values_of_trees, constant_of_tree, constants_of_trees}
use Rattle.text_heights.specs.Heights.{text_height, greatest_height, const_height, greatest_const}
use Rattle.text_heights.specs.Low.{ClaimsAreLow, ValuesAreLow, ConstantsAreLow}

-- ---- claims

meant-low : (depth : ℕ) (meaning : Option Meaning) → height (claim_meant depth meaning) ≤ 2
meant-low depth (Some (variable x changes type)) = omega arith
meant-low depth (Some (bound_variable level)) = omega arith
meant-low depth (Some (block_variable label)) = omega arith
meant-low depth (Some (record_class n)) = omega arith
meant-low depth (Some (method n signature modifies)) = omega arith
meant-low depth None = omega arith

entry-low : (meaning : Option Meaning) → height (entry_meant meaning) ≤ 2
entry-low (Some (variable (global n) changes type)) = omega arith
entry-low other = omega arith

old-low : (meaning : Option Meaning) → height (old_meant meaning) ≤ 2
old-low (Some (variable x changes type)) = omega arith
old-low other = omega arith

connected-low : (operator : Operator) (a b : ClaimTree Variable) → height (connected operator a b) ≤ max (height a) (height b) + 2
connected-low operator a b = at (exchanged operator) (negated operator)
  where
    at : (turned other : Bool) → height (cond turned (binary (connective operator) b a)
        (cond other (unary Unary.Not (binary (connective operator) a b)) (binary (connective operator) a b))) ≤ max (height a) (height b) + 2
    at true other = omega arith
    at false true = omega arith
    at false false = omega arith

first-low : (claims : Trees (ClaimName Variable)) → height (first_claim claims) ≤ trees.greatest_height claims + 1
first-low no_trees = omega arith
first-low (tree_then claim claims) = omega arith

applied-low : (c : Callee) (a : ClaimTree Variable) (claims : Trees (ClaimName Variable)) →
    height (claim_applied c a claims) ≤ max (height a) (trees.greatest_height claims) + 2
applied-low a_value a claims = omega (arith, first-low claims)
applied-low (a_record n) a claims = omega arith
applied-low (a_method signature modifies) a claims = omega arith

mutual
  claim-low : (scope : Scope) (context : Context) (tree : ExprTree) → height (claim_of_tree scope context tree) ≤ 2 * text_height tree
  claim-low scope context (e.number place z) = omega arith
  claim-low scope context (e.truth place) = omega arith
  claim-low scope context (e.falsity place) = omega arith
  claim-low scope context (e.name text place) = omega (arith, meant-low scope.depth (meaning_of scope text))
  claim-low scope context (e.result place ty) = omega arith
  claim-low scope context (e.entry_value place written) = omega (arith, entry-low (meaning_of scope written.text))
  claim-low scope context (e.old_value place written) = omega (arith, old-low (meaning_of scope written.text))
  claim-low scope context (e.minus place operand) = omega (arith, claim-low scope context operand)
  claim-low scope context (e.negation place operand) = omega (arith, claim-low scope context operand)
  claim-low scope context (e.binary place operator left right) =
      omega (arith, connected-low operator (claim_of_tree scope context left) (claim_of_tree scope context right), claim-low scope context left, claim-low scope context right)
  claim-low scope context (e.application place head arguments) =
      omega (arith, applied-low (callee scope head) (claim_of_tree scope context head) (claims_of_trees scope context arguments), claim-low scope context head, claims-low scope context arguments)
  claim-low scope context (e.update place head index element) =
      omega (arith, claim-low scope context head, claim-low scope context index, claim-low scope context element)
  claim-low scope context (e.field place head written) = omega (arith, claim-low scope context head)
  claim-low scope context (e.sequence place ty elements) = omega (arith, claims-low scope context elements)
  claim-low scope context (e.quantified place quantifier low high named body) =
      omega (arith, claim-low scope context low, claim-low scope context high, claim-low (with_bound scope named.text) context body)
  claim-low scope context (e.quantified_indices place quantifier head named body) =
      omega (arith, claim-low scope context head, claim-low (with_bound scope named.text) context body)

  claims-low : (scope : Scope) (context : Context) (exprs : ExprTrees) →
      trees.greatest_height (claims_of_trees scope context exprs) ≤ 2 * greatest_height exprs
  claims-low scope context no_exprs = omega arith
  claims-low scope context (expr_then tree others) = omega (arith, claim-low scope context tree, claims-low scope context others)

pub claims_low : ClaimsAreLow
claims_low scope context tree = claim-low scope context tree

-- ---- values

value_meant-low : (node : ℕ) (meaning : Option Meaning) → expr_height (value_meant node meaning) ≤ 1
value_meant-low node (Some (variable x changes type)) = omega arith
value_meant-low node other = omega arith

first_value-low : (node : ℕ) (exprs : TypedExprs Variable) → expr_height (first_value node exprs) ≤ parts.greatest_height exprs + 1
first_value-low node programs.no_exprs = omega arith
first_value-low node (programs.expr_then expr exprs) = omega arith

-- a first value is as low as the others, or stands alone
first_value-least : (node : ℕ) (exprs : TypedExprs Variable) (expr : TypedExpr Variable) →
    max (expr_height expr) (expr_height (first_value node exprs)) ≤ max (expr_height expr) (parts.greatest_height exprs)
first_value-least node programs.no_exprs expr = omega (arith, positive expr)
  where
    positive : (other : TypedExpr Variable) → 1 ≤ expr_height other
    positive (programs.number n z) = omega arith
    positive (programs.truth n b) = omega arith
    positive (programs.variable n x) = omega arith
    positive (programs.unary n op operand) = omega arith
    positive (programs.binary n operator left right) = omega arith
    positive (programs.read n head index) = omega arith
    positive (programs.update n head index element) = omega arith
    positive (programs.listed n front others) = omega arith
first_value-least node (programs.expr_then first exprs) expr = omega arith

value_applied-low : (place : Place) (c : Callee) (head : Value) (arguments : Values) (h k : ℕ) → ((n : ℕ) → expr_height (head.from n) ≤ h) →
    ((n : ℕ) → parts.greatest_height (arguments.from n) ≤ k) → (node : ℕ) →
    expr_height ((value_applied place c head arguments).from node) ≤ max h k + 1
value_applied-low place a_value head arguments h k on_head on_arguments node =
    let next = node + 1 + length head.places in
    omega (
      arith,
      first_value-least node (arguments.from next) (head.from (node + 1)),
      on_head (node + 1),
      on_arguments next,
    )
value_applied-low place (a_record n) head arguments h k on_head on_arguments node = omega (arith, on_arguments (node + 1))
value_applied-low place (a_method signature modifies) head arguments h k on_head on_arguments node = omega arith

mutual
  value-low : (scope : Scope) (tree : ExprTree) (node : ℕ) → expr_height ((value_of_tree scope tree).from node) ≤ text_height tree
  value-low scope (e.number place z) node = omega arith
  value-low scope (e.truth place) node = omega arith
  value-low scope (e.falsity place) node = omega arith
  value-low scope (e.name text place) node = value_meant-low node (meaning_of scope text)
  value-low scope (e.result place ty) node = omega arith
  value-low scope (e.entry_value place written) node = omega arith
  value-low scope (e.old_value place written) node = omega arith
  value-low scope (e.minus place operand) node = omega (arith, value-low scope operand (node + 1))
  value-low scope (e.negation place operand) node = omega (arith, value-low scope operand (node + 1))
  value-low scope (e.binary place operator left right) node =
      let next = node + 1 + length (value_of_tree scope left).places in
      omega (arith, value-low scope left (node + 1), value-low scope right next)
  value-low scope (e.application place head arguments) node =
      value_applied-low place (callee scope head) (value_of_tree scope head) (values_of_trees scope arguments) (text_height head)
      (greatest_height arguments) (value-low scope head) (values-low scope arguments) node
  value-low scope (e.update place head index element) node =
      let second = node + 1 + length (value_of_tree scope head).places in
      let third = second + length (value_of_tree scope index).places in
      omega (arith, value-low scope head (node + 1), value-low scope index second, value-low scope element third)
  value-low scope (e.field place head written) node = omega (arith, value-low scope head (node + 1))
  value-low scope (e.sequence place ty elements) node = omega (arith, values-low scope elements (node + 1))
  value-low scope (e.quantified place quantifier low high named body) node = omega arith
  value-low scope (e.quantified_indices place quantifier head named body) node = omega arith

  values-low : (scope : Scope) (exprs : ExprTrees) (node : ℕ) →
      parts.greatest_height ((values_of_trees scope exprs).from node) ≤ greatest_height exprs
  values-low scope no_exprs node = omega arith
  values-low scope (expr_then tree others) node =
      omega (arith, value-low scope tree node, values-low scope others (node + length (value_of_tree scope tree).places))

pub values_low : ValuesAreLow
values_low scope tree node = value-low scope tree node

-- ---- constants

mutual
  const-low : (scope : Scope) (tree : ConstTree) (node : ℕ) → expr_height ((constant_of_tree scope tree).from node) ≤ const_height tree
  const-low scope (const_number place z) node = omega arith
  const-low scope (const_minus place digits z) node = omega arith
  const-low scope (const_truth place) node = omega arith
  const-low scope (const_falsity place) node = omega arith
  const-low scope (const_sequence place ty elements) node = omega (arith, consts-low scope elements (node + 1))
  const-low scope (const_record written fields) node = omega (arith, consts-low scope fields (node + 1))

  consts-low : (scope : Scope) (consts : ConstTrees) (node : ℕ) →
      parts.greatest_height ((constants_of_trees scope consts).from node) ≤ greatest_const consts
  consts-low scope no_consts node = omega arith
  consts-low scope (const_then tree others) node =
      omega (arith, const-low scope tree node, consts-low scope others (node + length (constant_of_tree scope tree).places))

pub constants_low : ConstantsAreLow
constants_low scope tree node = const-low scope tree node
