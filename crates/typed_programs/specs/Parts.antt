-- The height and the nodes of expressions, and the element types in claims.
use Rattle.std.specs.Prelude.{ℕ, ◌+◌, max, Bool, true, false, ◌&&◌, List, [], ◌∷◌, ◌++◌}
use Rattle.slang_values.specs.Value.{ValueType}
use Rattle.slang_values.specs.Tree.{Tree, literal, truth_literal, name, bound, unary as unary_tree, binary as binary_tree, update as update_tree, quantified, listed as listed_tree, Listed, sequence_of, record_of, Trees, no_trees, tree_then}
use Rattle.slang_values.specs.declared.operators.Unary.{Unary}
use Rattle.program_trees.specs.Programs.{TypedExpr, number, truth, variable, unary, binary, read, update, listed, TypedExprs, no_exprs, expr_then}

abbrev mutual
  -- 1 where the expression has no parts, and else one more than the highest part
  pub expr_height : {A : Type 0} → TypedExpr A → ℕ
  expr_height (number node z) = 1
  expr_height (truth node b) = 1
  expr_height (variable node x) = 1
  expr_height (unary node op operand) = expr_height operand + 1
  expr_height (binary node operator left right) = max (expr_height left) (expr_height right) + 1
  expr_height (read node head index) = max (expr_height head) (expr_height index) + 1
  expr_height (update node head index element) = max (max (expr_height head) (expr_height index)) (expr_height element) + 1
  expr_height (listed node front parts) = greatest_height parts + 1

  pub greatest_height : {A : Type 0} → TypedExprs A → ℕ
  greatest_height no_exprs = 0
  greatest_height (expr_then expr exprs) = max (expr_height expr) (greatest_height exprs)

abbrev mutual
  -- the nodes of the expression and of its parts
  pub expr_nodes : {A : Type 0} → TypedExpr A → List ℕ
  expr_nodes (number node z) = node ∷ []
  expr_nodes (truth node b) = node ∷ []
  expr_nodes (variable node x) = node ∷ []
  expr_nodes (unary node op operand) = node ∷ expr_nodes operand
  expr_nodes (binary node operator left right) = node ∷ expr_nodes left ++ expr_nodes right
  expr_nodes (read node head index) = node ∷ expr_nodes head ++ expr_nodes index
  expr_nodes (update node head index element) = node ∷ expr_nodes head ++ (expr_nodes index ++ expr_nodes element)
  expr_nodes (listed node front parts) = node ∷ parts_nodes parts

  pub parts_nodes : {A : Type 0} → TypedExprs A → List ℕ
  parts_nodes no_exprs = []
  parts_nodes (expr_then expr exprs) = expr_nodes expr ++ parts_nodes exprs

abbrev mutual
  -- A constant: a number, also with a minus in front, a truth value, or a sequence or a record of constants.
  pub is_constant : {A : Type 0} → TypedExpr A → Bool
  is_constant (number node z) = true
  is_constant (truth node b) = true
  is_constant (unary node Unary.Neg (number inner z)) = true
  is_constant (listed node front parts) = are_constant parts
  is_constant other = false

  pub are_constant : {A : Type 0} → TypedExprs A → Bool
  are_constant no_exprs = true
  are_constant (expr_then expr exprs) = is_constant expr && are_constant exprs

abbrev pub front_elements : Listed → List ValueType
front_elements (sequence_of t) = t ∷ []
front_elements (record_of n) = []

abbrev mutual
  -- the types of the elements of the sequences that are written out in a claim
  pub element_types : {A : Type 0} → Tree A → List ValueType
  element_types (literal z) = []
  element_types (truth_literal b) = []
  element_types (name a) = []
  element_types (bound n) = []
  element_types (unary_tree op a) = element_types a
  element_types (binary_tree op a b) = element_types a ++ element_types b
  element_types (update_tree a i x) = element_types a ++ (element_types i ++ element_types x)
  element_types (quantified q low high body) = element_types low ++ (element_types high ++ element_types body)
  element_types (listed_tree front parts) = front_elements front ++ all_element_types parts

  pub all_element_types : {A : Type 0} → Trees A → List ValueType
  all_element_types no_trees = []
  all_element_types (tree_then a as') = element_types a ++ all_element_types as'
