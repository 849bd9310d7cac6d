-- An expression of the text as plain data: its form, with the place of each part.
use Rattle.std.specs.Prelude.{ℕ, ℤ, List, [], ◌∷◌, Option}
use Rattle.std.specs.Option.{option_map}
use Rattle.slang_values.specs.declared.operators.Quantifier.{Quantifier}
use Rattle.slang_tree.specs.TypeTree.{TypeTree, type_tree}
use Rattle.slang_tree.specs.declared.place.Place.{Place}
use Rattle.slang_tree.specs.declared.expression.Name.{Name}
use Rattle.slang_tree.specs.declared.expression.Operator.{Operator}
use Rattle.slang_tree.specs.declared.expression.Expr.{Expr, fold-Expr}
use Rattle.slang_tree.specs.declared.expression.Expr.TheOpen as e

mutual
  pub data ExprTree : Type 0 where
    number : (place : Place) (z : ℤ) → ExprTree
    truth : (place : Place) → ExprTree
    falsity : (place : Place) → ExprTree
    name : (text : List ℕ) (place : Place) → ExprTree
    -- the result of the method, whose type may stand beside it
    result : (place : Place) (ty : Option TypeTree) → ExprTree
    -- what a variable was when the method began
    entry_value : (place : Place) (written : Name) → ExprTree
    -- what a variable was before its last change
    old_value : (place : Place) (written : Name) → ExprTree
    minus : (place : Place) (operand : ExprTree) → ExprTree
    negation : (place : Place) (operand : ExprTree) → ExprTree
    binary : (place : Place) (operator : Operator) (left right : ExprTree) → ExprTree
    application : (place : Place) (head : ExprTree) (arguments : ExprTrees) → ExprTree
    -- a sequence with another element at an index
    update : (place : Place) (head index element : ExprTree) → ExprTree
    field : (place : Place) (head : ExprTree) (written : Name) → ExprTree
    sequence : (place : Place) (ty : Option TypeTree) (elements : ExprTrees) → ExprTree
    -- the range is from low on and below high
    quantified : (place : Place) (quantifier : Quantifier) (low high : ExprTree) (variable : Name) (body : ExprTree) → ExprTree
    -- the range is the indices of a sequence
    quantified_indices : (place : Place) (quantifier : Quantifier) (head : ExprTree) (variable : Name) (body : ExprTree) → ExprTree

  pub data ExprTrees : Type 0 where
    no_exprs : ExprTrees
    expr_then : ExprTree → ExprTrees → ExprTrees

abbrev pub exprs_of : List ExprTree → ExprTrees
exprs_of [] = no_exprs
exprs_of (tree ∷ trees) = expr_then tree (exprs_of trees)

abbrev pub expr_list : ExprTrees → List ExprTree
expr_list no_exprs = []
expr_list (expr_then tree trees) = tree ∷ expr_list trees

-- one level of an expression, with the trees of its parts
abbrev pub expr_level : e.Expr-F ExprTree → ExprTree
expr_level (e.Number place z) = number place z
expr_level (e.True place) = truth place
expr_level (e.False place) = falsity place
expr_level (e.Name written) = name written.text written.place
expr_level (e.Res place ty) = result place (option_map type_tree ty)
expr_level (e.In place written) = entry_value place written
expr_level (e.Old place written) = old_value place written
expr_level (e.Minus place operand) = minus place operand
expr_level (e.Not place operand) = negation place operand
expr_level (e.Binary place operator left right) = binary place operator left right
expr_level (e.Apply place head arguments) = application place head (exprs_of arguments)
expr_level (e.Update place head index element) = update place head index element
expr_level (e.Field place head written) = field place head written
expr_level (e.Sequence place ty elements) = sequence place (option_map type_tree ty) (exprs_of elements)
expr_level (e.Quantified place quantifier low high variable body) = quantified place quantifier low high variable body
expr_level (e.QuantifiedIndices place quantifier head variable body) = quantified_indices place quantifier head variable body

abbrev pub expr_tree : Expr → ExprTree
expr_tree expr = fold-Expr ExprTree expr_level expr

-- where an expression stands
abbrev pub place_of : ExprTree → Place
place_of (number place z) = place
place_of (truth place) = place
place_of (falsity place) = place
place_of (name text place) = place
place_of (result place ty) = place
place_of (entry_value place written) = place
place_of (old_value place written) = place
place_of (minus place operand) = place
place_of (negation place operand) = place
place_of (binary place operator left right) = place
place_of (application place head arguments) = place
place_of (update place head index element) = place
place_of (field place head written) = place
place_of (sequence place ty elements) = place
place_of (quantified place quantifier low high variable body) = place
place_of (quantified_indices place quantifier head variable body) = place
