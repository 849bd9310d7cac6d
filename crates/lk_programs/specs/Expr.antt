-- An expression of the program as plain data.
use Rattle.std.specs.Prelude.{ℕ, List, [], ◌∷◌, map, true, false}
use Rattle.slang_values.specs.Tree.{sequence_of, record_of}
use Rattle.slang_values.specs.declared.operators.Unary.{Unary}
use Rattle.slang_tree.specs.declared.expression.Operator.TheVariants as o
use Rattle.program_trees.specs.Programs.{TypedExpr, number, truth, variable, unary, binary, read, update, listed, TypedExprs, no_exprs, expr_then}
use Rattle.lk_claims.specs.Claim.{value_type}
use Rattle.lk_programs.specs.declared.expression.Expr.{Expr}
use Rattle.lk_programs.specs.declared.expression.Expr.TheOpen as e
use Rattle.lk_programs.specs.declared.expression.Expr.TheFolds.{fold-Expr}

abbrev pub exprs_of : List (TypedExpr ℕ) → TypedExprs ℕ
exprs_of [] = no_exprs
exprs_of (expr ∷ exprs) = expr_then expr (exprs_of exprs)

-- one level of an expression, with its parts already as plain data
abbrev pub expr_level : e.Expr-F (TypedExpr ℕ) → TypedExpr ℕ
expr_level (e.Lit node z) = number node.0 z
expr_level (e.True node) = truth node.0 true
expr_level (e.False node) = truth node.0 false
expr_level (e.Var node n) = variable node.0 n
expr_level (e.Neg node a) = unary node.0 Unary.Neg a
expr_level (e.Not node a) = unary node.0 Unary.Not a
expr_level (e.LooseImply node a b) = binary node.0 o.LooseImply a b
expr_level (e.LooseCondImply node a b) = binary node.0 o.LooseCondImply a b
expr_level (e.Or node a b) = binary node.0 o.Or a b
expr_level (e.CondOr node a b) = binary node.0 o.CondOr a b
expr_level (e.And node a b) = binary node.0 o.And a b
expr_level (e.CondAnd node a b) = binary node.0 o.CondAnd a b
expr_level (e.Eq node a b) = binary node.0 o.Eq a b
expr_level (e.Ne node a b) = binary node.0 o.Ne a b
expr_level (e.Lt node a b) = binary node.0 o.Lt a b
expr_level (e.Le node a b) = binary node.0 o.Le a b
expr_level (e.Gt node a b) = binary node.0 o.Gt a b
expr_level (e.Ge node a b) = binary node.0 o.Ge a b
expr_level (e.Append node a b) = binary node.0 o.Append a b
expr_level (e.Imply node a b) = binary node.0 o.Imply a b
expr_level (e.CondImply node a b) = binary node.0 o.CondImply a b
expr_level (e.Add node a b) = binary node.0 o.Add a b
expr_level (e.Sub node a b) = binary node.0 o.Sub a b
expr_level (e.Mul node a b) = binary node.0 o.Mul a b
expr_level (e.Div node a b) = binary node.0 o.Div a b
expr_level (e.Rem node a b) = binary node.0 o.Rem a b
expr_level (e.Size node a) = unary node.0 Unary.Size a
expr_level (e.Read node a b) = read node.0 a b
expr_level (e.Update node a i x) = update node.0 a i x
expr_level (e.SeqLit node t es) = listed node.0 (sequence_of (value_type t)) (exprs_of es)
expr_level (e.Rec node n es) = listed node.0 (record_of n) (exprs_of es)
expr_level (e.Field node a k) = unary node.0 (Unary.Field k) a

unfoldable pub typed_expr : Expr → TypedExpr ℕ
typed_expr = fold-Expr (TypedExpr ℕ) expr_level

abbrev pub typed_exprs : List Expr → TypedExprs ℕ
typed_exprs exprs = exprs_of (map typed_expr exprs)
