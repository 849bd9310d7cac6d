-- How deep several expressions are.
use Rattle.std.specs.Prelude.{ℕ, max, List, [], ◌∷◌}
use Rattle.slang_tree.specs.declared.expression.Expr.{Expr, size-Expr}

abbrev pub deepest : List Expr → ℕ
deepest [] = 0
deepest (expr ∷ exprs) = max (size-Expr expr) (deepest exprs)
