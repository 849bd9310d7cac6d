-- How deep several statements are.
use Rattle.std.specs.Prelude.{ℕ, max, List, [], ◌∷◌, Option, Some, None}
use Rattle.slang_tree.specs.declared.statement.Stmt.{Stmt, size-Stmt}

abbrev pub deepest : List Stmt → ℕ
deepest [] = 0
deepest (stmt ∷ stmts) = max (size-Stmt stmt) (deepest stmts)

abbrev pub deepest_of : Option (List Stmt) → ℕ
deepest_of None = 0
deepest_of (Some stmts) = deepest stmts
