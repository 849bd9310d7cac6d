-- How deep several statements are.
use Rattle.std.specs.Prelude.{ℕ, max, List, [], ◌∷◌, Option, Some, None}
use Rattle.slang_tree.specs.declared.statement.Stmt.{Stmt, size-Stmt}

abbrev pub deepest : List Stmt → ℕ
deepest [] = 0
deepest (stmt ∷ stmts) = max (size-Stmt stmt) (deepest stmts)

-- those behind `else`
abbrev pub deepest_else : Option (List Stmt) → ℕ
deepest_else None = 0
deepest_else (Some stmts) = deepest stmts
