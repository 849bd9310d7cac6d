-- How deep several statements are.
use Rattle.std.specs.Prelude.{ℕ, max, List, [], ◌∷◌}
use Rattle.slang_tree.specs.declared.statement.Stmt.{Stmt, size-Stmt}

abbrev pub deepest : List Stmt → ℕ
deepest [] = 0
deepest (stmt ∷ stmts) = max (size-Stmt stmt) (deepest stmts)
