-- The statements inside a statement are less deep than it.
use Rattle.std.proofs.Common.{◌≡◌, ℕ, zero, suc, ◌<◌, ◌≤◌, max, Option, Some, None, List, [], ◌∷◌, length, get_or, refl, ap, arith}
use denote.Param.Weighed.{most}
use Rattle.slang_tree.specs.declared.place.Place.{Place}
use Rattle.slang_tree.specs.declared.expression.Name.{Name}
use Rattle.slang_tree.specs.declared.expression.Expr.{Expr}
use Rattle.slang_tree.specs.declared.statement.Stmt.{Stmt, size-Stmt}
use Rattle.slang_tree.specs.declared.statement.Stmt.TheVariants as v
use Rattle.slang_tree.specs.declared.statement.Stmt.TheViews as s
use Rattle.statement_printing.specs.Sizes.{deepest, deepest_of}

deepest_is : (stmts : List Stmt) → most size-Stmt stmts ≡ deepest stmts
deepest_is [] = refl
deepest_is (stmt ∷ stmts) = ap (max (size-Stmt stmt)) (deepest_is stmts)

-- no statement of the list is deeper than the deepest
pub size-deepest : (stmts : List Stmt) (k : ℕ) (d : Stmt) → k < length stmts → size-Stmt (get_or stmts k d) ≤ deepest stmts
size-deepest [] k d h = absurd (omega arith)
size-deepest (stmt ∷ stmts) zero d h = omega arith
size-deepest (stmt ∷ stmts) (suc k) d h = omega (arith, size-deepest stmts k d (omega arith))

pub size-While : (place : Place) (test : Expr) (modifies : List Name) (claims : List Expr) (body : List Stmt) → deepest body < size-Stmt (v.While place test modifies claims body)
size-While place test modifies claims body = omega (arith, s.sized-While place test modifies claims body, deepest_is body)

pub size-If : (place : Place) (test : Expr) (then : List Stmt) (otherwise : Option (List Stmt)) → deepest then < size-Stmt (v.If place test then otherwise)
size-If place test then otherwise = omega (arith, s.sized-If place test then otherwise, deepest_is then)

pub size-If_else : (place : Place) (test : Expr) (then : List Stmt) (otherwise : Option (List Stmt)) → deepest_of otherwise < size-Stmt (v.If place test then otherwise)
size-If_else place test then None = omega (arith, s.sized-If place test then None)
size-If_else place test then (Some stmts) = omega (arith, s.sized-If place test then (Some stmts), deepest_is stmts)

pub ruleset size_lines = (size-deepest)

pub ruleset smaller_lines = (size-While, size-If, size-If_else)
