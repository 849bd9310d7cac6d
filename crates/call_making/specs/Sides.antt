-- Right sides that are calls of methods, and others.
use Rattle.std.specs.Prelude.{◌≡◌, ℕ, List, map, Option, Some, None}
use Rattle.std.specs.Borrow.{Bor}
use Rattle.slang_tree.specs.declared.place.Place.{Place}
use Rattle.slang_tree.specs.declared.expression.Name.{Name}
use Rattle.slang_tree.specs.declared.expression.Expr.{Expr}
use Rattle.slang_tree.specs.ExprTree.{ExprTree, ExprTrees, expr_tree, exprs_of}
use Rattle.slang_tree.specs.ExprTree as e
use Rattle.program_trees.specs.Variables.{Variable}
use Rattle.type_rules.specs.Meanings.{Scope, meaning_of}
use Rattle.typed_texts.specs.Code.{assigned, call_of, set_to}
use Rattle.typed_texts.specs.Values.{value_of_tree}

-- the head and the arguments of an application
abbrev pub applied_in : ExprTree → Option (ExprTree × ExprTrees)
applied_in (e.application place head arguments) = Some (head, arguments)
applied_in other = None

abbrev pub applied_seen : Bor Expr × Bor (List Expr) → ExprTree × ExprTrees
applied_seen applied = (expr_tree applied.0.now, exprs_of (map expr_tree applied.1.now))

abbrev pub written : List ℕ → Place → Name
written text place = record { text = text; place = place }

-- the name that an expression is
abbrev pub name_in : ExprTree → Option Name
name_in (e.name text place) = Some (written text place)
name_in other = None

abbrev pub name_seen : Bor Name → Name
name_seen name = name.now

-- The right side is a call of the method of this name with these arguments, or else it is a value.
abbrev pub IsSide : Scope → ExprTree → Option (Bor Name × Bor (List Expr)) → Type 0
IsSide at tree (Some call) = (place : Place) (x : Variable) →
    assigned at place x tree
    ≡ call_of at place (Some x) call.0.now.place (meaning_of at call.0.now.text) (exprs_of (map expr_tree call.1.now))
IsSide at tree None = (place : Place) (x : Variable) → assigned at place x tree ≡ set_to place x (value_of_tree at tree)
