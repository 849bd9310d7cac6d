-- Which expressions are calls of methods.
use Rattle.std.specs.Prelude.{Bool, true, false}
use Rattle.slang_tree.specs.ExprTree.{ExprTree}
use Rattle.slang_tree.specs.ExprTree as e
use Rattle.type_rules.specs.Meanings.{Scope}
use Rattle.type_rules.specs.Expressions.{Callee, a_method, callee}

abbrev pub is_method : Callee → Bool
is_method (a_method signature modifies) = true
is_method other = false

abbrev pub calls_method : Scope → ExprTree → Bool
calls_method scope (e.application place head arguments) = is_method (callee scope head)
calls_method scope other = false
