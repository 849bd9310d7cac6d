-- The account that an expression of the code is printed as, lightly or plainly.
use Rattle.std.specs.Prelude.{Bool, List, map}
use Rattle.slang_tree.specs.declared.expression.Expr.{Expr}
use Rattle.slang_tree.specs.ExprTree.{expr_tree, exprs_of}
use Rattle.slang_grammar.specs.Expressions.{ExprText, ExprsText}
use Rattle.print_expressions.specs.Accounts.{expr_account, exprs_account}

abbrev pub account_of : Bool → Expr → ExprText
account_of light expr = expr_account light (expr_tree expr)

abbrev pub accounts_of : Bool → List Expr → ExprsText
accounts_of light exprs = exprs_account light (exprs_of (map expr_tree exprs))
