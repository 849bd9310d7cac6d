-- What holds of expressions that are printed lightly, as one statement.
use Rattle.std.specs.Prelude.{◌<◌, ◌≤◌, true}
use Rattle.slang_grammar.specs.Expressions.{ExprText, IsGrouped, expr_tree}
use Rattle.print_expressions.specs.Hefts.{heft, heavy}
use Rattle.print_expressions.specs.Accounts.{expr_account}

-- So what is printed lightly nests too deep only where each text of the tree does.
abbrev pub ExpressionsAreLightest : Type 0
ExpressionsAreLightest =
    (text : ExprText) → IsGrouped text → (heft text).peak < heavy → (heft (expr_account true (expr_tree text))).peak ≤ (heft text).peak
