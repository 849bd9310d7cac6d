-- What holds of printed expressions, as one statement each.
use Rattle.std.specs.Prelude.{◌≡◌, ℕ, ◌^◌, ◌<◌, ◌≤◌, Bool, false, length, IsTrue}
use Rattle.slang_lexer.specs.Next.{value_of as number_value}
use Rattle.slang_tree.specs.ExprTree.{ExprTree}
use Rattle.slang_grammar.specs.Parts.{is_numeral}
use Rattle.slang_grammar.specs.Expressions.{ExprText, expr_tokens, IsGrouped, expr_tree}
use Rattle.print_expressions.specs.Bare.{bare_expr}
use Rattle.print_expressions.specs.Accounts.{numeral, expr_account}

abbrev pub NumeralsReadBack : Type 0
NumeralsReadBack = (n : ℕ) → n < 2 ^ 127 → IsTrue (is_numeral (numeral n)) × (number_value (numeral n) ≡ n)

-- Of each tree that the grammar reads: what is printed is in the grammar, and its tree is the same without places.
abbrev pub ExpressionsReadBack : Type 0
ExpressionsReadBack =
    (light : Bool) (text : ExprText) → IsGrouped text →
    IsGrouped (expr_account light (expr_tree text)) × (expr_tree (expr_account light (expr_tree text)) ≡ bare_expr (expr_tree text))

abbrev pub PlacesAreNotPrinted : Type 0
PlacesAreNotPrinted = (light : Bool) (tree : ExprTree) → expr_account light (bare_expr tree) ≡ expr_account light tree

-- So no bracket that is printed plainly could be left out.
abbrev pub ExpressionsAreShortest : Type 0
ExpressionsAreShortest =
    (text : ExprText) → IsGrouped text → length (expr_tokens (expr_account false (expr_tree text))) ≤ length (expr_tokens text)
