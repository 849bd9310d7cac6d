-- What holds of printed statements, as one statement.
use Rattle.std.specs.Prelude.{◌≡◌, Bool}
use Rattle.slang_grammar.specs.Statements.{StmtText, IsStmt, stmt_tree}
use Rattle.print_statements.specs.Bare.{bare_stmt}
use Rattle.print_statements.specs.Accounts.{stmt_account}

-- Of each tree that the grammar reads: what is printed is in the grammar, and its tree is the same without places.
abbrev pub StatementsReadBack : Type 0
StatementsReadBack =
    (light : Bool) (text : StmtText) → IsStmt text
    → IsStmt (stmt_account light (stmt_tree text)) × (stmt_tree (stmt_account light (stmt_tree text)) ≡ bare_stmt (stmt_tree text))
