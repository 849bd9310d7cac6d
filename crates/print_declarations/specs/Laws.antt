-- What holds of printed files, as one statement.
use Rattle.std.specs.Prelude.{Bool}
use Rattle.slang_grammar.specs.Texts.{FileText, file_tokens, IsFile, file_tree, InGrammar}
use Rattle.print_declarations.specs.Bare.{bare_file}
use Rattle.print_declarations.specs.Accounts.{file_account}

-- Of each tree that the grammar reads: the tokens that are printed are a text with the same tree without places.
abbrev pub FilesReadBack : Type 0
FilesReadBack =
    (light : Bool) (file : FileText) → IsFile file → InGrammar (file_tokens (file_account light (file_tree file))) (bare_file (file_tree file))
