-- What holds of files that are printed lightly, as one statement.
use Rattle.std.specs.Prelude.{true, []}
use Rattle.slang_tokens.specs.Tokens.{weight_limit}
use Rattle.slang_tokens.specs.Weights.{AreLight}
use Rattle.slang_grammar.specs.Texts.{FileText, file_tokens, IsFile, file_tree}
use Rattle.print_declarations.specs.Accounts.{file_account}

-- Of each text that nests no deeper than a text may: what is printed lightly of its tree nests no deeper either.
abbrev pub FilesAreLightest : Type 0
FilesAreLightest =
    (file : FileText) → IsFile file → AreLight weight_limit [] (file_tokens file) → AreLight weight_limit [] (file_tokens (file_account true (file_tree file)))
