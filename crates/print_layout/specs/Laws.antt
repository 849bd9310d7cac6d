-- What holds of the layout, as one statement.
use Rattle.std.specs.Prelude.{◌≡◌}
use Rattle.slang_grammar.specs.Texts.{FileText, file_tokens}
use Rattle.print_layout.specs.Pieces.{tokens_of}
use Rattle.print_layout.specs.Declarations.{file_pieces}

abbrev pub LayoutHasTheTokens : Type 0
LayoutHasTheTokens = (file : FileText) → tokens_of (file_pieces file) ≡ file_tokens file
