-- What holds of printed files and places, as one statement each.
use Rattle.std.specs.Prelude.{Bool, ◌≡◌, List}
use Rattle.slang_tree.specs.DeclTree.{DeclTree}
use Rattle.slang_grammar.specs.Texts.{FileText, IsFile, file_tree, InGrammar}
use Rattle.print_declarations.specs.Bare.{bare_file}
use Rattle.print_declarations.specs.Accounts.{file_account}
use Rattle.print_layout.specs.Pieces.{tokens_of}
use Rattle.print_layout.specs.Declarations.{file_pieces}

abbrev pub FilesArePrintedWithoutPlaces : Type 0
FilesArePrintedWithoutPlaces = (light : Bool) (decls : List DeclTree) → file_account light (bare_file decls) ≡ file_account light decls

-- The tokens that are laid out of a tree that is, but for its places, one that the grammar reads, are a text of that tree without places.
abbrev pub PrintedFilesReadBack : Type 0
PrintedFilesReadBack =
    (light : Bool) (decls : List DeclTree) (file : FileText) → IsFile file → bare_file decls ≡ bare_file (file_tree file) →
    InGrammar (tokens_of (file_pieces (file_account light decls))) (bare_file decls)
