-- What holds of the pieces of printed files, as one statement.
use Rattle.std.specs.Prelude.{Bool, List, []}
use Rattle.std.specs.List.{AllByRecursion}
use Rattle.slang_lexer.specs.declared.token.TokenKind.{TokenKind}
use Rattle.slang_lexer.specs.declared.token.TokenKind.TheVariants as kind
use Rattle.slang_tree.specs.DeclTree.{DeclTree}
use Rattle.print_declarations.specs.Accounts.{file_account}
use Rattle.print_layout.specs.Declarations.{file_pieces}
use Rattle.sound_trees.specs.Sound.{SoundDecl}
use Rattle.laid_tokens.specs.Laid.{Laid}

abbrev pub PrintedFilesAreLaidOut : Type 0
PrintedFilesAreLaidOut =
    (light : Bool) (decls : List DeclTree) → AllByRecursion SoundDecl decls
    → (last : TokenKind) × Laid [] kind.End (file_pieces (file_account light decls)) [] last
