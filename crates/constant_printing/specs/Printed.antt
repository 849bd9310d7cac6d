-- The bytes that are printed of constants.
use Rattle.std.specs.Prelude.{List, [], ◌∷◌, ◌++◌, map}
use Rattle.slang_lexer.specs.declared.token.TokenKind.TheVariants as kind
use Rattle.slang_tree.specs.declared.declaration.Const.{Const}
use Rattle.slang_tree.specs.DeclTree.{const_tree, consts_of}
use Rattle.print_expressions.specs.Bare.{nowhere}
use Rattle.print_declarations.specs.Accounts.{const_account, consts_account}
use Rattle.print_layout.specs.Pieces.{none, blank, Piece, mark}
use Rattle.print_layout.specs.Declarations.{const_pieces, consts_pieces}

abbrev pub consts_listed : List Const → List Piece
consts_listed constants = consts_pieces none (consts_account (consts_of (map const_tree constants)))

abbrev pub enclosed_consts : List Const → List Piece
enclosed_consts constants = (mark none kind.LeftParen nowhere ∷ consts_listed constants) ++ mark none kind.RightParen nowhere ∷ []

-- each behind a comma
abbrev pub consts_behind : List Const → List Piece
consts_behind [] = []
consts_behind (constant ∷ constants) = (mark none kind.Comma nowhere ∷ const_pieces blank (const_account (const_tree constant))) ++ consts_behind constants
