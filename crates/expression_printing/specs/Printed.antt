-- The bytes that are printed of expressions.
use Rattle.std.specs.Prelude.{◌≡◌, ℕ, Bool, List, [], ◌∷◌, ◌++◌, Option}
use Rattle.std.specs.Option.{option_map}
use Rattle.slang_lexer.specs.declared.token.TokenKind.TheVariants as kind
use Rattle.slang_tree.specs.declared.expression.Name.{Name}
use Rattle.slang_tree.specs.declared.expression.Expr.{Expr}
use Rattle.slang_tree.specs.declared.expression.TypeName.{TypeName}
use Rattle.slang_tree.specs.TypeTree.{type_tree}
use Rattle.slang_grammar.specs.Parts.{name_token}
use Rattle.slang_grammar.specs.Expressions.{BoundText}
use Rattle.print_expressions.specs.Bare.{nowhere, bare_name}
use Rattle.print_expressions.specs.Accounts.{element_account, in_brackets_unless}
use Rattle.print_layout.specs.Pieces.{Gap, none, blank, Piece, piece, mark, bytes_of}
use Rattle.print_layout.specs.Expressions.{optional_element, expr_pieces, exprs_pieces, bound_pieces}
use Rattle.expression_standing.specs.Account.{account_of, accounts_of}

-- the bytes of a text have grown by those of these pieces
pub record Adds (old new : List ℕ) (pieces : List Piece) : Type 0 where
  pub is : new ≡ old ++ bytes_of pieces

-- in brackets, where it does not stand without them
abbrev pub placed_pieces : Gap → Bool → Bool → Expr → List Piece
placed_pieces gap stands light expr = expr_pieces gap (in_brackets_unless stands (account_of light expr))

-- each behind a comma
abbrev pub behind_pieces : Gap → Bool → List Expr → List Piece
behind_pieces gap light [] = []
behind_pieces gap light (expr ∷ exprs) = (mark none kind.Comma nowhere ∷ expr_pieces gap (account_of light expr)) ++ behind_pieces gap light exprs

-- in round brackets
abbrev pub arguments_pieces : Bool → List Expr → List Piece
arguments_pieces light exprs = mark none kind.LeftParen nowhere ∷ exprs_pieces none blank (accounts_of light exprs) ++ mark none kind.RightParen nowhere ∷ []

abbrev pub element_pieces : Option TypeName → List Piece
element_pieces ty = optional_element (option_map element_account (option_map type_tree ty))

-- a name in round brackets
abbrev pub named_pieces : Name → List Piece
named_pieces name = mark none kind.LeftParen nowhere ∷ piece none (name_token (bare_name name)) ∷ mark none kind.RightParen nowhere ∷ []

abbrev pub bound_of : Name → BoundText
bound_of name = record { left = nowhere; variable = bare_name name; arrow = nowhere; right = nowhere }

abbrev pub body_pieces : Bool → Name → Expr → List Piece
body_pieces light name body = bound_pieces (bound_of name) (expr_pieces blank (account_of light body))
