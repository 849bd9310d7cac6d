-- The bytes that are printed of declarations.
use Rattle.std.specs.Prelude.{Bool, true, false, List, [], ◌∷◌, ◌++◌, map}
use Rattle.slang_lexer.specs.declared.token.TokenKind.TheVariants as kind
use Rattle.slang_tree.specs.declared.expression.Name.{Name}
use Rattle.slang_tree.specs.declared.expression.Expr.{Expr}
use Rattle.slang_tree.specs.TypeTree.{TypeTree}
use Rattle.slang_tree.specs.ExprTree.{expr_tree}
use Rattle.slang_tree.specs.DeclTree.{TypedName}
use Rattle.slang_grammar.specs.Declarations.{ClauseText, PartText}
use Rattle.print_expressions.specs.Bare.{nowhere, bare_name}
use Rattle.print_statements.specs.Accounts.{typed_account}
use Rattle.print_declarations.specs.Accounts.{param_account, path_account, requires_clauses, modifies_clauses, ensures_clauses}
use Rattle.print_layout.specs.Pieces.{Gap, none, blank, line, Piece, mark}
use Rattle.print_layout.specs.Expressions.{name_pieces, typed_pieces}
use Rattle.print_layout.specs.Declarations.{param_pieces, clause_pieces, part_pieces, path_pieces}

abbrev pub named_pieces : Gap → Name → TypeTree → List Piece
named_pieces gap written ty = name_pieces gap (bare_name written) ++ typed_pieces (typed_account ty)

-- each behind a comma, and parted by commas
abbrev pub params_behind : List TypedName → List Piece
params_behind [] = []
params_behind (param ∷ params) = (mark none kind.Comma nowhere ∷ param_pieces blank (param_account param)) ++ params_behind params

abbrev pub params_listed : List TypedName → List Piece
params_listed [] = []
params_listed (param ∷ params) = param_pieces none (param_account param) ++ params_behind params

abbrev pub comma_unless : Bool → List Piece
comma_unless true = []
comma_unless false = mark none kind.Comma nowhere ∷ []

-- clauses on lines of their own, each behind a comma, but for the first where none stands before them
abbrev pub clauses_joined : Bool → List ClauseText → List Piece
clauses_joined first [] = []
clauses_joined first (clause ∷ clauses) = (comma_unless first ++ clause_pieces (line 2) clause) ++ clauses_joined false clauses

module _ (light : Bool) where
  -- the clauses of what is required, modified and ensured
  abbrev pub clauses_written : List Expr → List Name → List Expr → List ClauseText
  clauses_written requires_ modifies ensures_ = requires_clauses light (map expr_tree requires_) ++ modifies_clauses modifies ++ ensures_clauses light
      (map expr_tree ensures_)

-- each at the beginning of a line: a newline that is a token and one that is none are one byte
abbrev pub part_lines : List PartText → List Piece
part_lines [] = []
part_lines (part ∷ parts) = part_pieces (line 1) part ++ part_lines parts

-- each behind a dot
abbrev pub path_behind : List Name → List Piece
path_behind names = path_pieces (map path_account names)
