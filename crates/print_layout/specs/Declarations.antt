-- How declarations are laid out.
use Rattle.std.specs.Prelude.{Bool, ℕ, List, [], ◌∷◌, ◌++◌, Option, Some, None}
use Rattle.slang_lexer.specs.declared.token.TokenKind.TheVariants as kind
use Rattle.slang_tree.specs.DeclTree.{DeclTree}
use Rattle.slang_tree.specs.declared.place.Place.{Place}
use Rattle.slang_grammar.specs.Parts.{name_token, number_token}
use Rattle.slang_grammar.specs.Expressions.{ClaimsText}
use Rattle.slang_grammar.specs.Statements.{value_word}
use Rattle.slang_grammar.specs.Declarations.{ConstText, const_number, const_minus, const_truth, const_falsity, const_sequence, const_record, ConstsText, no_consts, last_const, const_then, ParamText, FieldText, ClauseText, requires_clause, modifies_clause, ensures_clause, ContractText, PartText, contract_part, stmt_part, return_part, PathText, MethodText, DeclText, import_text, global_text, record_text, method_text, datatype_token}
use Rattle.slang_grammar.specs.Texts.{FileText}
use Rattle.print_declarations.specs.Accounts.{file_account}
use Rattle.print_layout.specs.Pieces.{Gap, none, blank, indent, line, Piece, piece, mark, listed_pieces, gap_before, bytes_of}
use Rattle.print_layout.specs.Expressions.{names_pieces, typed_pieces, optional_typed, optional_element, expr_pieces, exprs_pieces}
use Rattle.print_layout.specs.Statements.{stmt_pieces}

-- ---- constants

abbrev mutual
  pub const_pieces : Gap → ConstText → List Piece
  const_pieces gap (const_number digits place) = piece gap (number_token digits place) ∷ []
  const_pieces gap (const_minus minus digits place) = mark gap kind.Minus minus ∷ piece none (number_token digits place) ∷ []
  const_pieces gap (const_truth place) = mark gap kind.True place ∷ []
  const_pieces gap (const_falsity place) = mark gap kind.False place ∷ []
  const_pieces gap (const_sequence word ty left elements right) =
      mark gap kind.TypeIsz word ∷ optional_element ty ++ mark none kind.LeftParen left ∷ consts_pieces none elements ++ mark none kind.RightParen right ∷ []
  const_pieces gap (const_record n left fields right) =
      piece gap (name_token n) ∷ mark none kind.LeftParen left ∷ consts_pieces none fields ++ mark none kind.RightParen right ∷ []

  pub consts_pieces : Gap → ConstsText → List Piece
  consts_pieces gap no_consts = []
  consts_pieces gap (last_const text) = const_pieces gap text
  consts_pieces gap (const_then text comma more) = const_pieces gap text ++ mark none kind.Comma comma ∷ consts_pieces blank more

-- ---- methods

abbrev pub param_pieces : Gap → ParamText → List Piece
param_pieces gap p = piece gap (name_token p.written) ∷ typed_pieces p.ty

abbrev pub field_pieces : Gap → FieldText → List Piece
field_pieces gap f = at f.fixed
  where
    at : Option Place → List Piece
    at None = param_pieces gap f.param
    at (Some place) = mark gap kind.Val place ∷ param_pieces blank f.param

abbrev pub claims_pieces : ClaimsText → List Piece
claims_pieces c = mark none kind.LeftParen c.left ∷ exprs_pieces none blank c.claims ++ mark none kind.RightParen c.right ∷ []

abbrev pub clause_pieces : Gap → ClauseText → List Piece
clause_pieces gap (requires_clause word claims) = mark gap kind.Requires word ∷ claims_pieces claims
clause_pieces gap (modifies_clause word names) = mark gap kind.Modifies word ∷ names_pieces none names
clause_pieces gap (ensures_clause word claims) = mark gap kind.Ensures word ∷ claims_pieces claims

-- each clause stands on a line of its own
abbrev pub contract_pieces : Gap → ContractText → List Piece
contract_pieces gap c =
    mark gap kind.Contract c.word ∷ mark none kind.LeftParen c.left ∷ listed_pieces kind.Comma (λ before clause. clause_pieces (line 2) clause) None
    c.clauses.front c.clauses.last ++ mark (line 1) kind.RightParen c.right ∷ []

abbrev pub part_pieces : Gap → PartText → List Piece
part_pieces gap (contract_part contract) = contract_pieces gap contract
part_pieces gap (stmt_part stmt) = stmt_pieces 1 gap stmt
part_pieces gap (return_part word e) = mark gap kind.Return word ∷ expr_pieces blank e

abbrev pub method_pieces : Gap → MethodText → List Piece
method_pieces gap m =
    mark gap kind.Def m.word ∷ piece blank (name_token m.written) ∷ mark none kind.LeftParen m.left
    ∷ listed_pieces kind.Comma (λ before param. param_pieces (gap_before none blank before) param) None m.params.front m.params.last
    ++ mark none kind.RightParen m.right ∷ typed_pieces m.result ++ mark blank kind.Equals m.equals ∷ mark blank kind.LeftBrace m.begin
    ∷ listed_pieces kind.Newline (λ before part. part_pieces (gap_before (line 1) (indent 1) before) part) None m.body.front m.body.last
    ++ mark (line 0) kind.RightBrace m.end ∷ []

-- ---- declarations and files

abbrev pub path_pieces : List PathText → List Piece
path_pieces [] = []
path_pieces (part ∷ more) = mark none kind.Dot part.dot ∷ piece none (name_token part.written) ∷ path_pieces more

abbrev pub decl_pieces : Gap → DeclText → List Piece
decl_pieces gap (import_text word first path) = mark gap kind.Import word ∷ piece blank (name_token first) ∷ path_pieces path
decl_pieces gap (global_text fixed word n ty equals init) =
    mark gap (value_word fixed) word ∷ piece blank (name_token n) ∷ optional_typed ty ++ mark blank kind.Equals equals ∷ const_pieces blank init
decl_pieces gap (record_text at datatype word n left fields right) =
    mark gap kind.At at ∷ piece none (datatype_token datatype) ∷ mark blank kind.Class word ∷ piece blank (name_token n) ∷ mark none kind.LeftParen left
    ∷ listed_pieces kind.Comma (λ before f. field_pieces (gap_before none blank before) f) None fields.front fields.last ++ mark none kind.RightParen right ∷ []
decl_pieces gap (method_text m) = method_pieces gap m

-- an empty line stands between two declarations, but not between two imports or two globals
abbrev pub gap_between : Option DeclText → DeclText → Gap
gap_between None decl = none
gap_between (Some (import_text w f p)) (import_text word first path) = indent 0
gap_between (Some (global_text x w m t q i)) (global_text fixed word n ty equals init) = indent 0
gap_between (Some before) decl = line 0

abbrev pub file_pieces : FileText → List Piece
file_pieces file = listed_pieces kind.Newline (λ before decl. decl_pieces (gap_between before decl) decl) None file.front file.last

-- the bytes that are printed of a file, lightly or plainly
abbrev pub file_bytes : Bool → List DeclTree → List ℕ
file_bytes light decls = bytes_of (file_pieces (file_account light decls))
