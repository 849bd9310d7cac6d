-- The tokens of declarations and files that are laid out.
use Rattle.std.proofs.Common.{List, [], ◌∷◌, Option, Some, None}
use Rattle.slang_lexer.specs.declared.token.TokenKind.TheVariants as kind
use Rattle.slang_tree.specs.declared.place.Place.{Place}
use Rattle.slang_grammar.specs.Parts.{name_token, number_token}
use Rattle.slang_grammar.specs.Expressions.{ClaimsText, claims_tokens}
use Rattle.slang_grammar.specs.Statements.{value_word}
use Rattle.slang_grammar.specs.Declarations.{ConstText, const_number, const_minus, const_truth, const_falsity, const_sequence, const_record, ConstsText, no_consts, last_const, const_then, const_tokens, consts_tokens, ParamText, param_tokens, FieldText, field_tokens, ClauseText, requires_clause, modifies_clause, ensures_clause, clause_tokens, ContractText, contract_tokens, PartText, contract_part, stmt_part, return_part, part_tokens, PathText, path_tokens, MethodText, method_tokens, DeclText, import_text, global_text, record_text, method_text, datatype_token, decl_tokens}
use Rattle.print_layout.specs.Pieces.{Gap, none, blank, indent, line, gap_before}
use Rattle.print_layout.specs.Declarations.{const_pieces, consts_pieces, param_pieces, field_pieces, claims_pieces, clause_pieces, contract_pieces, part_pieces, method_pieces, path_pieces, decl_pieces, gap_between}
use Rattle.print_layout.specs.Laws.{LayoutHasTheTokens}
use Rattle.print_layout.proofs.Spells.{Spells, joined, over, begins, signed, listed-spells}
use Rattle.print_layout.proofs.Expressions.{names-spell, typed-spells, optional_typed-spells, optional_element-spells, expr-spells, exprs-spell}
use Rattle.print_layout.proofs.Statements.{stmt-spells}

mutual
  const-spells : (gap : Gap) (text : ConstText) → Spells (const_pieces gap text) (const_tokens text)
  const-spells gap (const_number digits place) = begins gap (number_token digits place) over
  const-spells gap (const_minus minus digits place) = signed gap kind.Minus minus (begins none (number_token digits place) over)
  const-spells gap (const_truth place) = signed gap kind.True place over
  const-spells gap (const_falsity place) = signed gap kind.False place over
  const-spells gap (const_sequence word ty left elements right) =
      joined (joined (signed gap kind.TypeIsz word (optional_element-spells ty)) (signed none kind.LeftParen left (consts-spell none elements)))
      (signed none kind.RightParen right over)
  const-spells gap (const_record n left fields right) =
      joined (begins gap (name_token n) (signed none kind.LeftParen left (consts-spell none fields))) (signed none kind.RightParen right over)

  consts-spell : (gap : Gap) (texts : ConstsText) → Spells (consts_pieces gap texts) (consts_tokens texts)
  consts-spell gap no_consts = over
  consts-spell gap (last_const text) = const-spells gap text
  consts-spell gap (const_then text comma more) = joined (const-spells gap text) (signed none kind.Comma comma (consts-spell blank more))

param-spells : (gap : Gap) (p : ParamText) → Spells (param_pieces gap p) (param_tokens p)
param-spells gap p = begins gap (name_token p.written) (typed-spells p.ty)

field-spells : (gap : Gap) (f : FieldText) → Spells (field_pieces gap f) (field_tokens f)
field-spells gap f = at f.fixed
  where
    at : (fixed : Option Place) → Spells (field_pieces gap (record { fixed = fixed; param = f.param })) (field_tokens (record { fixed = fixed; param = f.param }))
    at None = param-spells gap f.param
    at (Some place) = signed gap kind.Val place (param-spells blank f.param)

claims-spell : (c : ClaimsText) → Spells (claims_pieces c) (claims_tokens c)
claims-spell c = joined (signed none kind.LeftParen c.left (exprs-spell none blank c.claims)) (signed none kind.RightParen c.right over)

clause-spells : (gap : Gap) (clause : ClauseText) → Spells (clause_pieces gap clause) (clause_tokens clause)
clause-spells gap (requires_clause word claims) = signed gap kind.Requires word (claims-spell claims)
clause-spells gap (modifies_clause word names) = signed gap kind.Modifies word (names-spell none names)
clause-spells gap (ensures_clause word claims) = signed gap kind.Ensures word (claims-spell claims)

contract-spells : (gap : Gap) (c : ContractText) → Spells (contract_pieces gap c) (contract_tokens c)
contract-spells gap c =
    joined
    (signed gap kind.Contract c.word (signed none kind.LeftParen c.left
    (listed-spells kind.Comma (λ before clause. clause_pieces (line 2) clause) clause_tokens (λ before clause. clause-spells (line 2) clause) None c.clauses.front c.clauses.last)))
    (signed (line 1) kind.RightParen c.right over)

part-spells : (gap : Gap) (part : PartText) → Spells (part_pieces gap part) (part_tokens part)
part-spells gap (contract_part contract) = contract-spells gap contract
part-spells gap (stmt_part stmt) = stmt-spells 1 gap stmt
part-spells gap (return_part word e) = signed gap kind.Return word (expr-spells blank e)

method-spells : (gap : Gap) (m : MethodText) → Spells (method_pieces gap m) (method_tokens m)
method-spells gap m =
    joined
    (joined
    (joined
    (signed gap kind.Def m.word (begins blank (name_token m.written) (signed none kind.LeftParen m.left
    (listed-spells kind.Comma (λ before param. param_pieces (gap_before none blank before) param) param_tokens
    (λ before param. param-spells (gap_before none blank before) param) None m.params.front m.params.last))))
    (signed none kind.RightParen m.right (typed-spells m.result)))
    (signed blank kind.Equals m.equals (signed blank kind.LeftBrace m.begin
    (listed-spells kind.Newline (λ before part. part_pieces (gap_before (line 1) (indent 1) before) part) part_tokens
    (λ before part. part-spells (gap_before (line 1) (indent 1) before) part) None m.body.front m.body.last))))
    (signed (line 0) kind.RightBrace m.end over)

path-spells : (path : List PathText) → Spells (path_pieces path) (path_tokens path)
path-spells [] = over
path-spells (part ∷ more) = signed none kind.Dot part.dot (begins none (name_token part.written) (path-spells more))

decl-spells : (gap : Gap) (text : DeclText) → Spells (decl_pieces gap text) (decl_tokens text)
decl-spells gap (import_text word first path) = signed gap kind.Import word (begins blank (name_token first) (path-spells path))
decl-spells gap (global_text fixed word n ty equals init) =
    joined (signed gap (value_word fixed) word (begins blank (name_token n) (optional_typed-spells ty))) (signed blank kind.Equals equals (const-spells blank init))
decl-spells gap (record_text at datatype word n left fields right) =
    joined
    (signed gap kind.At at (begins none (datatype_token datatype) (signed blank kind.Class word (begins blank (name_token n) (signed none kind.LeftParen left
    (listed-spells kind.Comma (λ before f. field_pieces (gap_before none blank before) f) field_tokens (λ before f. field-spells (gap_before none blank before) f) None
    fields.front fields.last))))))
    (signed none kind.RightParen right over)
decl-spells gap (method_text m) = method-spells gap m

pub layout_has_the_tokens : LayoutHasTheTokens
layout_has_the_tokens file =
    (listed-spells kind.Newline (λ before decl. decl_pieces (gap_between before decl) decl) decl_tokens (λ before decl. decl-spells (gap_between before decl) decl) None
    file.front file.last).is
