-- The tokens of expressions that are laid out.
use Rattle.std.proofs.Common.{List, Option, Some, None}
use Rattle.slang_lexer.specs.declared.token.TokenKind.TheVariants as kind
use Rattle.slang_tree.specs.declared.expression.Name.{Name}
use Rattle.slang_tokens.specs.Tok.{Tok}
use Rattle.slang_grammar.specs.Operators.{prefix_kind}
use Rattle.slang_grammar.specs.Parts.{optional, name_token, number_token, NamesText, one_name, names_tokens, TypeText, z_type, b_type, unit_type, sequence_type, record_type, type_tokens, TypedText, typed_tokens, ElementText, element_tokens}
use Rattle.slang_grammar.specs.Expressions.{quantifier_kind, BoundText, bound_tokens, indices_token, ExprText, number, truth, falsity, variable, result, entry_value, old_value, sequence, quantified, quantified_indices, bracketed, application, update, field, prefixed, binary, ExprsText, no_exprs, last_expr, expr_then, expr_tokens, exprs_tokens}
use Rattle.print_layout.specs.Pieces.{Gap, none, blank, Piece, gap_before}
use Rattle.print_layout.specs.Expressions.{name_pieces, names_pieces, type_pieces, typed_pieces, optional_typed, optional_element, bound_pieces, expr_pieces, exprs_pieces}
use Rattle.print_layout.proofs.Spells.{Spells, joined, over, begins, signed, listed-spells}

pub name-spells : (gap : Gap) (written : Name) → Spells (name_pieces gap written) (one_name written)
name-spells gap written = begins gap (name_token written) over

pub names-spell : (gap : Gap) (n : NamesText) → Spells (names_pieces gap n) (names_tokens n)
names-spell gap n =
    joined
    (signed gap kind.LeftParen n.left
    (listed-spells kind.Comma (λ before name. name_pieces (gap_before none blank before) name) one_name (λ before name. name-spells (gap_before none blank before) name) None
    n.names.front n.names.last))
    (signed none kind.RightParen n.right over)

type-spells : (gap : Gap) (text : TypeText) → Spells (type_pieces gap text) (type_tokens text)
type-spells gap (z_type place) = signed gap kind.TypeZ place over
type-spells gap (b_type place) = signed gap kind.TypeB place over
type-spells gap (unit_type place) = signed gap kind.TypeUnit place over
type-spells gap (sequence_type word left element right) =
    joined (signed gap kind.TypeIsz word (signed none kind.LeftBracket left (type-spells none element))) (signed none kind.RightBracket right over)
type-spells gap (record_type written) = name-spells gap written

pub typed-spells : (t : TypedText) → Spells (typed_pieces t) (typed_tokens t)
typed-spells t = signed none kind.Colon t.colon (type-spells blank t.ty)

pub optional_typed-spells : (t : Option TypedText) → Spells (optional_typed t) (optional typed_tokens t)
optional_typed-spells None = over
optional_typed-spells (Some t) = typed-spells t

pub optional_element-spells : (t : Option ElementText) → Spells (optional_element t) (optional element_tokens t)
optional_element-spells None = over
optional_element-spells (Some t) = joined (signed none kind.LeftBracket t.left (type-spells none t.ty)) (signed none kind.RightBracket t.right over)

bound-spells : (b : BoundText) {pieces : List Piece} {tokens : List Tok} → Spells pieces tokens → Spells (bound_pieces b pieces) (bound_tokens b tokens)
bound-spells b h =
    joined (signed none kind.LeftParen b.left (begins none (name_token b.variable) (signed blank kind.FatArrow b.arrow h))) (signed none kind.RightParen b.right over)

mutual
  pub expr-spells : (gap : Gap) (text : ExprText) → Spells (expr_pieces gap text) (expr_tokens text)
  expr-spells gap (number digits place) = begins gap (number_token digits place) over
  expr-spells gap (truth place) = signed gap kind.True place over
  expr-spells gap (falsity place) = signed gap kind.False place over
  expr-spells gap (variable n) = name-spells gap n
  expr-spells gap (result word ty) = signed gap kind.Res word (optional_element-spells ty)
  expr-spells gap (entry_value word left n right) =
      signed gap kind.In word (signed none kind.LeftParen left (begins none (name_token n) (signed none kind.RightParen right over)))
  expr-spells gap (old_value word left n right) =
      signed gap kind.Old word (signed none kind.LeftParen left (begins none (name_token n) (signed none kind.RightParen right over)))
  expr-spells gap (sequence word ty left elements right) =
      joined (joined (signed gap kind.TypeIsz word (optional_element-spells ty)) (signed none kind.LeftParen left (exprs-spell none blank elements)))
      (signed none kind.RightParen right over)
  expr-spells gap (quantified by word left low until high right bound body) =
      joined
      (joined (signed gap (quantifier_kind by) word (signed none kind.LeftParen left (expr-spells none low)))
      (signed blank kind.Until until (expr-spells blank high)))
      (signed none kind.RightParen right (bound-spells bound (expr-spells blank body)))
  expr-spells gap (quantified_indices by word left head dot indices right bound body) =
      joined (signed gap (quantifier_kind by) word (signed none kind.LeftParen left (expr-spells none head)))
      (signed none kind.Dot dot (begins none (indices_token indices) (signed none kind.RightParen right (bound-spells bound (expr-spells blank body)))))
  expr-spells gap (bracketed left inner right) = joined (signed gap kind.LeftParen left (expr-spells none inner)) (signed none kind.RightParen right over)
  expr-spells gap (application head left arguments right) =
      joined (joined (expr-spells gap head) (signed none kind.LeftParen left (exprs-spell none blank arguments))) (signed none kind.RightParen right over)
  expr-spells gap (update head left index arrow element right) =
      joined
      (joined (joined (expr-spells gap head) (signed none kind.LeftParen left (expr-spells none index))) (signed blank kind.TildeArrow arrow (expr-spells blank element)))
      (signed none kind.RightParen right over)
  expr-spells gap (field head dot n) = joined (expr-spells gap head) (signed none kind.Dot dot (begins none (name_token n) over))
  expr-spells gap (prefixed by place operand) = signed gap (prefix_kind by) place (expr-spells none operand)
  expr-spells gap (binary left row place right) = joined (expr-spells gap left) (signed blank row.sign place (expr-spells blank right))

  pub exprs-spell : (first next : Gap) (texts : ExprsText) → Spells (exprs_pieces first next texts) (exprs_tokens texts)
  exprs-spell first next no_exprs = over
  exprs-spell first next (last_expr text) = expr-spells first text
  exprs-spell first next (expr_then text comma more) = joined (expr-spells first text) (signed none kind.Comma comma (exprs-spell next next more))
