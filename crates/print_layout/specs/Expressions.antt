-- How expressions and types are laid out, with the gap in front of the first token.
use Rattle.std.specs.Prelude.{List, [], ◌∷◌, ◌++◌, Option, Some, None}
use Rattle.slang_lexer.specs.declared.token.TokenKind.TheVariants as kind
use Rattle.slang_tree.specs.declared.expression.Name.{Name}
use Rattle.slang_grammar.specs.Operators.{prefix_kind}
use Rattle.slang_grammar.specs.Parts.{name_token, number_token, NamesText, TypeText, z_type, b_type, unit_type, sequence_type, record_type, TypedText, ElementText}
use Rattle.slang_grammar.specs.Expressions.{quantifier_kind, BoundText, indices_token, ExprText, number, truth, falsity, variable, result, entry_value, old_value, sequence, quantified, quantified_indices, bracketed, application, update, field, prefixed, binary, ExprsText, no_exprs, last_expr, expr_then}
use Rattle.print_layout.specs.Pieces.{Gap, none, blank, Piece, piece, mark, listed_pieces, gap_before}

abbrev pub name_pieces : Gap → Name → List Piece
name_pieces gap written = piece gap (name_token written) ∷ []

-- names in round brackets
abbrev pub names_pieces : Gap → NamesText → List Piece
names_pieces gap n =
    mark gap kind.LeftParen n.left ∷ listed_pieces kind.Comma (λ before name. name_pieces (gap_before none blank before) name) None n.names.front n.names.last
    ++ mark none kind.RightParen n.right ∷ []

abbrev pub type_pieces : Gap → TypeText → List Piece
type_pieces gap (z_type place) = mark gap kind.TypeZ place ∷ []
type_pieces gap (b_type place) = mark gap kind.TypeB place ∷ []
type_pieces gap (unit_type place) = mark gap kind.TypeUnit place ∷ []
type_pieces gap (sequence_type word left element right) =
    mark gap kind.TypeIsz word ∷ mark none kind.LeftBracket left ∷ type_pieces none element ++ mark none kind.RightBracket right ∷ []
type_pieces gap (record_type written) = name_pieces gap written

abbrev pub typed_pieces : TypedText → List Piece
typed_pieces t = mark none kind.Colon t.colon ∷ type_pieces blank t.ty

abbrev pub optional_typed : Option TypedText → List Piece
optional_typed None = []
optional_typed (Some t) = typed_pieces t

abbrev pub optional_element : Option ElementText → List Piece
optional_element None = []
optional_element (Some t) = mark none kind.LeftBracket t.left ∷ type_pieces none t.ty ++ mark none kind.RightBracket t.right ∷ []

-- `(variable => body)`
abbrev pub bound_pieces : BoundText → List Piece → List Piece
bound_pieces b body =
    mark none kind.LeftParen b.left ∷ piece none (name_token b.variable) ∷ mark blank kind.FatArrow b.arrow ∷ body ++ mark none kind.RightParen b.right ∷ []

abbrev mutual
  pub expr_pieces : Gap → ExprText → List Piece
  expr_pieces gap (number digits place) = piece gap (number_token digits place) ∷ []
  expr_pieces gap (truth place) = mark gap kind.True place ∷ []
  expr_pieces gap (falsity place) = mark gap kind.False place ∷ []
  expr_pieces gap (variable n) = name_pieces gap n
  expr_pieces gap (result word ty) = mark gap kind.Res word ∷ optional_element ty
  expr_pieces gap (entry_value word left n right) =
      mark gap kind.In word ∷ mark none kind.LeftParen left ∷ piece none (name_token n) ∷ mark none kind.RightParen right ∷ []
  expr_pieces gap (old_value word left n right) =
      mark gap kind.Old word ∷ mark none kind.LeftParen left ∷ piece none (name_token n) ∷ mark none kind.RightParen right ∷ []
  expr_pieces gap (sequence word ty left elements right) =
      mark gap kind.TypeIsz word ∷ optional_element ty ++ mark none kind.LeftParen left ∷ exprs_pieces none blank elements
      ++ mark none kind.RightParen right ∷ []
  expr_pieces gap (quantified by word left low until high right bound body) =
      mark gap (quantifier_kind by) word ∷ mark none kind.LeftParen left ∷ expr_pieces none low ++ mark blank kind.Until until ∷ expr_pieces blank high
      ++ mark none kind.RightParen right ∷ bound_pieces bound (expr_pieces blank body)
  expr_pieces gap (quantified_indices by word left head dot indices right bound body) =
      mark gap (quantifier_kind by) word ∷ mark none kind.LeftParen left ∷ expr_pieces none head
      ++ mark none kind.Dot dot ∷ piece none (indices_token indices) ∷ mark none kind.RightParen right ∷ bound_pieces bound (expr_pieces blank body)
  expr_pieces gap (bracketed left inner right) = mark gap kind.LeftParen left ∷ expr_pieces none inner ++ mark none kind.RightParen right ∷ []
  expr_pieces gap (application head left arguments right) =
      expr_pieces gap head ++ mark none kind.LeftParen left ∷ exprs_pieces none blank arguments ++ mark none kind.RightParen right ∷ []
  expr_pieces gap (update head left index arrow element right) =
      expr_pieces gap head ++ mark none kind.LeftParen left ∷ expr_pieces none index ++ mark blank kind.TildeArrow arrow ∷ expr_pieces blank element
      ++ mark none kind.RightParen right ∷ []
  expr_pieces gap (field head dot n) = expr_pieces gap head ++ mark none kind.Dot dot ∷ piece none (name_token n) ∷ []
  expr_pieces gap (prefixed by place operand) = mark gap (prefix_kind by) place ∷ expr_pieces none operand
  expr_pieces gap (binary left row place right) = expr_pieces gap left ++ mark blank row.sign place ∷ expr_pieces blank right

  -- with the gap before the first, and that before each that follows
  pub exprs_pieces : Gap → Gap → ExprsText → List Piece
  exprs_pieces first next no_exprs = []
  exprs_pieces first next (last_expr text) = expr_pieces first text
  exprs_pieces first next (expr_then text comma more) = expr_pieces first text ++ mark none kind.Comma comma ∷ exprs_pieces next next more
