-- Expressions of the text.
use Rattle.std.specs.Prelude.{◌≡◌, ℕ, ◌<◌, ◌≤◌, ◌⊎◌, pos, List, [], ◌∷◌, ◌++◌, Option, Some, None, IsTrue, codes}
use Rattle.std.specs.Option.{option_map}
use Rattle.slang_lexer.specs.declared.token.TokenKind.{TokenKind}
use Rattle.slang_lexer.specs.declared.token.TokenKind.TheVariants as kind
use Rattle.slang_lexer.specs.Next.{value_of as number_value}
use Rattle.slang_values.specs.declared.operators.Quantifier.{Quantifier}
use Rattle.slang_values.specs.declared.operators.Quantifier.TheVariants as quantifier
use Rattle.slang_tree.specs.declared.place.Place.{Place}
use Rattle.slang_tree.specs.declared.expression.Name.{Name}
use Rattle.slang_tree.specs.ExprTree as tree
use Rattle.slang_tree.specs.ExprTree.{ExprTree, ExprTrees, place_of}
use Rattle.slang_tokens.specs.Tok.{Tok, sign}
use Rattle.slang_grammar.specs.declared.operator.Side.{Side}
use Rattle.slang_grammar.specs.declared.operator.Side.TheVariants.{Left, Right}
use Rattle.slang_grammar.specs.declared.operator.Prefix.{Prefix}
use Rattle.slang_grammar.specs.declared.operator.Prefix.TheVariants as prefix
use Rattle.slang_grammar.specs.declared.operator.Infix.{Infix}
use Rattle.slang_grammar.specs.Operators.{infix_of, prefix_kind, prefix_level, whole_level}
use Rattle.slang_grammar.specs.Parts.{optional, name_token, IsPlain, is_numeral, number_token, ElementText, element_tokens, IsElement, element_tree, IfWritten}

-- the word of a quantifier, or its sign
pub data QuantifierWord : Type 0 where
  all_word : QuantifierWord
  exists_word : QuantifierWord
  all_sign : QuantifierWord
  exists_sign : QuantifierWord

abbrev pub quantifier_kind : QuantifierWord → TokenKind
quantifier_kind all_word = kind.All
quantifier_kind exists_word = kind.Exists
quantifier_kind all_sign = kind.ForAllSign
quantifier_kind exists_sign = kind.ExistsSign

abbrev pub quantifier_of : QuantifierWord → Quantifier
quantifier_of all_word = quantifier.All
quantifier_of exists_word = quantifier.Exists
quantifier_of all_sign = quantifier.All
quantifier_of exists_sign = quantifier.Exists

-- `(variable => body)` but for the body: the variable of a quantifier
pub record BoundText : Type 0 where
  pub left : Place
  pub variable : Name
  pub arrow : Place
  pub right : Place

mutual
  pub data ExprText : Type 0 where
    number : (digits : List ℕ) → Place → ExprText
    truth : Place → ExprText
    falsity : Place → ExprText
    variable : Name → ExprText
    -- `Res`, or `Res[type]`
    result : (word : Place) → Option ElementText → ExprText
    -- `In(name)`
    entry_value : (word left : Place) → Name → (right : Place) → ExprText
    -- `Old(name)`
    old_value : (word left : Place) → Name → (right : Place) → ExprText
    -- `ISZ(elements)`, or `ISZ[type](elements)`
    sequence : (word : Place) → Option ElementText → (left : Place) → ExprsText → (right : Place) → ExprText
    -- `All(low until high)(variable => body)`
    quantified : QuantifierWord → (word left : Place) → ExprText → (until : Place) → ExprText → (right : Place) → BoundText → ExprText → ExprText
    -- `All(head.indices)(variable => body)`
    quantified_indices : QuantifierWord → (word left : Place) → ExprText → (dot indices right : Place) → BoundText → ExprText → ExprText
    bracketed : (left : Place) → ExprText → (right : Place) → ExprText
    -- `head(arguments)`
    application : ExprText → (left : Place) → ExprsText → (right : Place) → ExprText
    -- `head(index ~> element)`
    update : ExprText → (left : Place) → ExprText → (arrow : Place) → ExprText → (right : Place) → ExprText
    -- `head.name`
    field : ExprText → (dot : Place) → Name → ExprText
    prefixed : Prefix → Place → ExprText → ExprText
    binary : ExprText → Infix → Place → ExprText → ExprText

  -- expressions parted by commas, where one may stand behind the last
  pub data ExprsText : Type 0 where
    no_exprs : ExprsText
    last_expr : ExprText → ExprsText
    expr_then : ExprText → (comma : Place) → ExprsText → ExprsText

-- `(variable => body)`
abbrev pub bound_tokens : BoundText → List Tok → List Tok
bound_tokens b body = sign kind.LeftParen b.left ∷ name_token b.variable ∷ sign kind.FatArrow b.arrow ∷ body ++ sign kind.RightParen b.right ∷ []

abbrev pub indices_token : Place → Tok
indices_token place = record { kind = kind.Name; text = codes "indices"; place = place }

abbrev mutual
  pub expr_tokens : ExprText → List Tok
  expr_tokens (number digits place) = number_token digits place ∷ []
  expr_tokens (truth place) = sign kind.True place ∷ []
  expr_tokens (falsity place) = sign kind.False place ∷ []
  expr_tokens (variable n) = name_token n ∷ []
  expr_tokens (result word ty) = sign kind.Res word ∷ optional element_tokens ty
  expr_tokens (entry_value word left n right) = sign kind.In word ∷ sign kind.LeftParen left ∷ name_token n ∷ sign kind.RightParen right ∷ []
  expr_tokens (old_value word left n right) = sign kind.Old word ∷ sign kind.LeftParen left ∷ name_token n ∷ sign kind.RightParen right ∷ []
  expr_tokens (sequence word ty left elements right) =
      sign kind.TypeIsz word ∷ optional element_tokens ty ++ sign kind.LeftParen left ∷ exprs_tokens elements ++ sign kind.RightParen right ∷ []
  expr_tokens (quantified by word left low until high right bound body) =
      sign (quantifier_kind by) word ∷ sign kind.LeftParen left ∷ expr_tokens low ++ sign kind.Until until ∷ expr_tokens high ++ sign kind.RightParen right
      ∷ bound_tokens bound (expr_tokens body)
  expr_tokens (quantified_indices by word left head dot indices right bound body) =
      sign (quantifier_kind by) word ∷ sign kind.LeftParen left ∷ expr_tokens head ++ sign kind.Dot dot ∷ indices_token indices ∷ sign kind.RightParen right
      ∷ bound_tokens bound (expr_tokens body)
  expr_tokens (bracketed left inner right) = sign kind.LeftParen left ∷ expr_tokens inner ++ sign kind.RightParen right ∷ []
  expr_tokens (application head left arguments right) = expr_tokens head ++ sign kind.LeftParen left ∷ exprs_tokens arguments ++ sign kind.RightParen right ∷ []
  expr_tokens (update head left index arrow element right) =
      expr_tokens head ++ sign kind.LeftParen left ∷ expr_tokens index ++ sign kind.TildeArrow arrow ∷ expr_tokens element ++ sign kind.RightParen right ∷ []
  expr_tokens (field head dot n) = expr_tokens head ++ sign kind.Dot dot ∷ name_token n ∷ []
  expr_tokens (prefixed by place operand) = sign (prefix_kind by) place ∷ expr_tokens operand
  expr_tokens (binary left row place right) = expr_tokens left ++ sign row.sign place ∷ expr_tokens right

  pub exprs_tokens : ExprsText → List Tok
  exprs_tokens no_exprs = []
  exprs_tokens (last_expr e) = expr_tokens e
  exprs_tokens (expr_then e comma more) = expr_tokens e ++ sign kind.Comma comma ∷ exprs_tokens more

-- How tightly an expression holds together: a prefix binds more tightly than each operator between two operands, and what is
-- neither needs no brackets anywhere.
abbrev pub level : ExprText → ℕ
level (prefixed by place operand) = prefix_level
level (binary left row place right) = row.level
level _ = whole_level

-- the side to which a chain of its level joins
abbrev pub joins : ExprText → Option Side
joins (binary left row place right) = Some row.joins
joins _ = None

-- An operand on a side of an operator binds more tightly than it, or is a chain of its level where both join to that side.
-- So where two operators of one level join to two sides, neither can take the other as an operand.
abbrev pub IsOperand : Side → Infix → ExprText → Type 0
IsOperand side row operand = (row.level < level operand) ⊎ ((level operand ≡ row.level) × (row.joins ≡ side) × (joins operand ≡ Some side))

-- Each operator stands in the table, and has the operands that it binds: `a & b & c` is `(a & b) & c`, `a ->: b ->: c` is
-- `a ->: (b ->: c)`, `a | b & c` is `a | (b & c)`, `-a + b` is `(-a) + b`, `-f(x)` is `-(f(x))`, and `a + b ->: c` is nothing.
-- Names are plain, and numbers have at most 127 bits.
abbrev mutual
  pub IsGrouped : ExprText → Type 0
  IsGrouped (number digits place) = IsTrue (is_numeral digits)
  IsGrouped (truth place) = Unit {0}
  IsGrouped (falsity place) = Unit {0}
  IsGrouped (variable n) = IsPlain n
  IsGrouped (result word ty) = IfWritten IsElement ty
  IsGrouped (entry_value word left n right) = IsPlain n
  IsGrouped (old_value word left n right) = IsPlain n
  IsGrouped (sequence word ty left elements right) = IfWritten IsElement ty × AreGrouped elements
  IsGrouped (quantified by word left low until high right bound body) = IsGrouped low × IsGrouped high × IsPlain bound.variable × IsGrouped body
  IsGrouped (quantified_indices by word left head dot indices right bound body) =
      (level head ≡ whole_level) × IsGrouped head × IsPlain bound.variable × IsGrouped body
  IsGrouped (bracketed left inner right) = IsGrouped inner
  IsGrouped (application head left arguments right) = (level head ≡ whole_level) × IsGrouped head × AreGrouped arguments
  IsGrouped (update head left index arrow element right) = (level head ≡ whole_level) × IsGrouped head × IsGrouped index × IsGrouped element
  IsGrouped (field head dot n) = (level head ≡ whole_level) × IsGrouped head × IsPlain n
  IsGrouped (prefixed by place operand) = (prefix_level ≤ level operand) × IsGrouped operand
  IsGrouped (binary left row place right) =
      (infix_of row.sign ≡ Some row) × IsOperand Left row left × IsOperand Right row right × IsGrouped left × IsGrouped right

  pub AreGrouped : ExprsText → Type 0
  AreGrouped no_exprs = Unit {0}
  AreGrouped (last_expr e) = IsGrouped e
  AreGrouped (expr_then e comma more) = IsGrouped e × AreGrouped more

abbrev pub prefix_tree : Prefix → Place → ExprTree → ExprTree
prefix_tree prefix.Not place operand = tree.negation place operand
prefix_tree prefix.Minus place operand = tree.minus place operand

-- The place of an expression of two operands is that of the left one, that of an application, an update or a field that of its
-- head, and that of any other its first token's. Brackets leave nothing in the tree.
abbrev mutual
  pub expr_tree : ExprText → ExprTree
  expr_tree (number digits place) = tree.number place (pos (number_value digits))
  expr_tree (truth place) = tree.truth place
  expr_tree (falsity place) = tree.falsity place
  expr_tree (variable n) = tree.name n.text n.place
  expr_tree (result word ty) = tree.result word (option_map element_tree ty)
  expr_tree (entry_value word left n right) = tree.entry_value word n
  expr_tree (old_value word left n right) = tree.old_value word n
  expr_tree (sequence word ty left elements right) = tree.sequence word (option_map element_tree ty) (exprs_tree elements)
  expr_tree (quantified by word left low until high right bound body) =
      tree.quantified word (quantifier_of by) (expr_tree low) (expr_tree high) bound.variable (expr_tree body)
  expr_tree (quantified_indices by word left head dot indices right bound body) =
      tree.quantified_indices word (quantifier_of by) (expr_tree head) bound.variable (expr_tree body)
  expr_tree (bracketed left inner right) = expr_tree inner
  expr_tree (application head left arguments right) = tree.application (place_of (expr_tree head)) (expr_tree head) (exprs_tree arguments)
  expr_tree (update head left index arrow element right) = tree.update (place_of (expr_tree head)) (expr_tree head) (expr_tree index) (expr_tree element)
  expr_tree (field head dot n) = tree.field (place_of (expr_tree head)) (expr_tree head) n
  expr_tree (prefixed by place operand) = prefix_tree by place (expr_tree operand)
  expr_tree (binary left row place right) = tree.binary (place_of (expr_tree left)) row.operator (expr_tree left) (expr_tree right)

  pub exprs_tree : ExprsText → ExprTrees
  exprs_tree no_exprs = tree.no_exprs
  exprs_tree (last_expr e) = tree.expr_then (expr_tree e) tree.no_exprs
  exprs_tree (expr_then e comma more) = tree.expr_then (expr_tree e) (exprs_tree more)

-- expressions in round brackets, parted by commas, one at least
pub record ClaimsText : Type 0 where
  pub left : Place
  pub claims : ExprsText
  pub right : Place

abbrev pub claims_tokens : ClaimsText → List Tok
claims_tokens c = sign kind.LeftParen c.left ∷ exprs_tokens c.claims ++ sign kind.RightParen c.right ∷ []

abbrev pub HasExpr : ExprsText → Type 0
HasExpr no_exprs = ⊥
HasExpr (last_expr e) = Unit {0}
HasExpr (expr_then e comma more) = Unit {0}

abbrev pub AreClaims : ClaimsText → Type 0
AreClaims c = HasExpr c.claims × AreGrouped c.claims

-- the trees of the expressions of a list
abbrev pub expr_trees : ExprsText → List ExprTree
expr_trees no_exprs = []
expr_trees (last_expr e) = expr_tree e ∷ []
expr_trees (expr_then e comma more) = expr_tree e ∷ expr_trees more
