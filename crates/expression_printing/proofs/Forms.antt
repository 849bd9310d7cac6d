-- The forms of expressions, from the parts that were added one after the other.
use Rattle.std.proofs.Common.{◌≡◌, ℕ, ℤ, ◌+◌, ◌<◌, Bool, false, ◌||◌, Option, Some, List, [], ◌∷◌, ◌++◌, codes, take, length, get_or, append_assoc, append-nil, refl, sym, ap, ◌∙◌, subst}
use Rattle.std.specs.Option.{option_map}
use Rattle.std.proofs.lemmas.Bool.{cond-false}
use Rattle.std.proofs.lemmas.List.{take_more}
use Rattle.slang_lexer.specs.declared.token.TokenKind.TheVariants as kind
use Rattle.slang_lexer.specs.Spelling.{signs, words}
use Rattle.slang_tree.specs.declared.place.Place.{Place}
use Rattle.slang_tree.specs.declared.expression.Operator.{Operator}
use Rattle.slang_tree.specs.declared.expression.Operator.TheVariants as op
use Rattle.slang_tree.specs.declared.expression.TypeName.{TypeName}
use Rattle.slang_tree.specs.declared.expression.Expr.{Expr}
use Rattle.slang_tree.specs.TypeTree.{type_tree}
use Rattle.slang_tree.specs.ExprTree.{number}
use Rattle.slang_tokens.specs.Tok.{same_kind}
use Rattle.slang_grammar.specs.Operators.{operators}
use Rattle.slang_grammar.specs.Expressions.{sequence, indices_token}
use Rattle.print_expressions.specs.Bare.{nowhere}
use Rattle.print_expressions.specs.Operators.{row_of}
use Rattle.print_expressions.specs.Hefts.{around, peak_of}
use Rattle.print_expressions.specs.Accounts.{type_account, element_account, as_prefixed, head_before, application_account, expr_account}
use Rattle.print_layout.specs.Pieces.{Gap, none, blank, Piece, piece, mark, gap_bytes, spelled_in, bytes_of}
use Rattle.print_layout.specs.Expressions.{type_pieces, expr_pieces, exprs_pieces}
use Rattle.expression_standing.specs.Account.{account_of, accounts_of}
use Rattle.expression_printing.specs.Printed.{Adds, placed_pieces, behind_pieces, element_pieces, arguments_pieces}
use Rattle.expression_printing.proofs.Adds.{adds_then, adds_token, adds_text, adds_word}

pub adds_same : {a b : List ℕ} (xs ys : List Piece) → xs ≡ ys → Adds a b xs → Adds a b ys
adds_same {a} {b} xs ys e h = subst (λ l. Adds a b l) e h

-- the type of the elements
pub element_added : {a b c d : List ℕ} (own : Option TypeName) (ty : TypeName) → own ≡ Some ty → b ≡ a ++ codes "[" →
    c ≡ b ++ bytes_of (type_pieces none (type_account (type_tree ty))) → d ≡ c ++ codes "]" → Adds a d (element_pieces own)
unfolding signs words
element_added {a} {b} {c} {d} own ty is left middle right =
    subst (λ o. Adds a d (element_pieces o)) (sym is)
    (adds_then (adds_then (adds_text kind.LeftBracket nowhere (codes "[") refl left) (record { is = middle })) (adds_text kind.RightBracket nowhere (codes "]") refl right))

-- a number, as the code holds it
pub number_added : {a b : List ℕ} (gap : Gap) (light : Bool) (held z : ℤ) (place : Place) → held ≡ z
    → Adds a b (expr_pieces gap (expr_account light (number place held))) → Adds a b (expr_pieces gap (expr_account light (number place z)))
number_added {a} {b} gap light held z place is h = subst (λ n. Adds a b (expr_pieces gap (expr_account light (number place n)))) is h

-- ---- operators

plain_sign : (operator : Operator) → (same_kind (row_of operator).sign kind.Name || same_kind (row_of operator).sign kind.Number) ≡ false
unfolding row_of operators
plain_sign op.LooseImply = refl
plain_sign op.LooseCondImply = refl
plain_sign op.Or = refl
plain_sign op.CondOr = refl
plain_sign op.And = refl
plain_sign op.CondAnd = refl
plain_sign op.Eq = refl
plain_sign op.Ne = refl
plain_sign op.Lt = refl
plain_sign op.Le = refl
plain_sign op.Gt = refl
plain_sign op.Ge = refl
plain_sign op.Append = refl
plain_sign op.Imply = refl
plain_sign op.CondImply = refl
plain_sign op.Add = refl
plain_sign op.Sub = refl
plain_sign op.Mul = refl
plain_sign op.Div = refl
plain_sign op.Rem = refl

pub operator_added : {a b : List ℕ} (operator : Operator) (word : List ℕ) → word ≡ spelled_in (signs ++ words) (row_of operator).sign →
    b ≡ a ++ gap_bytes blank ++ word → Adds a b (mark blank (row_of operator).sign nowhere ∷ [])
operator_added operator word spelled h =
    adds_word blank (row_of operator).sign nowhere word
    (cond-false _ [] (spelled_in (signs ++ words) (row_of operator).sign) (plain_sign operator) ∙ sym spelled) h

pub indices_added : {a b : List ℕ} → b ≡ a ++ codes "indices" → Adds a b (piece none (indices_token nowhere) ∷ [])
indices_added {a} h = adds_token none (indices_token nowhere) (codes "indices") refl (h ∙ ap (λ l. l ++ codes "indices") (sym (append-nil a)))

module _ (light : Bool) where
  -- ---- brackets

  -- in brackets where it does not stand without them, as the code tells
  pub placed_added : {a b : List ℕ} (gap : Gap) (stands own : Bool) (expr : Expr) → stands ≡ own → Adds a b (placed_pieces gap stands light expr)
      → Adds a b (placed_pieces gap own light expr)
  placed_added {a} {b} gap stands own expr e h = subst (λ s. Adds a b (placed_pieces gap s light expr)) e h

  pub bracketed_added : {a b c d : List ℕ} (gap : Gap) (stands : Bool) (expr : Expr) → stands ≡ false → b ≡ a ++ gap_bytes gap ++ codes "(" →
      Adds b c (expr_pieces none (account_of light expr)) → d ≡ c ++ codes ")" → Adds a d (placed_pieces gap stands light expr)
  unfolding signs words
  bracketed_added {a} {b} {c} {d} gap stands expr is left inner right =
      subst (λ s. Adds a d (placed_pieces gap s light expr)) (sym is)
      (adds_then (adds_then (adds_word gap kind.LeftParen nowhere (codes "(") refl left) inner) (adds_text kind.RightParen nowhere (codes ")") refl right))

  -- ---- lists

  pub exprs_behind : (first next : Gap) (expr : Expr) (exprs : List Expr) →
      exprs_pieces first next (accounts_of light (expr ∷ exprs)) ≡ expr_pieces first (account_of light expr) ++ behind_pieces next light exprs
  exprs_behind first next expr [] = sym (append-nil (expr_pieces first (account_of light expr)))
  exprs_behind first next expr (other ∷ exprs) =
      ap (λ l. expr_pieces first (account_of light expr) ++ (mark none kind.Comma nowhere ∷ l)) (exprs_behind next next other exprs)

  pub exprs_added : {a b c : List ℕ} (first next : Gap) (own : List Expr) (expr : Expr) (exprs : List Expr) → own ≡ expr ∷ exprs →
      Adds a b (expr_pieces first (account_of light expr)) → Adds b c (behind_pieces next light exprs) → Adds a c (exprs_pieces first next (accounts_of light own))
  exprs_added {a} {b} {c} first next own expr exprs is h k =
      subst (λ o. Adds a c (exprs_pieces first next (accounts_of light o))) (sym is)
      (adds_same _ _ (sym (exprs_behind first next expr exprs)) (adds_then h k))

  behind-append : (gap : Gap) (xs ys : List Expr) → behind_pieces gap light (xs ++ ys) ≡ behind_pieces gap light xs ++ behind_pieces gap light ys
  behind-append gap [] ys = refl
  behind-append gap (x ∷ xs) ys =
      ap (λ l. (mark none kind.Comma nowhere ∷ expr_pieces gap (account_of light x)) ++ l) (behind-append gap xs ys)
      ∙ sym (append_assoc (mark none kind.Comma nowhere ∷ expr_pieces gap (account_of light x)) (behind_pieces gap light xs) (behind_pieces gap light ys))

  -- one expression more behind a comma
  pub one_behind : {a b c d : List ℕ} (gap : Gap) (exprs : List Expr) (at : ℕ) (expr : Expr) → at < length exprs → expr ≡ get_or exprs at expr →
      Adds a b (behind_pieces gap light (take at exprs)) → c ≡ b ++ codes "," → Adds c d (expr_pieces gap (account_of light expr)) →
      Adds a d (behind_pieces gap light (take (at + 1) exprs))
  unfolding signs words
  one_behind {a} {b} {c} {d} gap exprs at expr within is before comma added =
      adds_same _ _
      (ap (λ l. behind_pieces gap light (take at exprs) ++ l) (sym (append-nil (mark none kind.Comma nowhere ∷ expr_pieces gap (account_of light expr))))
      ∙ sym (behind-append gap (take at exprs) (expr ∷ []))
      ∙ ap (behind_pieces gap light) (ap (λ x. take at exprs ++ x ∷ []) is ∙ sym (take_more exprs at expr within)))
      (adds_then before (adds_then (adds_text kind.Comma nowhere (codes ",") refl comma) added))

  -- a head with its arguments
  pub application_added : {a b c : List ℕ} (gap : Gap) (head : Expr) (arguments : List Expr)
      → Adds a b (expr_pieces gap (head_before light (account_of light head) (around (peak_of (accounts_of light arguments)))))
      → Adds b c (arguments_pieces light arguments)
      → Adds a c (expr_pieces gap (application_account light (account_of light head) (accounts_of light arguments)))
  application_added gap head arguments h k =
      adds_same _ _
      (sym (append_assoc (expr_pieces gap (head_before light (account_of light head) (around (peak_of (accounts_of light arguments)))))
      (mark none kind.LeftParen nowhere ∷ exprs_pieces none blank (accounts_of light arguments)) (mark none kind.RightParen nowhere ∷ [])))
      (adds_then h k)

  pub sequence_added : {a b c d : List ℕ} (gap : Gap) (ty : Option TypeName) (elements : List Expr) → b ≡ a ++ gap_bytes gap ++ codes "ISZ" →
      Adds b c (element_pieces ty) → Adds c d (arguments_pieces light elements) →
      Adds a d (expr_pieces gap (sequence nowhere (option_map element_account (option_map type_tree ty)) nowhere (accounts_of light elements) nowhere))
  unfolding signs words
  sequence_added gap ty elements word element arguments =
      adds_same _ _
      (sym (append_assoc (mark gap kind.TypeIsz nowhere ∷ element_pieces ty) (mark none kind.LeftParen nowhere ∷ exprs_pieces none blank (accounts_of light elements))
      (mark none kind.RightParen nowhere ∷ [])))
      (adds_then (adds_then (adds_word gap kind.TypeIsz nowhere (codes "ISZ") refl word) element) arguments)

  -- what a box holds, behind a prefix
  pub tight_of : {a b : List ℕ} (own expr : Expr) → own ≡ expr → Adds a b (expr_pieces none (as_prefixed (account_of light own))) →
      Adds a b (expr_pieces none (as_prefixed (account_of light expr)))
  tight_of {a} {b} own expr is h = subst (λ e. Adds a b (expr_pieces none (as_prefixed (account_of light e)))) is h
