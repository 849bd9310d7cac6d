-- What types and expressions add to the weights.
use Rattle.std.proofs.Common.{◌≡◌, ℕ, max, Bool, true, false, cond, List, [], ◌∷◌, ◌++◌, Option, Some, None, refl, sym, ap, subst, append_assoc, arith}
use Rattle.std.specs.List.{AllByRecursion}
use Rattle.std.specs.Option.{unwrap_or}
use Rattle.slang_lexer.specs.declared.token.TokenKind.{TokenKind}
use Rattle.slang_lexer.specs.declared.token.TokenKind.TheVariants as kind
use Rattle.slang_tree.specs.declared.place.Place.{Place}
use Rattle.slang_tokens.specs.Tok.{Tok, same_kind, sign}
use Rattle.slang_tokens.specs.Kinds.{counted_kinds}
use Rattle.slang_grammar.specs.declared.operator.Infix.{Infix}
use Rattle.slang_grammar.specs.declared.operator.Prefix.{Prefix}
use Rattle.slang_grammar.specs.declared.operator.Prefix.TheVariants as prefix
use Rattle.slang_grammar.specs.Operators.{infix_in, infix_of, operators, prefix_kind}
use Rattle.slang_grammar.specs.Parts.{members, separated, optional, listed, TypeText, z_type, b_type, unit_type, sequence_type, record_type, type_tokens}
use Rattle.slang_grammar.specs.Parts.{ElementText, element_tokens}
use Rattle.slang_grammar.specs.Expressions.{QuantifierWord, all_word, exists_word, all_sign, exists_sign, quantifier_kind, BoundText, bound_tokens, ExprText}
use Rattle.slang_grammar.specs.Expressions.{number, truth, falsity, variable, result, entry_value, old_value, sequence, quantified, quantified_indices}
use Rattle.slang_grammar.specs.Expressions.{bracketed, application, update, field, prefixed, binary, ExprsText, no_exprs, last_expr, expr_then, expr_tokens}
use Rattle.slang_grammar.specs.Expressions.{exprs_tokens, IsGrouped, AreGrouped}
use Rattle.print_expressions.specs.Hefts.{Heft, one, around, followed, type_heft, element_heft, heft, peak_of}
use Rattle.light_files.specs.Hefts.{most}
use Rattle.light_files.proofs.Counts.{IsPlain, IsCounted, IsOpening, IsClosing, IsSeparating, Has, Inside, has_is, inside_is, has_none, has_plain, has_one}
use Rattle.light_files.proofs.Counts.{has_then, inside_has, inside_none, inside_then, has_around}

-- ---- the signs of operators count

of_sign : (P : Infix → Type 0) (rows : List Infix) → AllByRecursion P rows → (sign : TokenKind) (row : Infix) → infix_in rows sign ≡ Some row → P row
of_sign P [] all sign row h = absurd (let e : None ≡ Some row = h in cc)
of_sign P (first ∷ rows) all sign row h = at (same_kind first.sign sign) (of_sign P rows all.1 sign row) h
  where
    at : (b : Bool) → (infix_in rows sign ≡ Some row → P row) → cond b (Some first) (infix_in rows sign) ≡ Some row → P row
    at true rest e = subst P (ap (λ o. unwrap_or o first) e) all.0
    at false rest e = rest e

abbrev SignCounts : Infix → Type 0
SignCounts row = IsCounted row.sign

each_counts : AllByRecursion SignCounts operators
unfolding operators counted_kinds
each_counts = (
  λ at. refl,
  (
    λ at. refl,
    (
      λ at. refl,
      (
        λ at. refl,
        (
          λ at. refl,
          (
            λ at. refl,
            (
              λ at. refl,
              (
                λ at. refl,
                (
                  λ at. refl,
                  (
                    λ at. refl,
                    (
                      λ at. refl,
                      (λ at. refl, (λ at. refl, (λ at. refl, (λ at. refl, (λ at. refl, (λ at. refl, (λ at. refl, (λ at. refl, (λ at. refl, tt))))))))),
                    ),
                  ),
                ),
              ),
            ),
          ),
        ),
      ),
    ),
  ),
)

sign_counts : (row : Infix) → infix_of row.sign ≡ Some row → IsCounted row.sign
sign_counts row h = of_sign SignCounts operators each_counts row.sign row h

prefix_counts : (by : Prefix) → IsCounted (prefix_kind by)
unfolding counted_kinds
prefix_counts prefix.Not = λ at. refl
prefix_counts prefix.Minus = λ at. refl

quantifier_plain : (by : QuantifierWord) → IsPlain (quantifier_kind by)
unfolding counted_kinds
quantifier_plain all_word = λ at. refl
quantifier_plain exists_word = λ at. refl
quantifier_plain all_sign = λ at. refl
quantifier_plain exists_sign = λ at. refl

pub regroup : (a b c d : List Tok) → a ++ ((b ++ c) ++ d) ≡ ((a ++ b) ++ c) ++ d
regroup a b c d = simp append_assoc

module _ (limit : ℕ) where
  pub has_equal : {xs ys : List Tok} {own : Heft} → xs ≡ ys → Has limit xs own → Has limit ys own
  has_equal {xs} {ys} {own} e h = subst (λ l. Has limit l own) e h

  pub inside_equal : {xs ys : List Tok} {peak : ℕ} → xs ≡ ys → Inside limit xs peak → Inside limit ys peak
  inside_equal {xs} {ys} {peak} e h = subst (λ l. Inside limit l peak) e h

  -- a bracket with what stands inside it, and nothing behind it
  pub has_closed : {xs : List Tok} {peak : ℕ} (left right : Tok) → IsOpening left.kind → IsClosing right.kind → Inside limit xs peak
      → Has limit (left ∷ xs ++ right ∷ []) (around peak)
  has_closed {xs} {peak} left right o c h = has_is limit (omega arith) (omega arith) (has_around limit left right o c h (has_none limit))

  -- in round brackets, in square ones and in braces
  pub has_round : {xs : List Tok} {peak : ℕ} (left right : Place) → Inside limit xs peak
      → Has limit (sign kind.LeftParen left ∷ xs ++ sign kind.RightParen right ∷ []) (around peak)
  unfolding counted_kinds
  has_round left right h = has_closed (sign kind.LeftParen left) (sign kind.RightParen right) (λ at. refl) (λ at. refl) h

  pub has_square : {xs : List Tok} {peak : ℕ} (left right : Place) → Inside limit xs peak
      → Has limit (sign kind.LeftBracket left ∷ xs ++ sign kind.RightBracket right ∷ []) (around peak)
  unfolding counted_kinds
  has_square left right h = has_closed (sign kind.LeftBracket left) (sign kind.RightBracket right) (λ at. refl) (λ at. refl) h

  pub has_braces : {xs : List Tok} {peak : ℕ} (left right : Place) → Inside limit xs peak
      → Has limit (sign kind.LeftBrace left ∷ xs ++ sign kind.RightBrace right ∷ []) (around peak)
  unfolding counted_kinds
  has_braces left right h = has_closed (sign kind.LeftBrace left) (sign kind.RightBrace right) (λ at. refl) (λ at. refl) h

  -- in round brackets, with something behind them
  pub has_round_then : {xs ys : List Tok} {peak : ℕ} {own : Heft} (left right : Place) → Inside limit xs peak → Has limit ys own
      → Has limit (sign kind.LeftParen left ∷ xs ++ sign kind.RightParen right ∷ ys) (followed (around peak) own)
  unfolding counted_kinds
  has_round_then left right h k = has_around limit (sign kind.LeftParen left) (sign kind.RightParen right) (λ at. refl) (λ at. refl) h k

  pub comma_then : {xs ys : List Tok} {a b : ℕ} (place : Place) → Inside limit xs a → Inside limit ys b
      → Inside limit (xs ++ sign kind.Comma place ∷ ys) (max a b)
  unfolding counted_kinds
  comma_then place h k = inside_then limit (sign kind.Comma place) (λ at. refl) h k

  pub newline_then : {xs ys : List Tok} {a b : ℕ} (place : Place) → Inside limit xs a → Inside limit ys b
      → Inside limit (xs ++ sign kind.Newline place ∷ ys) (max a b)
  unfolding counted_kinds
  newline_then place h k = inside_then limit (sign kind.Newline place) (λ at. refl) h k

  -- members with separators
  pub listed_inside : {A : Type 0} (separator : TokenKind) (tokens_of : A → List Tok) (peak : A → ℕ) (P : A → Type 0) → IsSeparating separator
      → ((x : A) → P x → Inside limit (tokens_of x) (peak x)) → (front : List (A × Place)) (last : Option A)
      → AllByRecursion P (members (record { front = front; last = last }))
      → Inside limit (listed separator tokens_of (record { front = front; last = last })) (most peak (members (record { front = front; last = last })))
  listed_inside separator tokens_of peak P s each [] None all = inside_none limit
  listed_inside separator tokens_of peak P s each [] (Some x) all = inside_is limit (omega arith) (each x all.0)
  listed_inside separator tokens_of peak P s each (member ∷ front) last all =
      inside_equal (sym (append_assoc (tokens_of member.0) (sign separator member.1 ∷ separated separator tokens_of front) (optional tokens_of last)))
      (inside_then limit (sign separator member.1) s (each member.0 all.0) (listed_inside separator tokens_of peak P s each front last all.1))

  -- ---- types

  pub type_has : (ty : TypeText) → Has limit (type_tokens ty) (type_heft ty)
  unfolding counted_kinds
  type_has (z_type place) = has_plain limit _ (λ at. refl) (has_none limit)
  type_has (b_type place) = has_plain limit _ (λ at. refl) (has_none limit)
  type_has (unit_type place) = has_plain limit _ (λ at. refl) (has_none limit)
  type_has (sequence_type word left element right) = has_plain limit _ (λ at. refl) (has_square left right (inside_has limit (type_has element)))
  type_has (record_type written) = has_plain limit _ (λ at. refl) (has_none limit)

  pub element_has : (ty : Option ElementText) → Has limit (optional element_tokens ty) (element_heft ty)
  element_has None = has_none limit
  element_has (Some t) = has_square t.left t.right (inside_has limit (type_has t.ty))

  -- ---- expressions

  bound_has : (bound : BoundText) {body : List Tok} {own : Heft} → Has limit body own → Has limit (bound_tokens bound body) (around own.peak)
  unfolding counted_kinds
  bound_has bound h =
      has_round bound.left bound.right (inside_has limit (has_plain limit _ (λ at. refl) (has_plain limit _ (λ at. refl) h)))

  name_inside : (token : Tok) → IsPlain token.kind → Inside limit (token ∷ []) 0
  name_inside token p = inside_has limit (has_plain limit token p (has_none limit))

  -- a token that counts, and one that does not
  dot_has : (dot : Tok) (name : Tok) → IsCounted dot.kind → IsPlain name.kind → Has limit (dot ∷ name ∷ []) one
  dot_has dot name d n = has_is limit (omega arith) (omega arith) (has_one limit dot d (has_plain limit name n (has_none limit)))

  mutual
    unfolding counted_kinds

    pub expr_has : (text : ExprText) → IsGrouped text → Has limit (expr_tokens text) (heft text)
    expr_has (number digits place) g = has_plain limit _ (λ at. refl) (has_none limit)
    expr_has (truth place) g = has_plain limit _ (λ at. refl) (has_none limit)
    expr_has (falsity place) g = has_plain limit _ (λ at. refl) (has_none limit)
    expr_has (variable n) g = has_plain limit _ (λ at. refl) (has_none limit)
    expr_has (result word ty) g = has_plain limit _ (λ at. refl) (element_has ty)
    expr_has (entry_value word left n right) g = has_plain limit _ (λ at. refl) (has_round left right (name_inside _ (λ at. refl)))
    expr_has (old_value word left n right) g = has_plain limit _ (λ at. refl) (has_round left right (name_inside _ (λ at. refl)))
    expr_has (sequence word ty left elements right) g =
        has_plain limit _ (λ at. refl) (has_equal (sym (append_assoc (optional element_tokens ty) (sign kind.LeftParen left ∷ exprs_tokens elements) _))
        (has_then limit (element_has ty) (has_round left right (exprs_inside elements g.1))))
    expr_has (quantified by word left low until high right bound body) g =
        has_plain limit _ (quantifier_plain by)
        (has_round_then left right (inside_has limit (has_then limit (expr_has low g.0) (has_plain limit _ (λ at. refl) (expr_has high g.1))))
        (bound_has bound (expr_has body g.3)))
    expr_has (quantified_indices by word left head dot indices right bound body) g =
        has_plain limit _ (quantifier_plain by)
        (has_equal (ap (λ l. sign kind.LeftParen left ∷ l)
        (append_assoc (expr_tokens head) _ (sign kind.RightParen right ∷ bound_tokens bound (expr_tokens body))))
        (has_round_then left right (inside_has limit (has_then limit (expr_has head g.1) (dot_has _ _ (λ at. refl) (λ at. refl))))
        (bound_has bound (expr_has body g.3))))
    expr_has (bracketed left inner right) g = has_round left right (inside_has limit (expr_has inner g))
    expr_has (application head left arguments right) g =
        has_equal (sym (append_assoc (expr_tokens head) (sign kind.LeftParen left ∷ exprs_tokens arguments) _))
        (has_then limit (expr_has head g.1) (has_round left right (exprs_inside arguments g.2)))
    expr_has (update head left index arrow element right) g =
        has_equal (regroup (expr_tokens head) (sign kind.LeftParen left ∷ expr_tokens index) (sign kind.TildeArrow arrow ∷ expr_tokens element) _)
        (has_then limit (expr_has head g.1)
        (has_round left right (inside_has limit (has_then limit (expr_has index g.2) (has_plain limit _ (λ at. refl) (expr_has element g.3))))))
    expr_has (field head dot n) g = has_then limit (expr_has head g.1) (dot_has _ _ (λ at. refl) (λ at. refl))
    expr_has (prefixed by place operand) g = has_one limit _ (prefix_counts by) (expr_has operand g.1)
    expr_has (binary left row place right) g = has_then limit (expr_has left g.3) (has_one limit _ (sign_counts row g.0) (expr_has right g.4))

    pub exprs_inside : (texts : ExprsText) → AreGrouped texts → Inside limit (exprs_tokens texts) (peak_of texts)
    exprs_inside no_exprs g = inside_none limit
    exprs_inside (last_expr text) g = inside_has limit (expr_has text g)
    exprs_inside (expr_then text comma more) g = comma_then comma (inside_has limit (expr_has text g.0)) (exprs_inside more g.1)
