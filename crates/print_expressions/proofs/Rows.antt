-- The rows of operators, and when an operand stands without brackets.
use Rattle.std.proofs.Common.{◌≡◌, ◌<◌, inl, inr, nat_eq, nat_lt, Bool, true, false, ◌&&◌, ◌||◌, cond, List, [], ◌∷◌, Option, Some, None, refl, ap, ◌∙◌, subst, arith, ltb-true, lt-ltb, eqb-true, eq-eqb}
use Rattle.std.specs.List.{AllByRecursion}
use Rattle.std.specs.Option.{unwrap_or}
use Rattle.std.proofs.lemmas.Bool.{false≢true, and_parts}
use denote.Enum.Bare.{sameb}
use Rattle.slang_lexer.specs.declared.token.TokenKind.{TokenKind}
use Rattle.slang_tokens.specs.Tok.{same_kind}
use Rattle.slang_grammar.specs.contracts.operator.Side.{the_type}
use Rattle.slang_grammar.specs.declared.operator.Side.{Side}
use Rattle.slang_grammar.specs.declared.operator.Side.TheVariants.{Left, Right}
use Rattle.slang_grammar.specs.declared.operator.Infix.{Infix}
use Rattle.slang_grammar.specs.Operators.{infix_in, infix_of, operators, whole_level}
use Rattle.slang_grammar.specs.Expressions.{ExprText, level, joins, IsOperand}
use Rattle.print_expressions.specs.Operators.{row_of}
use Rattle.print_expressions.specs.Accounts.{is_side, is_operand}

-- what holds of each row holds of the row of a sign
of_sign : (P : Infix → Type 0) (rows : List Infix) → AllByRecursion P rows → (sign : TokenKind) (row : Infix) → infix_in rows sign ≡ Some row → P row
of_sign P [] all sign row h = absurd (let e : None ≡ Some row = h in cc)
of_sign P (first ∷ rows) all sign row h = at (same_kind first.sign sign) (of_sign P rows all.1 sign row) h
  where
    at : (b : Bool) → (infix_in rows sign ≡ Some row → P row) → cond b (Some first) (infix_in rows sign) ≡ Some row → P row
    at true rest e = subst P (ap (λ o. unwrap_or o first) e) all.0
    at false rest e = rest e

each_back : AllByRecursion (λ row. row_of row.operator ≡ row) operators
unfolding operators row_of
each_back = (refl, (refl, (refl, (refl, (refl, (refl, (refl, (refl, (refl, (refl, (refl, (refl, (refl, (refl, (refl, (refl, (refl, (refl, (refl, (refl, tt))))))))))))))))))))

abbrev IsLoose : Infix → Type 0
IsLoose row = row.level < whole_level

each_loose : AllByRecursion IsLoose operators
unfolding operators
each_loose = (omega arith, (omega arith, (omega arith, (omega arith, (omega arith, (omega arith, (omega arith, (omega arith, (omega arith, (omega arith, (omega arith, (omega arith, (omega arith, (omega arith, (omega arith, (omega arith, (omega arith, (omega arith, (omega arith, (omega arith, tt))))))))))))))))))))

-- the row of a sign is that of its operator
pub row_back : (sign : TokenKind) (row : Infix) → infix_of sign ≡ Some row → row_of row.operator ≡ row
row_back sign row h = of_sign (λ r. row_of r.operator ≡ r) operators each_back sign row h

pub row_loose : (sign : TokenKind) (row : Infix) → infix_of sign ≡ Some row → row.level < whole_level
row_loose sign row h = of_sign IsLoose operators each_loose sign row h

-- ---- sides

side_true : (a b : Side) → sameb the_type a b ≡ true → a ≡ b
side_true Left Left h = refl
side_true Right Right h = refl
side_true Left Right h = absurd (false≢true h)
side_true Right Left h = absurd (false≢true h)

side_same : (a : Side) → sameb the_type a a ≡ true
side_same Left = refl
side_same Right = refl

some_side : (side : Side) (o : Option Side) → is_side side o ≡ true → o ≡ Some side
some_side side None h = absurd (false≢true h)
some_side side (Some other) h = ap Some (side_true other side h)

-- ---- operands

inside_some : {A : Type 0} (a b : A) → Some a ≡ Some b → a ≡ b
inside_some a b e = ap (λ o. unwrap_or o a) e

pub operand_to : (side : Side) (row : Infix) (text : ExprText) → is_operand side row text ≡ true → IsOperand side row text
operand_to side row text h = at (nat_lt row.level (level text)) refl h
  where
    at : (b : Bool) → nat_lt row.level (level text) ≡ b →
        (b || (nat_eq (level text) row.level && (is_side side (Some row.joins) && is_side side (joins text)))) ≡ true → IsOperand side row text
    at true e k = inl (ltb-true row.level (level text) e)
    at false e k =
        let p = and_parts (nat_eq (level text) row.level) (is_side side (Some row.joins) && is_side side (joins text)) k in
        let q = and_parts (is_side side (Some row.joins)) (is_side side (joins text)) p.1 in
        inr (eqb-true (level text) row.level p.0, inside_some row.joins side (some_side side (Some row.joins) q.0), some_side side (joins text) q.1)

or_true : (b : Bool) → (b || true) ≡ true
or_true true = refl
or_true false = refl

pub operand_from : (side : Side) (row : Infix) (text : ExprText) → IsOperand side row text → is_operand side row text ≡ true
operand_from side row text (inl h) =
    ap (λ b. b || (nat_eq (level text) row.level && (is_side side (Some row.joins) && is_side side (joins text)))) (lt-ltb row.level (level text) h)
operand_from side row text (inr h) =
    let tight = nat_lt row.level (level text) in
    ap (λ b. tight || (b && (is_side side (Some row.joins) && is_side side (joins text)))) (eq-eqb (level text) row.level h.0)
    ∙ ap (λ s. tight || (is_side side (Some s) && is_side side (joins text))) h.1
    ∙ ap (λ o. tight || (is_side side (Some side) && is_side side o)) h.2
    ∙ ap (λ b. tight || (b && b)) (side_same side)
    ∙ or_true tight
