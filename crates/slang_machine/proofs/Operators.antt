-- The table of the operators, and which operands they take.
use Rattle.std.proofs.Common.{◌≡◌, ℕ, ◌+◌, ◌*◌, ◌<◌, ◌≤◌, ◌⊎◌, inl, inr, Bool, true, false, not, ◌&&◌, List, [], ◌∷◌, Some, refl, ap, ◌∙◌, subst, arith, cond, leb}
use Rattle.std.specs.List.{list_all}
use Rattle.std.proofs.lemmas.Bool.{and_parts, not-true, leb-true, leb-false}
use Rattle.slang_lexer.specs.declared.token.TokenKind.{TokenKind}
use Rattle.slang_lexer.specs.declared.token.TokenKind.TheVariants as kind
use Rattle.slang_tokens.specs.Tok.{same_kind}
use Rattle.slang_grammar.specs.declared.operator.Side.{Side}
use Rattle.slang_grammar.specs.declared.operator.Side.TheVariants.{Left, Right}
use Rattle.slang_grammar.specs.declared.operator.Infix.{Infix}
use Rattle.slang_grammar.specs.Operators.{operators, infix_in, infix_of}
use Rattle.slang_grammar.specs.Expressions.{ExprText, prefixed, binary, level, IsOperand, IsGrouped}
use Rattle.slang_machine.specs.Open.{apart, pull}

some_same : {x y : Infix} → Some x ≡ Some y → x ≡ y
some_same s = cc

-- what is so of each operator of a table is so of what it gives
of_all : (test : Infix → Bool) (rows : List Infix) (k : TokenKind) (found : Infix) → list_all test rows ≡ true → infix_in rows k ≡ Some found → test found
    ≡ true
of_all test [] k found all h = absurd (cc)
of_all test (row ∷ rows) k found all h = by_test (same_kind row.sign k) h (of_all test rows k found (and_parts _ _ all).1) where
  by_test : (b : Bool) → cond b (Some row) (infix_in rows k) ≡ Some found → (infix_in rows k ≡ Some found → test found ≡ true) → test found ≡ true
  by_test true f more = subst (λ o. test o ≡ true) (some_same f) (and_parts _ _ all).0
  by_test false f more = more f

-- a sign of an operator opens nothing and is no dot, no name and no number, and prefixes bind more tightly
abbrev fits : Infix → Bool
fits row =
    leb row.level 8 && (not (same_kind row.sign kind.LeftParen) && (not (same_kind row.sign kind.LeftBracket)
    && (not (same_kind row.sign kind.Dot) && (not (same_kind row.sign kind.Name) && not (same_kind row.sign kind.Number)))))

all_fit : list_all fits operators ≡ true
unfolding operators
all_fit = refl

pub record InTable (row : Infix) : Type 0 where
  pub small : row.level ≤ 8
  pub no_paren : same_kind row.sign kind.LeftParen ≡ false
  pub no_bracket : same_kind row.sign kind.LeftBracket ≡ false
  pub no_dot : same_kind row.sign kind.Dot ≡ false
  pub no_name : same_kind row.sign kind.Name ≡ false
  pub no_number : same_kind row.sign kind.Number ≡ false

pub in_table : (row : Infix) → infix_of row.sign ≡ Some row → InTable row
in_table row h =
    let fit = and_parts _ _ (of_all fits operators row.sign row all_fit h) in
    let paren = and_parts _ _ fit.1 in
    let bracket = and_parts _ _ paren.1 in
    let dot = and_parts _ _ bracket.1 in
    let written = and_parts _ _ dot.1 in
    record {
      small = leb-true row.level 8 fit.0;
      no_paren = not-true _ paren.0;
      no_bracket = not-true _ bracket.0;
      no_dot = not-true _ dot.0;
      no_name = not-true _ written.0;
      no_number = not-true _ written.1;
    }

-- Operands.

abbrev pub other : Side → Side
other Left = Right
other Right = Left

pub apart-bounds : (a b : Side) → (1 ≤ apart a b) × (apart a b ≤ 2)
apart-bounds Left Left = (omega arith, omega arith)
apart-bounds Left Right = (omega arith, omega arith)
apart-bounds Right Left = (omega arith, omega arith)
apart-bounds Right Right = (omega arith, omega arith)

pub pull-small : (side : Side) (row : Infix) → row.level ≤ 8 → (0 < pull side row) × (pull side row ≤ 18)
pull-small side row h = let b = apart-bounds side row.joins in (omega (arith, b.0), omega (arith, b.1))

-- how strongly an expression pulls what stands at this end of it
abbrev pub strength : Side → ExprText → ℕ
strength side (prefixed by place operand) = 20
strength side (binary left row place right) = pull side row
strength side _ = 22

-- both ends are pulled nearly alike
pub strength-near : (a b : Side) (text : ExprText) → (0 < strength a text) × (strength a text ≤ strength b text + 1)
strength-near a b (binary left row place right) =
    let p = apart-bounds a row.joins in
    let q = apart-bounds b row.joins in
    (omega (arith, p.0), omega (arith, p.1, q.0))
strength-near a b _ = (omega arith, omega arith)

-- what binds as tightly as a prefix pulls more strongly than each operator
pub tight_strong : (side : Side) (text : ExprText) → IsGrouped text → 9 ≤ level text → 20 ≤ strength side text
tight_strong side (binary left row place right) g h = let small = (in_table row g.0).small in absurd (omega (arith, small))
tight_strong side _ g h = omega arith

chain_pulls : (side a b : Side) (m n : ℕ) → (m < n) ⊎ ((n ≡ m) × (a ≡ side) × (Some b ≡ Some side)) → 2 * m + apart side a < 2 * n + apart (other side) b
chain_pulls side a b m n (inl h) =
    let p = apart-bounds side a in
    let q = apart-bounds (other side) b in
    omega (arith, p.1, q.0)
chain_pulls side a b m n (inr (e, f, g)) =
    let p : apart side a ≡ 1 = ap (apart side) f ∙ alike side in
    let q : apart (other side) b ≡ 2 = ap (apart (other side)) (same g) ∙ unlike side in
    omega (arith, p, q) where
      same : {x y : Side} → Some x ≡ Some y → x ≡ y
      same s = cc

      alike : (s : Side) → apart s s ≡ 1
      alike Left = refl
      alike Right = refl

      unlike : (s : Side) → apart (other s) s ≡ 2
      unlike Left = refl
      unlike Right = refl

tight_pulls : (side : Side) (row : Infix) (n : ℕ) → row.level ≤ 8 → 20 ≤ n → pull side row < n
tight_pulls side row n small h = let p = pull-small side row small in omega (arith, p.1)

-- an operand pulls more strongly than its operator
pub operand_pulls : (side : Side) (row : Infix) (text : ExprText) → row.level ≤ 8 → IsOperand side row text → pull side row < strength (other side) text
operand_pulls side row (prefixed by place operand) small h = tight_pulls side row 20 small (omega arith)
operand_pulls side row (binary left inner place right) small h = chain_pulls side row.joins inner.joins row.level inner.level h
operand_pulls side row _ small h = tight_pulls side row 22 small (omega arith)

-- what pulls more strongly than a prefix binds as tightly as one
pub strong_tight : (side : Side) (text : ExprText) → 19 < strength side text → 9 ≤ level text
strong_tight side (prefixed by place operand) h = omega arith
strong_tight side (binary left row place right) h = let b = apart-bounds side row.joins in let small = b.1 in strong_chain row.level (apart side row.joins) small h where
  strong_chain : (n m : ℕ) → m ≤ 2 → 19 < 2 * n + m → 9 ≤ n
  strong_chain n m b h = omega (arith, b, h)
strong_tight side _ h = omega arith

pulls_chain : (side a b : Side) (m n : ℕ) → 2 * m + apart side a < 2 * n + apart (other side) b → (m < n) ⊎ ((n ≡ m) × (a ≡ side) × (Some b ≡ Some side))
pulls_chain Left Left Left m n h = by_test (leb n m) refl where
  by_test : (t : Bool) → leb n m ≡ t → (m < n) ⊎ ((n ≡ m) × (Left ≡ Left) × (Some Left ≡ Some Left))
  by_test true e = let l = leb-true n m e in inr (omega arith, refl, refl)
  by_test false e = let l = leb-false n m e in inl (omega arith)
pulls_chain Right Right Right m n h = by_test (leb n m) refl where
  by_test : (t : Bool) → leb n m ≡ t → (m < n) ⊎ ((n ≡ m) × (Right ≡ Right) × (Some Right ≡ Some Right))
  by_test true e = let l = leb-true n m e in inr (omega arith, refl, refl)
  by_test false e = let l = leb-false n m e in inl (omega arith)
pulls_chain Left Left Right m n h = inl (omega arith)
pulls_chain Left Right Left m n h = inl (omega arith)
pulls_chain Left Right Right m n h = inl (omega arith)
pulls_chain Right Left Left m n h = inl (omega arith)
pulls_chain Right Left Right m n h = inl (omega arith)
pulls_chain Right Right Left m n h = inl (omega arith)

-- what pulls more strongly than the operator is an operand of it
pub pulls_operand : (side : Side) (row : Infix) (text : ExprText) → row.level ≤ 8 → pull side row < strength (other side) text → IsOperand side row text
pulls_operand side row (prefixed by place operand) small h = inl (omega arith)
pulls_operand side row (binary left inner place right) small h = pulls_chain side row.joins inner.joins row.level inner.level h
pulls_operand side row _ small h = inl (omega arith)
