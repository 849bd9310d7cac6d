-- The table of the operators.
use denote.Enum.Bare.{same_true}
use Rattle.slang_lexer.specs.contracts.token.TokenKind.{the_type}
use Rattle.std.proofs.Common.{◌≡◌, ℕ, ◌<◌, ◌≤◌, Bool, true, false, List, [], ◌∷◌, Option, Some, None, map, refl, sym, ap, ◌∙◌, subst, cond, arith}
use Rattle.std.specs.Prelude.{IfSome}
use Rattle.slang_lexer.specs.declared.token.TokenKind.{TokenKind}
use Rattle.slang_lexer.specs.declared.token.TokenKind.TheVariants as kind
use Rattle.slang_tokens.specs.Tok.{Tok, same_kind}
use Rattle.slang_grammar.specs.declared.operator.Side.{Side}
use Rattle.slang_grammar.specs.declared.operator.Infix.{Infix}
use Rattle.slang_grammar.specs.Operators.{operators, infix_in, infix_of}
use Rattle.slang_machine.specs.Open.{pull}
use Rattle.slang_machine.specs.Expressions.{is}
use Rattle.slang_machine.proofs.Operators.{InTable, in_table, pull-small}
use Rattle.expression_parser.specs.declared.operators.TheConstants.{OPERATORS}
use Rattle.expression_parser.specs.Below.{row_infix}

-- the code's table is that of the definitions
pub rows_are : map row_infix OPERATORS ≡ operators
unfolding operators
rows_are = refl

some_same : {x y : Infix} → Some x ≡ Some y → x ≡ y
some_same s = cc

-- what a table gives is of this sign
of_sign : (rows : List Infix) (k : TokenKind) (found : Infix) → infix_in rows k ≡ Some found → found.sign ≡ k
of_sign [] k found h = absurd (cc)
of_sign (row ∷ rows) k found h = by_test (same_kind row.sign k) refl h (of_sign rows k found) where
  by_test : (b : Bool) → same_kind row.sign k ≡ b → cond b (Some row) (infix_in rows k) ≡ Some found → (infix_in rows k ≡ Some found → found.sign ≡ k) → found.sign ≡ k
  by_test true e f more = subst (λ o. o.sign ≡ k) (some_same f) (same_true the_type tt row.sign k e)
  by_test false e f more = more f

-- an operator stands in the table
pub found_in_table : (k : TokenKind) (row : Infix) → infix_of k ≡ Some row → (row.sign ≡ k) × InTable row
found_in_table k row h =
    let e = of_sign operators k row h in
    (e, in_table row (ap infix_of e ∙ h))

pub small_row : (k : TokenKind) (row : Option Infix) → row ≡ infix_of k → IfSome row (λ row. row.level ≤ 8)
small_row k (Some row) h = (found_in_table k row (sym h)).1.small
small_row k None h = tt

-- an operator opens no bracket and is no dot
pub no_paren : (token : Tok) (row : Infix) → infix_of token.kind ≡ Some row → is kind.LeftParen token ≡ false
no_paren token row h = let f = found_in_table token.kind row h in ap (λ k. same_kind k kind.LeftParen) (sym f.0) ∙ f.1.no_paren

pub no_dot : (token : Tok) (row : Infix) → infix_of token.kind ≡ Some row → is kind.Dot token ≡ false
no_dot token row h = let f = found_in_table token.kind row h in ap (λ k. same_kind k kind.Dot) (sym f.0) ∙ f.1.no_dot

pub pull_in_table : (side : Side) (k : TokenKind) (row : Infix) → infix_of k ≡ Some row → (0 < pull side row) × (pull side row ≤ 18)
pull_in_table side k row h = pull-small side row (found_in_table k row h).1.small
