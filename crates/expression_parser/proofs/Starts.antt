-- Where a list of expressions begins in which some may be due.
use denote.Enum.Bare.{same_true}
use Rattle.std.proofs.Common.{◌≡◌, ℕ, Bool, true, false, cond, List, [], ◌∷◌, Option, Some, None, refl, sym, ap, ◌∙◌, arith}
use Rattle.std.specs.Prelude.{IsTrue}
use Rattle.slang_lexer.specs.contracts.token.TokenKind.{the_type}
use Rattle.slang_lexer.specs.declared.token.TokenKind.{TokenKind}
use Rattle.slang_lexer.specs.declared.token.TokenKind.TheVariants as kind
use Rattle.slang_tokens.specs.Tok.{Tok}
use Rattle.slang_machine.specs.Open.{Around}
use Rattle.slang_machine.specs.States.{State, want}
use Rattle.slang_machine.specs.Expressions.{is, next_want}
use Rattle.token_cursor.specs.declared.stop.Due.TheVariants as due
use Rattle.token_cursor.specs.Outcome.{outcome, stuck}
use Rattle.token_cursor.specs.Lists.{begins, behind}
use Rattle.token_cursor.proofs.Steps.{stays}
use Rattle.expression_parser.specs.Expects.{ExprList, ReadsExprs}
use Rattle.expression_parser.proofs.Turns.{expr_or_end}

-- a closing bracket begins no operand and no constant
closing_begins_none : (around : Around) (token : Tok) → is kind.RightParen token ≡ true → next_want around token ≡ None
closing_begins_none around token h =
    let f : TokenKind → Option State = λ k. next_want around (record { kind = k; text = token.text; place = token.place }) in
    ap f (same_true the_type tt token.kind kind.RightParen h)

pub want_refuses : (around : Around) (tokens : List Tok) → begins kind.RightParen tokens ≡ true → outcome (want around) tokens ≡ stuck tokens due.Operand
want_refuses around [] h = absurd (cc)
want_refuses around (token ∷ rest) h = stays (want around) token rest (token ∷ rest) refl (closing_begins_none around token h)

pub exprs_start : (list : ExprList) (some : Bool) (tokens : List Tok) → ReadsExprs list 0 → (IsTrue some → begins kind.RightParen tokens ≡ false)
    → outcome (cond some (want (list.member [])) (list.member_or_end [])) tokens ≡ outcome (list.member_or_end []) tokens
exprs_start list false tokens l h = refl
exprs_start list true tokens l h =
    sym (expr_or_end list [] tokens (l.each [] (omega arith))
    ∙ ap (λ b. cond b (outcome (list.over []) (behind tokens)) (outcome (want (list.member [])) tokens)) (h refl))

pub exprs_refused : (list : ExprList) (some : Bool) (tokens : List Tok) → some ≡ true → begins kind.RightParen tokens ≡ true
    → outcome (cond some (want (list.member [])) (list.member_or_end [])) tokens ≡ stuck tokens due.Operand
exprs_refused list some tokens s h =
    ap (λ b. outcome (cond b (want (list.member [])) (list.member_or_end [])) tokens) s ∙ want_refuses (list.member []) tokens h
