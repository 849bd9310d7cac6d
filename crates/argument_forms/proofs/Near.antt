-- Behind a token there is at most one list more, and at most one square bracket.
use Rattle.std.proofs.Common.{ℕ, zero, suc, Bool, true, false, Option, None, arith}
use Rattle.std.specs.Prelude.{IfSome, if◌then◌else◌}
use Rattle.slang_lexer.specs.declared.token.TokenKind.TheVariants as kind
use Rattle.slang_tokens.specs.Tok.{Tok}
use Rattle.argument_forms.specs.declared.states.Due.{Due}
use Rattle.argument_forms.specs.declared.states.Due.TheVariants as due
use Rattle.argument_forms.specs.declared.states.State.{State}
use Rattle.argument_forms.specs.Machine.{is_sign, is_name, is_digits, is_digits_below_zero, at, in_type, on, below, close, next_member, close_type}
use Rattle.argument_forms.specs.Machine.{begin, begin_type, next, IsNear}

if_some : (P : State → Type 0) (test : Bool) (x y : Option State) → IfSome x P → IfSome y P → IfSome (if test then x else y) P
if_some P true x y h k = h
if_some P false x y h k = k

on_some : (P : State → Type 0) (test : Bool) (state : State) → P state → IfSome (on test state) P
on_some P true state h = h
on_some P false state h = tt

module _ (d : Due) (lists squares : ℕ) where
  abbrev own : State
  own = in_type d lists squares

  abbrev Near : State → Type 0
  Near = IsNear own

  same : (e : Due) → Near (at e lists)
  same e = record { lists = omega arith; squares = omega arith }

  more : (e : Due) → Near (at e (suc lists))
  more e = record { lists = omega arith; squares = omega arith }

  kept : (e : Due) → Near (in_type e lists squares)
  kept e = record { lists = omega arith; squares = omega arith }

  deeper : (e : Due) → Near (in_type e lists (suc squares))
  deeper e = record { lists = omega arith; squares = omega arith }

  begin_near : (token : Tok) → IfSome (begin lists token) Near
  begin_near token =
      if_some Near (is_digits token) _ _ (same due.Behind) (if_some Near (is_sign kind.Minus token) _ _ (same due.Digits)
      (if_some Near (is_sign kind.True token) _ _ (same due.Behind) (if_some Near (is_sign kind.False token) _ _ (same due.Behind)
      (if_some Near (is_sign kind.TypeIsz token) _ _ (same due.Elements) (on_some Near (is_name token) (at due.Fields lists) (same due.Fields))))))

  begin_type_near : (token : Tok) → IfSome (begin_type lists squares token) Near
  begin_type_near token =
      if_some Near (is_sign kind.TypeZ token) _ _ (kept due.BehindType) (if_some Near (is_sign kind.TypeB token) _ _ (kept due.BehindType)
      (if_some Near (is_sign kind.TypeUnit token) _ _ (kept due.BehindType) (if_some Near (is_sign kind.TypeIsz token) _ _ (kept due.Square)
      (on_some Near (is_name token) (in_type due.BehindType lists squares) (kept due.BehindType)))))

close_near : (d : Due) (lists squares : ℕ) → IfSome (close (below lists)) (IsNear (in_type d lists squares))
close_near d zero squares = tt
close_near d (suc n) squares = record { lists = omega arith; squares = omega arith }

next_member_near : (d : Due) (lists squares : ℕ) → IfSome (next_member (below lists) lists) (IsNear (in_type d lists squares))
next_member_near d zero squares = tt
next_member_near d (suc n) squares = record { lists = omega arith; squares = omega arith }

close_type_near : (d : Due) (lists squares : ℕ) → IsNear (in_type d lists squares) (close_type (below squares) lists)
close_type_near d lists zero = record { lists = omega arith; squares = omega arith }
close_type_near d lists (suc n) = record { lists = omega arith; squares = omega arith }

pub next_near : (d : Due) (lists squares : ℕ) (token : Tok) → IfSome (next d lists squares token) (IsNear (in_type d lists squares))
next_near due.Constant lists squares token = begin_near due.Constant lists squares token
next_near due.Member lists squares token =
    if_some (IsNear (in_type due.Member lists squares)) (is_sign kind.RightParen token) _ _ (close_near due.Member lists squares)
    (begin_near due.Member lists squares token)
next_near due.Digits lists squares token =
    on_some (IsNear (in_type due.Digits lists squares)) (is_digits_below_zero token) (at due.Behind lists) (same due.Digits lists squares due.Behind)
next_near due.Fields lists squares token =
    on_some (IsNear (in_type due.Fields lists squares)) (is_sign kind.LeftParen token) (at due.Constant (suc lists)) (more due.Fields lists squares due.Constant)
next_near due.Elements lists squares token =
    if_some (IsNear (in_type due.Elements lists squares)) (is_sign kind.LeftParen token) _ _ (more due.Elements lists squares due.Constant)
    (on_some (IsNear (in_type due.Elements lists squares)) (is_sign kind.LeftBracket token) (at due.Written lists)
    (same due.Elements lists squares due.Written))
next_near due.Written lists squares token = begin_type_near due.Written lists squares token
next_near due.Square lists squares token =
    on_some (IsNear (in_type due.Square lists squares)) (is_sign kind.LeftBracket token) (in_type due.Written lists (suc squares))
    (deeper due.Square lists squares due.Written)
next_near due.BehindType lists squares token =
    on_some (IsNear (in_type due.BehindType lists squares)) (is_sign kind.RightBracket token) (close_type (below squares) lists)
    (close_type_near due.BehindType lists squares)
next_near due.Listed lists squares token =
    on_some (IsNear (in_type due.Listed lists squares)) (is_sign kind.LeftParen token) (at due.Member (suc lists)) (more due.Listed lists squares due.Member)
next_near due.Behind lists squares token =
    if_some (IsNear (in_type due.Behind lists squares)) (is_sign kind.Comma token) _ _ (next_member_near due.Behind lists squares)
    (if_some (IsNear (in_type due.Behind lists squares)) (is_sign kind.RightParen token) _ None (close_near due.Behind lists squares) tt)
