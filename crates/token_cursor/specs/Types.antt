-- Types in brackets, and types that may be left out.
use Rattle.std.specs.Prelude.{◌≡◌, Option, Some, None, true, false}
use Rattle.slang_lexer.specs.declared.token.TokenKind.{TokenKind}
use Rattle.slang_lexer.specs.declared.token.TokenKind.TheVariants as kind
use Rattle.slang_tree.specs.TypeTree.{TypeTree}
use Rattle.slang_tokens.specs.Tok.{Tok}
use Rattle.slang_machine.specs.Open.{AroundType}
use Rattle.slang_machine.specs.States.{State, want_type, have_type}
use Rattle.slang_machine.specs.Expressions.{is, on}
use Rattle.slang_machine.specs.Declarations.{end_type, close_type}
use Rattle.slang_machine.specs.Machine.{next, finish}
use Rattle.token_cursor.specs.declared.stop.Due.TheVariants as due
use Rattle.token_cursor.specs.Outcome.{due_of}

-- behind a type that is read for this its bracket is due, and what comes behind the bracket
pub record ClosesType (inner : AroundType) (to : TypeTree → State) : Type 0 where
  pub read : (ty : TypeTree) → end_type ty inner ≡ have_type ty inner
  pub closed : (ty : TypeTree) → close_type ty inner ≡ Some (to ty)

-- where a type may be left out, a token of this kind begins one that is read for this
pub record BeginsType (k : TokenKind) (from : State) (inner : AroundType) : Type 0 where
  pub at_end : finish from ≡ None
  pub no_other : due_of from ≡ due.Other
  pub begins : (token : Tok) → is k token ≡ true → next from token ≡ Some (want_type inner)

-- A list begins in which a type in square brackets may stand first: what comes behind the opening bracket without the type,
-- and with it.
pub record OpensList (from : State) (inner : AroundType) (typed : TypeTree → State) (bare : State) (begun : TypeTree → State) : Type 0 where
  pub begins : BeginsType kind.LeftBracket from inner
  pub closes : ClosesType inner typed
  pub without : (token : Tok) → is kind.LeftBracket token ≡ false → next from token ≡ on (is kind.LeftParen token) bare
  pub typed_end : (ty : TypeTree) → finish (typed ty) ≡ None
  pub typed_due : (ty : TypeTree) → due_of (typed ty) ≡ due.Other
  pub with_type : (ty : TypeTree) (token : Tok) → next (typed ty) token ≡ on (is kind.LeftParen token) (begun ty)

-- where a type may be left out: what comes of it
abbrev pub optional_state : State → (TypeTree → State) → Option TypeTree → State
optional_state from to None = from
optional_state from to (Some ty) = to ty
