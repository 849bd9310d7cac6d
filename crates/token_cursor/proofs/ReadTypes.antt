-- How the machine reads types.
use denote.Enum.Bare.{same_true}
use Rattle.std.proofs.Common.{◌≡◌, ℕ, true, false, List, ◌∷◌, Option, Some, None, refl, sym, ap, ◌∙◌, cond}
use Rattle.slang_lexer.specs.contracts.token.TokenKind.{the_type}
use Rattle.slang_lexer.specs.declared.token.TokenKind.{TokenKind}
use Rattle.slang_lexer.specs.declared.token.TokenKind.TheVariants as kind
use Rattle.slang_tree.specs.declared.place.Place.{Place}
use Rattle.slang_tree.specs.TypeTree.{TypeTree, sequence_name}
use Rattle.slang_tokens.specs.Tok.{Tok}
use Rattle.slang_machine.specs.Open.{AroundType, sequence_of}
use Rattle.slang_machine.specs.States.{State, want_type, type_left, have_type}
use Rattle.slang_machine.specs.Expressions.{is, on, type_of}
use Rattle.slang_machine.specs.Declarations.{begin_type, end_type}
use Rattle.slang_machine.specs.Machine.{next}
use Rattle.token_cursor.specs.declared.stop.Due.TheVariants as due
use Rattle.token_cursor.specs.Outcome.{outcome, stuck}
use Rattle.token_cursor.specs.Lists.{begins}
use Rattle.token_cursor.specs.Types.{ClosesType, BeginsType}
use Rattle.token_cursor.specs.Gives.{Expects}
use Rattle.token_cursor.proofs.Steps.{goes, stays, ends, expects}

-- `ISZ` is no type by itself
isz_no_type : (token : Tok) → is kind.TypeIsz token ≡ true → type_of token ≡ None
isz_no_type token h =
    let f : TokenKind → Option TypeTree = λ k. type_of (record { kind = k; text = token.text; place = token.place }) in
    ap f (same_true the_type tt token.kind kind.TypeIsz h)

pub isz_begins : (around : AroundType) (token : Tok) (rest tokens : List Tok) → tokens ≡ token ∷ rest → is kind.TypeIsz token ≡ true
    → outcome (want_type around) tokens ≡ outcome (type_left token.place around) rest
isz_begins around token rest tokens e h =
    goes (want_type around) (type_left token.place around) token rest tokens e
    (ap (begin_type around token) (isz_no_type token h) ∙ ap (λ b. on b (type_left token.place around)) h)

pub type_begins : (around : AroundType) (ty : TypeTree) (token : Tok) (rest tokens : List Tok) → tokens ≡ token ∷ rest → type_of token ≡ Some ty
    → outcome (want_type around) tokens ≡ outcome (end_type ty around) rest
type_begins around ty token rest tokens e h = goes (want_type around) (end_type ty around) token rest tokens e (ap (begin_type around token) h)

pub no_type_begins : (around : AroundType) (token : Tok) (rest tokens : List Tok) → tokens ≡ token ∷ rest → is kind.TypeIsz token ≡ false → type_of token ≡ None
    → outcome (want_type around) tokens ≡ stuck tokens due.Other
no_type_begins around token rest tokens e i h =
    stays (want_type around) token rest tokens e (ap (begin_type around token) h ∙ ap (λ b. on b (type_left token.place around)) i)

pub element_due : (tokens : List Tok) (place : Place) (around : AroundType) → Expects kind.LeftBracket tokens (type_left place around) (want_type (sequence_of place around))
element_due tokens place around = expects kind.LeftBracket _ _ refl refl (λ token. refl)

pub element_closes : (place : Place) (around : AroundType) → ClosesType (sequence_of place around) (λ ty. end_type (sequence_name place ty) around)
element_closes place around = record { read = λ ty. refl; closed = λ ty. refl }

-- behind a type in brackets its bracket is due
pub bracket_due : (tokens : List Tok) (ty : TypeTree) (inner : AroundType) (to : TypeTree → State) → ClosesType inner to
    → Expects kind.RightBracket tokens (have_type ty inner) (to ty)
bracket_due tokens ty inner to c =
    expects kind.RightBracket _ _ refl refl (λ token. ap (λ o. cond (is kind.RightBracket token) o None) (c.closed ty))

-- where a type may be left out, it is due once its first token is there
pub type_due : (k : TokenKind) (tokens : List Tok) (from : State) (inner : AroundType) → BeginsType k from inner → begins k tokens ≡ true
    → Expects k tokens from (want_type inner)
type_due k tokens from inner b there = record {
  at_end = b.at_end;
  no_other = b.no_other;
  step = λ token rest e.
      let h : is k token ≡ true = sym (ap (begins k) e) ∙ there in
      b.begins token h ∙ ap (λ t. on t (want_type inner)) (sym h);
}
