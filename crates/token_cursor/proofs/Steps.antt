-- Steps of the machine.
use denote.Enum.Bare.{same_true}
use Rattle.std.proofs.Common.{◌≡◌, Bool, true, false, cond, List, [], ◌∷◌, Option, Some, None, refl, ap, ◌∙◌, sym, length, ◌<◌, ◌≤◌, ◌+◌, arith, suc, add-one}
use Rattle.slang_lexer.specs.contracts.token.TokenKind.{the_type}
use Rattle.slang_lexer.specs.declared.token.TokenKind.{TokenKind}
use Rattle.slang_tree.specs.declared.expression.Name.{Name}
use Rattle.slang_tokens.specs.Tok.{Tok, same_kind}
use Rattle.slang_machine.specs.States.{State}
use Rattle.slang_machine.specs.Expressions.{is, is_name, name_of, on}
use Rattle.slang_machine.specs.Machine.{next, finish}
use Rattle.token_cursor.specs.declared.stop.Due.{Due}
use Rattle.token_cursor.specs.declared.stop.Due.TheVariants as due
use Rattle.token_cursor.specs.Outcome.{Outcome, outcome, stuck, stepped, ended, due_of}
use Rattle.token_cursor.specs.Gives.{Expects, ExpectsName}
use Rattle.token_cursor.specs.Lists.{begins, behind}

-- a token is of one kind
pub one_kind : (a b : TokenKind) (token : Tok) → same_kind a b ≡ false → is a token ≡ true → is b token ≡ false
one_kind a b token other h = ap (λ k. same_kind k b) (same_true the_type tt token.kind a h) ∙ other

pub goes : (from to : State) (token : Tok) (rest tokens : List Tok) → tokens ≡ token ∷ rest → next from token ≡ Some to → outcome from tokens ≡ outcome to rest
goes from to token rest tokens e h = ap (outcome from) e ∙ ap (stepped (λ s. outcome s rest) (stuck (token ∷ rest) (due_of from))) h

pub stays : (from : State) (token : Tok) (rest tokens : List Tok) → tokens ≡ token ∷ rest → next from token ≡ None → outcome from tokens ≡ stuck tokens (due_of from)
stays from token rest tokens e h =
    ap (outcome from) e ∙ ap (stepped (λ s. outcome s rest) (stuck (token ∷ rest) (due_of from))) h ∙ ap (λ ts. stuck ts (due_of from)) (sym e)

pub ends : (from : State) (tokens : List Tok) → tokens ≡ [] → finish from ≡ None → outcome from tokens ≡ stuck tokens (due_of from)
ends from tokens e h = ap (outcome from) e ∙ ap (ended from) h ∙ ap (λ ts. stuck ts (due_of from)) (sym e)

-- two states that step alike and are due the same come to the same
pub alike : (from from' : State) (tokens : List Tok) → finish from ≡ finish from' → due_of from ≡ due_of from'
    → ((token : Tok) (rest : List Tok) → tokens ≡ token ∷ rest → next from token ≡ next from' token) → outcome from tokens ≡ outcome from' tokens
alike from from' [] f d h = ap (λ o. ended from o) f ∙ by_end (finish from') where
  by_end : (o : Option _) → ended from o ≡ ended from' o
  by_end (Some file) = refl
  by_end None = ap (stuck []) d
alike from from' (token ∷ rest) f d h =
    ap (stepped (λ s. outcome s rest) (stuck (token ∷ rest) (due_of from))) (h token rest refl)
    ∙ ap (λ o. stepped (λ s. outcome s rest) (stuck (token ∷ rest) o) (next from' token)) d

-- A token of one kind is due.

pub found : (k : TokenKind) (from to : State) (tokens : List Tok) → Expects k tokens from to → begins k tokens ≡ true → outcome from tokens ≡ outcome to (behind tokens)
found k from to [] x h = absurd (cc)
found k from to (token ∷ rest) x h = goes from to token rest (token ∷ rest) refl (x.step token rest refl ∙ ap (λ b. on b to) h)

pub missed : (k : TokenKind) (from to : State) (tokens : List Tok) → Expects k tokens from to → begins k tokens ≡ false → outcome from tokens ≡ stuck tokens due.Other
missed k from to [] x h = ends from [] refl x.at_end ∙ ap (stuck []) x.no_other
missed k from to (token ∷ rest) x h =
    stays from token rest (token ∷ rest) refl (x.step token rest refl ∙ ap (λ b. on b to) h) ∙ ap (stuck (token ∷ rest)) x.no_other

-- a state in which a token of one kind is due, whatever comes
pub expects : {tokens : List Tok} (k : TokenKind) (from to : State) → finish from ≡ None → due_of from ≡ due.Other
    → ((token : Tok) → next from token ≡ on (is k token) to) → Expects k tokens from to
expects k from to e d h = record { at_end = e; no_other = d; step = λ token rest _. h token }

-- A name is due.

pub named : (from : State) (to : Name → State) (token : Tok) (rest tokens : List Tok) → ExpectsName tokens from to → tokens ≡ token ∷ rest → is_name token ≡ true
    → outcome from tokens ≡ outcome (to (name_of token)) rest
named from to token rest tokens x e h = goes from (to (name_of token)) token rest tokens e (x.step token rest e ∙ ap (λ b. on b (to (name_of token))) h)

pub unnamed : (from : State) (to : Name → State) (token : Tok) (rest tokens : List Tok) → ExpectsName tokens from to → tokens ≡ token ∷ rest → is_name token ≡ false
    → outcome from tokens ≡ stuck tokens due.Other
unnamed from to token rest tokens x e h =
    stays from token rest tokens e (x.step token rest e ∙ ap (λ b. on b (to (name_of token))) h) ∙ ap (stuck tokens) x.no_other

pub nothing_named : (from : State) (to : Name → State) (tokens : List Tok) → ExpectsName tokens from to → tokens ≡ [] → outcome from tokens ≡ stuck tokens due.Other
nothing_named from to tokens x e = ends from tokens e x.at_end ∙ ap (stuck tokens) x.no_other

pub expects_name : {tokens : List Tok} (from : State) (to : Name → State) → finish from ≡ None → due_of from ≡ due.Other
    → ((token : Tok) → next from token ≡ on (is_name token) (to (name_of token))) → ExpectsName tokens from to
expects_name from to e d h = record { at_end = e; no_other = d; step = λ token rest _. h token }

-- Lengths.

pub behind_shorter : (k : TokenKind) (tokens : List Tok) → begins k tokens ≡ true → length (behind tokens) < length tokens
behind_shorter k [] h = absurd (cc)
behind_shorter k (token ∷ rest) h = omega arith

pub first_shorter : (token : Tok) (rest tokens : List Tok) → tokens ≡ token ∷ rest → length rest < length tokens
first_shorter token rest tokens e = rw e (omega arith)
