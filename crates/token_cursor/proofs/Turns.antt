-- How the machine takes the turns of a list.
use Rattle.std.proofs.Common.{◌≡◌, Bool, true, false, cond, List, [], ◌∷◌, Some, None, refl, sym, ap, ◌∙◌}
use Rattle.slang_lexer.specs.declared.token.TokenKind.{TokenKind}
use Rattle.slang_tokens.specs.Tok.{Tok, same_kind}
use Rattle.slang_machine.specs.States.{State}
use Rattle.slang_machine.specs.Expressions.{is, on}
use Rattle.slang_machine.specs.Machine.{next, finish}
use Rattle.token_cursor.specs.declared.stop.Due.TheVariants as due
use Rattle.token_cursor.specs.Outcome.{outcome, stuck, due_of}
use Rattle.token_cursor.specs.Lists.{begins, member_or_end, member_end}
use Rattle.token_cursor.proofs.Steps.{goes, stays, ends, alike}

-- Where a member or the end may come: the state of a list that tells its end by the closing bracket, and is otherwise that of a
-- member.
pub or_end : (closing : TokenKind) (either member over : State) (tokens : List Tok) → finish either ≡ finish member → due_of either ≡ due_of member
    → ((token : Tok) → is closing token ≡ true → next either token ≡ Some over)
    → ((token : Tok) → is closing token ≡ false → next either token ≡ next member token)
    → outcome either tokens ≡ member_or_end closing member over tokens
or_end closing either member over [] f d closes begins_it = alike either member [] f d (λ token rest e. absurd (cc))
or_end closing either member over (token ∷ rest) f d closes begins_it = by_test (is closing token) refl where
  by_test : (b : Bool) → is closing token ≡ b → outcome either (token ∷ rest) ≡ cond b (outcome over rest) (outcome member (token ∷ rest))
  by_test true h = goes either over token rest (token ∷ rest) refl (closes token h)
  by_test false h = alike either member (token ∷ rest) f d (λ t ts e. begins_it t (sym (ap (begins closing) e) ∙ h))

-- Behind a member, where the separator or the closing bracket comes.
pub end_by : (separator closing : TokenKind) (end either member over : State) (tokens : List Tok) → same_kind separator closing ≡ false
    → finish end ≡ None → due_of end ≡ due.Other
    → ((token : Tok) (rest : List Tok) → tokens ≡ token ∷ rest → is separator token ≡ true → next end token ≡ Some either)
    → ((token : Tok) (rest : List Tok) → tokens ≡ token ∷ rest → is separator token ≡ false → next end token ≡ on (is closing token) over)
    → ((rest : List Tok) → outcome either rest ≡ member_or_end closing member over rest)
    → outcome end tokens ≡ member_end separator closing member over tokens
end_by separator closing end either member over [] other f d parts closes first = ends end [] refl f ∙ ap (stuck []) d
end_by separator closing end either member over (token ∷ rest) other f d parts closes first = by_test (is separator token) refl where
  by_closing : (b : Bool) → is closing token ≡ b → is separator token ≡ false → outcome end (token ∷ rest) ≡ cond b (outcome over rest) (stuck (token ∷ rest) due.Other)
  by_closing true h s = goes end over token rest (token ∷ rest) refl (closes token rest refl s ∙ ap (λ b. on b over) h)
  by_closing false h s = stays end token rest (token ∷ rest) refl (closes token rest refl s ∙ ap (λ b. on b over) h) ∙ ap (stuck (token ∷ rest)) d

  by_test : (b : Bool) → is separator token ≡ b
      → outcome end (token ∷ rest) ≡ cond b (member_or_end closing member over rest) (cond (is closing token) (outcome over rest) (stuck (token ∷ rest) due.Other))
  by_test true h = goes end either token rest (token ∷ rest) refl (parts token rest refl h) ∙ first rest
  by_test false h = by_closing (is closing token) refl h
