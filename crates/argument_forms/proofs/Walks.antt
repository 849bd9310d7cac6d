-- Walks over tokens, one after the other.
use Rattle.std.proofs.Common.{◌≡◌, ◌<◌, ◌+◌, ℕ, List, [], ◌∷◌, ◌++◌, take, drop, length, get_or, Option, Some, None, refl, sym, ap, ◌∙◌}
use Rattle.std.proofs.lemmas.List.{take_more, take-append-drop, map-append}
use Rattle.slang_lexer.specs.declared.token.TokenKind.TheVariants as kind
use Rattle.slang_tokens.specs.Tok.{Tok, tok, toks}
use Rattle.slang_tokens.specs.declared.lexeme.Lexeme.{Lexeme}
use Rattle.argument_forms.specs.declared.states.State.{State}
use Rattle.argument_forms.specs.Machine.{step, walk}

pub walk_append : (state : Option State) (front more : List Tok) → walk state (front ++ more) ≡ walk (walk state front) more
walk_append state [] more = refl
walk_append state (token ∷ tokens) more = walk_append (step state token) tokens more

pub walk_none : (tokens : List Tok) → walk None tokens ≡ None
walk_none [] = refl
walk_none (token ∷ tokens) = walk_none tokens

-- one token more
walk_more : (state : Option State) (tokens : List Lexeme) (i : ℕ) (d : Lexeme) → i < length tokens
    → walk state (toks (take (i + 1) tokens)) ≡ step (walk state (toks (take i tokens))) (tok (get_or tokens i d))
walk_more state tokens i d inside =
    ap (λ (ts : List Lexeme). walk state (toks ts)) (take_more tokens i d inside)
    ∙ ap (walk state) (map-append tok (take i tokens) (get_or tokens i d ∷ []))
    ∙ walk_append state (toks (take i tokens)) (tok (get_or tokens i d) ∷ [])

-- behind a front that leads nowhere
pub walk_stops : (state : Option State) (tokens : List Lexeme) (i : ℕ) → walk state (toks (take i tokens)) ≡ None → walk state (toks tokens) ≡ None
walk_stops state tokens i none =
    ap (λ (ts : List Lexeme). walk state (toks ts)) (sym (take-append-drop i tokens))
    ∙ ap (walk state) (map-append tok (take i tokens) (drop i tokens))
    ∙ walk_append state (toks (take i tokens)) (toks (drop i tokens))
    ∙ ap (λ (s : Option State). walk s (toks (drop i tokens))) none ∙ walk_none (toks (drop i tokens))

abbrev no_lexeme : Lexeme
no_lexeme = record { kind = kind.End; text = record { ref_ptr = (0, 0); now = [] }; place = record { line = 0; col = 0 } }

-- behind the next token
pub walk_on : (state : Option State) (tokens : List Lexeme) (i : ℕ) (here : State) (there : Option State) → i < length tokens
    → walk state (toks (take i tokens)) ≡ Some here → there ≡ step (Some here) (tok (get_or tokens i no_lexeme))
    → walk state (toks (take (i + 1) tokens)) ≡ there
walk_on state tokens i here there inside walked is =
    walk_more state tokens i no_lexeme inside ∙ ap (λ (s : Option State). step s (tok (get_or tokens i no_lexeme))) walked ∙ sym is
