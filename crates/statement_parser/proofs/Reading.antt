-- Tokens that may come, and parts that are read.
use Rattle.std.proofs.Common.{◌≡◌, Bool, true, false, not, cond, List, [], ◌∷◌, Some, None, Result, Ok, Err, refl, sym, ap, ◌∙◌}
use Rattle.std.specs.Prelude.{IfOk, OnOk, IsTrue}
use Rattle.std.specs.Option.{option_map}
use Rattle.slang_lexer.specs.declared.token.TokenKind.{TokenKind}
use Rattle.slang_lexer.specs.declared.token.TokenKind.TheVariants as kind
use Rattle.slang_tree.specs.declared.statement.Label.{Label}
use Rattle.slang_tokens.specs.Tok.{Tok}
use Rattle.slang_machine.specs.States.{State}
use Rattle.slang_machine.specs.Expressions.{is, on}
use Rattle.slang_machine.specs.Statements.{label_of}
use Rattle.slang_machine.specs.Machine.{next, finish}
use Rattle.token_cursor.specs.declared.stop.Due.TheVariants as due
use Rattle.token_cursor.specs.declared.stop.Stop.{Stop}
use Rattle.token_cursor.specs.Outcome.{outcome, stuck, due_of}
use Rattle.token_cursor.specs.Lists.{begins, behind}
use Rattle.token_cursor.proofs.Steps.{goes, stays, ends, alike}
use Rattle.statement_parser.specs.Expects.{ExpectsLabel, NoEnd}

-- a token of this kind, which leads there, comes next
pub takes_it : (k : TokenKind) (from to : State) (tokens : List Tok) → begins k tokens ≡ true → ((token : Tok) → is k token ≡ true → next from token ≡ Some to)
    → outcome from tokens ≡ outcome to (behind tokens)
takes_it k from to [] h f = absurd (cc)
takes_it k from to (token ∷ rest) h f = goes from to token rest (token ∷ rest) refl (f token h)

-- none comes next, and so it goes on as from another state
pub passes_by : (k : TokenKind) (from from' : State) (tokens : List Tok) → begins k tokens ≡ false → finish from ≡ finish from' → due_of from ≡ due_of from'
    → ((token : Tok) → is k token ≡ false → next from token ≡ next from' token) → outcome from tokens ≡ outcome from' tokens
passes_by k from from' tokens h f d g = alike from from' tokens f d (λ token rest e. g token (sym (ap (begins k) e) ∙ h))

-- one is due, and none comes next
pub misses : (k : TokenKind) (from to : State) (tokens : List Tok) → begins k tokens ≡ false → finish from ≡ None → ((token : Tok) → next from token ≡ on (is k token) to)
    → outcome from tokens ≡ stuck tokens (due_of from)
misses k from to [] h f g = ends from [] refl f
misses k from to (token ∷ rest) h f g = stays from token rest (token ∷ rest) refl (g token ∙ ap (λ b. on b to) h)

-- a label leads on
pub label_leads : (from : State) (to : Label → State) (label : Label) (token : Tok) (rest tokens : List Tok) → ExpectsLabel tokens from to → tokens ≡ token ∷ rest
    → Some label ≡ label_of token → outcome from tokens ≡ outcome (to label) rest
label_leads from to label token rest tokens x e h = goes from (to label) token rest tokens e (x.step token rest e ∙ ap (λ o. option_map to o) (sym h))

pub no_label : (from : State) (to : Label → State) (token : Tok) (rest tokens : List Tok) → ExpectsLabel tokens from to → tokens ≡ token ∷ rest → None ≡ label_of token
    → outcome from tokens ≡ stuck tokens due.Label
no_label from to token rest tokens x e h = stays from token rest tokens e (x.step token rest e ∙ ap (λ o. option_map to o) (sym h)) ∙ ap (stuck tokens) x.label

pub nothing_labels : (from : State) (to : Label → State) (tokens : List Tok) → ExpectsLabel tokens from to → tokens ≡ [] → outcome from tokens ≡ stuck tokens due.Label
nothing_labels from to tokens x e = ends from tokens e x.at_end ∙ ap (stuck tokens) x.label

-- what holds of a part, with what holds behind it
pub with_end : {A : Type 0} (r : Result A Stop) (P : A → Type 0) (S : Type 0) → IfOk r P → OnOk r S → IfOk r (λ x. P x × S)
with_end (Ok x) P S h s = (h, s)
with_end (Err stop) P S h s = tt

pub no_end : {A : Type 0} (list : List A) (tokens : List Tok) → begins kind.RightParen tokens ≡ false → NoEnd list tokens
no_end [] tokens h = tt
no_end (member ∷ list) tokens h = h

-- a closing bracket was looked for, and did not come
pub not_taken : (k : TokenKind) (tokens tokens' : List Tok) (taken : Bool) → taken ≡ begins k tokens → tokens' ≡ cond taken (behind tokens) tokens → IsTrue (not taken)
    → begins k tokens' ≡ false
not_taken k tokens tokens' true t m h = absurd (cc)
not_taken k tokens tokens' false t m h = ap (begins k) m ∙ sym t

pub ok_same : {A : Type 0} (a b : A) (r : Result A Stop) → r ≡ Ok a → r ≡ Ok b → a ≡ b
ok_same a b r e f = cc
