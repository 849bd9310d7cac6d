-- What the functions of the parser answer, in words of the machine that reads a text token by token.
use Rattle.std.specs.Prelude.{◌≡◌, List, ◌∷◌, None, ⊤}
use Rattle.slang_lexer.specs.declared.token.TokenKind.{TokenKind}
use Rattle.slang_tree.specs.declared.expression.Name.{Name}
use Rattle.slang_tokens.specs.Tok.{Tok, toks}
use Rattle.slang_machine.specs.States.{State}
use Rattle.slang_machine.specs.Expressions.{is, is_name, name_of, on}
use Rattle.slang_machine.specs.Machine.{next, finish}
use Rattle.token_cursor.specs.declared.stop.Due.{Due}
use Rattle.token_cursor.specs.declared.stop.Due.TheVariants as due
use Rattle.token_cursor.specs.declared.stop.Stop.{Stop}
use Rattle.token_cursor.specs.declared.stop.Stop.TheVariants.{Refused, NoMemory}
use Rattle.token_cursor.specs.declared.cursor.Cursor.{Cursor}
use Rattle.token_cursor.specs.Outcome.{outcome, stuck, due_of}

-- the tokens that are still to be read
abbrev pub ahead : Cursor → List Tok
ahead cursor = toks cursor.rest.now

-- a fact of a refusal, and of what may come there
abbrev pub IfRefused : Stop → (Due → Type 0) → Type 0
IfRefused (Refused due) P = P due
IfRefused NoMemory P = ⊤

-- from this state the tokens of the old cursor are read as those of the new one are from that state
abbrev pub Moves : Cursor → State → Cursor → State → Type 0
Moves old from new to = outcome from (ahead old) ≡ outcome to (ahead new)

-- from this state the tokens of the old cursor get no further than to where the new one stands, where this may come
abbrev pub Refuses : Cursor → State → Cursor → Due → Type 0
Refuses old from new due = outcome from (ahead old) ≡ stuck (ahead new) due

-- before these tokens one of this kind is due and nothing else, and it leads there
pub record Expects (k : TokenKind) (tokens : List Tok) (from to : State) : Type 0 where
  pub at_end : finish from ≡ None
  pub no_other : due_of from ≡ due.Other
  pub step : (token : Tok) (rest : List Tok) → tokens ≡ token ∷ rest → next from token ≡ on (is k token) to

-- before these tokens a name is due and nothing else, and it leads to a state of its own
pub record ExpectsName (tokens : List Tok) (from : State) (to : Name → State) : Type 0 where
  pub at_end : finish from ≡ None
  pub no_other : due_of from ≡ due.Other
  pub step : (token : Tok) (rest : List Tok) → tokens ≡ token ∷ rest → next from token ≡ on (is_name token) (to (name_of token))
