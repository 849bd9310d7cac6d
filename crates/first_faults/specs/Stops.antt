-- Where the machine stops, and with which fault: it stops at the first token that leads nowhere.
use Rattle.std.specs.Prelude.{ℕ, Bool, true, false, not, ◌&&◌, ◌||◌, if◌then◌else◌, nat_le, List, [], ◌∷◌, ◌++◌, Option, Some, None, codes}
use Rattle.slang_lexer.specs.declared.token.TokenKind.TheVariants as kind
use Rattle.slang_lexer.specs.Statement.{is_left_out}
use Rattle.slang_tree.specs.declared.place.Place.{Place}
use Rattle.slang_tree.specs.declared.place.Fault.{Fault}
use Rattle.slang_tree.specs.DeclTree.{DeclTree}
use Rattle.slang_tokens.specs.declared.read.TokensEnd.{TokensEnd}
use Rattle.slang_tokens.specs.declared.read.TokensEnd.TheVariants as tokens_end
use Rattle.slang_tokens.specs.Tok.{Tok, sign}
use Rattle.slang_grammar.specs.Parts.{number_token}
use Rattle.slang_grammar.specs.Faults.{is_word, ends_with_at, last_place, open_braces, told_bad}
use Rattle.slang_machine.specs.States.{State}
use Rattle.slang_machine.specs.Expressions.{is}
use Rattle.slang_machine.specs.Machine.{next, finish}

abbrev pub has_some : {A : Type 0} → Option A → Bool
has_some None = false
has_some (Some x) = true

-- the state takes this token
abbrev pub takes : State → Tok → Bool
takes state token = has_some (next state token)

abbrev pub is_large_label : State → Tok → Bool
is_large_label state token = is kind.Number token && takes state (number_token (codes "0") token.place)

abbrev pub is_invariant_due : State → Tok → Bool
is_invariant_due state token = takes state (sign kind.Invariant token.place)

-- a form that the language leaves out, behind those tokens
abbrev pub is_left_out_at : State → List Tok → Tok → Bool
is_left_out_at state front token =
    is_left_out token.kind || (is kind.Class token || (ends_with_at front || ((is kind.If token && takes state (sign kind.Bang token.place))
    || (is kind.Return token && nat_le 2 (open_braces front)))))

-- the code of a token that the state does not take
abbrev pub code_at : State → List Tok → Tok → ℕ
code_at state front token =
    if is_large_label state token then 3 else (if is_invariant_due state token then 13 else (if is_left_out_at state front token then 14 else 4))

-- the fault there, which is at an `@` that no word follows
abbrev pub fault_at : State → List Tok → Tok → Fault
fault_at state front token =
    if ends_with_at front && not (is_word token.kind) then record { code = 4; place = last_place front token.place }
    else record { code = code_at state front token; place = token.place }

-- where the tokens end
abbrev pub fault_at_end : State → List Tok → TokensEnd → Option Fault
fault_at_end state front (tokens_end.End place) = if has_some (finish state) then None else Some (fault_at state front (sign kind.End place))
fault_at_end state front (tokens_end.Fault bad) = Some (told_bad front bad)

-- what a token leads to, or the fault where it leads nowhere
abbrev pub step_or_stop : State → List Tok → Tok → (State → Option Fault) → Option State → Option Fault
step_or_stop state front token more (Some state') = more state'
step_or_stop state front token more None = Some (fault_at state front token)

-- the fault of these tokens, which end so, behind that front, from the state that the front leads to
abbrev pub stop : State → List Tok → List Tok → TokensEnd → Option Fault
stop state front [] end = fault_at_end state front end
stop state front (token ∷ rest) end = step_or_stop state front token (λ state'. stop state' (front ++ token ∷ []) rest end) (next state token)
