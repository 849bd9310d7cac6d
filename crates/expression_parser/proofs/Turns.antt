-- How the machine takes the turns of a list of expressions.
use Rattle.std.proofs.Common.{◌≡◌, Bool, true, false, not, cond, List, [], ◌∷◌, ◌++◌, map, length, ◌≤◌, Some, None, refl, sym, ap, ◌∙◌, arith}
use Rattle.std.proofs.lemmas.List.{map-append}
use Rattle.slang_lexer.specs.declared.token.TokenKind.{TokenKind}
use Rattle.slang_lexer.specs.declared.token.TokenKind.TheVariants as kind
use Rattle.slang_tree.specs.ExprTree.{ExprTree}
use Rattle.slang_tokens.specs.Tok.{Tok}
use Rattle.slang_machine.specs.Open.{Around}
use Rattle.slang_machine.specs.States.{State, whole, want, have}
use Rattle.slang_machine.specs.Expressions.{is, on, next_want}
use Rattle.token_cursor.specs.Outcome.{outcome}
use Rattle.token_cursor.specs.Lists.{begins, behind, member_or_end, member_end}
use Rattle.expression_parser.specs.Below.{StopsBefore}
use Rattle.expression_parser.specs.Expects.{ExprList, IsExprList}
use Rattle.token_cursor.proofs.Steps.{one_kind}
use Rattle.token_cursor.proofs.Turns.{or_end, end_by}
use Rattle.expression_parser.proofs.Haves.{whole_next}

-- Lists of expressions.

pub expr_or_end : (list : ExprList) (so_far : List ExprTree) (tokens : List Tok) → IsExprList list so_far
    → outcome (list.member_or_end so_far) tokens ≡ member_or_end kind.RightParen (want (list.member so_far)) (list.over so_far) tokens
expr_or_end list so_far tokens l =
    let over : State = list.over so_far in
    let at : Around = list.member so_far in
    or_end kind.RightParen (list.member_or_end so_far) (want at) over tokens l.at_end l.operand
    (λ token h. l.next_member token ∙ ap (λ b. cond b (Some over) (next_want at token)) h)
    (λ token h. l.next_member token ∙ ap (λ b. cond b (Some over) (next_want at token)) h)

pub expr_end : (list : ExprList) (so_far : List ExprTree) (expr : ExprTree) (tokens : List Tok) → IsExprList list so_far → IsExprList list (so_far ++ expr ∷ []) → StopsBefore 0 tokens
    → outcome (have (whole expr) (list.member so_far)) tokens
    ≡ member_end kind.Comma kind.RightParen (want (list.member (so_far ++ expr ∷ []))) (list.over (so_far ++ expr ∷ [])) tokens
expr_end list so_far expr tokens l l' s =
    let next_far : List ExprTree = so_far ++ expr ∷ [] in
    let over : State = list.over next_far in
    let either : State = list.member_or_end next_far in
    end_by kind.Comma kind.RightParen (have (whole expr) (list.member so_far)) either (want (list.member next_far)) over tokens refl refl refl
    (λ token rest e h.
    whole_next expr (list.member so_far) token rest tokens l.begins.apart e s ∙ l.behind expr token
    ∙ ap (λ b. cond b (Some over) (on (is kind.Comma token) either)) (one_kind kind.Comma kind.RightParen token refl h)
    ∙ ap (λ b. on b either) h)
    (λ token rest e h.
    whole_next expr (list.member so_far) token rest tokens l.begins.apart e s ∙ l.behind expr token
    ∙ ap (λ b. cond (is kind.RightParen token) (Some over) (on b either)) h)
    (λ rest. expr_or_end list next_far rest l')

-- where a list begins: a closing bracket was looked for, and taken if it came
pub list_start : (closing : TokenKind) (either member over : State) (tokens tokens' : List Tok) (taken : Bool)
    → outcome either tokens ≡ member_or_end closing member over tokens → taken ≡ begins closing tokens → tokens' ≡ cond taken (behind tokens) tokens
    → outcome either tokens ≡ outcome (cond (not taken) member over) tokens'
list_start closing either member over tokens tokens' true e t m =
    e ∙ ap (λ b. cond b (outcome over (behind tokens)) (outcome member tokens)) (sym t) ∙ ap (outcome over) (sym m)
list_start closing either member over tokens tokens' false e t m =
    e ∙ ap (λ b. cond b (outcome over (behind tokens)) (outcome member tokens)) (sym t) ∙ ap (outcome member) (sym m)

pub not_false : (b : Bool) → not b ≡ false → b ≡ true
not_false true h = refl
not_false false h = absurd (cc)

-- a member more
pub map_push : {A B : Type 0} (f : A → B) (list more : List A) (member : A) → more ≡ list ++ member ∷ [] → map f more ≡ map f list ++ f member ∷ []
map_push f list more member e = ap (map f) e ∙ map-append f list (member ∷ [])

pub behind_no_longer : (tokens : List Tok) → length (behind tokens) ≤ length tokens
behind_no_longer [] = omega arith
behind_no_longer (token ∷ rest) = omega arith
