-- How the machine takes the turns of a list of constants.
use denote.Enum.Bare.{same_true}
use Rattle.std.proofs.Common.{◌≡◌, Bool, true, false, cond, List, [], ◌∷◌, ◌++◌, Option, Some, None, refl, sym, ap, ◌∙◌}
use Rattle.std.specs.Prelude.{IsTrue}
use Rattle.std.specs.Option.{option_map}
use Rattle.slang_lexer.specs.contracts.token.TokenKind.{the_type}
use Rattle.slang_lexer.specs.declared.token.TokenKind.{TokenKind}
use Rattle.slang_lexer.specs.declared.token.TokenKind.TheVariants as kind
use Rattle.slang_tree.specs.DeclTree.{ConstTree}
use Rattle.slang_tokens.specs.Tok.{Tok}
use Rattle.slang_machine.specs.Open.{Consts}
use Rattle.slang_machine.specs.States.{State, want_const, const_or_end, have_const}
use Rattle.slang_machine.specs.Expressions.{is, is_name, is_number_token, on}
use Rattle.slang_machine.specs.Declarations.{begin_const, close_consts, with_const}
use Rattle.token_cursor.specs.declared.stop.Due.TheVariants as due
use Rattle.token_cursor.specs.Outcome.{outcome, stuck}
use Rattle.token_cursor.specs.Lists.{begins, behind, member_or_end, member_end}
use Rattle.token_cursor.proofs.Steps.{one_kind, stays}
use Rattle.token_cursor.proofs.Turns.{or_end, end_by}
use Rattle.expression_parser.proofs.Beginnings.{split}
use Rattle.constant_parser.specs.declared.constants.ConstHead.{ConstHead}
use Rattle.constant_parser.specs.Constants.{ReadsConsts, const_head_of, behind_const_head}

pub want_const_begin : (around : Consts) (token : Tok) → begin_const around token ≡ option_map (behind_const_head around token) (const_head_of token)
want_const_begin around token =
    let own : Option State → Option State = λ s. s in
    let to : Option ConstHead → Option State = λ h. option_map (behind_const_head around token) h in
    split (is_number_token token) own to _ _ _ _ refl
    (split (is kind.Minus token) own to _ _ _ _ refl
    (split (is kind.True token) own to _ _ _ _ refl
    (split (is kind.False token) own to _ _ _ _ refl
    (split (is kind.TypeIsz token) own to _ _ _ _ refl
    (split (is_name token) own to _ _ _ _ refl refl)))))

pub const_or_end_turn : (at : List ConstTree → Consts) (over : List ConstTree → State) (so_far : List ConstTree) (tokens : List Tok) → ReadsConsts at over
    → outcome (const_or_end (at so_far)) tokens ≡ member_or_end kind.RightParen (want_const (at so_far)) (over so_far) tokens
const_or_end_turn at over so_far tokens l =
    or_end kind.RightParen (const_or_end (at so_far)) (want_const (at so_far)) (over so_far) tokens refl refl
    (λ token h. ap (λ b. cond b (close_consts (at so_far)) (begin_const (at so_far) token)) h ∙ l.closed so_far)
    (λ token h. ap (λ b. cond b (close_consts (at so_far)) (begin_const (at so_far) token)) h)

pub const_end : (at : List ConstTree → Consts) (over : List ConstTree → State) (so_far : List ConstTree) (const : ConstTree) (tokens : List Tok) → ReadsConsts at over
    → outcome (have_const const (at so_far)) tokens
    ≡ member_end kind.Comma kind.RightParen (want_const (at (so_far ++ const ∷ []))) (over (so_far ++ const ∷ [])) tokens
const_end at over so_far const tokens l =
    let next_far : List ConstTree = so_far ++ const ∷ [] in
    let grown : Consts = with_const const (at so_far) in
    end_by kind.Comma kind.RightParen (have_const const (at so_far)) (const_or_end (at next_far)) (want_const (at next_far)) (over next_far) tokens refl refl refl
    (λ token rest e h.
    ap (λ b. cond b (close_consts grown) (on (is kind.Comma token) (const_or_end grown))) (one_kind kind.Comma kind.RightParen token refl h)
    ∙ ap (λ b. on b (const_or_end grown)) h ∙ ap (λ x. Some (const_or_end x)) (l.added so_far const))
    (λ token rest e h.
    ap (λ b. cond (is kind.RightParen token) (close_consts grown) (on b (const_or_end grown))) h
    ∙ ap (λ x. cond (is kind.RightParen token) (close_consts x) None) (l.added so_far const)
    ∙ ap (λ x. cond (is kind.RightParen token) x None) (l.closed next_far))
    (λ rest. const_or_end_turn at over next_far rest l)

-- Where some constants may be due.

closing_begins_no_constant : (around : Consts) (token : Tok) → is kind.RightParen token ≡ true → begin_const around token ≡ None
closing_begins_no_constant around token h =
    let f : TokenKind → Option State = λ k. begin_const around (record { kind = k; text = token.text; place = token.place }) in
    ap f (same_true the_type tt token.kind kind.RightParen h)

pub want_const_refuses : (around : Consts) (tokens : List Tok) → begins kind.RightParen tokens ≡ true → outcome (want_const around) tokens ≡ stuck tokens due.Other
want_const_refuses around [] h = absurd (cc)
want_const_refuses around (token ∷ rest) h = stays (want_const around) token rest (token ∷ rest) refl (closing_begins_no_constant around token h)

pub consts_start : (at : List ConstTree → Consts) (over : List ConstTree → State) (some : Bool) (tokens : List Tok) → ReadsConsts at over
    → (IsTrue some → begins kind.RightParen tokens ≡ false)
    → outcome (cond some (want_const (at [])) (const_or_end (at []))) tokens ≡ outcome (const_or_end (at [])) tokens
consts_start at over false tokens l h = refl
consts_start at over true tokens l h =
    sym (const_or_end_turn at over [] tokens l
    ∙ ap (λ b. cond b (outcome (over []) (behind tokens)) (outcome (want_const (at [])) tokens)) (h refl))

pub consts_refused : (at : List ConstTree → Consts) (some : Bool) (tokens : List Tok) → some ≡ true → begins kind.RightParen tokens ≡ true
    → outcome (cond some (want_const (at [])) (const_or_end (at []))) tokens ≡ stuck tokens due.Other
consts_refused at some tokens s h = ap (λ b. outcome (cond b (want_const (at [])) (const_or_end (at []))) tokens) s ∙ want_const_refuses (at []) tokens h
