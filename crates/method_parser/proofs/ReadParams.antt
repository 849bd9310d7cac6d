-- How the machine reads the parameters of methods.
use Rattle.std.proofs.Common.{◌≡◌, false, cond, List, Some, refl, sym, ap, ◌∙◌}
use Rattle.slang_lexer.specs.declared.token.TokenKind.TheVariants as kind
use Rattle.slang_tree.specs.declared.expression.Name.{Name}
use Rattle.slang_tree.specs.DeclTree.{TypedName, DeclTree}
use Rattle.slang_tokens.specs.Tok.{Tok}
use Rattle.slang_machine.specs.Open.{of_param, whole_type}
use Rattle.slang_machine.specs.States.{State, param_colon, param_or_end, param_end, result_colon}
use Rattle.slang_machine.specs.Expressions.{is, is_name, name_of, on}
use Rattle.token_cursor.specs.Outcome.{outcome}
use Rattle.token_cursor.specs.Gives.{ExpectsName}
use Rattle.token_cursor.specs.Lists.{begins, member_or_end, member_end}
use Rattle.token_cursor.proofs.Steps.{expects}
use Rattle.token_cursor.proofs.Turns.{or_end, end_by}
use Rattle.method_parser.specs.Expects.{LeadsToType}

-- Parameters.

pub param_type : (written : Name) (params : List TypedName) (done : List DeclTree)
    → LeadsToType (λ n. param_colon written params n done) (λ n. whole_type (of_param written params n done))
param_type written params done = record { colon = λ n tokens. expects kind.Colon _ _ refl refl (λ token. refl) }

pub param_named : (written : Name) (params : List TypedName) (done : List DeclTree) (tokens : List Tok) → begins kind.RightParen tokens ≡ false
    → ExpectsName tokens (param_or_end written params done) (λ n. param_colon written params n done)
param_named written params done tokens h = record {
  at_end = refl;
  no_other = refl;
  step = λ token rest e.
      ap (λ b. cond b (Some (result_colon written params done)) (on (is_name token) (param_colon written params (name_of token) done))) (sym (ap (begins kind.RightParen) e) ∙ h);
}

pub param_or_end_turn : (written : Name) (params : List TypedName) (done : List DeclTree) (tokens : List Tok)
    → outcome (param_or_end written params done) tokens ≡ member_or_end kind.RightParen (param_or_end written params done) (result_colon written params done) tokens
param_or_end_turn written params done tokens =
    let either : State = param_or_end written params done in
    let over : State = result_colon written params done in
    or_end kind.RightParen either either over tokens refl refl
    (λ token h. ap (λ b. cond b (Some over) (on (is_name token) (param_colon written params (name_of token) done))) h) (λ token h. refl)

pub param_turn : (written : Name) (params : List TypedName) (done : List DeclTree) (tokens : List Tok)
    → outcome (param_end written params done) tokens
    ≡ member_end kind.Comma kind.RightParen (param_or_end written params done) (result_colon written params done) tokens
param_turn written params done tokens =
    let either : State = param_or_end written params done in
    let over : State = result_colon written params done in
    end_by kind.Comma kind.RightParen (param_end written params done) either either over tokens refl refl refl
    (λ token rest e h. ap (λ b. cond b (Some either) (on (is kind.RightParen token) over)) h)
    (λ token rest e h. ap (λ b. cond b (Some either) (on (is kind.RightParen token) over)) h)
    (λ rest. param_or_end_turn written params done rest)
