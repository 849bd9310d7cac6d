-- How the machine reads declarations.
use Rattle.std.proofs.Common.{◌≡◌, ◌<◌, Bool, true, false, not, cond, List, [], ◌∷◌, ◌++◌, Option, Some, None, length, refl, sym, ap, subst, ◌∙◌, arith}
use Rattle.std.specs.Prelude.{IfNone, MatchBool}
use Rattle.std.specs.Option.{option_map}
use Rattle.slang_lexer.specs.declared.token.TokenKind.TheVariants as kind
use Rattle.slang_tree.specs.declared.place.Place.{Place}
use Rattle.slang_tree.specs.declared.expression.Name.{Name}
use Rattle.slang_tree.specs.declared.expression.TypeName.{TypeName}
use Rattle.slang_tree.specs.TypeTree.{type_tree}
use Rattle.slang_tree.specs.DeclTree.{TypedName, DeclTree}
use Rattle.slang_tokens.specs.Tok.{Tok}
use Rattle.slang_machine.specs.Open.{of_global, of_field, whole_type, constant_of}
use Rattle.slang_machine.specs.States.{State, top, ended, path_due, path_end, global_type, want_const, want_type, field_colon_due, field_colon, field_name, field_due, field_end}
use Rattle.slang_machine.specs.Expressions.{is, is_name, name_of, on}
use Rattle.slang_machine.specs.Declarations.{end_type, begin_decl, end_record, import_decl, next_ended_decl}
use Rattle.token_cursor.specs.declared.stop.Due.TheVariants as due
use Rattle.token_cursor.specs.Outcome.{outcome, stuck}
use Rattle.token_cursor.specs.Gives.{Expects, ExpectsName}
use Rattle.token_cursor.specs.Lists.{begins, behind, member_end}
use Rattle.token_cursor.specs.Types.{BeginsType, optional_state}
use Rattle.token_cursor.proofs.Steps.{goes, stays, expects, expects_name}
use Rattle.token_cursor.proofs.Turns.{or_end, end_by}
use Rattle.expression_parser.proofs.Beginnings.{split}
use Rattle.statement_parser.specs.Expects.{NoEnd}
use Rattle.statement_parser.proofs.Reading.{takes_it, passes_by}
use Rattle.file_parser.specs.declared.declarations.DeclHead.{DeclHead}
use Rattle.file_parser.specs.Heads.{decl_head_of, behind_decl_head}
use Rattle.method_parser.specs.Expects.{LeadsToType}
use Rattle.file_parser.specs.Expects.{field_state}

-- What a token begins.

pub decl_begins : (done : List DeclTree) (token : Tok) → begin_decl done token ≡ option_map (behind_decl_head done token) (decl_head_of token)
decl_begins done token =
    let own : Option State → Option State = λ s. s in
    let to : Option DeclHead → Option State = λ h. option_map (behind_decl_head done token) h in
    split (is kind.Import token) own to _ _ _ _ refl
    (split (is kind.Val token) own to _ _ _ _ refl
    (split (is kind.Var token) own to _ _ _ _ refl
    (split (is kind.At token) own to _ _ _ _ refl
    (split (is kind.Def token) own to _ _ _ _ refl refl))))

-- Imports.

-- behind a name of an import a dot was looked for, and taken if it came
pub path_turn : (place : Place) (path : List Name) (done : List DeclTree) (tokens tokens' : List Tok) (taken : Bool) → taken ≡ begins kind.Dot tokens
    → tokens' ≡ cond taken (behind tokens) tokens
    → outcome (path_end place path done) tokens ≡ outcome (cond taken (path_due place path done) (path_end place path done)) tokens'
path_turn place path done tokens tokens' true t m =
    takes_it kind.Dot (path_end place path done) (path_due place path done) tokens (sym t)
    (λ token g. ap (λ b. cond b (Some (path_due place path done)) (next_ended_decl (import_decl place path done) token)) g)
    ∙ ap (outcome (path_due place path done)) (sym m)
path_turn place path done tokens tokens' false t m = ap (outcome (path_end place path done)) (sym m)

pub no_dot_left : (tokens tokens' : List Tok) (taken : Bool) → taken ≡ begins kind.Dot tokens → tokens' ≡ cond taken (behind tokens) tokens → taken ≡ false
    → begins kind.Dot tokens' ≡ false
no_dot_left tokens tokens' true t m e = absurd (cc)
no_dot_left tokens tokens' false t m e = ap (begins kind.Dot) m ∙ sym t

pub import_ends : (place : Place) (path : List Name) (done : List DeclTree) (tokens : List Tok) → begins kind.Dot tokens ≡ false
    → outcome (path_end place path done) tokens ≡ outcome (ended (import_decl place path done)) tokens
import_ends place path done tokens h =
    passes_by kind.Dot (path_end place path done) (ended (import_decl place path done)) tokens h refl refl
    (λ token g. ap (λ b. cond b (Some (path_due place path done)) (next_ended_decl (import_decl place path done) token)) g)

-- Globals.

pub global_type_begins : (fixed : Bool) (place : Place) (written : Name) (done : List DeclTree)
    → BeginsType kind.Colon (global_type fixed place written done) (whole_type (of_global fixed place written done))
global_type_begins fixed place written done = record {
  at_end = refl;
  no_other = refl;
  begins = λ token h.
      ap (λ b. cond b (Some (want_type (whole_type (of_global fixed place written done)))) (on (is kind.Equals token) (want_const (constant_of fixed place written None done)))) h;
}

pub global_equals_due : (fixed : Bool) (place : Place) (written : Name) (done : List DeclTree) (ty : Option TypeName) (tokens : List Tok)
    → IfNone ty (begins kind.Colon tokens ≡ false)
    → Expects kind.Equals tokens
    (optional_state (global_type fixed place written done) (λ tree. end_type tree (whole_type (of_global fixed place written done))) (option_map type_tree ty))
    (want_const (constant_of fixed place written (option_map type_tree ty) done))
global_equals_due fixed place written done None tokens absent = record {
  at_end = refl;
  no_other = refl;
  step = λ token rest e.
      ap (λ b. cond b (Some (want_type (whole_type (of_global fixed place written done)))) (on (is kind.Equals token) (want_const (constant_of fixed place written None done))))
      (sym (ap (begins kind.Colon) e) ∙ absent);
}
global_equals_due fixed place written done (Some ty) tokens absent = expects kind.Equals _ _ refl refl (λ token. refl)

-- Fields.

pub field_type : (place : Place) (written : Name) (fields : List TypedName) (done : List DeclTree)
    → LeadsToType (λ n. field_colon place written fields n done) (λ n. whole_type (of_field place written fields n done))
field_type place written fields done = record { colon = λ n tokens. expects kind.Colon _ _ refl refl (λ token. refl) }

-- a `val` may stand in front of a field
pub field_begins : (place : Place) (written : Name) (fields : List TypedName) (done : List DeclTree) (tokens : List Tok) → begins kind.Val tokens ≡ true → NoEnd fields tokens
    → outcome (field_state place written fields done) tokens ≡ outcome (field_colon_due place written fields done) (behind tokens)
field_begins place written [] done tokens h n =
    takes_it kind.Val (field_name place written [] done) (field_colon_due place written [] done) tokens h
    (λ token g. ap (λ b. cond b (Some (field_colon_due place written [] done)) (on (is_name token) (field_colon place written [] (name_of token) done))) g)
field_begins place written (field ∷ fields) done [] h n = absurd (cc)
field_begins place written (field ∷ fields) done (token ∷ rest) h n =
    let all : List TypedName = field ∷ fields in
    let name : Option State = on (is_name token) (field_colon place written all (name_of token) done) in
    goes (field_due place written all done) (field_colon_due place written all done) token rest (token ∷ rest) refl
    (ap (λ b. cond b (Some (end_record place written all done)) (cond (is kind.Val token) (Some (field_colon_due place written all done)) name)) n
    ∙ ap (λ b. cond b (Some (field_colon_due place written all done)) name) h)

pub plain_field : (place : Place) (written : Name) (fields : List TypedName) (done : List DeclTree) (tokens : List Tok) → begins kind.Val tokens ≡ false → NoEnd fields tokens
    → ExpectsName tokens (field_state place written fields done) (λ n. field_colon place written fields n done)
plain_field place written [] done tokens h n = record {
  at_end = refl;
  no_other = refl;
  step = λ token rest e.
      ap (λ b. cond b (Some (field_colon_due place written [] done)) (on (is_name token) (field_colon place written [] (name_of token) done))) (sym (ap (begins kind.Val) e) ∙ h);
}
plain_field place written (field ∷ fields) done tokens h n = record {
  at_end = refl;
  no_other = refl;
  step = λ token rest e.
      let all : List TypedName = field ∷ fields in
      let name : Option State = on (is_name token) (field_colon place written all (name_of token) done) in
      ap (λ b. cond b (Some (end_record place written all done)) (cond (is kind.Val token) (Some (field_colon_due place written all done)) name)) (sym (ap (begins kind.RightParen) e) ∙ n)
      ∙ ap (λ b. cond b (Some (field_colon_due place written all done)) name) (sym (ap (begins kind.Val) e) ∙ h);
}

-- where a `val` was looked for, and taken if it came: the state that expects a name
abbrev pub field_from : Bool → Place → Name → List TypedName → List DeclTree → State
field_from taken place written fields done = cond taken (field_colon_due place written fields done) (field_state place written fields done)

pub field_opens : (place : Place) (written : Name) (fields : List TypedName) (done : List DeclTree) (tokens tokens' : List Tok) (taken : Bool) → NoEnd fields tokens
    → taken ≡ begins kind.Val tokens → tokens' ≡ cond taken (behind tokens) tokens
    → outcome (field_state place written fields done) tokens ≡ outcome (field_from taken place written fields done) tokens'
field_opens place written fields done tokens tokens' true n t m =
    field_begins place written fields done tokens (sym t) n ∙ ap (outcome (field_colon_due place written fields done)) (sym m)
field_opens place written fields done tokens tokens' false n t m = ap (outcome (field_state place written fields done)) (sym m)

pub field_named : (place : Place) (written : Name) (fields : List TypedName) (done : List DeclTree) (tokens tokens' : List Tok) (taken : Bool) → NoEnd fields tokens
    → taken ≡ begins kind.Val tokens → tokens' ≡ cond taken (behind tokens) tokens
    → ExpectsName tokens' (field_from taken place written fields done) (λ n. field_colon place written fields n done)
field_named place written fields done tokens tokens' true n t m = expects_name _ _ refl refl (λ token. refl)
field_named place written fields done tokens tokens' false n t m =
    subst (λ ts. ExpectsName ts (field_state place written fields done) (λ x. field_colon place written fields x done)) (sym m)
    (plain_field place written fields done tokens (sym t) n)

pub field_member : (place : Place) (written : Name) (fields : List TypedName) (field : TypedName) (done : List DeclTree)
    → field_state place written (fields ++ field ∷ []) done ≡ field_due place written (fields ++ field ∷ []) done
field_member place written [] field done = refl
field_member place written (other ∷ fields) field done = refl

pub field_turn : (place : Place) (written : Name) (fields : List TypedName) (done : List DeclTree) (tokens : List Tok)
    → outcome (field_end place written fields done) tokens
    ≡ member_end kind.Comma kind.RightParen (field_due place written fields done) (end_record place written fields done) tokens
field_turn place written fields done tokens =
    let either : State = field_due place written fields done in
    let over : State = end_record place written fields done in
    end_by kind.Comma kind.RightParen (field_end place written fields done) either either over tokens refl refl refl
    (λ token rest e h. ap (λ b. cond b (Some either) (on (is kind.RightParen token) over)) h)
    (λ token rest e h. ap (λ b. cond b (Some either) (on (is kind.RightParen token) over)) h)
    (λ rest. or_end kind.RightParen either either over rest refl refl
    (λ token h. ap (λ b. cond b (Some over) (cond (is kind.Val token) (Some (field_colon_due place written fields done))
    (on (is_name token) (field_colon place written fields (name_of token) done)))) h) (λ token h. refl))

-- Lines.

pub nothing_ends : (done : List DeclTree) (tokens : List Tok) → tokens ≡ [] → outcome (ended done) tokens ≡ outcome (top done) tokens
nothing_ends done tokens e = ap (outcome (ended done)) e ∙ ap (outcome (top done)) (sym e)

pub line_goes : (done : List DeclTree) (tokens : List Tok) → begins kind.Newline tokens ≡ true → outcome (ended done) tokens ≡ outcome (top done) (behind tokens)
line_goes done tokens h = takes_it kind.Newline (ended done) (top done) tokens h (λ token g. ap (λ b. on b (top done)) g)

pub line_missing : (done : List DeclTree) (tokens : List Tok) → 0 < length tokens → begins kind.Newline tokens ≡ false → outcome (ended done) tokens ≡ stuck tokens due.Other
line_missing done [] n h = absurd (omega (arith, n))
line_missing done (token ∷ rest) n h = stays (ended done) token rest (token ∷ rest) refl (ap (λ b. on b (top done)) h)

pub turned : (P Q : Type 0) (b : Bool) → MatchBool b P Q → MatchBool (not b) Q P
turned P Q true h = h
turned P Q false h = h

pub comes : (P Q : Type 0) (b : Bool) → MatchBool b P Q → b ≡ true → P
comes P Q true h e = h
comes P Q false h e = absurd (cc)

pub none_comes : (P Q : Type 0) (b : Bool) → MatchBool b P Q → b ≡ false → Q
none_comes P Q true h e = absurd (cc)
none_comes P Q false h e = h

pub has_one : (token : Tok) (rest tokens : List Tok) → tokens ≡ token ∷ rest → 0 < length tokens
has_one token rest tokens e = rw e (omega arith)
