-- How the machine reads constants.
use Rattle.std.proofs.Common.{◌≡◌, Bool, true, false, cond, List, [], ◌∷◌, ◌++◌, Option, Some, None, pos, ℤ, refl, sym, ap, ◌∙◌}
use Rattle.std.specs.Prelude.{IfNone, is_some, not}
use Rattle.std.specs.Option.{option_map}
use Rattle.slang_lexer.specs.declared.token.TokenKind.TheVariants as kind
use Rattle.slang_lexer.specs.Next.{value_of as number_value}
use Rattle.slang_tree.specs.declared.place.Place.{Place}
use Rattle.slang_tree.specs.declared.expression.Name.{Name}
use Rattle.slang_tree.specs.declared.expression.TypeName.{TypeName}
use Rattle.slang_tree.specs.TypeTree.{TypeTree, type_tree}
use Rattle.slang_tree.specs.DeclTree as d
use Rattle.slang_tree.specs.DeclTree.{ConstTree, consts_of}
use Rattle.slang_tokens.specs.Tok.{Tok}
use Rattle.slang_machine.specs.Open.{AroundType, Consts, constants_in, fields_in, of_constants, whole_type}
use Rattle.slang_machine.specs.States.{State, want_const, const_or_end, consts_type, consts_left, minus_digits, fields_left, want_type}
use Rattle.slang_machine.specs.Expressions.{is, is_number_token, on}
use Rattle.slang_machine.specs.Declarations.{end_const, begin_consts}
use Rattle.token_cursor.specs.declared.stop.Due.TheVariants as due
use Rattle.token_cursor.specs.Outcome.{outcome, stuck}
use Rattle.token_cursor.specs.Gives.{Expects}
use Rattle.token_cursor.specs.Lists.{begins}
use Rattle.token_cursor.specs.Types.{OpensList, optional_state}
use Rattle.token_cursor.proofs.Steps.{goes, stays, ends, expects}
use Rattle.constant_parser.specs.Constants.{ReadsConsts}

on_some : {A : Type 0} (b : Bool) (x v : A) → Some v ≡ on b x → (b ≡ true) × (v ≡ x)
on_some true x v h = (refl, cc)
on_some false x v h = absurd (cc)

-- the digits behind a minus
pub digits_read : (place : Place) (around : Consts) (v : ℤ) (token : Tok) (rest tokens : List Tok) → tokens ≡ token ∷ rest
    → Some v ≡ on (is_number_token token) (pos (number_value token.text))
    → outcome (minus_digits place around) tokens ≡ outcome (end_const (d.const_minus place token.place v) around) rest
digits_read place around v token rest tokens e h =
    let s = on_some (is_number_token token) (pos (number_value token.text)) v h in
    goes (minus_digits place around) (end_const (d.const_minus place token.place v) around) token rest tokens e
    (ap (λ b. on b (end_const (d.const_minus place token.place (pos (number_value token.text))) around)) s.0
    ∙ ap (λ x. Some (end_const (d.const_minus place token.place x) around)) (sym s.1))

pub opens_constants : (place : Place) (around : Consts)
    → OpensList (consts_type place around) (whole_type (of_constants place around)) (λ ty. consts_left place (Some ty) around)
    (want_const (constants_in place None [] around)) (λ ty. const_or_end (constants_in place (Some ty) [] around))
opens_constants place around = record {
  begins = record {
    at_end = refl;
    no_other = refl;
    begins = λ token h. ap (λ b. cond b (Some (want_type (whole_type (of_constants place around)))) (on (is kind.LeftParen token) (begin_consts place None around))) h;
  };
  closes = record { read = λ ty. refl; closed = λ ty. refl };
  without = λ token h. ap (λ b. cond b (Some (want_type (whole_type (of_constants place around)))) (on (is kind.LeftParen token) (begin_consts place None around))) h;
  typed_end = λ ty. refl;
  typed_due = λ ty. refl;
  with_type = λ ty token. refl;
}

-- without the type of its elements a sequence has one at least
pub constants_open : (place : Place) (around : Consts) (ty : Option TypeName) (some : Bool) → is_some ty ≡ not some
    → optional_state (want_const (constants_in place None [] around)) (λ t. const_or_end (constants_in place (Some t) [] around)) (option_map type_tree ty)
    ≡ cond some (want_const (constants_in place (option_map type_tree ty) [] around)) (const_or_end (constants_in place (option_map type_tree ty) [] around))
constants_open place around None true h = refl
constants_open place around None false h = absurd (cc)
constants_open place around (Some ty) true h = absurd (cc)
constants_open place around (Some ty) false h = refl

pub reads_elements : (place : Place) (ty : Option TypeTree) (around : Consts)
    → ReadsConsts (λ consts. constants_in place ty consts around) (λ consts. end_const (d.const_sequence place ty (consts_of consts)) around)
reads_elements place ty around = record { added = λ consts const. refl; inside = λ consts const. refl; closed = λ consts. refl }

pub reads_fields : (written : Name) (around : Consts)
    → ReadsConsts (λ consts. fields_in written consts around) (λ consts. end_const (d.const_record written (consts_of consts)) around)
reads_fields written around = record { added = λ consts const. refl; inside = λ consts const. refl; closed = λ consts. refl }

pub fields_due : (tokens : List Tok) (written : Name) (around : Consts) → Expects kind.LeftParen tokens (fields_left written around) (want_const (fields_in written [] around))
fields_due tokens written around = expects kind.LeftParen _ _ refl refl (λ token. refl)
