-- What comes behind a token of a type, a constant or a declaration.
use Rattle.std.specs.Prelude.{Bool, true, false, ◌&&◌, if◌then◌else◌, pos, List, [], ◌∷◌, ◌++◌, Option, Some, None, codes}
use Rattle.std.specs.Str.{bytes_eq}
use Rattle.slang_lexer.specs.declared.token.TokenKind.TheVariants as kind
use Rattle.slang_lexer.specs.Next.{value_of as number_value}
use Rattle.slang_tree.specs.declared.place.Place.{Place}
use Rattle.slang_tree.specs.declared.expression.Name.{Name}
use Rattle.slang_tree.specs.TypeTree.{TypeTree, sequence_name}
use Rattle.slang_tree.specs.ExprTree as e
use Rattle.slang_tree.specs.DeclTree as d
use Rattle.slang_tree.specs.DeclTree.{ConstTree, consts_of, TypedName, DeclTree}
use Rattle.slang_tokens.specs.Tok.{Tok}
use Rattle.slang_grammar.specs.Declarations.{bare_method}
use Rattle.slang_machine.specs.Open.{Consts, constant_of, constants_in, fields_in, TypePurpose, of_result, of_elements, of_value, of_global, of_constants, of_field, of_param, of_method, AroundType, whole_type, sequence_of}
use Rattle.slang_machine.specs.States.{State, top, ended, path_due, global_name, global_equals, want_const, minus_digits, consts_type, consts_left, const_or_end, fields_left, have_const, at_due, field_end, naming, param_end, equals_due, type_left, have_type, value_equals, whole, have, elements_due}
use Rattle.slang_machine.specs.Expressions.{is, is_name, name_of, is_number_token, on}

-- Types.

abbrev pub typed_name : Name → TypeTree → TypedName
typed_name written ty = record { written = written; ty = ty }

-- behind a type that was read for this
abbrev pub after_type : TypeTree → TypePurpose → State
after_type ty (of_value fixed place written at) = value_equals fixed place written (Some ty) at
after_type ty (of_global fixed place written done) = global_equals fixed place written (Some ty) done
after_type ty (of_field place written fields name done) = field_end place written (fields ++ typed_name name ty ∷ []) done
after_type ty (of_param written params name done) = param_end written (params ++ typed_name name ty ∷ []) done
after_type ty (of_method written params done) = equals_due (record { done = done; method = bare_method written params ty })
after_type ty at = have_type ty (whole_type at)

abbrev pub end_type : TypeTree → AroundType → State
end_type ty (whole_type at) = after_type ty at
end_type ty (sequence_of place around) = have_type ty (sequence_of place around)

-- behind the `]` of a type
abbrev pub close_type : TypeTree → AroundType → Option State
close_type ty (sequence_of place around) = Some (end_type (sequence_name place ty) around)
close_type ty (whole_type (of_result place around)) = Some (have (whole (e.result place (Some ty))) around)
close_type ty (whole_type (of_elements place around)) = Some (elements_due place ty around)
close_type ty (whole_type (of_constants place consts)) = Some (consts_left place (Some ty) consts)
close_type ty (whole_type at) = None

abbrev pub begin_type : AroundType → Tok → Option TypeTree → Option State
begin_type around token (Some ty) = Some (end_type ty around)
begin_type around token None = on (is kind.TypeIsz token) (type_left token.place around)

-- Constants.

abbrev pub end_const : ConstTree → Consts → State
end_const const (constant_of fixed place written ty done) =
    ended (done ++ d.global_decl (record { place = place; fixed = fixed; written = written; ty = ty; init = const }) ∷ [])
end_const const around = have_const const around

abbrev pub with_const : ConstTree → Consts → Consts
with_const const (constant_of fixed place written ty done) = constant_of fixed place written ty done
with_const const (constants_in place ty consts around) = constants_in place ty (consts ++ const ∷ []) around
with_const const (fields_in written consts around) = fields_in written (consts ++ const ∷ []) around

-- behind the `)` of constants
abbrev pub close_consts : Consts → Option State
close_consts (constant_of fixed place written ty done) = None
close_consts (constants_in place ty consts around) = Some (end_const (d.const_sequence place ty (consts_of consts)) around)
close_consts (fields_in written consts around) = Some (end_const (d.const_record written (consts_of consts)) around)

abbrev pub next_have_const : ConstTree → Consts → Tok → Option State
next_have_const const around token =
    if is kind.RightParen token then close_consts (with_const const around) else on (is kind.Comma token) (const_or_end (with_const const around))

abbrev pub begin_const : Consts → Tok → Option State
begin_const around token =
    if is_number_token token then Some (end_const (d.const_number token.place (pos (number_value token.text))) around)
    else (if is kind.Minus token then Some (minus_digits token.place around)
    else (if is kind.True token then Some (end_const (d.const_truth token.place) around)
    else (if is kind.False token then Some (end_const (d.const_falsity token.place) around)
    else (if is kind.TypeIsz token then Some (consts_type token.place around)
    else on (is_name token) (fields_left (name_of token) around)))))

-- without the type of its elements a sequence has one at least
abbrev pub begin_consts : Place → Option TypeTree → Consts → State
begin_consts place None around = want_const (constants_in place None [] around)
begin_consts place (Some ty) around = const_or_end (constants_in place (Some ty) [] around)

-- Declarations.

abbrev pub import_decl : Place → List Name → List DeclTree → List DeclTree
import_decl place path done = done ++ d.import_decl place path ∷ []

abbrev pub next_ended_decl : List DeclTree → Tok → Option State
next_ended_decl done token = on (is kind.Newline token) (top done)

abbrev pub begin_decl : List DeclTree → Tok → Option State
begin_decl done token =
    if is kind.Import token then Some (path_due token.place [] done)
    else (if is kind.Val token then Some (global_name true token.place done)
    else (if is kind.Var token then Some (global_name false token.place done)
    else (if is kind.At token then Some (at_due token.place done)
    else on (is kind.Def token) (naming done))))

abbrev pub end_record : Place → Name → List TypedName → List DeclTree → State
end_record place written fields done = ended (done ++ d.record_decl (record { place = place; written = written; fields = fields }) ∷ [])

abbrev pub is_datatype : Tok → Bool
is_datatype token = is kind.Name token && bytes_eq token.text (codes "datatype")
