-- Types and constants are accounted for.
use Rattle.machine_stands.proofs.Tokens.{both_true, is_of_number, on_case, or_case}
use Rattle.machine_stands.proofs.Fronts.{none_yet, separator, grow, every, LastOf, WholeOf, front_is_whole, last_is_whole, HasAny, any_more}
use Rattle.machine_stands.proofs.Opened.{At, Sign, Named, TypeIs, Element, Decls, OpenConst, Constant, IsNested, MayEnd, Fields, HeaderText}
use Rattle.machine_stands.proofs.Inside.{OpenAround, OpenTypePurpose, OpenType, InBrackets}
use Rattle.machine_stands.proofs.Stands.{Stands}
use Rattle.machine_stands.proofs.Gathered.{gather_consts}
use Rattle.machine_stands.proofs.Ends.{at_step, name_step}
use Rattle.machine_steps.proofs.Expr.{whole_head}
use Rattle.slang_grammar.specs.Parts.{optional, listed, name_token, is_numeral, z_type, b_type, unit_type, sequence_type, record_type, type_tokens, type_tree, IfWritten, typed_tokens, ElementText, element_tokens, IsElement, element_tree}
use Rattle.slang_grammar.specs.Expressions.{result}
use Rattle.slang_grammar.specs.Statements.{value_word}
use Rattle.slang_grammar.specs.Declarations.{const_number, const_minus, const_truth, const_falsity, const_sequence, const_record, ConstsText, const_tokens, consts_tokens, HasConst, HasElements, IsConst, const_tree, consts_tree, param_tokens, FieldText, val_word, global_text, bare_method}
use Rattle.slang_machine.specs.Open.{Consts, constant_of, constants_in, fields_in, TypePurpose, of_result, of_elements, of_value, of_global, of_constants, of_field, of_param, of_method, AroundType, whole_type, sequence_of}
use Rattle.slang_machine.specs.States.{minus_digits, consts_type, const_or_end, fields_left, type_left}
use Rattle.slang_machine.specs.Expressions.{is, is_name, name_of, is_number_token, on, type_of}
use Rattle.slang_machine.specs.Declarations.{typed_name, after_type, end_type, close_type, begin_type, end_const, close_consts, next_have_const, begin_const, begin_consts}
use Rattle.slang_tree.specs.TypeTree.{TypeTree}
use Rattle.slang_tree.specs.DeclTree.{ConstTree, consts_of}
use Rattle.slang_tree.specs.declared.place.Place.{Place}
use Rattle.slang_tree.specs.declared.expression.Name.{Name}
use Rattle.slang_lexer.specs.declared.token.TokenKind.{TokenKind}
use Rattle.slang_tokens.specs.Tok.{Tok, sign}
use Rattle.slang_tokens.proofs.Bare.{IsBare}
use Rattle.std.proofs.Common.{◌≡◌, List, [], ◌∷◌, ◌++◌, Option, Some, None, pos, refl, sym, ap, ◌∙◌, subst, append_assoc}
use Rattle.slang_lexer.specs.Next.{value_of as number_value}
use Rattle.std.specs.Option.{option_map, IfSome}
use Rattle.slang_tree.specs.DeclTree as d
use Rattle.slang_tree.specs.ExprTree as e
use Rattle.slang_lexer.specs.declared.token.TokenKind.TheVariants as kind
use Rattle.slang_tree.specs.TypeTree as ty_tree

-- Types.

-- behind a type that was read for this
after_type_stands : (all : List Tok) (ty : TypeTree) (purpose : TypePurpose) (rest : List Tok) → TypeIs ty (OpenTypePurpose all purpose) rest
    → Stands all (after_type ty purpose) rest
after_type_stands all ty (of_value fixed place written at) rest h = record {
  text = Some (record { colon = h.opened.place; ty = h.text });
  fits = h.fits;
  same = ap Some h.same;
  opened = h.opened.opened;
}
after_type_stands all ty (of_global fixed place written done) rest h = record {
  text = Some (record { colon = h.opened.place; ty = h.text });
  fits = h.fits;
  same = ap Some h.same;
  opened = h.opened.opened;
}
after_type_stands all ty (of_field place written fields n done) rest h =
    let colon = h.opened in
    let named_field = colon.opened in
    let text : FieldText = record { fixed = named_field.fixed; param = record { written = n; ty = record { colon = colon.place; ty = h.text } } } in
    record {
      before = fields;
      member = text;
      fits = (named_field.plain, h.fits);
      same = ap (λ t. fields ++ typed_name n t ∷ []) h.same;
      opened = subst (Fields all place written fields done) (sym (append_assoc (optional val_word named_field.fixed) (name_token n ∷ sign kind.Colon colon.place
          ∷ type_tokens h.text) rest)) named_field.opened;
    }
after_type_stands all ty (of_param written params n done) rest h =
    let named_param = h.opened.opened in
    record {
      before = params;
      member = record { written = n; ty = record { colon = h.opened.place; ty = h.text } };
      fits = (named_param.plain, h.fits);
      same = ap (λ t. params ++ typed_name n t ∷ []) h.same;
      opened = named_param.opened;
    }
after_type_stands all ty (of_method written params done) rest h =
    let right = h.opened.opened in
    let list = right.opened in
    let left = list.opened in
    let n = left.opened in
    let word = n.opened in
    let text : HeaderText = record {
      word = word.place;
      written = written;
      left = left.place;
      params = list.list;
      right = right.place;
      result = record { colon = h.opened.place; ty = h.text };
    } in
    record {
      text = text;
      fits = (n.plain, list.each, h.fits);
      same = ap (λ p. bare_method written p (type_tree h.text)) list.same ∙ ap (bare_method written params) h.same;
      opened = subst (λ x. Decls all done (sign kind.Def word.place ∷ name_token written ∷ sign kind.LeftParen left.place ∷ x))
          (sym (append_assoc (listed kind.Comma param_tokens list.list) (sign kind.RightParen right.place ∷ sign kind.Colon h.opened.place
          ∷ type_tokens h.text) rest)) word.opened;
    }
after_type_stands all ty (of_result place around) rest h = (tt, h)
after_type_stands all ty (of_elements place around) rest h = (tt, h)
after_type_stands all ty (of_constants place consts) rest h = (tt, h)

end_type_stands : (all : List Tok) (ty : TypeTree) (around : AroundType) (rest : List Tok) → TypeIs ty (OpenType all around) rest
    → Stands all (end_type ty around) rest
end_type_stands all ty (whole_type at) rest h = after_type_stands all ty at rest h
end_type_stands all ty (sequence_of place around) rest h = (tt, h)

type_leaf : (K : List Tok → Type 0) (token : Tok) (rest : List Tok) → IsBare token → K (token ∷ rest) → IfSome (type_of token) (λ ty. TypeIs ty K rest)
type_leaf K token rest bare h =
    or_case (is kind.TypeZ token) (Some (ty_tree.z_name token.place)) _ (λ ty. TypeIs ty K rest)
    (λ b. record { text = z_type token.place; fits = tt; same = refl; opened = at_step kind.TypeZ token rest K refl refl bare b h })
    (λ b. or_case (is kind.TypeB token) (Some (ty_tree.b_name token.place)) _ (λ ty. TypeIs ty K rest)
    (λ b. record { text = b_type token.place; fits = tt; same = refl; opened = at_step kind.TypeB token rest K refl refl bare b h })
    (λ b. or_case (is kind.TypeUnit token) (Some (ty_tree.unit_name token.place)) _ (λ ty. TypeIs ty K rest)
    (λ b. record { text = unit_type token.place; fits = tt; same = refl; opened = at_step kind.TypeUnit token rest K refl refl bare b h })
    (λ b. on_case (is_name token) (ty_tree.record_name (name_of token)) (λ ty. TypeIs ty K rest)
    (λ b. let n = name_step token rest K b h in record { text = record_type (name_of token); fits = n.plain; same = refl; opened = n.opened }))))

pub begin_type_stands : (all : List Tok) (around : AroundType) (token : Tok) (rest : List Tok) → IsBare token → OpenType all around (token ∷ rest)
    → IfSome (begin_type around token (type_of token)) (λ state. Stands all state rest)
begin_type_stands all around token rest bare h = by (type_of token) (type_leaf (OpenType all around) token rest bare h) where
  by : (o : Option TypeTree) → IfSome o (λ ty. TypeIs ty (OpenType all around) rest) → IfSome (begin_type around token o) (λ state. Stands all state rest)
  by (Some ty) k = end_type_stands all ty around rest k
  by None k =
      on_case (is kind.TypeIsz token) (type_left token.place around) (λ state. Stands all state rest)
      (λ b. at_step kind.TypeIsz token rest (OpenType all around) refl refl bare b h)

-- a type in square brackets
bracketed_type : (ty : TypeTree) (k : TokenKind) (place : Place) (K : List Tok → Type 0) (right : Place) (rest : List Tok)
    → TypeIs ty (Sign kind.LeftBracket (At k place K)) (sign kind.RightBracket right ∷ rest) → Element (Some ty) (At k place K) rest
bracketed_type ty k place K right rest h = record {
  text = Some (record { left = h.opened.place; ty = h.text; right = right });
  fits = h.fits;
  same = ap Some h.same;
  opened = subst (λ x. K (sign k place ∷ sign kind.LeftBracket h.opened.place ∷ x)) (sym (append_assoc (type_tokens h.text) (sign kind.RightBracket right
      ∷ []) rest)) h.opened.opened;
}

pub close_type_stands : (all : List Tok) (ty : TypeTree) (around : AroundType) (right : Place) (rest : List Tok) → InBrackets around
    → TypeIs ty (OpenType all around) (sign kind.RightBracket right ∷ rest) → IfSome (close_type ty around) (λ state. Stands all state rest)
close_type_stands all ty (sequence_of place around) right rest i h =
    end_type_stands all (ty_tree.sequence_name place ty) around rest (record {
      text = sequence_type place h.opened.place h.text right;
      fits = h.fits;
      same = ap (ty_tree.sequence_name place) h.same;
      opened = subst (λ x. OpenType all around (sign kind.TypeIsz place ∷ sign kind.LeftBracket h.opened.place ∷ x)) (sym (append_assoc (type_tokens h.text)
          (sign kind.RightBracket right ∷ []) rest)) h.opened.opened;
    })
close_type_stands all ty (whole_type (of_result place around)) right rest i h =
    let element = bracketed_type ty kind.Res place (OpenAround all around) right rest h in
    whole_head all around (result place element.text) (e.result place (Some ty)) rest element.fits refl (ap (e.result place) element.same) element.opened
close_type_stands all ty (whole_type (of_elements place around)) right rest i h = bracketed_type ty kind.TypeIsz place (OpenAround all around) right rest h
close_type_stands all ty (whole_type (of_constants place consts)) right rest i h = bracketed_type ty kind.TypeIsz place (OpenConst all consts) right rest h
close_type_stands all ty (whole_type (of_value fixed place written at)) right rest i h = absurd i
close_type_stands all ty (whole_type (of_global fixed place written done)) right rest i h = absurd i
close_type_stands all ty (whole_type (of_field place written fields n done)) right rest i h = absurd i
close_type_stands all ty (whole_type (of_param written params n done)) right rest i h = absurd i
close_type_stands all ty (whole_type (of_method written params done)) right rest i h = absurd i

-- Constants.

pub const_ends : (all : List Tok) (const : ConstTree) (around : Consts) (rest : List Tok) → Constant const (OpenConst all around) rest
    → Stands all (end_const const around) rest
const_ends all const (constant_of fixed place written ty done) rest h =
    let equals = h.opened in
    let typed = equals.opened in
    let n = typed.opened in
    record {
      before = done;
      member = global_text fixed place written typed.text equals.place h.text;
      fits = (n.plain, typed.fits, h.fits);
      same = ap (λ t. done ++ d.global_decl (record { place = place; fixed = fixed; written = written; ty = t; init = const_tree h.text }) ∷ []) typed.same
          ∙ ap (λ c. done ++ d.global_decl (record { place = place; fixed = fixed; written = written; ty = ty; init = c }) ∷ []) h.same;
      opened = subst (λ x. Decls all done (sign (value_word fixed) place ∷ name_token written ∷ x)) (sym (append_assoc (optional typed_tokens typed.text)
          (sign kind.Equals equals.place ∷ const_tokens h.text) rest)) n.opened;
    }
const_ends all const (constants_in place ty consts around) rest h = (tt, h)
const_ends all const (fields_in written consts around) rest h = (tt, h)

element_has : (ty : Option TypeTree) (text : Option ElementText) (consts : ConstsText) → option_map element_tree text ≡ ty → IfWritten IsElement text
    → (ty ≡ None → HasConst consts) → HasElements text consts
element_has ty None list same fits any = any (sym same)
element_has ty (Some element) list same fits any = fits

regroup_consts : (y x : List Tok) (l r : Tok) (rest : List Tok) → y ++ l ∷ (x ++ r ∷ rest) ≡ ((y ++ l ∷ x) ++ r ∷ []) ++ rest
regroup_consts y x l r rest = simp append_assoc

elements_end : (all : List Tok) (place : Place) (ty : Option TypeTree) (consts : List ConstTree) (around : Consts) (right : Place) (rest : List Tok)
    → (ty ≡ None → HasAny consts)
    → WholeOf kind.Comma const_tokens IsConst const_tree (Sign kind.LeftParen (Element ty (At kind.TypeIsz place (OpenConst all around)))) consts
    (sign kind.RightParen right ∷ rest)
    → Stands all (end_const (d.const_sequence place ty (consts_of consts)) around) rest
elements_end all place ty consts around right rest any h =
    let list = gather_consts (Sign kind.LeftParen (Element ty (At kind.TypeIsz place (OpenConst all around)))) consts (sign kind.RightParen right ∷ rest) h in
    let begun = list.opened in
    let element = begun.opened in
    const_ends all (d.const_sequence place ty (consts_of consts)) around rest (record {
      text = const_sequence place element.text begun.place list.text right;
      fits = (element_has ty element.text list.text element.same element.fits (λ e. list.any (any e)), list.fits);
      same = ap (λ t. d.const_sequence place t (consts_tree list.text)) element.same ∙ ap (d.const_sequence place ty) list.same;
      opened = subst (λ x. OpenConst all around (sign kind.TypeIsz place ∷ x)) (regroup_consts (optional element_tokens element.text) (consts_tokens list.text)
          (sign kind.LeftParen begun.place) (sign kind.RightParen right) rest) element.opened;
    })

record_ends : (all : List Tok) (written : Name) (consts : List ConstTree) (around : Consts) (right : Place) (rest : List Tok) → HasAny consts
    → WholeOf kind.Comma const_tokens IsConst const_tree (Sign kind.LeftParen (Named written (OpenConst all around))) consts (sign kind.RightParen right ∷ rest)
    → Stands all (end_const (d.const_record written (consts_of consts)) around) rest
record_ends all written consts around right rest any h =
    let list = gather_consts (Sign kind.LeftParen (Named written (OpenConst all around))) consts (sign kind.RightParen right ∷ rest) h in
    let begun = list.opened in
    let n = begun.opened in
    const_ends all (d.const_record written (consts_of consts)) around rest (record {
      text = const_record written begun.place list.text right;
      fits = (n.plain, list.any any, list.fits);
      same = ap (d.const_record written) list.same;
      opened = subst (λ x. OpenConst all around (name_token written ∷ sign kind.LeftParen begun.place ∷ x)) (sym (append_assoc (consts_tokens list.text)
          (sign kind.RightParen right ∷ []) rest)) n.opened;
    })

-- constants at their `)`
pub consts_end : (all : List Tok) (around : Consts) (right : Place) (rest : List Tok) → MayEnd around → OpenConst all around (sign kind.RightParen right ∷ rest)
    → IfSome (close_consts around) (λ state. Stands all state rest)
consts_end all (constant_of fixed place written ty done) right rest m h = absurd m
consts_end all (constants_in place None consts around) right rest m h =
    elements_end all place None consts around right rest (λ e. m) (front_is_whole _ _ _ _ _ consts (sign kind.RightParen right ∷ rest) h)
consts_end all (constants_in place (Some ty) consts around) right rest m h =
    elements_end all place (Some ty) consts around right rest (λ e. absurd (some_none ty e)) (front_is_whole _ _ _ _ _ consts (sign kind.RightParen right
    ∷ rest) h) where
      some_none : (ty : TypeTree) → Some ty ≡ None → ⊥
      some_none ty e = cc (e)
consts_end all (fields_in written consts around) right rest m h =
    record_ends all written consts around right rest m (front_is_whole _ _ _ _ _ consts (sign kind.RightParen right ∷ rest) h)

-- behind a constant in brackets
pub have_const_stands : (all : List Tok) (const : ConstTree) (around : Consts) (token : Tok) (rest : List Tok) → IsBare token → IsNested around
    → Constant const (OpenConst all around) (token ∷ rest) → IfSome (next_have_const const around token) (λ state. Stands all state rest)
have_const_stands all const (constant_of fixed place written ty done) token rest bare i h = absurd i
have_const_stands all const (constants_in place ty consts around) token rest bare i h =
    let K : List Tok → Type 0 = Sign kind.LeftParen (Element ty (At kind.TypeIsz place (OpenConst all around))) in
    let one : LastOf kind.Comma const_tokens IsConst const_tree K (consts ++ const ∷ []) (token ∷ rest) =
    record { before = consts; member = h.text; fits = h.fits; same = ap (λ c. consts ++ c ∷ []) h.same; opened = h.opened } in
    or_case (is kind.RightParen token) (close_consts (constants_in place ty (consts ++ const ∷ []) around)) _ (λ state. Stands all state rest)
    (λ b. elements_end all place ty (consts ++ const ∷ []) around token.place rest (λ e. any_more consts const)
    (last_is_whole kind.Comma const_tokens IsConst const_tree K (consts ++ const ∷ []) (sign kind.RightParen token.place ∷ rest)
    (at_step kind.RightParen token rest (LastOf kind.Comma const_tokens IsConst const_tree K (consts ++ const ∷ [])) refl refl bare b one)))
    (λ b. on_case (is kind.Comma token) (const_or_end (constants_in place ty (consts ++ const ∷ []) around)) (λ state. Stands all state rest)
    (λ b. (
      may_end ty,
      separator kind.Comma const_tokens (every IsConst) (grow const_tree) [] K (consts ++ const ∷ []) token.place rest
          (at_step kind.Comma token rest (LastOf kind.Comma const_tokens IsConst const_tree K (consts ++ const ∷ [])) refl refl bare b one),
    ))) where
      may_end : (t : Option TypeTree) → MayEnd (constants_in place t (consts ++ const ∷ []) around)
      may_end None = any_more consts const
      may_end (Some t) = tt
have_const_stands all const (fields_in written consts around) token rest bare i h =
    let K : List Tok → Type 0 = Sign kind.LeftParen (Named written (OpenConst all around)) in
    let one : LastOf kind.Comma const_tokens IsConst const_tree K (consts ++ const ∷ []) (token ∷ rest) =
    record { before = consts; member = h.text; fits = h.fits; same = ap (λ c. consts ++ c ∷ []) h.same; opened = h.opened } in
    or_case (is kind.RightParen token) (close_consts (fields_in written (consts ++ const ∷ []) around)) _ (λ state. Stands all state rest)
    (λ b. record_ends all written (consts ++ const ∷ []) around token.place rest (any_more consts const)
    (last_is_whole kind.Comma const_tokens IsConst const_tree K (consts ++ const ∷ []) (sign kind.RightParen token.place ∷ rest)
    (at_step kind.RightParen token rest (LastOf kind.Comma const_tokens IsConst const_tree K (consts ++ const ∷ [])) refl refl bare b one)))
    (λ b. on_case (is kind.Comma token) (const_or_end (fields_in written (consts ++ const ∷ []) around)) (λ state. Stands all state rest)
    (λ b. (
      any_more consts const,
      separator kind.Comma const_tokens (every IsConst) (grow const_tree) [] K (consts ++ const ∷ []) token.place rest
          (at_step kind.Comma token rest (LastOf kind.Comma const_tokens IsConst const_tree K (consts ++ const ∷ [])) refl refl bare b one),
    )))

pub begin_const_stands : (all : List Tok) (around : Consts) (token : Tok) (rest : List Tok) → IsBare token → OpenConst all around (token ∷ rest)
    → IfSome (begin_const around token) (λ state. Stands all state rest)
begin_const_stands all around token rest bare h =
    or_case (is_number_token token) (Some (end_const (d.const_number token.place (pos (number_value token.text))) around)) _ (λ state. Stands all state rest)
    (λ b. let both = both_true (is kind.Number token) (is_numeral token.text) b in
    const_ends all (d.const_number token.place (pos (number_value token.text))) around rest (record {
      text = const_number token.text token.place;
      fits = both.1;
      same = refl;
      opened = subst (λ t. OpenConst all around (t ∷ rest)) (is_of_number token both.0) h;
    }))
    (λ b. or_case (is kind.Minus token) (Some (minus_digits token.place around)) _ (λ state. Stands all state rest)
    (λ b. at_step kind.Minus token rest (OpenConst all around) refl refl bare b h)
    (λ b. or_case (is kind.True token) (Some (end_const (d.const_truth token.place) around)) _ (λ state. Stands all state rest)
    (λ b. const_ends all (d.const_truth token.place) around rest (record {
      text = const_truth token.place;
      fits = tt;
      same = refl;
      opened = at_step kind.True token rest (OpenConst all around) refl refl bare b h;
    }))
    (λ b. or_case (is kind.False token) (Some (end_const (d.const_falsity token.place) around)) _ (λ state. Stands all state rest)
    (λ b. const_ends all (d.const_falsity token.place) around rest (record {
      text = const_falsity token.place;
      fits = tt;
      same = refl;
      opened = at_step kind.False token rest (OpenConst all around) refl refl bare b h;
    }))
    (λ b. or_case (is kind.TypeIsz token) (Some (consts_type token.place around)) _ (λ state. Stands all state rest)
    (λ b. at_step kind.TypeIsz token rest (OpenConst all around) refl refl bare b h)
    (λ b. on_case (is_name token) (fields_left (name_of token) around) (λ state. Stands all state rest)
    (λ b. name_step token rest (OpenConst all around) b h))))))

pub minus_stands : (all : List Tok) (place : Place) (around : Consts) (token : Tok) (rest : List Tok) → IsBare token
    → At kind.Minus place (OpenConst all around) (token ∷ rest)
    → IfSome (on (is_number_token token) (end_const (d.const_minus place token.place (pos (number_value token.text))) around)) (λ state. Stands all state rest)
minus_stands all place around token rest bare h =
    on_case (is_number_token token) (end_const (d.const_minus place token.place (pos (number_value token.text))) around) (λ state. Stands all state rest)
    (λ b. let both = both_true (is kind.Number token) (is_numeral token.text) b in
    const_ends all (d.const_minus place token.place (pos (number_value token.text))) around rest (record {
      text = const_minus place token.text token.place;
      fits = both.1;
      same = refl;
      opened = subst (λ t. OpenConst all around (sign kind.Minus place ∷ t ∷ rest)) (is_of_number token both.0) h;
    }))

-- the first of constants in brackets
pub begin_consts_stands : (all : List Tok) (place : Place) (ty : Option TypeTree) (around : Consts) (rest : List Tok)
    → Sign kind.LeftParen (Element ty (At kind.TypeIsz place (OpenConst all around))) rest → Stands all (begin_consts place ty around) rest
begin_consts_stands all place None around rest h = none_yet kind.Comma const_tokens (every IsConst) (grow const_tree) [] _ rest h
begin_consts_stands all place (Some ty) around rest h = (tt, none_yet kind.Comma const_tokens (every IsConst) (grow const_tree) [] _ rest h)
