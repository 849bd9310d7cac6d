-- The types of parts, as their places know them.
use Rattle.std.proofs.Common.{◌≡◌, ℕ, Option, Some, None, List, [], ◌∷◌, map, slice_get, refl, sym, ap, ◌∙◌}
use Rattle.std.specs.Option.{option_map, unwrap_or}
use Rattle.slang_values.specs.Value.{ValueType, unit_type}
use Rattle.slang_tree.specs.declared.place.Fault.{Fault}
use Rattle.slang_tree.specs.declared.expression.Expr.{Expr}
use Rattle.slang_tree.specs.ExprTree.{expr_tree, exprs_of}
use Rattle.slang_tree.specs.TypeTree.{TypeTree}
use Rattle.type_rules.specs.Meanings.{Scope}
use Rattle.type_rules.specs.Judged.{Judged, known_type}
use Rattle.type_rules.specs.TypeNames.{judged_element}
use Rattle.type_rules.specs.Expressions.{Context, judged, judged_each}
use Rattle.typed_texts.specs.Claims.{type_of_elements}
use Rattle.type_names.specs.Typed.{IsTyped}
use Rattle.type_names.proofs.Types.{element-alike}
use Rattle.text_types.specs.declared.found.Found.{Found}
use Rattle.text_types.specs.declared.text_type.ElementType.{ElementType}
use Rattle.text_types.specs.TextType.{element_value}
use Rattle.text_types.specs.Found.{IsJudged, seen}
use Rattle.name_scopes.specs.declared.scope.NameScope.{NameScope}
use Rattle.name_scopes.specs.Fits.{Fits}
use Rattle.name_scopes.specs.Meanings.{declared_in}
use Rattle.name_scopes.proofs.Named.{declared-named}

pub known_found : {before after : Option Fault} (found : Found) (it : Judged) → IsJudged before after found it → known_type (seen found) ≡ known_type it
known_found found it judged = ap known_type judged.is

-- the type in front of elements
pub front_known : {before after : Option Fault} (known : NameScope) (at : Scope) (front : Option ElementType) (t : TypeTree) (it : ValueType) →
    Fits known at → IsTyped before after (option_map element_value front) (judged_element (declared_in known.names) t) →
    it ≡ unwrap_or (option_map element_value front) unit_type → it ≡ known_type (judged_element at.names t)
front_known known at front t it fits typed is =
    is ∙ ap (λ type. unwrap_or type unit_type) typed.is
    ∙ ap known_type (element-alike (declared_in known.names) at.names (λ text. sym (declared-named known.names text) ∙ fits.names text) t)

-- ---- the first of some elements

no_first : {A : Type 0} (a : A) → None ≡ Some a → ⊥
no_first a h = cc h

pub none_first : (scope : Scope) (context : Context) (elements : List Expr) → None ≡ slice_get elements 0 →
    unit_type ≡ type_of_elements [] (judged_each scope context (exprs_of (map expr_tree elements)))
none_first scope context [] h = refl
none_first scope context (e ∷ es) h = absurd (no_first e h)

pub type_first : (scope : Scope) (context : Context) (elements : List Expr) (first : Expr) → Some first ≡ slice_get elements 0 →
    known_type (judged scope context (expr_tree first)) ≡ type_of_elements [] (judged_each scope context (exprs_of (map expr_tree elements)))
type_first scope context [] first h = absurd (no_first first (sym h))
type_first scope context (e ∷ es) first h = ap (λ it. known_type (judged scope context (expr_tree it))) (ap (λ it. unwrap_or it first) h)
