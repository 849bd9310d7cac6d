-- What is found at several expressions, one after the other.
use Rattle.std.proofs.Common.{◌≡◌, ℕ, Bool, true, false, true≢false, Option, List, [], ◌∷◌, ◌++◌, map, refl, sym, ap, ◌∙◌, subst}
use Rattle.slang_tree.specs.declared.place.Fault.{Fault}
use Rattle.slang_tree.specs.ExprTree.{ExprTree, exprs_of}
use Rattle.type_rules.specs.Meanings.{Scope}
use Rattle.type_rules.specs.Expressions.{Context, judged, judged_each}
use Rattle.std.specs.Option.{option_map}
use Rattle.slang_tree.specs.declared.place.Place.{Place}
use Rattle.slang_tree.specs.TypeTree.{TypeTree}
use Rattle.type_rules.specs.Meanings.{Signature}
use Rattle.type_rules.specs.Judged.{Judged}
use Rattle.type_rules.specs.TypeNames.{judged_element, judged_type}
use Rattle.type_rules.specs.Expressions.{Callee, a_method, a_record, a_value, judged_listed}
use Rattle.type_faults.specs.FirstFault.{with_first}
use Rattle.type_names.specs.Typed.{IsTyped}
use Rattle.type_names.proofs.Types.{element-alike, type-alike}
use Rattle.text_types.specs.declared.text_type.ElementType.{ElementType}
use Rattle.text_types.specs.TextType.{element_value}
use Rattle.name_scopes.specs.declared.scope.NameScope.{NameScope}
use Rattle.name_scopes.specs.Fits.{Fits}
use Rattle.name_scopes.specs.Meanings.{declared_in}
use Rattle.name_scopes.proofs.Named.{declared-named}
use Rattle.expression_forms.specs.Forms.{front_seen}
use Rattle.expression_forms.proofs.Lists.{listed_behind}
use Rattle.expression_judging.specs.Callee.{is_method}
use Rattle.text_types.specs.declared.found.Found.{Found}
use Rattle.text_types.specs.Found.{AreJudged, IsJudged, seen}
use Rattle.text_types.proofs.Parts.{judged_append, judged_one}

each-append : (scope : Scope) (context : Context) (xs ys : List ExprTree) →
    judged_each scope context (exprs_of (xs ++ ys)) ≡ judged_each scope context (exprs_of xs) ++ judged_each scope context (exprs_of ys)
each-append scope context [] ys = refl
each-append scope context (x ∷ xs) ys = ap (λ js. judged scope context x ∷ js) (each-append scope context xs ys)

-- one expression more
pub each_more : {a b c : Option Fault} {founds : List Found} {found : Found} (scope : Scope) (context : Context) (trees all : List ExprTree) (tree : ExprTree) →
    all ≡ trees ++ tree ∷ [] → AreJudged a b founds (judged_each scope context (exprs_of trees)) → IsJudged b c found (judged scope context tree) →
    AreJudged a c (founds ++ found ∷ []) (judged_each scope context (exprs_of all))
each_more {a} {b} {c} {founds} {found} scope context trees all tree more before next =
    subst (AreJudged a c (founds ++ found ∷ []))
    (sym (each-append scope context trees (tree ∷ [])) ∙ ap (λ ts. judged_each scope context (exprs_of ts)) (sym more))
    (judged_append before (judged_one next))

-- ---- what the names of a scope ask of types

pub type_in : (known : NameScope) (at : Scope) (t : TypeTree) → Fits known at → judged_type (declared_in known.names) t ≡ judged_type at.names t
type_in known at t fits = type-alike (declared_in known.names) at.names (λ text. sym (declared-named known.names text) ∙ fits.names text) t

-- elements behind a type
pub listed_typed : {a b c d : Option Fault} {founds : List Found} {result : Found} (known : NameScope) (at : Scope) (front : Option ElementType) (place : Place)
    (t : TypeTree) (parts : List Judged) →
    Fits known at → IsTyped a b (option_map element_value front) (judged_element (declared_in known.names) t) → AreJudged b c founds parts →
    ((F : Place) → IsJudged c d result (judged_listed place (front_seen F front ∷ []) (map seen founds))) →
    IsJudged a d result (judged_listed place (judged_element at.names t ∷ []) parts)
listed_typed {a} known at front place t parts fits typed before form =
    let same : judged_element (declared_in known.names) t ≡ judged_element at.names t =
    element-alike (declared_in known.names) at.names (λ text. sym (declared-named known.names text) ∙ fits.names text) t in
    listed_behind front place (judged_element at.names t) parts
    (typed.told ∙ ap (λ j. with_first a j.faults) same)
    (typed.is ∙ ap (λ j. j.type) same)
    before
    (form (judged_element at.names t).place)

-- ---- the method that a head names

pub method_found : (callee : Callee) → is_method callee ≡ true → (signature : Option Signature) × ((modifies : List (List ℕ)) × (callee ≡ a_method signature modifies))
method_found a_value h = absurd (true≢false (sym h))
method_found (a_record number) h = absurd (true≢false (sym h))
method_found (a_method signature modifies) h = (signature, (modifies, refl))
