-- What is found at several constants, one after the other, and at what a name is applied to.
use Rattle.std.proofs.Common.{◌≡◌, ℕ, Option, Some, None, List, [], ◌∷◌, ◌++◌, map, refl, sym, ap, ◌∙◌, subst, true≢false}
use Rattle.std.specs.Option.{is_some, option_map, unwrap_or}
use Rattle.slang_tree.specs.declared.place.Place.{Place}
use Rattle.slang_tree.specs.declared.place.Fault.{Fault}
use Rattle.slang_tree.specs.DeclTree.{ConstTree, consts_of}
use Rattle.type_rules.specs.Faults.{call_out_of_place, unknown_name}
use Rattle.type_rules.specs.Judged.{Judged, faults_of, untyped}
use Rattle.type_rules.specs.Meanings.{Meaning, Scope, block_variable, bound_variable, field_types, method, record_class, variable}
use Rattle.type_rules.specs.Constants.{judged_applied, judged_const, judged_consts}
use Rattle.type_faults.specs.FirstFault.{with_first}
use Rattle.type_faults.proofs.First.{in_any_order, in_turn}
use Rattle.text_types.specs.declared.found.Found.{Found}
use Rattle.text_types.specs.Found.{AreJudged, IsJudged, bare, seen}
use Rattle.text_types.proofs.Parts.{faults_of-seen, judged_append, judged_one}
use Rattle.text_types.specs.declared.text_type.ElementType.{ElementType}
use Rattle.text_types.specs.TextType.{element_value}
use Rattle.slang_tree.specs.TypeTree.{TypeTree}
use Rattle.type_rules.specs.TypeNames.{judged_element}
use Rattle.type_rules.specs.Expressions.{judged_listed, judged_record}
use Rattle.type_names.specs.Typed.{IsTyped}
use Rattle.type_names.proofs.Types.{element-alike}
use Rattle.name_scopes.specs.declared.scope.NameScope.{NameScope}
use Rattle.name_scopes.specs.Fits.{Fits}
use Rattle.name_scopes.specs.Meanings.{declared_in}
use Rattle.name_scopes.proofs.Named.{declared-named}
use Rattle.expression_forms.specs.Forms.{front_seen}
use Rattle.expression_forms.proofs.Lists.{listed_behind, record_parts}
use Rattle.constant_judging.specs.Applied.{record_meant}

each-append : (scope : Scope) (xs ys : List ConstTree) →
    judged_consts scope (consts_of (xs ++ ys)) ≡ judged_consts scope (consts_of xs) ++ judged_consts scope (consts_of ys)
each-append scope [] ys = refl
each-append scope (x ∷ xs) ys = ap (λ js. judged_const scope x ∷ js) (each-append scope xs ys)

-- one constant more
pub each_more : {a b c : Option Fault} {founds : List Found} {found : Found} (scope : Scope) (trees all : List ConstTree) (tree : ConstTree) →
    all ≡ trees ++ tree ∷ [] → AreJudged a b founds (judged_consts scope (consts_of trees)) → IsJudged b c found (judged_const scope tree) →
    AreJudged a c (founds ++ found ∷ []) (judged_consts scope (consts_of all))
each_more {a} {b} {c} {founds} {found} scope trees all tree more before next =
    subst (AreJudged a c (founds ++ found ∷ []))
    (sym (each-append scope trees (tree ∷ [])) ∙ ap (λ ts. judged_consts scope (consts_of ts)) (sym more))
    (judged_append before (judged_one next))

-- one fault beside those of the parts
beside : {a b c : Option Fault} {founds : List Found} {result : Found} (place : Place) (fault : Fault) (parts : List Judged) →
    AreJudged a b founds parts → IsJudged b c result (untyped place (fault ∷ faults_of (map seen founds))) → IsJudged a c result (untyped place (fault ∷ faults_of parts))
beside {a} {b} {c} {founds} {result} place fault parts before form = record {
  told = form.told
      ∙ ap (λ fs. with_first b (fault ∷ fs)) (faults_of-seen founds)
      ∙ ap (λ found. with_first found (fault ∷ [])) before.told
      ∙ in_turn a (faults_of parts) (fault ∷ [])
      ∙ in_any_order a (faults_of parts) (fault ∷ []);
  is = form.is;
}

pub applied_parts : {a b c : Option Fault} {founds : List Found} {result : Found} (scope : Scope) (place : Place) (meaning : Option Meaning) (parts : List Judged) →
    AreJudged a b founds parts → IsJudged b c result (judged_applied scope place meaning (map seen founds)) → IsJudged a c result (judged_applied scope place meaning parts)
applied_parts scope place None parts before form = beside place (unknown_name place) parts before form
applied_parts scope place (Some (record_class number)) parts before form = record_parts place number (field_types scope number) parts before form
applied_parts scope place (Some (variable x changes type)) parts before form = beside place (call_out_of_place place) parts before form
applied_parts scope place (Some (bound_variable depth)) parts before form = beside place (call_out_of_place place) parts before form
applied_parts scope place (Some (block_variable label)) parts before form = beside place (call_out_of_place place) parts before form
applied_parts scope place (Some (method number signature modifies)) parts before form = beside place (call_out_of_place place) parts before form

-- ---- what a name is applied to, with no faults in its fields

pub faulty_over : {a b : Option Fault} {result : Found} (place : Place) (fault : Fault) (founds : List Found) →
    IsJudged a b result (untyped place (fault ∷ [])) → IsJudged a b result (untyped place (fault ∷ faults_of (map seen founds)))
faulty_over {a} place fault founds form = record {
  told = form.told ∙ ap (λ fs. with_first a (fault ∷ fs)) (sym (faults_of-seen founds));
  is = form.is;
}

pub applied_other : (scope : Scope) (place : Place) (m : Meaning) (parts : List Judged) → record_meant m ≡ None →
    untyped place (call_out_of_place place ∷ faults_of parts) ≡ judged_applied scope place (Some m) parts
applied_other scope place (record_class number) parts h = absurd (true≢false (ap is_some h))
applied_other scope place (variable x changes type) parts h = refl
applied_other scope place (bound_variable depth) parts h = refl
applied_other scope place (block_variable label) parts h = refl
applied_other scope place (method number signature modifies) parts h = refl

pub applied_record : (scope : Scope) (place : Place) (m : Meaning) (n : ℕ) (parts : List Judged) → record_meant m ≡ Some n →
    judged_record place n (field_types scope n) parts ≡ judged_applied scope place (Some m) parts
applied_record scope place (record_class number) n parts h = ap (λ k. judged_record place k (field_types scope k) parts) (sym (ap (λ o. unwrap_or o n) h))
applied_record scope place (variable x changes type) n parts h = absurd (true≢false (sym (ap is_some h)))
applied_record scope place (bound_variable depth) n parts h = absurd (true≢false (sym (ap is_some h)))
applied_record scope place (block_variable label) n parts h = absurd (true≢false (sym (ap is_some h)))
applied_record scope place (method number signature modifies) n parts h = absurd (true≢false (sym (ap is_some h)))

-- ---- elements behind a type

pub listed_typed : {a b c d : Option Fault} {founds : List Found} {result : Found} (known : NameScope) (at : Scope) (front : Option ElementType) (place : Place)
    (t : TypeTree) (parts : List Judged) →
    Fits known at → IsTyped a b (option_map element_value front) (judged_element (declared_in known.names) t) → AreJudged b c founds parts →
    ((F : Place) → IsJudged c d result (judged_listed place (front_seen F front ∷ []) (map seen founds))) →
    IsJudged a d result (judged_listed place (judged_element at.names t ∷ []) parts)
listed_typed {a} known at front place t parts fits typed before form =
    let same : judged_element (declared_in known.names) t ≡ judged_element at.names t =
    element-alike (declared_in known.names) at.names (λ text. sym (declared-named known.names text) ∙ fits.names text) t in
    listed_behind front place (judged_element at.names t) parts
    (typed.told ∙ ap (λ j. with_first a j.faults) same)
    (typed.is ∙ ap (λ j. j.type) same)
    before
    (form (judged_element at.names t).place)
