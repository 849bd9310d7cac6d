-- A constant is found to be of a type exactly where it is well typed of that type, and then it has no fault.
use Rattle.std.proofs.Common.{◌≡◌, ℕ, Bool, true, false, cond, nat_eq, List, [], ◌∷◌, ◌++◌, length, Option, Some, None, is_some, refl, sym, ap, ◌∙◌, subst, arith}
use Rattle.std.proofs.lemmas.Bool.{false≢true, and_parts, eqb-true, eq-eqb}
use Rattle.slang_values.specs.Value.{ValueType, sequence_type, record_type, is_element_type}
use Rattle.slang_tree.specs.declared.place.Place.{Place}
use Rattle.slang_tree.specs.declared.place.Fault.{Fault}
use Rattle.slang_tree.specs.TypeTree.{TypeTree, z_name, b_name, unit_name, sequence_name, record_name}
use Rattle.slang_tree.specs.DeclTree.{ConstTree, const_number, const_minus, const_truth, const_falsity, const_sequence, const_record, ConstTrees, no_consts, const_then}
use Rattle.type_rules.specs.Faults.{type_differs, argument_count}
use Rattle.type_rules.specs.Meanings.{Meaning, variable, bound_variable, block_variable, record_class, method, Declared, Scope, meaning_among, meaning_of, field_types}
use Rattle.type_rules.specs.Judged.{Judged, faults_of, are_typed, known_type, typed_without, over, expects, all_expect, expect_each}
use Rattle.type_rules.specs.TypeNames.{as_type, judged_element}
use Rattle.type_rules.specs.Expressions.{judged_elements, judged_listed, argument_faults, judged_record, written_elements}
use Rattle.type_rules.specs.Constants.{judged_applied, judged_const, judged_consts}
use Rattle.claim_typing.proofs.Parts.{inside, none_is_some, both_nil, over-typed, first_typed, expected, cond_nil}
use Rattle.typing_rules.proofs.Parts.{known_is, expects_from, expects_to, nil_both, typed_then, over_from, element_to, element_from}
use Rattle.project_rules.specs.Constants.{FrontConst, ConstHas, ConstsHave, EachConst, ConstantTypesAreFound}

-- ---- no fault where there is a type

-- a form over parts that have no fault where they have types
over_none : (place : Place) (parts : List Judged) (own : List Fault) (type : Option ValueType) → (are_typed parts ≡ true → faults_of parts ≡ []) →
    is_some (over place parts own type).type ≡ true → (over place parts own type).faults ≡ []
over_none place parts own type fair h = at (are_typed parts) refl h
  where
    clean : (o : List Fault) → is_some (typed_without o type) ≡ true → o ≡ []
    clean [] k = refl
    clean (found ∷ o) k = absurd (false≢true k)

    at : (b : Bool) → are_typed parts ≡ b → is_some (cond b (typed_without own type) None) ≡ true → faults_of parts ++ cond (are_typed parts) own [] ≡ []
    at true e k = nil_both (faults_of parts) (cond (are_typed parts) own []) (fair e) (ap (λ b. cond b own []) e ∙ clean own k)
    at false e k = absurd (false≢true k)

class_none : (place : Place) (meaning : Option Meaning) → is_some (as_type place meaning).type ≡ true → (as_type place meaning).faults ≡ []
class_none place (Some (record_class n)) h = refl
class_none place None h = absurd (false≢true h)
class_none place (Some (variable x changes type)) h = absurd (false≢true h)
class_none place (Some (bound_variable depth)) h = absurd (false≢true h)
class_none place (Some (block_variable label)) h = absurd (false≢true h)
class_none place (Some (method n signature modifies)) h = absurd (false≢true h)

element_none : (names : List Declared) (ty : TypeTree) → is_some (judged_element names ty).type ≡ true → (judged_element names ty).faults ≡ []
element_none names (z_name place) h = refl
element_none names (b_name place) h = refl
element_none names (unit_name place) h = absurd (false≢true h)
element_none names (sequence_name place element) h = absurd (false≢true h)
element_none names (record_name written) h = class_none written.place (meaning_among names written.text) h

elements_none : (place : Place) (parts : List Judged) → (are_typed parts ≡ true → faults_of parts ≡ []) → is_some (judged_elements place parts).type ≡ true →
    (judged_elements place parts).faults ≡ []
elements_none place [] fair h = absurd (false≢true h)
elements_none place (first ∷ others) fair h =
    over_none place (first ∷ others) (cond (is_element_type (known_type first)) (all_expect (known_type first) others) (type_differs first.place ∷ []))
    (Some (sequence_type (known_type first))) fair h

listed_none : (scope : Scope) (place : Place) (ty : Option TypeTree) (parts : List Judged) → (are_typed parts ≡ true → faults_of parts ≡ []) →
    is_some (judged_listed place (written_elements scope ty) parts).type ≡ true → (judged_listed place (written_elements scope ty) parts).faults ≡ []
listed_none scope place None parts fair h = elements_none place parts fair h
listed_none scope place (Some ty) parts fair h =
    let front = judged_element scope.names ty in
    over_none place (front ∷ parts) (all_expect (known_type front) parts) (Some (sequence_type (known_type front)))
    (λ k. let p = and_parts (is_some front.type) (are_typed parts) k in
    nil_both front.faults (faults_of parts) (element_none scope.names ty p.0) (fair p.1)) h

record_none : (place : Place) (n : ℕ) (types : Option (List ValueType)) (parts : List Judged) → (are_typed parts ≡ true → faults_of parts ≡ []) →
    is_some (judged_record place n types parts).type ≡ true → (judged_record place n types parts).faults ≡ []
record_none place n None parts fair h = absurd (false≢true h)
record_none place n (Some ts) parts fair h = over_none place parts (argument_faults place ts parts) (Some (record_type n)) fair h

applied_none : (scope : Scope) (place : Place) (meaning : Option Meaning) (parts : List Judged) → (are_typed parts ≡ true → faults_of parts ≡ []) →
    is_some (judged_applied scope place meaning parts).type ≡ true → (judged_applied scope place meaning parts).faults ≡ []
applied_none scope place (Some (record_class n)) parts fair h = record_none place n (field_types scope n) parts fair h
applied_none scope place None parts fair h = absurd (false≢true h)
applied_none scope place (Some (variable x changes type)) parts fair h = absurd (false≢true h)
applied_none scope place (Some (bound_variable depth)) parts fair h = absurd (false≢true h)
applied_none scope place (Some (block_variable label)) parts fair h = absurd (false≢true h)
applied_none scope place (Some (method n signature modifies)) parts fair h = absurd (false≢true h)

mutual
  pub const_none : (scope : Scope) (tree : ConstTree) → is_some (judged_const scope tree).type ≡ true → (judged_const scope tree).faults ≡ []
  const_none scope (const_number place z) h = refl
  const_none scope (const_minus place digits z) h = refl
  const_none scope (const_truth place) h = refl
  const_none scope (const_falsity place) h = refl
  const_none scope (const_sequence place ty elements) h = listed_none scope place ty (judged_consts scope elements) (consts_none scope elements) h
  const_none scope (const_record written fields) h =
      applied_none scope written.place (meaning_of scope written.text) (judged_consts scope fields) (consts_none scope fields) h

  consts_none : (scope : Scope) (trees : ConstTrees) → are_typed (judged_consts scope trees) ≡ true → faults_of (judged_consts scope trees) ≡ []
  consts_none scope no_consts h = refl
  consts_none scope (const_then tree trees) h =
      let part = judged_const scope tree in
      let p = and_parts (is_some part.type) (are_typed (judged_consts scope trees)) h in
      nil_both part.faults (faults_of (judged_consts scope trees)) (const_none scope tree p.0) (consts_none scope trees p.1)

-- ---- types

listed_to : (scope : Scope) (place : Place) (ty : Option TypeTree) (trees : ConstTrees) (t : ValueType) →
    ((s : ValueType) → are_typed (judged_consts scope trees) ≡ true → all_expect s (judged_consts scope trees) ≡ [] → EachConst scope trees s) →
    (judged_listed place (written_elements scope ty) (judged_consts scope trees)).type ≡ Some t →
    (s : ValueType) × (t ≡ sequence_type s) × FrontConst scope ty trees s × EachConst scope trees s
listed_to scope place None no_consts t each h = none_is_some h
listed_to scope place None (const_then tree trees) t each h =
    let first = judged_const scope tree in
    let others = judged_consts scope trees in
    let own = cond (is_element_type (known_type first)) (all_expect (known_type first) others) (type_differs first.place ∷ []) in
    let p = over-typed place (first ∷ others) own (Some (sequence_type (known_type first))) t h in
    let c = cond_nil (is_element_type (known_type first)) (all_expect (known_type first) others) [] (type_differs first.place) p.none in
    let q = first_typed first others p.typed in (
      known_type first,
      sym (inside p.same),
      c.0,
      each (known_type first) p.typed (nil_both (expects (known_type first) first) (all_expect (known_type first) others)
          (expects_from (known_type first) first q.0) c.1),
    )
listed_to scope place (Some ty) trees t each h =
    let front = judged_element scope.names ty in
    let parts = judged_consts scope trees in
    let p = over-typed place (front ∷ parts) (all_expect (known_type front) parts) (Some (sequence_type (known_type front))) t h in
    let q = first_typed front parts p.typed in
    (known_type front, sym (inside p.same), element_to scope.names ty (known_type front) q.0, each (known_type front) q.1 p.none)

listed_from : (scope : Scope) (place : Place) (ty : Option TypeTree) (trees : ConstTrees) (s t : ValueType) →
    are_typed (judged_consts scope trees) ≡ true → all_expect s (judged_consts scope trees) ≡ [] → t ≡ sequence_type s →
    FrontConst scope ty trees s → (judged_listed place (written_elements scope ty) (judged_consts scope trees)).type ≡ Some t
listed_from scope place None no_consts s t typed all e front = absurd front
listed_from scope place None (const_then tree trees) s t typed all e front =
    let first = judged_const scope tree in
    let others = judged_consts scope trees in
    let p = both_nil (expects s first) (all_expect s others) all in
    let same : s ≡ known_type first = expected s first p.0 in
    let own = cond (is_element_type (known_type first)) (all_expect (known_type first) others) (type_differs first.place ∷ []) in
    over_from place (first ∷ others) own (Some (sequence_type (known_type first))) t typed
    (ap (λ b. cond b (all_expect (known_type first) others) (type_differs first.place ∷ [])) (subst (λ u. is_element_type u ≡ true) same front)
    ∙ subst (λ u. all_expect u others ≡ []) same p.1)
    (ap (λ u. Some (sequence_type u)) (sym same) ∙ ap Some (sym e))
listed_from scope place (Some ty) trees s t typed all e has =
    let front = judged_element scope.names ty in
    let parts = judged_consts scope trees in
    let is = element_from scope.names ty s has in
    let same : s ≡ known_type front = sym (known_is front s is) in
    over_from place (front ∷ parts) (all_expect (known_type front) parts) (Some (sequence_type (known_type front))) t (typed_then front parts s is typed)
    (subst (λ u. all_expect u parts ≡ []) same all) (ap (λ u. Some (sequence_type u)) (sym same) ∙ ap Some (sym e))

record IsMade (parts : List Judged) (ts : List ValueType) : Type 0 where
  typed : are_typed parts ≡ true
  count : length ts ≡ length parts
  each : expect_each ts parts ≡ []

record_to : (place : Place) (n : ℕ) (types : Option (List ValueType)) (parts : List Judged) (t : ValueType) →
    (judged_record place n types parts).type ≡ Some t → (ts : List ValueType) × (types ≡ Some ts) × IsMade parts ts × (t ≡ record_type n)
record_to place n None parts t h = none_is_some h
record_to place n (Some ts) parts t h =
    let p = over-typed place parts (argument_faults place ts parts) (Some (record_type n)) t h in
    let c = cond_nil (nat_eq (length ts) (length parts)) (expect_each ts parts) [] (argument_count place) p.none in
    (ts, refl, record { typed = p.typed; count = eqb-true (length ts) (length parts) c.0; each = c.1 }, sym (inside p.same))

applied_to : (scope : Scope) (place : Place) (meaning : Option Meaning) (parts : List Judged) (t : ValueType) →
    (judged_applied scope place meaning parts).type ≡ Some t →
    (n : ℕ) × (ts : List ValueType) × (meaning ≡ Some (record_class n)) × (field_types scope n ≡ Some ts) × IsMade parts ts × (t ≡ record_type n)
applied_to scope place (Some (record_class n)) parts t h =
    let r = record_to place n (field_types scope n) parts t h in (n, r.0, refl, r.1, r.2, r.3)
applied_to scope place None parts t h = none_is_some h
applied_to scope place (Some (variable x changes type)) parts t h = none_is_some h
applied_to scope place (Some (bound_variable depth)) parts t h = none_is_some h
applied_to scope place (Some (block_variable label)) parts t h = none_is_some h
applied_to scope place (Some (method n signature modifies)) parts t h = none_is_some h

mutual
  pub const_to : (scope : Scope) (tree : ConstTree) (t : ValueType) → (judged_const scope tree).type ≡ Some t → ConstHas scope tree t
  const_to scope (const_number place z) t h = sym (inside h)
  const_to scope (const_minus place digits z) t h = sym (inside h)
  const_to scope (const_truth place) t h = sym (inside h)
  const_to scope (const_falsity place) t h = sym (inside h)
  const_to scope (const_sequence place ty elements) t h = listed_to scope place ty elements t (λ s. each_to scope elements s) h
  const_to scope (const_record written fields) t h =
      let r = applied_to scope written.place (meaning_of scope written.text) (judged_consts scope fields) t h in
      (r.0, r.1, r.2, r.3, have_to scope fields r.1 r.4.typed r.4.count r.4.each, r.5)

  have_to : (scope : Scope) (trees : ConstTrees) (ts : List ValueType) → are_typed (judged_consts scope trees) ≡ true →
      length ts ≡ length (judged_consts scope trees) → expect_each ts (judged_consts scope trees) ≡ [] → ConstsHave scope trees ts
  have_to scope no_consts [] typed n h = tt
  have_to scope no_consts (t ∷ ts) typed n h = absurd (omega (arith, n))
  have_to scope (const_then tree trees) [] typed n h = absurd (omega (arith, n))
  have_to scope (const_then tree trees) (t ∷ ts) typed n h =
      let part = judged_const scope tree in
      let parts = judged_consts scope trees in
      let p = first_typed part parts typed in
      let q = both_nil (expects t part) (expect_each ts parts) h in
      (const_to scope tree t (expects_to t part (ap is_some p.0) q.0), have_to scope trees ts p.1 (omega (arith, n)) q.1)

  each_to : (scope : Scope) (trees : ConstTrees) (s : ValueType) → are_typed (judged_consts scope trees) ≡ true →
      all_expect s (judged_consts scope trees) ≡ [] → EachConst scope trees s
  each_to scope no_consts s typed h = tt
  each_to scope (const_then tree trees) s typed h =
      let part = judged_const scope tree in
      let parts = judged_consts scope trees in
      let p = first_typed part parts typed in
      let q = both_nil (expects s part) (all_expect s parts) h in
      (const_to scope tree s (expects_to s part (ap is_some p.0) q.0), each_to scope trees s p.1 q.1)

mutual
  pub const_from : (scope : Scope) (tree : ConstTree) (t : ValueType) → ConstHas scope tree t → (judged_const scope tree).type ≡ Some t
  const_from scope (const_number place z) t h = ap Some (sym h)
  const_from scope (const_minus place digits z) t h = ap Some (sym h)
  const_from scope (const_truth place) t h = ap Some (sym h)
  const_from scope (const_falsity place) t h = ap Some (sym h)
  const_from scope (const_sequence place ty elements) t h =
      let all = each_from scope elements h.0 h.3 in listed_from scope place ty elements h.0 t all.0 all.1 h.1 h.2
  const_from scope (const_record written fields) t h =
      let parts = judged_consts scope fields in
      let r = have_from scope fields h.1 h.4 in
      ap (λ m. (judged_applied scope written.place m parts).type) h.2
      ∙ ap (λ o. (judged_record written.place h.0 o parts).type) h.3
      ∙ over_from written.place parts (argument_faults written.place h.1 parts) (Some (record_type h.0)) t r.typed
      (ap (λ b. cond b (expect_each h.1 parts) (argument_count written.place ∷ [])) (eq-eqb (length h.1) (length parts) r.count) ∙ r.each)
      (ap Some (sym h.5))

  have_from : (scope : Scope) (trees : ConstTrees) (ts : List ValueType) → ConstsHave scope trees ts → IsMade (judged_consts scope trees) ts
  have_from scope no_consts [] h = record { typed = refl; count = refl; each = refl }
  have_from scope no_consts (t ∷ ts) h = absurd h
  have_from scope (const_then tree trees) [] h = absurd h
  have_from scope (const_then tree trees) (t ∷ ts) h =
      let part = judged_const scope tree in
      let parts = judged_consts scope trees in
      let first = const_from scope tree t h.0 in
      let rest = have_from scope trees ts h.1 in
      let n = rest.count in
      record {
        typed = typed_then part parts t first rest.typed;
        count = omega (arith, n);
        each = nil_both (expects t part) (expect_each ts parts) (expects_from t part first) rest.each;
      }

  each_from : (scope : Scope) (trees : ConstTrees) (s : ValueType) → EachConst scope trees s →
      (are_typed (judged_consts scope trees) ≡ true) × (all_expect s (judged_consts scope trees) ≡ [])
  each_from scope no_consts s h = (refl, refl)
  each_from scope (const_then tree trees) s h =
      let part = judged_const scope tree in
      let parts = judged_consts scope trees in
      let first = const_from scope tree s h.0 in
      let rest = each_from scope trees s h.1 in
      (typed_then part parts s first rest.0, nil_both (expects s part) (all_expect s parts) (expects_from s part first) rest.1)

pub constant_types_found : ConstantTypesAreFound
constant_types_found scope tree t = (const_to scope tree t, const_from scope tree t)
