-- An expression is found to be of a type exactly where it is well typed of that type.
use Rattle.std.proofs.Common.{◌≡◌, ℕ, Bool, true, false, cond, nat_eq, codes, bytes_eq, List, [], ◌∷◌, ◌++◌, length, Option, Some, None, is_some, refl, sym, ap, ◌∙◌, subst, arith}
use Rattle.std.proofs.lemmas.Bool.{eqb-true, eq-eqb}
use Rattle.slang_values.specs.Value.{ValueType, unit_type, number_type, truth_type, sequence_type, record_type, element_type, is_element_type}
use Rattle.slang_tree.specs.declared.place.Place.{Place}
use Rattle.slang_tree.specs.declared.place.Fault.{Fault}
use Rattle.slang_tree.specs.declared.expression.Name.{Name}
use Rattle.slang_tree.specs.TypeTree.{TypeTree}
use Rattle.slang_tree.specs.ExprTree.{ExprTree, ExprTrees, no_exprs, expr_then}
use Rattle.slang_tree.specs.ExprTree as e
use Rattle.program_trees.specs.Operators.{connective}
use Rattle.type_rules.specs.Faults.{unknown_name, type_differs, argument_count, claim_word_out_of_place, unless}
use Rattle.type_rules.specs.Meanings.{Field, Scope, meaning_of, field_types, with_bound}
use Rattle.type_rules.specs.Judged.{Judged, are_typed, known_type, over, expects, all_expect, expect_each, is_sequence}
use Rattle.type_rules.specs.TypeNames.{judged_element}
use Rattle.type_rules.specs.Expressions.{Context, in_program, in_claim, in_ensures, in_proof, judged_new, judged_prefix, operand_faults, connected_type, index_faults, judged_read, judged_elements, judged_listed, argument_faults, judged_record, judged_size, judged_found, field_named, judged_record_field, word_faults, Callee, a_value, a_record, a_method, callee, judged_application, written_elements, judged, judged_each}
use Rattle.claim_typing.proofs.Parts.{inside, none_is_some, one_is_none, both_nil, over-typed, first_typed, expected, cond_nil, sequence-is, unless-nil}
use Rattle.statement_typing.proofs.Typed.{has_known}
use Rattle.typing_rules.specs.Expressions.{IsClaimContext, AppliedHas, FieldHas, FrontHas, HasType, HaveTypes, EachHas, TypesAreFound}
use Rattle.typing_rules.proofs.Parts.{known_is, expects_from, expects_to, nil_both, typed_then, over_from, sequence_part, element_part, element_to, element_from, variable_to, variable_from, result_to, result_from, entry_to, entry_from, old_to, old_from, new_name_to, new_name_from, gives_to, gives_from}

-- ---- a minus and a negation

prefix_to : (place : Place) (s : ValueType) (part : Judged) (t : ValueType) → (judged_prefix place s part).type ≡ Some t → (t ≡ s) × (part.type ≡ Some s)
prefix_to place s part t h =
    let p = over-typed place (part ∷ []) (expects s part) (Some s) t h in
    (sym (inside p.same), expects_to s part (ap is_some (first_typed part [] p.typed).0) p.none)

prefix_from : (place : Place) (s : ValueType) (part : Judged) (t : ValueType) → t ≡ s → part.type ≡ Some s → (judged_prefix place s part).type ≡ Some t
prefix_from place s part t e h =
    over_from place (part ∷ []) (expects s part) (Some s) t (typed_then part [] s h refl) (expects_from s part h) (ap Some (sym e))

-- ---- arguments

count_expect : (place : Place) (types : List ValueType) (parts : List Judged) → length types ≡ length parts → expect_each types parts ≡ [] →
    argument_faults place types parts ≡ []
count_expect place types parts n h =
    ap (λ b. cond b (expect_each types parts) (argument_count place ∷ [])) (eq-eqb (length types) (length parts) n) ∙ h

-- ---- an element of a sequence

-- the head is a sequence, and there is one index, a number
record IsRead (head : Judged) (arguments : List Judged) (t : ValueType) : Type 0 where
  sequence : head.type ≡ Some (sequence_type t)
  count : length arguments ≡ 1
  index : expect_each (number_type ∷ []) arguments ≡ []
  typed : are_typed arguments ≡ true

index_to : (place : Place) (head : Judged) (arguments : List Judged) → index_faults head arguments place ≡ [] →
    (length arguments ≡ 1) × (expect_each (number_type ∷ []) arguments ≡ [])
index_to place head [] h = one_is_none h
index_to place head (index ∷ []) h = (omega arith, nil_both (expects number_type index) [] h refl)
index_to place head (index ∷ second ∷ others) h = one_is_none h

index_from : (place : Place) (head : Judged) (arguments : List Judged) → length arguments ≡ 1 → expect_each (number_type ∷ []) arguments ≡ [] →
    index_faults head arguments place ≡ []
index_from place head [] n h = absurd (omega (arith, n))
index_from place head (index ∷ []) n h = (both_nil (expects number_type index) [] h).0
index_from place head (index ∷ second ∷ others) n h = absurd (omega (arith, n))

read_to : (place : Place) (head : Judged) (arguments : List Judged) (t : ValueType) → (judged_read place head arguments).type ≡ Some t → IsRead head arguments t
read_to place head arguments t h =
    let own = cond (is_sequence (known_type head)) (index_faults head arguments place) (type_differs place ∷ []) in
    let p = over-typed place (head ∷ arguments) own (Some (element_type (known_type head))) t h in
    let q = first_typed head arguments p.typed in
    let c = cond_nil (is_sequence (known_type head)) (index_faults head arguments place) [] (type_differs place) p.none in
    let i = index_to place head arguments c.1 in
    record {
      sequence = q.0 ∙ ap Some (sequence-is (known_type head) c.0 ∙ ap sequence_type (inside p.same));
      count = i.0;
      index = i.1;
      typed = q.1;
    }

read_from : (place : Place) (head : Judged) (arguments : List Judged) (t : ValueType) → IsRead head arguments t → (judged_read place head arguments).type ≡ Some t
read_from place head arguments t is =
    let own = cond (is_sequence (known_type head)) (index_faults head arguments place) (type_differs place ∷ []) in
    over_from place (head ∷ arguments) own (Some (element_type (known_type head))) t (typed_then head arguments (sequence_type t) is.sequence is.typed)
    (ap (λ b. cond b (index_faults head arguments place) (type_differs place ∷ [])) (sequence_part t head is.sequence)
    ∙ index_from place head arguments is.count is.index)
    (ap Some (element_part t head is.sequence))

-- ---- records

record IsMade (arguments : List Judged) (ts : List ValueType) : Type 0 where
  typed : are_typed arguments ≡ true
  count : length ts ≡ length arguments
  each : expect_each ts arguments ≡ []

record_to : (place : Place) (n : ℕ) (types : Option (List ValueType)) (arguments : List Judged) (t : ValueType) →
    (judged_record place n types arguments).type ≡ Some t → (ts : List ValueType) × (types ≡ Some ts) × IsMade arguments ts × (t ≡ record_type n)
record_to place n None arguments t h = none_is_some h
record_to place n (Some ts) arguments t h =
    let p = over-typed place arguments (argument_faults place ts arguments) (Some (record_type n)) t h in
    let c = cond_nil (nat_eq (length ts) (length arguments)) (expect_each ts arguments) [] (argument_count place) p.none in
    (ts, refl, record { typed = p.typed; count = eqb-true (length ts) (length arguments) c.0; each = c.1 }, sym (inside p.same))

record_from : (place : Place) (n : ℕ) (ts : List ValueType) (arguments : List Judged) (t : ValueType) → IsMade arguments ts → t ≡ record_type n →
    (judged_record place n (Some ts) arguments).type ≡ Some t
record_from place n ts arguments t made e =
    over_from place arguments (argument_faults place ts arguments) (Some (record_type n)) t made.typed (count_expect place ts arguments made.count made.each)
    (ap Some (sym e))

-- ---- fields

size_to : (place : Place) (head : Judged) (t : ValueType) → (judged_size place head).type ≡ Some t →
    (s : ValueType) × (head.type ≡ Some (sequence_type s)) × (t ≡ number_type)
size_to place head t h =
    let p = over-typed place (head ∷ []) (unless (is_sequence (known_type head)) (type_differs place)) (Some number_type) t h in
    let q = first_typed head [] p.typed in
    (element_type (known_type head), q.0 ∙ ap Some (sequence-is (known_type head) (unless-nil (is_sequence (known_type head)) (type_differs place) p.none)), sym (inside p.same))

size_from : (place : Place) (head : Judged) (s t : ValueType) → head.type ≡ Some (sequence_type s) → t ≡ number_type → (judged_size place head).type ≡ Some t
size_from place head s t h e =
    over_from place (head ∷ []) (unless (is_sequence (known_type head)) (type_differs place)) (Some number_type) t (typed_then head [] (sequence_type s) h refl)
    (ap (λ b. unless b (type_differs place)) (sequence_part s head h)) (ap Some (sym e))

no_field : {A : Type 0} → (place : Place) (head : Judged) (found : Fault) (t : ValueType) → (over place (head ∷ []) (found ∷ []) None).type ≡ Some t → A
no_field place head found t h = none_is_some (over-typed place (head ∷ []) (found ∷ []) None t h).same

found_to : (place word : Place) (head : Judged) (found : Option Field) (t : ValueType) → (judged_found place head word found).type ≡ Some t →
    (f : Field) × (found ≡ Some f) × (f.type ≡ Some t) × (is_some head.type ≡ true)
found_to place word head None t h = no_field place head (unknown_name word) t h
found_to place word head (Some f) t h =
    let p = over-typed place (head ∷ []) [] f.type t h in (f, refl, p.same, ap is_some (first_typed head [] p.typed).0)

record_field_to : (scope : Scope) (place : Place) (head : Judged) (written : Name) (s t : ValueType) → known_type head ≡ s →
    (judged_record_field scope place head written s).type ≡ Some t →
    (n : ℕ) × (f : Field) × (head.type ≡ Some (record_type n)) × (field_named scope n written.text ≡ Some f) × (f.type ≡ Some t)
record_field_to scope place head written (record_type n) t e h =
    let r = found_to place written.place head (field_named scope n written.text) t h in
    (n, r.0, has_known head r.3 ∙ ap Some e, r.1, r.2)
record_field_to scope place head written unit_type t e h = no_field place head (type_differs place) t h
record_field_to scope place head written number_type t e h = no_field place head (type_differs place) t h
record_field_to scope place head written truth_type t e h = no_field place head (type_differs place) t h
record_field_to scope place head written (sequence_type s) t e h = no_field place head (type_differs place) t h

field_to : (is_indices is_size : Bool) (scope : Scope) (context : Context) (place : Place) (tree : ExprTree) (written : Name) (t : ValueType) →
    ((s : ValueType) → (judged scope context tree).type ≡ Some s → HasType scope context tree s) →
    (cond is_indices (over place (judged scope context tree ∷ []) (claim_word_out_of_place written.place ∷ []) None)
    (cond is_size (judged_size place (judged scope context tree))
    (judged_record_field scope place (judged scope context tree) written (known_type (judged scope context tree))))).type ≡ Some t →
    FieldHas scope is_indices is_size written.text (HasType scope context tree) t
field_to true is_size scope context place tree written t to h = no_field place (judged scope context tree) (claim_word_out_of_place written.place) t h
field_to false true scope context place tree written t to h =
    let r = size_to place (judged scope context tree) t h in (r.0, to (sequence_type r.0) r.1, r.2)
field_to false false scope context place tree written t to h =
    let r = record_field_to scope place (judged scope context tree) written (known_type (judged scope context tree)) t refl h in
    (r.0, r.1, to (record_type r.0) r.2, r.3, r.4)

field_found : (place word : Place) (head : Judged) (n : ℕ) (found : Option Field) (f : Field) (t : ValueType) → head.type ≡ Some (record_type n) → found ≡ Some f →
    f.type ≡ Some t → (judged_found place head word found).type ≡ Some t
field_found place word head n found f t h e k =
    ap (λ o. (judged_found place head word o).type) e
    ∙ over_from place (head ∷ []) [] f.type t (typed_then head [] (record_type n) h refl) refl k

field_from : (is_indices is_size : Bool) (scope : Scope) (context : Context) (place : Place) (tree : ExprTree) (written : Name) (t : ValueType) →
    ((s : ValueType) → HasType scope context tree s → (judged scope context tree).type ≡ Some s) →
    FieldHas scope is_indices is_size written.text (HasType scope context tree) t →
    (cond is_indices (over place (judged scope context tree ∷ []) (claim_word_out_of_place written.place ∷ []) None)
    (cond is_size (judged_size place (judged scope context tree))
    (judged_record_field scope place (judged scope context tree) written (known_type (judged scope context tree))))).type ≡ Some t
field_from true is_size scope context place tree written t from h = absurd h
field_from false true scope context place tree written t from h =
    size_from place (judged scope context tree) h.0 t (from (sequence_type h.0) h.1) h.2
field_from false false scope context place tree written t from h =
    let head = judged scope context tree in
    let is = from (record_type h.0) h.2 in
    ap (λ s. (judged_record_field scope place head written s).type) (known_is head (record_type h.0) is)
    ∙ field_found place written.place head h.0 (field_named scope h.0 written.text) h.1 t is h.3 h.4

-- ---- sequences

elements_to : (scope : Scope) (context : Context) (place : Place) (trees : ExprTrees) (t : ValueType) →
    ((s : ValueType) → are_typed (judged_each scope context trees) ≡ true → all_expect s (judged_each scope context trees) ≡ [] → EachHas scope context trees s) →
    (judged_elements place (judged_each scope context trees)).type ≡ Some t →
    (s : ValueType) × (t ≡ sequence_type s) × FrontHas scope None trees s × EachHas scope context trees s
elements_to scope context place no_exprs t each h = none_is_some h
elements_to scope context place (expr_then tree trees) t each h =
    let first = judged scope context tree in
    let others = judged_each scope context trees in
    let own = cond (is_element_type (known_type first)) (all_expect (known_type first) others) (type_differs first.place ∷ []) in
    let p = over-typed place (first ∷ others) own (Some (sequence_type (known_type first))) t h in
    let c = cond_nil (is_element_type (known_type first)) (all_expect (known_type first) others) [] (type_differs first.place) p.none in
    let q = first_typed first others p.typed in (
      known_type first,
      sym (inside p.same),
      c.0,
      each (known_type first) p.typed (nil_both (expects (known_type first) first) (all_expect (known_type first) others)
          (expects_from (known_type first) first q.0) c.1),
    )

elements_from : (scope : Scope) (context : Context) (place : Place) (trees : ExprTrees) (s t : ValueType) → are_typed (judged_each scope context trees) ≡ true →
    all_expect s (judged_each scope context trees) ≡ [] → t ≡ sequence_type s → FrontHas scope None trees s →
    (judged_elements place (judged_each scope context trees)).type ≡ Some t
elements_from scope context place no_exprs s t typed all e front = absurd front
elements_from scope context place (expr_then tree trees) s t typed all e front =
    let first = judged scope context tree in
    let others = judged_each scope context trees in
    let p = both_nil (expects s first) (all_expect s others) all in
    let q = first_typed first others typed in
    let same : s ≡ known_type first = expected s first p.0 in
    let own = cond (is_element_type (known_type first)) (all_expect (known_type first) others) (type_differs first.place ∷ []) in
    over_from place (first ∷ others) own (Some (sequence_type (known_type first))) t typed
    (ap (λ b. cond b (all_expect (known_type first) others) (type_differs first.place ∷ [])) (subst (λ u. is_element_type u ≡ true) same front)
    ∙ subst (λ u. all_expect u others ≡ []) same p.1)
    (ap (λ u. Some (sequence_type u)) (sym same) ∙ ap Some (sym e))

listed_to : (scope : Scope) (context : Context) (place : Place) (ty : Option TypeTree) (trees : ExprTrees) (t : ValueType) →
    ((s : ValueType) → are_typed (judged_each scope context trees) ≡ true → all_expect s (judged_each scope context trees) ≡ [] → EachHas scope context trees s) →
    (judged_listed place (written_elements scope ty) (judged_each scope context trees)).type ≡ Some t →
    (s : ValueType) × (t ≡ sequence_type s) × FrontHas scope ty trees s × EachHas scope context trees s
listed_to scope context place None trees t each h = elements_to scope context place trees t each h
listed_to scope context place (Some ty) trees t each h =
    let front = judged_element scope.names ty in
    let parts = judged_each scope context trees in
    let p = over-typed place (front ∷ parts) (all_expect (known_type front) parts) (Some (sequence_type (known_type front))) t h in
    let q = first_typed front parts p.typed in
    (known_type front, sym (inside p.same), element_to scope.names ty (known_type front) q.0, each (known_type front) q.1 p.none)

listed_from : (scope : Scope) (context : Context) (place : Place) (ty : Option TypeTree) (trees : ExprTrees) (s t : ValueType) →
    are_typed (judged_each scope context trees) ≡ true → all_expect s (judged_each scope context trees) ≡ [] → t ≡ sequence_type s →
    FrontHas scope ty trees s → (judged_listed place (written_elements scope ty) (judged_each scope context trees)).type ≡ Some t
listed_from scope context place None trees s t typed all e front = elements_from scope context place trees s t typed all e front
listed_from scope context place (Some ty) trees s t typed all e has =
    let front = judged_element scope.names ty in
    let parts = judged_each scope context trees in
    let is = element_from scope.names ty s has in
    let same : s ≡ known_type front = sym (known_is front s is) in
    over_from place (front ∷ parts) (all_expect (known_type front) parts) (Some (sequence_type (known_type front))) t (typed_then front parts s is typed)
    (subst (λ u. all_expect u parts ≡ []) same all) (ap (λ u. Some (sequence_type u)) (sym same) ∙ ap Some (sym e))

-- ---- quantifiers

word_to : (context : Context) (place : Place) → word_faults context place ≡ [] → IsClaimContext context
word_to in_program place h = one_is_none h
word_to in_claim place h = tt
word_to (in_ensures r) place h = tt
word_to in_proof place h = tt

word_from : (context : Context) (place : Place) → IsClaimContext context → word_faults context place ≡ []
word_from in_program place h = absurd h
word_from in_claim place h = refl
word_from (in_ensures r) place h = refl
word_from in_proof place h = refl

-- ---- applications

-- typed arguments of these types, as they are found
pub record AreArguments (scope : Scope) (context : Context) (trees : ExprTrees) (ts : List ValueType) : Type 0 where
  pub typed : are_typed (judged_each scope context trees) ≡ true
  pub count : length ts ≡ length (judged_each scope context trees)
  pub each : expect_each ts (judged_each scope context trees) ≡ []

applied_to : (scope : Scope) (context : Context) (place : Place) (c : Callee) (head : ExprTree) (arguments : ExprTrees) (t : ValueType) →
    ((s : ValueType) → (judged scope context head).type ≡ Some s → HasType scope context head s) →
    ((ts : List ValueType) → are_typed (judged_each scope context arguments) ≡ true → length ts ≡ length (judged_each scope context arguments) →
    expect_each ts (judged_each scope context arguments) ≡ [] → HaveTypes scope context arguments ts) →
    (judged_application scope context place c (judged scope context head) (judged_each scope context arguments)).type ≡ Some t →
    AppliedHas scope c (HasType scope context head) (HaveTypes scope context arguments) t
applied_to scope context place a_value head arguments t on_head on_arguments h =
    let r = read_to place (judged scope context head) (judged_each scope context arguments) t h in
    let n = r.count in
    (on_head (sequence_type t) r.sequence, on_arguments (number_type ∷ []) r.typed (omega (arith, n)) r.index)
applied_to scope context place (a_record n) head arguments t on_head on_arguments h =
    let r = record_to place n (field_types scope n) (judged_each scope context arguments) t h in
    (r.0, r.1, on_arguments r.0 r.2.typed r.2.count r.2.each, r.3)
applied_to scope context place (a_method None modifies) head arguments t on_head on_arguments h = none_is_some h
applied_to scope context place (a_method (Some signature) modifies) head arguments t on_head on_arguments h = none_is_some h

applied_from : (scope : Scope) (context : Context) (place : Place) (c : Callee) (head : ExprTree) (arguments : ExprTrees) (t : ValueType) →
    ((s : ValueType) → HasType scope context head s → (judged scope context head).type ≡ Some s) →
    ((ts : List ValueType) → HaveTypes scope context arguments ts → AreArguments scope context arguments ts) →
    AppliedHas scope c (HasType scope context head) (HaveTypes scope context arguments) t →
    (judged_application scope context place c (judged scope context head) (judged_each scope context arguments)).type ≡ Some t
applied_from scope context place a_value head arguments t on_head on_arguments h =
    let r = on_arguments (number_type ∷ []) h.1 in
    let n = r.count in
    read_from place (judged scope context head) (judged_each scope context arguments) t
    (record { sequence = on_head (sequence_type t) h.0; count = omega (arith, n); index = r.each; typed = r.typed })
applied_from scope context place (a_record n) head arguments t on_head on_arguments h =
    let r = on_arguments h.0 h.2 in
    ap (λ o. (judged_record place n o (judged_each scope context arguments)).type) h.1
    ∙ record_from place n h.0 (judged_each scope context arguments) t (record { typed = r.typed; count = r.count; each = r.each }) h.3
applied_from scope context place (a_method signature modifies) head arguments t on_head on_arguments h = absurd h

-- ---- all forms

mutual
  pub to : (scope : Scope) (context : Context) (tree : ExprTree) (t : ValueType) → (judged scope context tree).type ≡ Some t → HasType scope context tree t
  to scope context (e.number place z) t h = sym (inside h)
  to scope context (e.truth place) t h = sym (inside h)
  to scope context (e.falsity place) t h = sym (inside h)
  to scope context (e.name text place) t h = variable_to scope place (meaning_of scope text) t h
  to scope context (e.result place ty) t h = result_to scope context place ty t h
  to scope context (e.entry_value place written) t h = entry_to context place written.place (meaning_of scope written.text) t h
  to scope context (e.old_value place written) t h = old_to context place written.place (meaning_of scope written.text) t h
  to scope context (e.minus place operand) t h =
      let p = prefix_to place number_type (judged scope context operand) t h in (p.0, to scope context operand number_type p.1)
  to scope context (e.negation place operand) t h =
      let p = prefix_to place truth_type (judged scope context operand) t h in (p.0, to scope context operand truth_type p.1)
  to scope context (e.binary place operator left right) t h =
      let l = judged scope context left in
      let r = judged scope context right in
      let p = over-typed place (l ∷ r ∷ []) (operand_faults (connective operator) l r) (Some (connected_type (connective operator) (known_type l))) t h in
      let q = first_typed l (r ∷ []) p.typed in (
        known_type l,
        known_type r,
        to scope context left (known_type l) q.0,
        to scope context right (known_type r) (first_typed r [] q.1).0,
        gives_to (connective operator) l r t p.none (inside p.same),
      )
  to scope context (e.application place head arguments) t h =
      applied_to scope context place (callee scope head) head arguments t (to scope context head) (λ ts. have_to scope context arguments ts) h
  to scope context (e.update place head index element) t h =
      let a = judged scope context head in
      let i = judged scope context index in
      let x = judged scope context element in
      let inner = expects number_type i ++ expects (element_type (known_type a)) x in
      let p = over-typed place (a ∷ i ∷ x ∷ []) (cond (is_sequence (known_type a)) inner (type_differs place ∷ [])) a.type t h in
      let c = cond_nil (is_sequence (known_type a)) inner [] (type_differs place) p.none in
      let b = both_nil (expects number_type i) (expects (element_type (known_type a)) x) c.1 in
      let q = first_typed a (i ∷ x ∷ []) p.typed in
      let r = first_typed i (x ∷ []) q.1 in
      let is = sequence-is (known_type a) c.0 in (
        element_type (known_type a),
        inside (sym p.same ∙ q.0) ∙ is,
        to scope context head (sequence_type (element_type (known_type a))) (q.0 ∙ ap Some is),
        to scope context index number_type (expects_to number_type i (ap is_some r.0) b.0),
        to scope context element (element_type (known_type a))
            (expects_to (element_type (known_type a)) x (ap is_some (first_typed x [] r.1).0) b.1),
      )
  to scope context (e.field place head written) t h =
      field_to (bytes_eq written.text (codes "indices")) (bytes_eq written.text (codes "size")) scope context place head written t (to scope context head) h
  to scope context (e.sequence place ty elements) t h = listed_to scope context place ty elements t (λ s. each_to scope context elements s) h
  to scope context (e.quantified place quantifier low high named body) t h =
      let lo = judged scope context low in
      let hi = judged scope context high in
      let new = judged_new scope named in
      let b = judged (with_bound scope named.text) context body in
      let own = expects number_type lo ++ expects number_type hi ++ expects truth_type b ++ word_faults context place in
      let p = over-typed place (lo ∷ hi ∷ new ∷ b ∷ []) own (Some truth_type) t h in
      let u = both_nil (expects number_type lo ++ expects number_type hi ++ expects truth_type b) (word_faults context place) p.none in
      let v = both_nil (expects number_type lo ++ expects number_type hi) (expects truth_type b) u.0 in
      let w = both_nil (expects number_type lo) (expects number_type hi) v.0 in
      let first = first_typed lo (hi ∷ new ∷ b ∷ []) p.typed in
      let second = first_typed hi (new ∷ b ∷ []) first.1 in
      let third = first_typed new (b ∷ []) second.1 in
      let fourth = first_typed b [] third.1 in (
        sym (inside p.same),
        word_to context place u.1,
        new_name_to scope named (ap is_some third.0),
        to scope context low number_type (expects_to number_type lo (ap is_some first.0) w.0),
        to scope context high number_type (expects_to number_type hi (ap is_some second.0) w.1),
        to (with_bound scope named.text) context body truth_type (expects_to truth_type b (ap is_some fourth.0) v.1),
      )
  to scope context (e.quantified_indices place quantifier head named body) t h =
      let a = judged scope context head in
      let new = judged_new scope named in
      let b = judged (with_bound scope named.text) context body in
      let ranged = unless (is_sequence (known_type a)) (type_differs a.place) in
      let p = over-typed place (a ∷ new ∷ b ∷ []) (ranged ++ expects truth_type b ++ word_faults context place) (Some truth_type) t h in
      let u = both_nil (ranged ++ expects truth_type b) (word_faults context place) p.none in
      let v = both_nil ranged (expects truth_type b) u.0 in
      let first = first_typed a (new ∷ b ∷ []) p.typed in
      let second = first_typed new (b ∷ []) first.1 in
      let third = first_typed b [] second.1 in
      let is = sequence-is (known_type a) (unless-nil (is_sequence (known_type a)) (type_differs a.place) v.0) in (
        sym (inside p.same),
        word_to context place u.1,
        new_name_to scope named (ap is_some second.0),
        (element_type (known_type a), to scope context head (sequence_type (element_type (known_type a))) (first.0 ∙ ap Some is)),
        to (with_bound scope named.text) context body truth_type (expects_to truth_type b (ap is_some third.0) v.1),
      )

  pub have_to : (scope : Scope) (context : Context) (trees : ExprTrees) (ts : List ValueType) → are_typed (judged_each scope context trees) ≡ true →
      length ts ≡ length (judged_each scope context trees) → expect_each ts (judged_each scope context trees) ≡ [] → HaveTypes scope context trees ts
  have_to scope context no_exprs [] typed n h = tt
  have_to scope context no_exprs (t ∷ ts) typed n h = absurd (omega (arith, n))
  have_to scope context (expr_then tree trees) [] typed n h = absurd (omega (arith, n))
  have_to scope context (expr_then tree trees) (t ∷ ts) typed n h =
      let part = judged scope context tree in
      let parts = judged_each scope context trees in
      let p = first_typed part parts typed in
      let q = both_nil (expects t part) (expect_each ts parts) h in
      (to scope context tree t (expects_to t part (ap is_some p.0) q.0), have_to scope context trees ts p.1 (omega (arith, n)) q.1)

  pub each_to : (scope : Scope) (context : Context) (trees : ExprTrees) (s : ValueType) → are_typed (judged_each scope context trees) ≡ true →
      all_expect s (judged_each scope context trees) ≡ [] → EachHas scope context trees s
  each_to scope context no_exprs s typed h = tt
  each_to scope context (expr_then tree trees) s typed h =
      let part = judged scope context tree in
      let parts = judged_each scope context trees in
      let p = first_typed part parts typed in
      let q = both_nil (expects s part) (all_expect s parts) h in
      (to scope context tree s (expects_to s part (ap is_some p.0) q.0), each_to scope context trees s p.1 q.1)

mutual
  pub from : (scope : Scope) (context : Context) (tree : ExprTree) (t : ValueType) → HasType scope context tree t → (judged scope context tree).type ≡ Some t
  from scope context (e.number place z) t h = ap Some (sym h)
  from scope context (e.truth place) t h = ap Some (sym h)
  from scope context (e.falsity place) t h = ap Some (sym h)
  from scope context (e.name text place) t h = variable_from scope place (meaning_of scope text) t h
  from scope context (e.result place ty) t h = result_from scope context place ty t h
  from scope context (e.entry_value place written) t h = entry_from context place written.place (meaning_of scope written.text) t h
  from scope context (e.old_value place written) t h = old_from context place written.place (meaning_of scope written.text) t h
  from scope context (e.minus place operand) t h =
      prefix_from place number_type (judged scope context operand) t h.0 (from scope context operand number_type h.1)
  from scope context (e.negation place operand) t h =
      prefix_from place truth_type (judged scope context operand) t h.0 (from scope context operand truth_type h.1)
  from scope context (e.binary place operator left right) t h =
      let l = judged scope context left in
      let r = judged scope context right in
      let on_left = from scope context left h.0 h.2 in
      let on_right = from scope context right h.1 h.3 in
      let g = gives_from (connective operator) l r h.0 h.1 t on_left on_right h.4 in
      over_from place (l ∷ r ∷ []) (operand_faults (connective operator) l r) (Some (connected_type (connective operator) (known_type l))) t
      (typed_then l (r ∷ []) h.0 on_left (typed_then r [] h.1 on_right refl)) g.0 (ap Some g.1)
  from scope context (e.application place head arguments) t h =
      applied_from scope context place (callee scope head) head arguments t (from scope context head) (λ ts. have_from scope context arguments ts) h
  from scope context (e.update place head index element) t h =
      let a = judged scope context head in
      let i = judged scope context index in
      let x = judged scope context element in
      let on_head = from scope context head (sequence_type h.0) h.2 in
      let on_index = from scope context index number_type h.3 in
      let on_element = from scope context element h.0 h.4 in
      let inner = expects number_type i ++ expects (element_type (known_type a)) x in
      over_from place (a ∷ i ∷ x ∷ []) (cond (is_sequence (known_type a)) inner (type_differs place ∷ [])) a.type t
      (typed_then a (i ∷ x ∷ []) (sequence_type h.0) on_head (typed_then i (x ∷ []) number_type on_index (typed_then x [] h.0 on_element refl)))
      (ap (λ b. cond b inner (type_differs place ∷ [])) (sequence_part h.0 a on_head)
      ∙ nil_both (expects number_type i) (expects (element_type (known_type a)) x) (expects_from number_type i on_index)
      (subst (λ s. expects s x ≡ []) (sym (element_part h.0 a on_head)) (expects_from h.0 x on_element)))
      (on_head ∙ ap Some (sym h.1))
  from scope context (e.field place head written) t h =
      field_from (bytes_eq written.text (codes "indices")) (bytes_eq written.text (codes "size")) scope context place head written t (from scope context head) h
  from scope context (e.sequence place ty elements) t h =
      let all = each_from scope context elements h.0 h.3 in
      listed_from scope context place ty elements h.0 t all.0 all.1 h.1 h.2
  from scope context (e.quantified place quantifier low high named body) t h =
      let lo = judged scope context low in
      let hi = judged scope context high in
      let new = judged_new scope named in
      let b = judged (with_bound scope named.text) context body in
      let on_low = from scope context low number_type h.3 in
      let on_high = from scope context high number_type h.4 in
      let on_new = new_name_from scope named h.2 in
      let on_body = from (with_bound scope named.text) context body truth_type h.5 in
      let own = expects number_type lo ++ expects number_type hi ++ expects truth_type b ++ word_faults context place in
      over_from place (lo ∷ hi ∷ new ∷ b ∷ []) own (Some truth_type) t
      (typed_then lo (hi ∷ new ∷ b ∷ []) number_type on_low (typed_then hi (new ∷ b ∷ []) number_type on_high
      (typed_then new (b ∷ []) number_type on_new (typed_then b [] truth_type on_body refl))))
      (nil_both (expects number_type lo ++ expects number_type hi ++ expects truth_type b) (word_faults context place)
      (nil_both (expects number_type lo ++ expects number_type hi) (expects truth_type b)
      (nil_both (expects number_type lo) (expects number_type hi) (expects_from number_type lo on_low) (expects_from number_type hi on_high))
      (expects_from truth_type b on_body)) (word_from context place h.1))
      (ap Some (sym h.0))
  from scope context (e.quantified_indices place quantifier head named body) t h =
      let a = judged scope context head in
      let new = judged_new scope named in
      let b = judged (with_bound scope named.text) context body in
      let s = h.3.0 in
      let on_head = from scope context head (sequence_type s) h.3.1 in
      let on_new = new_name_from scope named h.2 in
      let on_body = from (with_bound scope named.text) context body truth_type h.4 in
      let ranged = unless (is_sequence (known_type a)) (type_differs a.place) in
      over_from place (a ∷ new ∷ b ∷ []) (ranged ++ expects truth_type b ++ word_faults context place) (Some truth_type) t
      (typed_then a (new ∷ b ∷ []) (sequence_type s) on_head (typed_then new (b ∷ []) number_type on_new (typed_then b [] truth_type on_body refl)))
      (nil_both (ranged ++ expects truth_type b) (word_faults context place)
      (nil_both ranged (expects truth_type b) (ap (λ c. unless c (type_differs a.place)) (sequence_part s a on_head)) (expects_from truth_type b on_body))
      (word_from context place h.1))
      (ap Some (sym h.0))

  pub have_from : (scope : Scope) (context : Context) (trees : ExprTrees) (ts : List ValueType) → HaveTypes scope context trees ts → AreArguments scope context trees ts
  have_from scope context no_exprs [] h = record { typed = refl; count = refl; each = refl }
  have_from scope context no_exprs (t ∷ ts) h = absurd h
  have_from scope context (expr_then tree trees) [] h = absurd h
  have_from scope context (expr_then tree trees) (t ∷ ts) h =
      let part = judged scope context tree in
      let parts = judged_each scope context trees in
      let first = from scope context tree t h.0 in
      let rest = have_from scope context trees ts h.1 in
      let n = rest.count in
      record {
        typed = typed_then part parts t first rest.typed;
        count = omega (arith, n);
        each = nil_both (expects t part) (expect_each ts parts) (expects_from t part first) rest.each;
      }

  pub each_from : (scope : Scope) (context : Context) (trees : ExprTrees) (s : ValueType) → EachHas scope context trees s →
      (are_typed (judged_each scope context trees) ≡ true) × (all_expect s (judged_each scope context trees) ≡ [])
  each_from scope context no_exprs s h = (refl, refl)
  each_from scope context (expr_then tree trees) s h =
      let part = judged scope context tree in
      let parts = judged_each scope context trees in
      let first = from scope context tree s h.0 in
      let rest = each_from scope context trees s h.1 in
      (typed_then part parts s first rest.0, nil_both (expects s part) (all_expect s parts) (expects_from s part first) rest.1)

pub types_found : TypesAreFound
types_found scope context tree t = (to scope context tree t, from scope context tree t)
