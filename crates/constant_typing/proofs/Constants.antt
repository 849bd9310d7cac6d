-- The constants of a text without faults.
use Rattle.std.proofs.Common.{◌≡◌, ℕ, ◌+◌, ◌<◌, true, cond, List, [], ◌∷◌, length, Option, Some, None, is_some, refl, ap, arith}
use Rattle.std.proofs.lemmas.Bool.{false≢true, and_from}
use Rattle.slang_values.specs.Value.{ValueType, sequence_type, record_type, Records, fields, is_element_type}
use Rattle.slang_values.specs.Tree.{Trees, listed, record_of}
use Rattle.slang_values.specs.Typing.{NameTypes}
use Rattle.slang_tree.specs.declared.place.Place.{Place}
use Rattle.slang_tree.specs.declared.place.Fault.{Fault}
use Rattle.slang_tree.specs.declared.expression.Name.{Name}
use Rattle.slang_tree.specs.TypeTree.{TypeTree, z_name, b_name, unit_name, sequence_name, record_name}
use Rattle.slang_tree.specs.ExprTree as e
use Rattle.slang_tree.specs.DeclTree.{ConstTree, const_number, const_minus, const_truth, const_falsity, const_sequence, const_record, ConstTrees, no_consts, const_then}
use Rattle.program_trees.specs.Claims.{ClaimName}
use Rattle.program_trees.specs.Programs.{claim_of, claims_of}
use Rattle.program_trees.specs.Variables.{Variable}
use Rattle.typed_programs.specs.Parts.{is_constant, are_constant, expr_nodes}
use Rattle.typed_programs.specs.Scopes.{claim_names}
use Rattle.type_rules.specs.Faults.{type_differs}
use Rattle.type_rules.specs.Meanings.{Meaning, variable, bound_variable, block_variable, record_class, method, Declared, Scope, meaning_among, meaning_of, field_types}
use Rattle.type_rules.specs.Judged.{Judged, untyped, faults_of, are_typed, known_type, over, all_expect}
use Rattle.type_rules.specs.TypeNames.{as_type, judged_element}
use Rattle.type_rules.specs.Expressions.{in_program, a_record, callee_meant, judged_elements, judged_listed, argument_faults, judged_record, written_elements}
use Rattle.type_rules.specs.Constants.{judged_applied, judged_const, judged_consts}
use Rattle.typed_texts.specs.Claims.{no_claim}
use Rattle.typed_texts.specs.Values.{record_meant, constant_of_tree, constants_of_trees}
use Rattle.claim_typing.proofs.Parts.{inside, none_is_some, one_is_none, both_nil, first_typed}
use Rattle.claim_typing.proofs.ClaimParts.{Good, Goods, at}
use Rattle.claim_typing.proofs.ClaimForms.{listed-good, applied-good}
use Rattle.value_typing.proofs.Nodes.{constants_have_places}
use Rattle.text_heights.proofs.Low.{constants_low}
use Rattle.statement_typing.proofs.Lists.{each_weaker}
use Rattle.statement_typing.proofs.Typed.{over_faultless, over_type}
use Rattle.constant_typing.specs.Constants.{HasRecords, ConstantsHaveTypes, ConstantsAreConstant, ConstantsAreValues}

-- ---- types

class_typed : (place : Place) (meaning : Option Meaning) → (as_type place meaning).faults ≡ [] → is_some (as_type place meaning).type ≡ true
class_typed place (Some (record_class n)) h = refl
class_typed place None h = one_is_none h
class_typed place (Some (variable x changes type)) h = one_is_none h
class_typed place (Some (bound_variable depth)) h = one_is_none h
class_typed place (Some (block_variable label)) h = one_is_none h
class_typed place (Some (method n signature modifies)) h = one_is_none h

element_typed : (names : List Declared) (ty : TypeTree) → (judged_element names ty).faults ≡ [] → is_some (judged_element names ty).type ≡ true
element_typed names (z_name place) h = refl
element_typed names (b_name place) h = refl
element_typed names (unit_name place) h = one_is_none h
element_typed names (sequence_name place element) h = one_is_none h
element_typed names (record_name written) h = class_typed written.place (meaning_among names written.text) h

over_typed : (place : Place) (parts : List Judged) (own : List Fault) (t : ValueType) → (faults_of parts ≡ [] → are_typed parts ≡ true) →
    (over place parts own (Some t)).faults ≡ [] → is_some (over place parts own (Some t)).type ≡ true
over_typed place parts own t fair h = ap is_some (over_type place parts own (Some t) (over_faultless place parts own (Some t) fair h))

elements_typed : (place : Place) (parts : List Judged) → (faults_of parts ≡ [] → are_typed parts ≡ true) → (judged_elements place parts).faults ≡ [] →
    is_some (judged_elements place parts).type ≡ true
elements_typed place [] fair h = one_is_none h
elements_typed place (first ∷ others) fair h =
    over_typed place (first ∷ others) (cond (is_element_type (known_type first)) (all_expect (known_type first) others) (type_differs first.place ∷ []))
    (sequence_type (known_type first)) fair h

listed_typed : (scope : Scope) (place : Place) (ty : Option TypeTree) (parts : List Judged) → (faults_of parts ≡ [] → are_typed parts ≡ true) →
    (judged_listed place (written_elements scope ty) parts).faults ≡ [] → is_some (judged_listed place (written_elements scope ty) parts).type ≡ true
listed_typed scope place None parts fair h = elements_typed place parts fair h
listed_typed scope place (Some ty) parts fair h =
    let front = judged_element scope.names ty in
    over_typed place (front ∷ parts) (all_expect (known_type front) parts) (sequence_type (known_type front))
    (λ k. let p = both_nil front.faults (faults_of parts) k in
    and_from (is_some front.type) (are_typed parts) (element_typed scope.names ty p.0) (fair p.1)) h

record_typed : (place : Place) (n : ℕ) (types : Option (List ValueType)) (parts : List Judged) → is_some types ≡ true →
    (faults_of parts ≡ [] → are_typed parts ≡ true) → (judged_record place n types parts).faults ≡ [] → is_some (judged_record place n types parts).type ≡ true
record_typed place n None parts some fair h = absurd (false≢true some)
record_typed place n (Some ts) parts some fair h = over_typed place parts (argument_faults place ts parts) (record_type n) fair h

applied_typed : (scope : Scope) (place : Place) (meaning : Option Meaning) (parts : List Judged) → ((n : ℕ) → is_some (field_types scope n) ≡ true) →
    (faults_of parts ≡ [] → are_typed parts ≡ true) → (judged_applied scope place meaning parts).faults ≡ [] →
    is_some (judged_applied scope place meaning parts).type ≡ true
applied_typed scope place (Some (record_class n)) parts some fair h = record_typed place n (field_types scope n) parts (some n) fair h
applied_typed scope place None parts some fair h = one_is_none h
applied_typed scope place (Some (variable x changes type)) parts some fair h = one_is_none h
applied_typed scope place (Some (bound_variable depth)) parts some fair h = one_is_none h
applied_typed scope place (Some (block_variable label)) parts some fair h = one_is_none h
applied_typed scope place (Some (method n signature modifies)) parts some fair h = one_is_none h

mutual
  const_typed : (scope : Scope) → ((n : ℕ) → is_some (field_types scope n) ≡ true) → (tree : ConstTree) → (judged_const scope tree).faults ≡ [] →
      is_some (judged_const scope tree).type ≡ true
  const_typed scope some (const_number place z) h = refl
  const_typed scope some (const_minus place digits z) h = refl
  const_typed scope some (const_truth place) h = refl
  const_typed scope some (const_falsity place) h = refl
  const_typed scope some (const_sequence place ty elements) h =
      listed_typed scope place ty (judged_consts scope elements) (consts_typed scope some elements) h
  const_typed scope some (const_record written fields) h =
      applied_typed scope written.place (meaning_of scope written.text) (judged_consts scope fields) some (consts_typed scope some fields) h

  consts_typed : (scope : Scope) → ((n : ℕ) → is_some (field_types scope n) ≡ true) → (trees : ConstTrees) →
      faults_of (judged_consts scope trees) ≡ [] → are_typed (judged_consts scope trees) ≡ true
  consts_typed scope some no_consts h = refl
  consts_typed scope some (const_then tree trees) h =
      let p = both_nil (judged_const scope tree).faults (faults_of (judged_consts scope trees)) h in
      and_from (is_some (judged_const scope tree).type) (are_typed (judged_consts scope trees)) (const_typed scope some tree p.0) (consts_typed scope some trees p.1)

pub constants_have_types : ConstantsHaveTypes
constants_have_types records scope has tree h = const_typed scope (λ n. ap is_some (has.same_fields n)) tree h

-- ---- constants

mutual
  constant : (scope : Scope) (tree : ConstTree) (node : ℕ) → is_constant ((constant_of_tree scope tree).from node) ≡ true
  constant scope (const_number place z) node = refl
  constant scope (const_minus place digits z) node = refl
  constant scope (const_truth place) node = refl
  constant scope (const_falsity place) node = refl
  constant scope (const_sequence place ty elements) node = all_constant scope elements (node + 1)
  constant scope (const_record written fields) node = all_constant scope fields (node + 1)

  all_constant : (scope : Scope) (trees : ConstTrees) (node : ℕ) → are_constant ((constants_of_trees scope trees).from node) ≡ true
  all_constant scope no_consts node = refl
  all_constant scope (const_then tree trees) node =
      let next = node + length (constant_of_tree scope tree).places in
      and_from (is_constant ((constant_of_tree scope tree).from node)) (are_constant ((constants_of_trees scope trees).from next))
      (constant scope tree node) (all_constant scope trees next)

pub constants_constant : ConstantsAreConstant
constants_constant scope tree node = constant scope tree node

-- ---- values

module _ (records : Records) (types : NameTypes (ClaimName Variable)) (scope : Scope) (has : HasRecords records scope) where
  applied_const : (written : Name) (meaning : Option Meaning) → meaning_of scope written.text ≡ meaning → (parts : List Judged)
      (claims : Trees (ClaimName Variable)) → (are_typed parts ≡ true → Goods records types claims parts) →
      (t : ValueType) → (judged_applied scope written.place meaning parts).type ≡ Some t →
      Good records types (listed (record_of (record_meant meaning)) claims) t
  applied_const written (Some (record_class n)) m parts claims goods t h =
      applied-good records types scope in_program written.place (e.name written.text written.place) (a_record n) (untyped written.place []) no_claim claims
      parts has.classes has.same_fields (ap callee_meant m) (λ s k. none_is_some k) goods t h
  applied_const written None m parts claims goods t h = none_is_some h
  applied_const written (Some (variable x changes type)) m parts claims goods t h = none_is_some h
  applied_const written (Some (bound_variable depth)) m parts claims goods t h = none_is_some h
  applied_const written (Some (block_variable label)) m parts claims goods t h = none_is_some h
  applied_const written (Some (method n signature modifies)) m parts claims goods t h = none_is_some h

  mutual
    pub const_good : (tree : ConstTree) (node : ℕ) (t : ValueType) → (judged_const scope tree).type ≡ Some t →
        Good records types (claim_of ((constant_of_tree scope tree).from node)) t
    const_good (const_number place z) node t h = at records types (inside h) (record { typed = refl; known = refl; elements = refl })
    const_good (const_minus place digits z) node t h = at records types (inside h) (record { typed = (refl, refl); known = refl; elements = refl })
    const_good (const_truth place) node t h = at records types (inside h) (record { typed = refl; known = refl; elements = refl })
    const_good (const_falsity place) node t h = at records types (inside h) (record { typed = refl; known = refl; elements = refl })
    const_good (const_sequence place ty elements) node t h =
        listed-good records types scope has.classes place ty (claims_of ((constants_of_trees scope elements).from (node + 1))) (judged_consts scope elements)
        (consts_good elements (node + 1)) t h
    const_good (const_record written fields) node t h =
        applied_const written (meaning_of scope written.text) refl (judged_consts scope fields)
        (claims_of ((constants_of_trees scope fields).from (node + 1))) (consts_good fields (node + 1)) t h

    consts_good : (trees : ConstTrees) (node : ℕ) → are_typed (judged_consts scope trees) ≡ true →
        Goods records types (claims_of ((constants_of_trees scope trees).from node)) (judged_consts scope trees)
    consts_good no_consts node h = tt
    consts_good (const_then tree trees) node h =
        let p = first_typed (judged_const scope tree) (judged_consts scope trees) h in
        (const_good tree node (known_type (judged_const scope tree)) p.0, consts_good trees (node + length (constant_of_tree scope tree).places) p.1)

pub constants_values : ConstantsAreValues
constants_values place scope has tree t node h low room =
    let g = const_good place.program.records (claim_names place) scope has tree node t h in
    record {
      typed = g.typed;
      elements = g.elements;
      low = omega (arith, constants_low scope tree node, low);
      nodes = each_weaker (λ n. n < node + length (constant_of_tree scope tree).places) (λ n. n < place.nodes) (λ n k. omega (arith, k, room))
          (expr_nodes ((constant_of_tree scope tree).from node)) (constants_have_places scope tree node);
    }
