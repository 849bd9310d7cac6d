-- The claim of a value of the program is that of the text's expression.
use Rattle.std.proofs.Common.{◌≡◌, ℕ, ◌+◌, Bool, true, false, cond, List, [], ◌∷◌, ◌++◌, codes, bytes_eq, length, Option, Some, None, refl, ap, ap₂, ◌∙◌}
use Rattle.slang_values.specs.Value.{ValueType, unit_type, number_type, truth_type, sequence_type, record_type, element_type, is_element_type}
use Rattle.slang_values.specs.Tree.{unary, binary, update, listed, Trees, tree_then, sequence_of, record_of}
use Rattle.slang_values.specs.declared.operators.Unary.{Unary}
use Rattle.slang_values.specs.declared.operators.Binary.{Binary}
use Rattle.slang_tree.specs.declared.place.Place.{Place}
use Rattle.slang_tree.specs.declared.expression.Name.{Name}
use Rattle.slang_tree.specs.TypeTree.{TypeTree}
use Rattle.slang_tree.specs.ExprTree.{ExprTree, ExprTrees, no_exprs, expr_then}
use Rattle.slang_tree.specs.ExprTree as e
use Rattle.program_trees.specs.Operators.{connective, connected}
use Rattle.program_trees.specs.Claims.{ClaimName, ClaimTree}
use Rattle.program_trees.specs.Programs.{TypedExpr, TypedExprs, claim_of, claims_of}
use Rattle.program_trees.specs.Programs as programs
use Rattle.program_trees.specs.Variables.{Variable}
use Rattle.type_rules.specs.Faults.{unknown_name, type_differs, claim_word_out_of_place, unless}
use Rattle.type_rules.specs.Meanings.{Meaning, variable, bound_variable, block_variable, record_class, method, Field, Scope, meaning_of, field_types, with_bound}
use Rattle.type_rules.specs.Judged.{Judged, are_typed, known_type, over, expects, all_expect, is_sequence}
use Rattle.type_rules.specs.TypeNames.{judged_element}
use Rattle.type_rules.specs.Expressions.{in_program, judged_meaning, judged_new, operand_faults, connected_type, index_faults, judged_size, judged_record_field, word_faults, judged_application, Callee, a_value, a_record, a_method, callee, judged, judged_each, written_types, written_elements, judged_listed, judged_record, judged_found, field_named, argument_faults}
use Rattle.typed_texts.specs.Claims.{claim_meant, selector, type_of_elements, first_claim, claim_applied, claim_of_tree, claims_of_trees}
use Rattle.typed_texts.specs.Values.{Value, Values, value_meant, first_value, value_applied, value_of_tree, values_of_trees}
use Rattle.value_typing.specs.Kept.{IsOfProgram, ValuesKeepClaims}
use Rattle.claim_typing.proofs.Parts.{none_is_some, one_is_none, both_nil, over-typed, first_typed}

meant-kept : (scope : Scope) (place : Place) (depth : ℕ) (meaning : Option Meaning) (t : ValueType) → IsOfProgram meaning →
    (judged_meaning scope place meaning).type ≡ Some t → (node : ℕ) → claim_of (value_meant node meaning) ≡ claim_meant depth meaning
meant-kept scope place depth (Some (variable x changes type)) t own h node = refl
meant-kept scope place depth (Some (bound_variable level)) t own h node = absurd own
meant-kept scope place depth (Some (block_variable label)) t own h node = absurd own
meant-kept scope place depth (Some (record_class n)) t own h node = none_is_some h
meant-kept scope place depth (Some (method n signature modifies)) t own h node = none_is_some h
meant-kept scope place depth None t own h node = none_is_some h

first-kept : (node : ℕ) (exprs : TypedExprs Variable) → claim_of (first_value node exprs) ≡ first_claim (claims_of exprs)
first-kept node programs.no_exprs = refl
first-kept node (programs.expr_then expr exprs) = refl

-- the parts of an application have types, where it has one and is no call
applied_parts : (scope : Scope) (place : Place) (head : Judged) (arguments : List Judged) (t : ValueType) →
    (judged_application scope in_program place a_value head arguments).type ≡ Some t → are_typed (head ∷ arguments) ≡ true
applied_parts scope place head arguments t h =
    (over-typed place (head ∷ arguments) (cond (is_sequence (known_type head)) (index_faults head arguments place) (type_differs place ∷ []))
    (Some (element_type (known_type head))) t h).typed

record_parts : (place : Place) (n : ℕ) (field_list : Option (List ValueType)) (arguments : List Judged) (t : ValueType) →
    (judged_record place n field_list arguments).type ≡ Some t → are_typed arguments ≡ true
record_parts place n None arguments t h = none_is_some h
record_parts place n (Some ts) arguments t h =
    (over-typed place arguments (argument_faults place ts arguments) (Some (record_type n)) t h).typed

applied-kept : (scope : Scope) (place : Place) (c : Callee) (on_head : Judged) (arguments : List Judged) (head : Value) (values : Values)
    (a : ClaimTree Variable) (claims : Trees (ClaimName Variable)) (t : ValueType) →
    ((s : ValueType) → on_head.type ≡ Some s → (node : ℕ) → claim_of (head.from node) ≡ a) →
    (are_typed arguments ≡ true → (node : ℕ) → claims_of (values.from node) ≡ claims) →
    (judged_application scope in_program place c on_head arguments).type ≡ Some t → (node : ℕ) →
    claim_of ((value_applied place c head values).from node) ≡ claim_applied c a claims
applied-kept scope place a_value on_head arguments head values a claims t kept all h node =
    let p = first_typed on_head arguments (applied_parts scope place on_head arguments t h) in
    let next = node + 1 + length head.places in
    ap₂ (binary Binary.Read) (kept (known_type on_head) p.0 (node + 1))
    (first-kept node (values.from next) ∙ ap first_claim (all p.1 next))
applied-kept scope place (a_record n) on_head arguments head values a claims t kept all h node =
    ap (listed (record_of n)) (all (record_parts place n (field_types scope n) arguments t h) (node + 1))
applied-kept scope place (a_method signature modifies) on_head arguments head values a claims t kept all h node = refl

-- the elements of a sequence have types, where it has one
listed_parts : (scope : Scope) (place : Place) (ty : Option TypeTree) (parts : List Judged) (t : ValueType) →
    (judged_listed place (written_elements scope ty) parts).type ≡ Some t → are_typed parts ≡ true
listed_parts scope place None [] t h = none_is_some h
listed_parts scope place None (first ∷ others) t h =
    (over-typed place (first ∷ others)
    (cond (is_element_type (known_type first)) (all_expect (known_type first) others) (type_differs first.place ∷ []))
    (Some (sequence_type (known_type first))) t h).typed
listed_parts scope place (Some ty) parts t h =
    let front = judged_element scope.names ty in
    (first_typed front parts
    (over-typed place (front ∷ parts) (all_expect (known_type front) parts) (Some (sequence_type (known_type front))) t h).typed).1

-- the head of a field has a type, where the field has one
found_part : (place word : Place) (head : Judged) (found : Option Field) (t : ValueType) → (judged_found place head word found).type ≡ Some t →
    are_typed (head ∷ []) ≡ true
found_part place word head None t h = (over-typed place (head ∷ []) (unknown_name word ∷ []) None t h).typed
found_part place word head (Some f) t h = (over-typed place (head ∷ []) [] f.type t h).typed

record_part : (scope : Scope) (place : Place) (head : Judged) (written : Name) (s t : ValueType) →
    (judged_record_field scope place head written s).type ≡ Some t → are_typed (head ∷ []) ≡ true
record_part scope place head written (record_type n) t h = found_part place written.place head (field_named scope n written.text) t h
record_part scope place head written unit_type t h = (over-typed place (head ∷ []) (type_differs place ∷ []) None t h).typed
record_part scope place head written number_type t h = (over-typed place (head ∷ []) (type_differs place ∷ []) None t h).typed
record_part scope place head written truth_type t h = (over-typed place (head ∷ []) (type_differs place ∷ []) None t h).typed
record_part scope place head written (sequence_type s) t h = (over-typed place (head ∷ []) (type_differs place ∷ []) None t h).typed

field_part : (is_indices is_size : Bool) (scope : Scope) (place : Place) (head : Judged) (written : Name) (s t : ValueType) →
    (cond is_indices (over place (head ∷ []) (claim_word_out_of_place written.place ∷ []) None)
    (cond is_size (judged_size place head) (judged_record_field scope place head written s))).type ≡ Some t → are_typed (head ∷ []) ≡ true
field_part true is_size scope place head written s t h =
    (over-typed place (head ∷ []) (claim_word_out_of_place written.place ∷ []) None t h).typed
field_part false true scope place head written s t h =
    (over-typed place (head ∷ []) (unless (is_sequence (known_type head)) (type_differs place)) (Some number_type) t h).typed
field_part false false scope place head written s t h = record_part scope place head written s t h

mutual
  kept : (scope : Scope) → ((text : List ℕ) → IsOfProgram (meaning_of scope text)) → (tree : ExprTree) → (t : ValueType) →
      (judged scope in_program tree).type ≡ Some t → (node : ℕ) → claim_of ((value_of_tree scope tree).from node) ≡ claim_of_tree scope in_program tree
  kept scope own (e.number place z) t h node = refl
  kept scope own (e.truth place) t h node = refl
  kept scope own (e.falsity place) t h node = refl
  kept scope own (e.name text place) t h node = meant-kept scope place scope.depth (meaning_of scope text) t (own text) h node
  kept scope own (e.result place ty) t h node =
      none_is_some (over-typed place (written_types scope ty) (claim_word_out_of_place place ∷ []) None t h).same
  kept scope own (e.entry_value place written) t h node = none_is_some h
  kept scope own (e.old_value place written) t h node = none_is_some h
  kept scope own (e.minus place operand) t h node =
      let part = judged scope in_program operand in
      let p = first_typed part [] (over-typed place (part ∷ []) (expects number_type part) (Some number_type) t h).typed in
      ap (unary Unary.Neg) (kept scope own operand (known_type part) p.0 (node + 1))
  kept scope own (e.negation place operand) t h node =
      let part = judged scope in_program operand in
      let p = first_typed part [] (over-typed place (part ∷ []) (expects truth_type part) (Some truth_type) t h).typed in
      ap (unary Unary.Not) (kept scope own operand (known_type part) p.0 (node + 1))
  kept scope own (e.binary place operator left right) t h node =
      let l = judged scope in_program left in
      let r = judged scope in_program right in
      let p = over-typed place (l ∷ r ∷ []) (operand_faults (connective operator) l r) (Some (connected_type (connective operator) (known_type l))) t h in
      let q = first_typed l (r ∷ []) p.typed in
      ap₂ (connected operator) (kept scope own left (known_type l) q.0 (node + 1))
      (kept scope own right (known_type r) (first_typed r [] q.1).0 (node + 1 + length (value_of_tree scope left).places))
  kept scope own (e.application place head arguments) t h node =
      applied-kept scope place (callee scope head) (judged scope in_program head) (judged_each scope in_program arguments) (value_of_tree scope head)
      (values_of_trees scope arguments) (claim_of_tree scope in_program head) (claims_of_trees scope in_program arguments) t
      (kept scope own head) (all_kept scope own arguments) h node
  kept scope own (e.update place head index element) t h node =
      let a = judged scope in_program head in
      let i = judged scope in_program index in
      let x = judged scope in_program element in
      let told = cond (is_sequence (known_type a)) (expects number_type i ++ expects (element_type (known_type a)) x) (type_differs place ∷ []) in
      let p = over-typed place (a ∷ i ∷ x ∷ []) told a.type t h in
      let q = first_typed a (i ∷ x ∷ []) p.typed in
      let r = first_typed i (x ∷ []) q.1 in
      let from_index = node + 1 + length (value_of_tree scope head).places in
      ap₂ (λ c d. c d) (ap₂ (λ b c. update b c) (kept scope own head (known_type a) q.0 (node + 1)) (kept scope own index (known_type i) r.0 from_index))
      (kept scope own element (known_type x) (first_typed x [] r.1).0 (from_index + length (value_of_tree scope index).places))
  kept scope own (e.field place head written) t h node =
      let part = judged scope in_program head in
      let p = field_part (bytes_eq written.text (codes "indices")) (bytes_eq written.text (codes "size")) scope place part written (known_type part) t h in
      ap (unary (selector scope (known_type part) written.text)) (kept scope own head (known_type part) (first_typed part [] p).0 (node + 1))
  kept scope own (e.sequence place ty elements) t h node =
      ap (listed (sequence_of (type_of_elements (written_elements scope ty) (judged_each scope in_program elements))))
      (all_kept scope own elements (listed_parts scope place ty (judged_each scope in_program elements) t h) (node + 1))
  kept scope own (e.quantified place quantifier low high named body) t h node =
      let lo = judged scope in_program low in
      let hi = judged scope in_program high in
      let b = judged (with_bound scope named.text) in_program body in
      let front = expects number_type lo ++ expects number_type hi ++ expects truth_type b in
      let p = over-typed place (lo ∷ hi ∷ judged_new scope named ∷ b ∷ []) (front ++ word_faults in_program place) (Some truth_type) t h in
      one_is_none (both_nil front (word_faults in_program place) p.none).1
  kept scope own (e.quantified_indices place quantifier head named body) t h node =
      let a = judged scope in_program head in
      let b = judged (with_bound scope named.text) in_program body in
      let front = unless (is_sequence (known_type a)) (type_differs a.place) ++ expects truth_type b in
      let p = over-typed place (a ∷ judged_new scope named ∷ b ∷ []) (front ++ word_faults in_program place) (Some truth_type) t h in
      one_is_none (both_nil front (word_faults in_program place) p.none).1

  all_kept : (scope : Scope) → ((text : List ℕ) → IsOfProgram (meaning_of scope text)) → (trees : ExprTrees) →
      are_typed (judged_each scope in_program trees) ≡ true → (node : ℕ) →
      claims_of ((values_of_trees scope trees).from node) ≡ claims_of_trees scope in_program trees
  all_kept scope own no_exprs h node = refl
  all_kept scope own (expr_then tree trees) h node =
      let p = first_typed (judged scope in_program tree) (judged_each scope in_program trees) h in
      ap₂ tree_then (kept scope own tree (known_type (judged scope in_program tree)) p.0 node)
      (all_kept scope own trees p.1 (node + length (value_of_tree scope tree).places))

pub values_keep_claims : ValuesKeepClaims
values_keep_claims scope own tree t h node = kept scope own tree t h node
