-- An expression has a type exactly where it has no fault.
use Rattle.std.proofs.Common.{◌≡◌, ◌↔◌, ℕ, Bool, true, false, cond, List, [], ◌∷◌, ◌++◌, find, codes, bytes_eq, Option, Some, None, is_some, unwrap_or, option_map, refl, sym, ap, ◌∙◌, subst, ⊎_elim}
use Rattle.std.specs.List.{AllByRecursion}
use Rattle.std.proofs.lemmas.Bool.{false≢true, and_parts, and_from}
use Rattle.slang_values.specs.Value.{ValueType, unit_type, number_type, truth_type, sequence_type, record_type, element_type, is_element_type}
use Rattle.slang_tree.specs.declared.place.Place.{Place}
use Rattle.slang_tree.specs.declared.place.Fault.{Fault}
use Rattle.slang_tree.specs.declared.expression.Name.{Name}
use Rattle.slang_tree.specs.TypeTree.{TypeTree, z_name, b_name, unit_name, sequence_name, record_name}
use Rattle.slang_tree.specs.ExprTree.{ExprTree, ExprTrees, no_exprs, expr_then}
use Rattle.slang_tree.specs.ExprTree as e
use Rattle.program_trees.specs.Operators.{connective}
use Rattle.program_trees.specs.Variables.{local, global, entry, result}
use Rattle.type_rules.specs.Faults.{unknown_name, duplicate_name, type_differs, call_out_of_place, claim_word_out_of_place, unless}
use Rattle.type_rules.specs.Meanings.{Signature, Meaning, variable, bound_variable, block_variable, record_class, method, Declared, declared, Field, Scope, meaning_among, meaning_of, is_known, field_types, fields_of, is_well_declared, is_var, is_global_var, with_bound}
use Rattle.type_rules.specs.Judged.{Judged, well, untyped, faults_of, are_typed, known_type, typed_without, over, expects, all_expect, is_sequence}
use Rattle.type_rules.specs.TypeNames.{as_type, judged_element, judged_type}
use Rattle.type_rules.specs.Expressions.{Context, in_program, in_claim, in_ensures, in_proof, type_meant, judged_meaning, judged_new, judged_result_word, judged_entry, judged_old, operand_faults, connected_type, index_faults, judged_elements, judged_listed, argument_faults, judged_record, judged_size, judged_found, field_named, judged_record_field, word_faults, Callee, a_value, a_record, a_method, callee_meant, callee, change_faults, judged_nested_call, judged_application, written_types, written_elements, judged, judged_each, is_program}
use Rattle.value_typing.specs.Faultless.{HasResultType, IsWellDeclared, TypedWhereFaultless}
use Rattle.claim_typing.proofs.Parts.{none_is_some, one_is_none, both_nil}
use Rattle.claim_typing.proofs.ClaimForms.{meant-class}
use Rattle.claim_typing.proofs.ClaimTypes.{meant-behind}

-- a part has a type exactly where it has no fault
abbrev Fair : Judged → Type 0
Fair part = (part.faults ≡ []) ↔ (is_some part.type ≡ true)

abbrev AllFair : List Judged → Type 0
AllFair parts = AllByRecursion Fair parts

faultless_all : (parts : List Judged) → AllFair parts → faults_of parts ≡ [] → are_typed parts ≡ true
faultless_all [] fair h = refl
faultless_all (part ∷ parts) fair h =
    let p = both_nil part.faults (faults_of parts) h in
    and_from (is_some part.type) (are_typed parts) (fair.0.0 p.0) (faultless_all parts fair.1 p.1)

nil_both : {A : Type 0} (xs ys : List A) → xs ≡ [] → ys ≡ [] → xs ++ ys ≡ []
nil_both [] ys h k = k
nil_both (x ∷ xs) ys h k = one_is_none h

typed_all : (parts : List Judged) → AllFair parts → are_typed parts ≡ true → faults_of parts ≡ []
typed_all [] fair h = refl
typed_all (part ∷ parts) fair h =
    let p = and_parts (is_some part.type) (are_typed parts) h in
    nil_both part.faults (faults_of parts) (fair.0.1 p.0) (typed_all parts fair.1 p.1)

own_at : (typed : Bool) (own : List Fault) (type : Option ValueType) → typed ≡ true → cond typed own [] ≡ [] → (own ≡ [] → is_some type ≡ true) →
    is_some (cond typed (typed_without own type) None) ≡ true
own_at true [] type e h some = some refl
own_at true (found ∷ own) type e h some = one_is_none h
own_at false own type e h some = absurd (false≢true e)

from_type : (typed : Bool) (own : List Fault) (type : Option ValueType) → is_some (cond typed (typed_without own type) None) ≡ true →
    (typed ≡ true) × (cond typed own [] ≡ [])
from_type true [] type h = (refl, refl)
from_type true (found ∷ own) type h = absurd (false≢true h)
from_type false own type h = absurd (false≢true h)

-- A form over fair parts is fair, where it has a type if it has no fault of its own.
over-fair : (place : Place) (parts : List Judged) (own : List Fault) (type : Option ValueType) → AllFair parts →
    (are_typed parts ≡ true → own ≡ [] → is_some type ≡ true) → Fair (over place parts own type)
over-fair place parts own type fair some = (
  λ h. let p = both_nil (faults_of parts) (cond (are_typed parts) own []) h in
      let typed = faultless_all parts fair p.0 in
      own_at (are_typed parts) own type typed p.1 (some typed),
  λ h. let p = from_type (are_typed parts) own type h in
      nil_both (faults_of parts) (cond (are_typed parts) own []) (typed_all parts fair p.0) p.1,
)

well-fair : (place : Place) (t : ValueType) → Fair (well place t)
well-fair place t = (λ h. refl, λ h. refl)

-- a part with a fault has no type
faulty-fair : (place : Place) (found : Fault) (others : List Fault) → Fair (untyped place (found ∷ others))
faulty-fair place found others = (λ h. one_is_none h, λ h. absurd (false≢true h))

-- a form that always has a fault of its own
faulty_over : (place : Place) (parts : List Judged) (found : Fault) (type : Option ValueType) → AllFair parts → Fair (over place parts (found ∷ []) type)
faulty_over place parts found type fair = over-fair place parts (found ∷ []) type fair (λ typed h. one_is_none h)

-- ---- types

meant_type-fair : (place : Place) (meaning : Option Meaning) → Fair (as_type place meaning)
meant_type-fair place (Some (record_class number)) = (λ h. refl, λ h. refl)
meant_type-fair place None = (λ h. one_is_none h, λ h. absurd (false≢true h))
meant_type-fair place (Some (variable x changes type)) = (λ h. one_is_none h, λ h. absurd (false≢true h))
meant_type-fair place (Some (bound_variable depth)) = (λ h. one_is_none h, λ h. absurd (false≢true h))
meant_type-fair place (Some (block_variable label)) = (λ h. one_is_none h, λ h. absurd (false≢true h))
meant_type-fair place (Some (method number signature modifies)) = (λ h. one_is_none h, λ h. absurd (false≢true h))

element_type-fair : (names : List Declared) (ty : TypeTree) → Fair (judged_element names ty)
element_type-fair names (z_name place) = (λ h. refl, λ h. refl)
element_type-fair names (b_name place) = (λ h. refl, λ h. refl)
element_type-fair names (unit_name place) = (λ h. one_is_none h, λ h. absurd (false≢true h))
element_type-fair names (sequence_name place element) = (λ h. one_is_none h, λ h. absurd (false≢true h))
element_type-fair names (record_name written) = meant_type-fair written.place (meaning_among names written.text)

some_mapped : {A B : Type 0} (f : A → B) (o : Option A) → is_some o ≡ true → is_some (option_map f o) ≡ true
some_mapped f None h = h
some_mapped f (Some a) h = refl

pub type-fair : (names : List Declared) (ty : TypeTree) → Fair (judged_type names ty)
type-fair names (z_name place) = (λ h. refl, λ h. refl)
type-fair names (b_name place) = (λ h. refl, λ h. refl)
type-fair names (unit_name place) = (λ h. one_is_none h, λ h. absurd (false≢true h))
type-fair names (sequence_name place element) =
    let part = judged_element names element in
    over-fair place (part ∷ []) [] (option_map sequence_type part.type) (element_type-fair names element, tt)
    (λ typed h. some_mapped sequence_type part.type (and_parts (is_some part.type) true typed).0)
type-fair names (record_name written) = meant_type-fair written.place (meaning_among names written.text)

written-fair : (scope : Scope) (ty : Option TypeTree) → AllFair (written_types scope ty)
written-fair scope None = tt
written-fair scope (Some ty) = (type-fair scope.names ty, tt)

-- ---- names and words of claims

meaning-fair : (scope : Scope) (place : Place) (meaning : Option Meaning) →
    ((m : Meaning) → meaning ≡ Some m → is_well_declared scope m ≡ true) → Fair (judged_meaning scope place meaning)
meaning-fair scope place None fine = (λ h. one_is_none h, λ h. absurd (false≢true h))
meaning-fair scope place (Some (variable x changes type)) fine = (λ h. fine (variable x changes type) refl, λ h. refl)
meaning-fair scope place (Some (bound_variable depth)) fine = (λ h. refl, λ h. refl)
meaning-fair scope place (Some (block_variable label)) fine = (λ h. refl, λ h. refl)
meaning-fair scope place (Some (record_class number)) fine = (
  λ h. one_is_none (subst (λ b. cond b (type_differs place ∷ []) [] ≡ []) (fine (record_class number) refl) h),
  λ h. absurd (false≢true h),
)
meaning-fair scope place (Some (method number signature modifies)) fine = (
  λ h. one_is_none (subst (λ b. cond b (type_differs place ∷ []) [] ≡ []) (fine (method number signature modifies) refl) h),
  λ h. absurd (false≢true h),
)

result-fair : (context : Context) → HasResultType context → (place : Place) (written : List Judged) → AllFair written →
    Fair (judged_result_word context place written)
result-fair in_program known place written fair = faulty_over place written (claim_word_out_of_place place) None fair
result-fair in_claim known place written fair = faulty_over place written (claim_word_out_of_place place) None fair
result-fair in_proof known place written fair = faulty_over place written (claim_word_out_of_place place) None fair
result-fair (in_ensures None) known place written fair = absurd known
result-fair (in_ensures (Some unit_type)) known place written fair = faulty_over place written (claim_word_out_of_place place) None fair
result-fair (in_ensures (Some number_type)) known place written fair =
    over-fair place written (all_expect number_type written) (Some number_type) fair (λ typed h. refl)
result-fair (in_ensures (Some truth_type)) known place written fair =
    over-fair place written (all_expect truth_type written) (Some truth_type) fair (λ typed h. refl)
result-fair (in_ensures (Some (sequence_type t))) known place written fair =
    over-fair place written (all_expect (sequence_type t) written) (Some (sequence_type t)) fair (λ typed h. refl)
result-fair (in_ensures (Some (record_type n))) known place written fair =
    over-fair place written (all_expect (record_type n) written) (Some (record_type n)) fair (λ typed h. refl)

-- a variable that may be named there
former_at : (named : Bool) (place : Place) (meaning : Meaning) → (named ≡ true → is_some (type_meant meaning) ≡ true) →
    Fair (cond named (record { place = place; faults = []; type = type_meant meaning }) (untyped place (claim_word_out_of_place place ∷ [])))
former_at true place meaning some = (λ h. some refl, λ h. refl)
former_at false place meaning some = (λ h. one_is_none h, λ h. absurd (false≢true h))

var_typed : (scope : Scope) (meaning : Meaning) → is_well_declared scope meaning ≡ true → is_var meaning ≡ true → is_some (type_meant meaning) ≡ true
var_typed scope (variable x changes type) fine h = fine
var_typed scope (bound_variable depth) fine h = refl
var_typed scope (block_variable label) fine h = refl
var_typed scope (record_class number) fine h = absurd (false≢true h)
var_typed scope (method number signature modifies) fine h = absurd (false≢true h)

global_is_var : (meaning : Meaning) → is_global_var meaning ≡ true → is_var meaning ≡ true
global_is_var (variable (global n) changes type) h = h
global_is_var (variable (local n) changes type) h = absurd (false≢true h)
global_is_var (variable (entry n) changes type) h = absurd (false≢true h)
global_is_var (variable result changes type) h = absurd (false≢true h)
global_is_var (bound_variable depth) h = absurd (false≢true h)
global_is_var (block_variable label) h = absurd (false≢true h)
global_is_var (record_class number) h = absurd (false≢true h)
global_is_var (method number signature modifies) h = absurd (false≢true h)

entry-fair : (scope : Scope) (context : Context) (place word : Place) (meaning : Option Meaning) →
    ((m : Meaning) → meaning ≡ Some m → is_well_declared scope m ≡ true) → Fair (judged_entry context place word meaning)
entry-fair scope (in_ensures type) place word None fine = (λ h. one_is_none h, λ h. absurd (false≢true h))
entry-fair scope (in_ensures type) place word (Some m) fine =
    former_at (is_global_var m) place m (λ h. var_typed scope m (fine m refl) (global_is_var m h))
entry-fair scope in_program place word meaning fine = (λ h. one_is_none h, λ h. absurd (false≢true h))
entry-fair scope in_claim place word meaning fine = (λ h. one_is_none h, λ h. absurd (false≢true h))
entry-fair scope in_proof place word meaning fine = (λ h. one_is_none h, λ h. absurd (false≢true h))

old-fair : (scope : Scope) (context : Context) (place word : Place) (meaning : Option Meaning) →
    ((m : Meaning) → meaning ≡ Some m → is_well_declared scope m ≡ true) → Fair (judged_old context place word meaning)
old-fair scope in_proof place word None fine = (λ h. one_is_none h, λ h. absurd (false≢true h))
old-fair scope in_proof place word (Some m) fine = former_at (is_var m) place m (λ h. var_typed scope m (fine m refl) h)
old-fair scope in_program place word meaning fine = (λ h. one_is_none h, λ h. absurd (false≢true h))
old-fair scope in_claim place word meaning fine = (λ h. one_is_none h, λ h. absurd (false≢true h))
old-fair scope (in_ensures type) place word meaning fine = (λ h. one_is_none h, λ h. absurd (false≢true h))

-- ---- sequences, records and fields

elements-fair : (place : Place) (parts : List Judged) → AllFair parts → Fair (judged_elements place parts)
elements-fair place [] fair = (λ h. one_is_none h, λ h. absurd (false≢true h))
elements-fair place (first ∷ others) fair =
    over-fair place (first ∷ others) (cond (is_element_type (known_type first)) (all_expect (known_type first) others) (type_differs first.place ∷ []))
    (Some (sequence_type (known_type first))) fair (λ typed h. refl)

listed-fair : (scope : Scope) (place : Place) (ty : Option TypeTree) (parts : List Judged) → AllFair parts →
    Fair (judged_listed place (written_elements scope ty) parts)
listed-fair scope place None parts fair = elements-fair place parts fair
listed-fair scope place (Some ty) parts fair =
    let front = judged_element scope.names ty in
    over-fair place (front ∷ parts) (all_expect (known_type front) parts) (Some (sequence_type (known_type front)))
    (element_type-fair scope.names ty, fair) (λ typed h. refl)

record-fair : (place : Place) (n : ℕ) (field_list : Option (List ValueType)) (parts : List Judged) → is_some field_list ≡ true → AllFair parts →
    Fair (judged_record place n field_list parts)
record-fair place n None parts some fair = absurd (false≢true some)
record-fair place n (Some ts) parts some fair =
    over-fair place parts (argument_faults place ts parts) (Some (record_type n)) fair (λ typed h. refl)

found_at : (here : Bool) (first f : Field) (found : Option Field) → is_some first.type ≡ true → (found ≡ Some f → is_some f.type ≡ true) →
    cond here (Some first) found ≡ Some f → is_some f.type ≡ true
found_at true first f found typed next h = subst (λ g. is_some g.type ≡ true) (ap (λ o. unwrap_or o first) h) typed
found_at false first f found typed next h = next h

found_typed : (test : Field → Bool) (fs : List Field) (f : Field) → AllByRecursion (λ g. is_some g.type ≡ true) fs → find test fs ≡ Some f →
    is_some f.type ≡ true
found_typed test [] f all h = none_is_some h
found_typed test (first ∷ fs) f all h = found_at (test first) first f (find test fs) all.0 (λ k. found_typed test fs f all.1 k) h

found-fair : (place word : Place) (head : Judged) (found : Option Field) → Fair head → ((f : Field) → found ≡ Some f → is_some f.type ≡ true) →
    Fair (judged_found place head word found)
found-fair place word head None fair some = faulty_over place (head ∷ []) (unknown_name word) None (fair, tt)
found-fair place word head (Some f) fair some = over-fair place (head ∷ []) [] f.type (fair, tt) (λ typed h. some f refl)

record_field-fair : (scope : Scope) (place : Place) (head : Judged) (written : Name) (t : ValueType) → Fair head →
    ((n : ℕ) → AllByRecursion (λ f. is_some f.type ≡ true) (fields_of scope n)) → Fair (judged_record_field scope place head written t)
record_field-fair scope place head written (record_type n) fair all =
    found-fair place written.place head (field_named scope n written.text) fair
    (λ f h. found_typed (λ g. bytes_eq g.text written.text) (fields_of scope n) f (all n) h)
record_field-fair scope place head written unit_type fair all = faulty_over place (head ∷ []) (type_differs place) None (fair, tt)
record_field-fair scope place head written number_type fair all = faulty_over place (head ∷ []) (type_differs place) None (fair, tt)
record_field-fair scope place head written truth_type fair all = faulty_over place (head ∷ []) (type_differs place) None (fair, tt)
record_field-fair scope place head written (sequence_type t) fair all = faulty_over place (head ∷ []) (type_differs place) None (fair, tt)

field_at : (is_indices is_size : Bool) (scope : Scope) (place : Place) (head : Judged) (written : Name) → Fair head →
    ((n : ℕ) → AllByRecursion (λ f. is_some f.type ≡ true) (fields_of scope n)) →
    Fair (cond is_indices (over place (head ∷ []) (claim_word_out_of_place written.place ∷ []) None)
    (cond is_size (judged_size place head) (judged_record_field scope place head written (known_type head))))
field_at true is_size scope place head written fair all = faulty_over place (head ∷ []) (claim_word_out_of_place written.place) None (fair, tt)
field_at false true scope place head written fair all =
    over-fair place (head ∷ []) (unless (is_sequence (known_type head)) (type_differs place)) (Some number_type) (fair, tt) (λ typed h. refl)
field_at false false scope place head written fair all = record_field-fair scope place head written (known_type head) fair all

-- ---- applications

-- the fields of a record that is applied have types
record_typed : (scope : Scope) (meaning : Option Meaning) (n : ℕ) → ((m : Meaning) → meaning ≡ Some m → is_well_declared scope m ≡ true) →
    callee_meant meaning ≡ a_record n → is_some (field_types scope n) ≡ true
record_typed scope meaning n fine h = fine (record_class n) (meant-class meaning n h)

abbrev callee_signed : Callee → Bool
callee_signed a_value = true
callee_signed (a_record n) = true
callee_signed (a_method signature modifies) = is_some signature

-- a method that is applied has a signature
method_signed : (scope : Scope) (meaning : Option Meaning) (signature : Option Signature) (modifies : List (List ℕ)) →
    ((m : Meaning) → meaning ≡ Some m → is_well_declared scope m ≡ true) → callee_meant meaning ≡ a_method signature modifies →
    is_some signature ≡ true
method_signed scope None signature modifies fine h = sym (ap callee_signed h)
method_signed scope (Some (method n own changes)) signature modifies fine h = sym (ap callee_signed h) ∙ fine (method n own changes) refl
method_signed scope (Some (record_class n)) signature modifies fine h = sym (ap callee_signed h)
method_signed scope (Some (variable x changes type)) signature modifies fine h = sym (ap callee_signed h)
method_signed scope (Some (bound_variable depth)) signature modifies fine h = sym (ap callee_signed h)
method_signed scope (Some (block_variable label)) signature modifies fine h = sym (ap callee_signed h)

own_nil : (place : Place) (parts : List Judged) (own : List Fault) (type : Option ValueType) → AllFair parts →
    (over place parts own type).faults ≡ [] → own ≡ []
own_nil place parts own type fair h =
    let p = both_nil (faults_of parts) (cond (are_typed parts) own []) h in
    subst (λ typed. cond typed own [] ≡ []) (faultless_all parts fair p.0) p.1

nested-fair : (scope : Scope) (context : Context) (place : Place) (signature : Option Signature) (modifies : List (List ℕ)) (arguments : List Judged) →
    is_some signature ≡ true → AllFair arguments → Fair (judged_nested_call scope context place signature modifies arguments)
nested-fair scope context place None modifies arguments signed fair = absurd (false≢true signed)
nested-fair scope context place (Some signature) modifies arguments signed fair =
    let own = argument_faults place signature.params arguments ++ call_out_of_place place ∷ [] in
    let changes = cond (is_program context) (change_faults scope place modifies) [] in (
      λ h. one_is_none (both_nil (argument_faults place signature.params arguments) (call_out_of_place place ∷ [])
          (own_nil place arguments own None fair (both_nil changes (over place arguments own None).faults h).1)).1,
      λ h. absurd (false≢true h),
    )

applied-fair : (scope : Scope) (context : Context) (place : Place) (c : Callee) (head : Judged) (arguments : List Judged) →
    ((n : ℕ) → c ≡ a_record n → is_some (field_types scope n) ≡ true) →
    ((signature : Option Signature) (modifies : List (List ℕ)) → c ≡ a_method signature modifies → is_some signature ≡ true) →
    Fair head → AllFair arguments → Fair (judged_application scope context place c head arguments)
applied-fair scope context place a_value head arguments records signed fair all =
    over-fair place (head ∷ arguments)
    (cond (is_sequence (known_type head)) (index_faults head arguments place) (type_differs place ∷ []))
    (Some (element_type (known_type head))) (fair, all) (λ typed h. refl)
applied-fair scope context place (a_record n) head arguments records signed fair all =
    record-fair place n (field_types scope n) arguments (records n refl) all
applied-fair scope context place (a_method signature modifies) head arguments records signed fair all =
    nested-fair scope context place signature modifies arguments (signed signature modifies refl) all

callee_fields : (context : Context) (scope : Scope) → IsWellDeclared context scope → (head : ExprTree) (n : ℕ) → callee scope head ≡ a_record n →
    is_some (field_types scope n) ≡ true
callee_fields context scope fine (e.name text place) n h = record_typed scope (meaning_of scope text) n (fine.names text) h
callee_fields context scope fine other n h = absurd (let k : a_value ≡ a_record n = h in cc)

callee_signature : (context : Context) (scope : Scope) → IsWellDeclared context scope → (head : ExprTree) (signature : Option Signature)
    (modifies : List (List ℕ)) → callee scope head ≡ a_method signature modifies → is_some signature ≡ true
callee_signature context scope fine (e.name text place) signature modifies h =
    method_signed scope (meaning_of scope text) signature modifies (fine.names text) h
callee_signature context scope fine other signature modifies h = sym (ap callee_signed h)

-- ---- all forms

new-fair : (known : Bool) (place : Place) → Fair (cond known (untyped place (duplicate_name place ∷ [])) (well place number_type))
new-fair true place = (λ h. one_is_none h, λ h. absurd (false≢true h))
new-fair false place = (λ h. refl, λ h. refl)

same_declared : (scope : Scope) (text : List ℕ) (m : Meaning) → is_well_declared scope m ≡ true → is_well_declared (with_bound scope text) m ≡ true
same_declared scope text (variable x changes type) h = h
same_declared scope text (bound_variable depth) h = h
same_declared scope text (block_variable label) h = h
same_declared scope text (record_class n) h = h
same_declared scope text (method n signature modifies) h = h

declared-bound : (context : Context) (scope : Scope) (text : List ℕ) → IsWellDeclared context scope → IsWellDeclared context (with_bound scope text)
declared-bound context scope text fine = record {
  names = λ other m h. ⊎_elim (λ k. same_declared scope text m (fine.names other m k))
      (λ k. subst (λ n. is_well_declared (with_bound scope text) n ≡ true) k refl)
      (meant-behind scope.names (declared text (bound_variable scope.depth)) other m h);
  fields = fine.fields;
  result = fine.result;
}

mutual
  pub fair : (context : Context) (scope : Scope) → IsWellDeclared context scope → (tree : ExprTree) → Fair (judged scope context tree)
  fair context scope fine (e.number place z) = well-fair place number_type
  fair context scope fine (e.truth place) = well-fair place truth_type
  fair context scope fine (e.falsity place) = well-fair place truth_type
  fair context scope fine (e.name text place) = meaning-fair scope place (meaning_of scope text) (fine.names text)
  fair context scope fine (e.result place ty) = result-fair context fine.result place (written_types scope ty) (written-fair scope ty)
  fair context scope fine (e.entry_value place written) =
      entry-fair scope context place written.place (meaning_of scope written.text) (fine.names written.text)
  fair context scope fine (e.old_value place written) =
      old-fair scope context place written.place (meaning_of scope written.text) (fine.names written.text)
  fair context scope fine (e.minus place operand) =
      over-fair place (judged scope context operand ∷ []) (expects number_type (judged scope context operand)) (Some number_type)
      (fair context scope fine operand, tt) (λ typed h. refl)
  fair context scope fine (e.negation place operand) =
      over-fair place (judged scope context operand ∷ []) (expects truth_type (judged scope context operand)) (Some truth_type)
      (fair context scope fine operand, tt) (λ typed h. refl)
  fair context scope fine (e.binary place operator left right) =
      over-fair place (judged scope context left ∷ judged scope context right ∷ [])
      (operand_faults (connective operator) (judged scope context left) (judged scope context right))
      (Some (connected_type (connective operator) (known_type (judged scope context left))))
      (fair context scope fine left, (fair context scope fine right, tt)) (λ typed h. refl)
  fair context scope fine (e.application place head arguments) =
      applied-fair scope context place (callee scope head) (judged scope context head) (judged_each scope context arguments)
      (callee_fields context scope fine head) (callee_signature context scope fine head)
      (fair context scope fine head) (all_fair context scope fine arguments)
  fair context scope fine (e.update place head index element) =
      let h = judged scope context head in
      let i = judged scope context index in
      let x = judged scope context element in
      over-fair place (h ∷ i ∷ x ∷ [])
      (cond (is_sequence (known_type h)) (expects number_type i ++ expects (element_type (known_type h)) x) (type_differs place ∷ []))
      h.type (fair context scope fine head, (fair context scope fine index, (fair context scope fine element, tt)))
      (λ typed none. (and_parts (is_some h.type) (are_typed (i ∷ x ∷ [])) typed).0)
  fair context scope fine (e.field place head written) =
      field_at (bytes_eq written.text (codes "indices")) (bytes_eq written.text (codes "size")) scope place (judged scope context head) written
      (fair context scope fine head) fine.fields
  fair context scope fine (e.sequence place ty elements) =
      listed-fair scope place ty (judged_each scope context elements) (all_fair context scope fine elements)
  fair context scope fine (e.quantified place quantifier low high named body) =
      let lo = judged scope context low in
      let hi = judged scope context high in
      let b = judged (with_bound scope named.text) context body in
      over-fair place (lo ∷ hi ∷ judged_new scope named ∷ b ∷ [])
      (expects number_type lo ++ expects number_type hi ++ expects truth_type b ++ word_faults context place) (Some truth_type) (
        fair context scope fine low,
        (
          fair context scope fine high,
          (
            new-fair (is_known scope named.text) named.place,
            (fair context (with_bound scope named.text) (declared-bound context scope named.text fine) body, tt),
          ),
        ),
      ) (λ typed h. refl)
  fair context scope fine (e.quantified_indices place quantifier head named body) =
      let h = judged scope context head in
      let b = judged (with_bound scope named.text) context body in
      over-fair place (h ∷ judged_new scope named ∷ b ∷ [])
      (unless (is_sequence (known_type h)) (type_differs h.place) ++ expects truth_type b ++ word_faults context place) (Some truth_type) (
        fair context scope fine head,
        (
          new-fair (is_known scope named.text) named.place,
          (fair context (with_bound scope named.text) (declared-bound context scope named.text fine) body, tt),
        ),
      ) (λ typed none. refl)

  pub all_fair : (context : Context) (scope : Scope) → IsWellDeclared context scope → (trees : ExprTrees) → AllFair (judged_each scope context trees)
  all_fair context scope fine no_exprs = tt
  all_fair context scope fine (expr_then tree trees) = (fair context scope fine tree, all_fair context scope fine trees)

pub typed_where_faultless : TypedWhereFaultless
typed_where_faultless context scope fine tree = fair context scope fine tree
