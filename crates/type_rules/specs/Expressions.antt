-- What is found at an expression of a text.
use Rattle.std.specs.Prelude.{ℕ, nat_eq, Bool, true, false, if◌then◌else◌, List, [], ◌∷◌, ◌++◌, length, find, codes, Option, Some, None}
use Rattle.std.specs.Str.{bytes_eq}
use Rattle.slang_values.specs.Value.{ValueType, unit_type, number_type, truth_type, sequence_type, record_type, element_type, is_element_type}
use Rattle.slang_values.specs.declared.operators.Binary.{Binary}
use Rattle.slang_tree.specs.declared.place.Place.{Place}
use Rattle.slang_tree.specs.declared.place.Fault.{Fault}
use Rattle.slang_tree.specs.declared.expression.Name.{Name}
use Rattle.slang_tree.specs.TypeTree.{TypeTree}
use Rattle.slang_tree.specs.ExprTree.{ExprTree, ExprTrees, no_exprs, expr_then}
use Rattle.slang_tree.specs.ExprTree as e
use Rattle.program_trees.specs.Operators.{connective}
use Rattle.type_rules.specs.Faults.{unknown_name, duplicate_name, type_differs, argument_count, outside_modifies, call_out_of_place, claim_word_out_of_place, unless}
use Rattle.type_rules.specs.Meanings.{Signature, Meaning, variable, bound_variable, block_variable, record_class, method, Field, Scope, meaning_of, is_known, fields_of, field_types, is_well_declared, is_var, is_global_var, covers_all, with_bound}
use Rattle.type_rules.specs.Judged.{Judged, well, untyped, faults_of, known_type, over, expects, all_expect, expect_each, is_sequence}
use Rattle.type_rules.specs.TypeNames.{judged_type, judged_element}

-- Where an expression stands: in the program, or in a claim. Some claims may speak of more than others.
pub data Context : Type 0 where
  in_program : Context
  -- Requires, an invariant or an `assert`
  in_claim : Context
  -- Ensures of a method with a result of this type
  in_ensures : (result : Option ValueType) → Context
  -- a proof
  in_proof : Context

abbrev pub is_program : Context → Bool
is_program in_program = true
is_program other = false

-- ---- names

abbrev pub type_meant : Meaning → Option ValueType
type_meant (variable x changes type) = type
type_meant (bound_variable depth) = Some number_type
type_meant (block_variable label) = Some number_type
type_meant (record_class number) = None
type_meant (method number signature modifies) = None

-- the name of a variable; that of a record or a method is no expression
abbrev pub is_variable : Meaning → Bool
is_variable (record_class number) = false
is_variable (method number signature modifies) = false
is_variable other = true

abbrev pub judged_meaning : Scope → Place → Option Meaning → Judged
judged_meaning scope place None = untyped place (unknown_name place ∷ [])
judged_meaning scope place (Some meaning) =
    if is_variable meaning then record { place = place; faults = []; type = type_meant meaning }
    else untyped place (if is_well_declared scope meaning then type_differs place ∷ [] else [])

-- a name that is declared here, of a number: none of that name is in scope
abbrev pub judged_new : Scope → Name → Judged
judged_new scope written =
    if is_known scope written.text then untyped written.place (duplicate_name written.place ∷ []) else well written.place number_type

-- ---- words of claims

-- `Res`, with the type beside it, if there is one
abbrev pub judged_result_word : Context → Place → List Judged → Judged
judged_result_word (in_ensures None) place types = untyped place (faults_of types)
judged_result_word (in_ensures (Some unit_type)) place types = over place types (claim_word_out_of_place place ∷ []) None
judged_result_word (in_ensures (Some t)) place types = over place types (all_expect t types) (Some t)
judged_result_word other place types = over place types (claim_word_out_of_place place ∷ []) None

-- what a variable was, where one of this kind may be named so
abbrev pub judged_former : (Meaning → Bool) → Place → Place → Option Meaning → Judged
judged_former may_be_named place at None = untyped place (unknown_name at ∷ [])
judged_former may_be_named place at (Some meaning) =
    if may_be_named meaning then record { place = place; faults = []; type = type_meant meaning }
    else untyped place (claim_word_out_of_place place ∷ [])

-- `In` of a name
abbrev pub judged_entry : Context → Place → Place → Option Meaning → Judged
judged_entry (in_ensures result) place at meaning = judged_former is_global_var place at meaning
judged_entry other place at meaning = untyped place (claim_word_out_of_place place ∷ [])

-- `Old` of a name
abbrev pub judged_old : Context → Place → Place → Option Meaning → Judged
judged_old in_proof place at meaning = judged_former is_var place at meaning
judged_old other place at meaning = untyped place (claim_word_out_of_place place ∷ [])

-- ---- operators

abbrev pub judged_prefix : Place → ValueType → Judged → Judged
judged_prefix place t operand = over place (operand ∷ []) (expects t operand) (Some t)

-- what both operands of a connective are, where this is one type
abbrev pub operand_type : Binary → ValueType
operand_type Binary.And = truth_type
operand_type Binary.Or = truth_type
operand_type Binary.Imply = truth_type
operand_type other = number_type

abbrev pub appended_faults : Judged → Judged → List Fault
appended_faults left right =
    if is_sequence (known_type left) then expects (element_type (known_type left)) right else type_differs left.place ∷ []

abbrev pub operand_faults : Binary → Judged → Judged → List Fault
operand_faults Binary.Eq left right = expects (known_type left) right
operand_faults Binary.Append left right = appended_faults left right
operand_faults operator left right = expects (operand_type operator) left ++ expects (operand_type operator) right

-- the type that a connective gives, the left operand of which has this type
abbrev pub connected_type : Binary → ValueType → ValueType
connected_type Binary.Add left = number_type
connected_type Binary.Sub left = number_type
connected_type Binary.Mul left = number_type
connected_type Binary.Div left = number_type
connected_type Binary.Rem left = number_type
connected_type Binary.Append left = left
connected_type other left = truth_type

abbrev pub judged_binary : Place → Binary → Judged → Judged → Judged
judged_binary place operator left right =
    over place (left ∷ right ∷ []) (operand_faults operator left right) (Some (connected_type operator (known_type left)))

-- ---- sequences and records

-- at a place of a sequence
abbrev pub index_faults : Judged → List Judged → Place → List Fault
index_faults head (index ∷ []) place = expects number_type index
index_faults head other place = argument_count place ∷ []

abbrev pub judged_read : Place → Judged → List Judged → Judged
judged_read place head arguments =
    over place (head ∷ arguments)
    (if is_sequence (known_type head) then index_faults head arguments place else type_differs place ∷ [])
    (Some (element_type (known_type head)))

abbrev pub judged_update : Place → Judged → Judged → Judged → Judged
judged_update place head index element =
    over place (head ∷ index ∷ element ∷ [])
    (if is_sequence (known_type head) then expects number_type index ++ expects (element_type (known_type head)) element else type_differs place ∷ [])
    head.type

-- Of elements without a type in front the first tells the type.
abbrev pub judged_elements : Place → List Judged → Judged
judged_elements place [] = untyped place (type_differs place ∷ [])
judged_elements place (first ∷ others) =
    over place (first ∷ others)
    (if is_element_type (known_type first) then all_expect (known_type first) others else type_differs first.place ∷ [])
    (Some (sequence_type (known_type first)))

-- the type in front of elements, if there is one, and the elements
abbrev pub judged_listed : Place → List Judged → List Judged → Judged
judged_listed place [] elements = judged_elements place elements
judged_listed place (front ∷ others) elements =
    over place (front ∷ elements) (all_expect (known_type front) elements) (Some (sequence_type (known_type front)))

-- arguments for these types, of a name at a place
abbrev pub argument_faults : Place → List ValueType → List Judged → List Fault
argument_faults place types arguments =
    if nat_eq (length types) (length arguments) then expect_each types arguments else argument_count place ∷ []

abbrev pub judged_record : Place → ℕ → Option (List ValueType) → List Judged → Judged
judged_record place number None arguments = untyped place (faults_of arguments)
judged_record place number (Some types) arguments =
    over place arguments (argument_faults place types arguments) (Some (record_type number))

abbrev pub judged_size : Place → Judged → Judged
judged_size place head = over place (head ∷ []) (unless (is_sequence (known_type head)) (type_differs place)) (Some number_type)

abbrev pub judged_found : Place → Judged → Place → Option Field → Judged
judged_found place head at None = over place (head ∷ []) (unknown_name at ∷ []) None
judged_found place head at (Some f) = over place (head ∷ []) [] f.type

abbrev pub field_named : Scope → ℕ → List ℕ → Option Field
field_named scope number text = find (λ f. bytes_eq f.text text) (fields_of scope number)

abbrev pub judged_record_field : Scope → Place → Judged → Name → ValueType → Judged
judged_record_field scope place head written (record_type number) =
    judged_found place head written.place (field_named scope number written.text)
judged_record_field scope place head written other = over place (head ∷ []) (type_differs place ∷ []) None

abbrev pub judged_field : Scope → Place → Judged → Name → Judged
judged_field scope place head written =
    if bytes_eq written.text (codes "indices") then over place (head ∷ []) (claim_word_out_of_place written.place ∷ []) None
    else (if bytes_eq written.text (codes "size") then judged_size place head
    else judged_record_field scope place head written (known_type head))

-- ---- quantifiers

abbrev pub word_faults : Context → Place → List Fault
word_faults context place = if is_program context then claim_word_out_of_place place ∷ [] else []

abbrev pub judged_quantified : Context → Place → (low high name body : Judged) → Judged
judged_quantified context place low high name body =
    over place (low ∷ high ∷ name ∷ body ∷ [])
    (expects number_type low ++ expects number_type high ++ expects truth_type body ++ word_faults context place) (Some truth_type)

abbrev pub judged_quantified_indices : Context → Place → (head name body : Judged) → Judged
judged_quantified_indices context place head name body =
    over place (head ∷ name ∷ body ∷ [])
    (unless (is_sequence (known_type head)) (type_differs head.place) ++ expects truth_type body ++ word_faults context place) (Some truth_type)

-- ---- calls

-- What the head of an application names: a record, a method, or else a value.
pub data Callee : Type 0 where
  a_value : Callee
  a_record : (number : ℕ) → Callee
  a_method : (signature : Option Signature) (modifies : List (List ℕ)) → Callee

abbrev pub callee_meant : Option Meaning → Callee
callee_meant (Some (record_class number)) = a_record number
callee_meant (Some (method number signature modifies)) = a_method signature modifies
callee_meant other = a_value

abbrev pub callee : Scope → ExprTree → Callee
callee scope (e.name text place) = callee_meant (meaning_of scope text)
callee scope other = a_value

-- The method changes nothing that may not be changed there.
abbrev pub change_faults : Scope → Place → List (List ℕ) → List Fault
change_faults scope place modifies = unless (covers_all scope modifies) (outside_modifies place)

-- A call where one may stand. What the method changes is told of beside what is wrong with the arguments.
abbrev pub judged_call : Scope → Place → Option Signature → List (List ℕ) → List Judged → Judged
judged_call scope place None modifies arguments = untyped place (faults_of arguments)
judged_call scope place (Some signature) modifies arguments = record {
  place = place;
  faults = change_faults scope place modifies ++ call.faults;
  type = call.type;
}
  where
    call : Judged
    call = over place arguments (argument_faults place signature.params arguments) (Some signature.result)

-- A call where none may stand. In a claim nothing is said of what it changes.
abbrev pub judged_nested_call : Scope → Context → Place → Option Signature → List (List ℕ) → List Judged → Judged
judged_nested_call scope context place None modifies arguments = untyped place (faults_of arguments)
judged_nested_call scope context place (Some signature) modifies arguments =
    untyped place
    ((if is_program context then change_faults scope place modifies else [])
    ++ (over place arguments (argument_faults place signature.params arguments ++ call_out_of_place place ∷ []) None).faults)

abbrev pub judged_application : Scope → Context → Place → Callee → Judged → List Judged → Judged
judged_application scope context place a_value head arguments = judged_read place head arguments
judged_application scope context place (a_record number) head arguments = judged_record place number (field_types scope number) arguments
judged_application scope context place (a_method signature modifies) head arguments =
    judged_nested_call scope context place signature modifies arguments

-- ---- expressions

-- the type that is written beside a form, if there is one
abbrev pub written_types : Scope → Option TypeTree → List Judged
written_types scope None = []
written_types scope (Some ty) = judged_type scope.names ty ∷ []

abbrev pub written_elements : Scope → Option TypeTree → List Judged
written_elements scope None = []
written_elements scope (Some ty) = judged_element scope.names ty ∷ []

abbrev mutual
  -- Parts come first: a form tells of faults of its own only where each of its parts has a type.
  pub judged : Scope → Context → ExprTree → Judged
  judged scope context (e.number place z) = well place number_type
  judged scope context (e.truth place) = well place truth_type
  judged scope context (e.falsity place) = well place truth_type
  judged scope context (e.name text place) = judged_meaning scope place (meaning_of scope text)
  judged scope context (e.result place ty) = judged_result_word context place (written_types scope ty)
  judged scope context (e.entry_value place written) = judged_entry context place written.place (meaning_of scope written.text)
  judged scope context (e.old_value place written) = judged_old context place written.place (meaning_of scope written.text)
  judged scope context (e.minus place operand) = judged_prefix place number_type (judged scope context operand)
  judged scope context (e.negation place operand) = judged_prefix place truth_type (judged scope context operand)
  judged scope context (e.binary place operator left right) =
      judged_binary place (connective operator) (judged scope context left) (judged scope context right)
  judged scope context (e.application place head arguments) =
      judged_application scope context place (callee scope head) (judged scope context head) (judged_each scope context arguments)
  judged scope context (e.update place head index element) =
      judged_update place (judged scope context head) (judged scope context index) (judged scope context element)
  judged scope context (e.field place head written) = judged_field scope place (judged scope context head) written
  judged scope context (e.sequence place ty elements) = judged_listed place (written_elements scope ty) (judged_each scope context elements)
  judged scope context (e.quantified place quantifier low high named body) =
      judged_quantified context place (judged scope context low) (judged scope context high) (judged_new scope named)
      (judged (with_bound scope named.text) context body)
  judged scope context (e.quantified_indices place quantifier head named body) =
      judged_quantified_indices context place (judged scope context head) (judged_new scope named)
      (judged (with_bound scope named.text) context body)

  pub judged_each : Scope → Context → ExprTrees → List Judged
  judged_each scope context no_exprs = []
  judged_each scope context (expr_then tree trees) = judged scope context tree ∷ judged_each scope context trees

-- ---- the right side of a `val`, a `var` or an assignment, which may be a call

abbrev pub judged_side : Scope → Place → Callee → Judged → List Judged → Judged
judged_side scope place (a_method signature modifies) elsewhere arguments = judged_call scope place signature modifies arguments
judged_side scope place other elsewhere arguments = elsewhere

abbrev pub judged_right : Scope → ExprTree → Judged
judged_right scope (e.application place head arguments) =
    judged_side scope place (callee scope head) (judged scope in_program (e.application place head arguments))
    (judged_each scope in_program arguments)
judged_right scope other = judged scope in_program other
