-- The constants of a text without faults are constants of the program, of their types.
use Rattle.std.specs.Prelude.{◌≡◌, ℕ, ◌+◌, ◌<◌, ◌≤◌, List, [], length, true, is_some, Some}
use Rattle.slang_values.specs.Value.{ValueType, Records, fields}
use Rattle.slang_tree.specs.DeclTree.{ConstTree}
use Rattle.typed_programs.specs.Parts.{is_constant}
use Rattle.typed_programs.specs.Scopes.{IsValueIn}
use Rattle.typed_programs.specs.Scopes as programs
use Rattle.type_rules.specs.Meanings.{record_class, Scope, meaning_of, field_types}
use Rattle.type_rules.specs.Constants.{judged_const}
use Rattle.typed_texts.specs.Values.{constant_of_tree}
use Rattle.text_heights.specs.Heights.{const_height}

-- the scope has these records
pub record HasRecords (records : Records) (scope : Scope) : Type 0 where
  pub classes : (text : List ℕ) (n : ℕ) → meaning_of scope text ≡ Some (record_class n) → n < length records
  pub same_fields : (n : ℕ) → field_types scope n ≡ Some (fields records n)

abbrev pub ConstantsHaveTypes : Type 0
ConstantsHaveTypes =
    (records : Records) (scope : Scope) → HasRecords records scope → (tree : ConstTree) → (judged_const scope tree).faults ≡ [] →
    is_some (judged_const scope tree).type ≡ true

abbrev pub ConstantsAreConstant : Type 0
ConstantsAreConstant = (scope : Scope) (tree : ConstTree) (node : ℕ) → is_constant ((constant_of_tree scope tree).from node) ≡ true

-- A constant of a type is a value of that type in the program, at a place where nothing need be named.
abbrev pub ConstantsAreValues : Type 0
ConstantsAreValues =
    (place : programs.Scope) (scope : Scope) → HasRecords place.program.records scope → (tree : ConstTree) (t : ValueType) (node : ℕ) →
    (judged_const scope tree).type ≡ Some t → const_height tree ≤ 1000 → node + length (constant_of_tree scope tree).places ≤ place.nodes →
    IsValueIn place t ((constant_of_tree scope tree).from node)
