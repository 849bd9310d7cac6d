-- What is found at a constant.
use Rattle.std.specs.Prelude.{List, [], ◌∷◌, Option, Some, None}
use Rattle.slang_values.specs.Value.{number_type, truth_type}
use Rattle.slang_tree.specs.declared.place.Place.{Place}
use Rattle.slang_tree.specs.DeclTree.{ConstTree, const_number, const_minus, const_truth, const_falsity, const_sequence, const_record, ConstTrees, no_consts, const_then}
use Rattle.type_rules.specs.Faults.{unknown_name, call_out_of_place}
use Rattle.type_rules.specs.Meanings.{Meaning, record_class, Scope, meaning_of, field_types}
use Rattle.type_rules.specs.Judged.{Judged, well, untyped, faults_of}
use Rattle.type_rules.specs.Expressions.{judged_listed, judged_record, written_elements}

-- Only a record is applied in a constant. This is told whatever else is wrong.
abbrev pub judged_applied : Scope → Place → Option Meaning → List Judged → Judged
judged_applied scope place None fields = untyped place (unknown_name place ∷ faults_of fields)
judged_applied scope place (Some (record_class number)) fields = judged_record place number (field_types scope number) fields
judged_applied scope place (Some other) fields = untyped place (call_out_of_place place ∷ faults_of fields)

abbrev mutual
  pub judged_const : Scope → ConstTree → Judged
  judged_const scope (const_number place z) = well place number_type
  judged_const scope (const_minus place digits z) = well place number_type
  judged_const scope (const_truth place) = well place truth_type
  judged_const scope (const_falsity place) = well place truth_type
  judged_const scope (const_sequence place ty elements) = judged_listed place (written_elements scope ty) (judged_consts scope elements)
  judged_const scope (const_record written fields) =
      judged_applied scope written.place (meaning_of scope written.text) (judged_consts scope fields)

  pub judged_consts : Scope → ConstTrees → List Judged
  judged_consts scope no_consts = []
  judged_consts scope (const_then tree trees) = judged_const scope tree ∷ judged_consts scope trees
