-- The records of a project without faults are well formed in the program.
use Rattle.std.specs.Prelude.{◌≡◌, ℕ, ◌<◌, List, [], length, true, is_some, Some, map, get_or}
use Rattle.std.specs.List.{AllByRecursion, list_all}
use Rattle.slang_values.specs.Value.{fields, is_known, AreWellFormed, is_value_type}
use Rattle.slang_tree.specs.DeclTree.{DeclTree}
use Rattle.type_rules.specs.Meanings.{record_class, all_typed, meaning_among}
use Rattle.type_rules.specs.Projects.{outline_names, record_fields, decls_faults}
use Rattle.typed_texts.specs.TypedProjects.{records_of}

-- no declaration of the project has a fault
abbrev pub IsFaultless : List DeclTree → Type 0
IsFaultless decls = decls_faults decls [] decls ≡ []

-- Records of that many declarations: what they name is there, and their fields have the types that are written.
pub record RecordsFit (decls : List DeclTree) : Type 0 where
  pub well_formed : AreWellFormed (records_of decls)
  pub same_fields : (n : ℕ) → all_typed (map (λ f. f.type) (get_or (record_fields decls) n [])) ≡ Some (fields (records_of decls) n)
  pub typed_fields : (n : ℕ) → AllByRecursion (λ f. is_some f.type ≡ true) (get_or (record_fields decls) n [])
  pub known_fields : (n : ℕ) → list_all (is_known (records_of decls)) (fields (records_of decls) n) ≡ true
  pub value_fields : (n : ℕ) → list_all is_value_type (fields (records_of decls) n) ≡ true
  pub classes : (text : List ℕ) (n : ℕ) → meaning_among (outline_names decls) text ≡ Some (record_class n) → n < length (records_of decls)

abbrev pub RecordsAreWellFormed : Type 0
RecordsAreWellFormed = (decls : List DeclTree) → IsFaultless decls → RecordsFit decls
