-- What holds of the faults of projects, as one statement each.
use Rattle.std.specs.Prelude.{◌≡◌, ◌≢◌, ◌⊎◌, false, List, [], ◌∷◌, length, filter_map, Some}
use Rattle.std.specs.List.{AllByRecursion}
use Rattle.slang_tree.specs.declared.place.Fault.{Fault}
use Rattle.slang_tree.specs.DeclTree.{MethodDeclTree, DeclTree, method_decl}
use Rattle.type_rules.specs.Faults.{comes_before, first_fault, too_many_methods}
use Rattle.type_rules.specs.Projects.{method_of, count_faults}

-- it is one of the faults
abbrev pub IsOneOf : Fault → List Fault → Type 0
IsOneOf found [] = ⊥
IsOneOf found (other ∷ faults) = (other ≡ found) ⊎ IsOneOf found faults

-- The first fault is one of them, and none of them comes before it.
pub record IsFirst (found : Fault) (faults : List Fault) : Type 0 where
  pub among : IsOneOf found faults
  pub none_before : AllByRecursion (λ other. comes_before other found ≡ false) faults

abbrev pub FirstFaultIsFirst : Type 0
FirstFaultIsFirst = (faults : List Fault) (found : Fault) → first_fault faults ≡ Some found → IsFirst found faults

-- The method behind 10,000 others is one too many, and no other method is.
pub record CountsMethods (before : List DeclTree) (decl : MethodDeclTree) : Type 0 where
  pub one_too_many : length (filter_map method_of before) ≡ 10000 → count_faults before (method_decl decl) ≡ too_many_methods decl.written.place ∷ []
  pub no_other : length (filter_map method_of before) ≢ 10000 → count_faults before (method_decl decl) ≡ []
