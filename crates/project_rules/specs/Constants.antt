-- Which constants of a text are well typed, and of which type.
use Rattle.std.specs.Prelude.{◌≡◌, ◌↔◌, ℕ, true, List, [], ◌∷◌, ⊤, Option, Some, None}
use Rattle.slang_values.specs.Value.{ValueType, number_type, truth_type, sequence_type, record_type, is_element_type}
use Rattle.slang_tree.specs.TypeTree.{TypeTree}
use Rattle.slang_tree.specs.DeclTree.{ConstTree, const_number, const_minus, const_truth, const_falsity, const_sequence, const_record, ConstTrees, no_consts, const_then}
use Rattle.type_rules.specs.Meanings.{record_class, Scope, meaning_of, field_types}
use Rattle.type_rules.specs.Constants.{judged_const}
use Rattle.typing_rules.specs.Expressions.{IsElementType}

-- Where no type stands in front there is a first element.
abbrev pub FrontConst : Scope → Option TypeTree → ConstTrees → ValueType → Type 0
FrontConst scope None no_consts s = ⊥
FrontConst scope None (const_then tree trees) s = is_element_type s ≡ true
FrontConst scope (Some ty) trees s = IsElementType scope.names ty s

abbrev mutual
  pub ConstHas : Scope → ConstTree → ValueType → Type 0
  ConstHas scope (const_number place z) t = t ≡ number_type
  ConstHas scope (const_minus place digits z) t = t ≡ number_type
  ConstHas scope (const_truth place) t = t ≡ truth_type
  ConstHas scope (const_falsity place) t = t ≡ truth_type
  ConstHas scope (const_sequence place ty elements) t =
      (s : ValueType) × (t ≡ sequence_type s) × FrontConst scope ty elements s × EachConst scope elements s
  ConstHas scope (const_record written fields) t =
      (n : ℕ) × (ts : List ValueType) × (meaning_of scope written.text ≡ Some (record_class n)) × (field_types scope n ≡ Some ts)
      × ConstsHave scope fields ts × (t ≡ record_type n)

  -- one constant for each type, of that type
  pub ConstsHave : Scope → ConstTrees → List ValueType → Type 0
  ConstsHave scope no_consts [] = ⊤
  ConstsHave scope no_consts (t ∷ ts) = ⊥
  ConstsHave scope (const_then tree trees) [] = ⊥
  ConstsHave scope (const_then tree trees) (t ∷ ts) = ConstHas scope tree t × ConstsHave scope trees ts

  pub EachConst : Scope → ConstTrees → ValueType → Type 0
  EachConst scope no_consts t = ⊤
  EachConst scope (const_then tree trees) t = ConstHas scope tree t × EachConst scope trees t

abbrev pub ConstantTypesAreFound : Type 0
ConstantTypesAreFound = (scope : Scope) (tree : ConstTree) (t : ValueType) → ((judged_const scope tree).type ≡ Some t) ↔ ConstHas scope tree t
