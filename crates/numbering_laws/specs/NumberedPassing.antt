-- What it means that a leg passes, over its own names and over numbers.
use Rattle.std.specs.Prelude.{◌≡◌, ℕ, true, List, map, slice_get, Some, None}
use Rattle.slang_values.specs.Value.{ValueType, Value, is_known}
use Rattle.slang_values.specs.Typing.{NameTypes, FitNames}
use Rattle.program_trees.specs.Programs.{MethodTree, ProgramTree}
use Rattle.program_trees.specs.Variables.{Variable, local, global, entry, result}
use Rattle.program_trees.specs.Legs.{ItemTree, LegTree, renamed_item}
use Rattle.leg_rules.specs.LegNames.{LegName, own, of_call}
use Rattle.leg_rules.specs.Legs.{Items, at_node}
use Rattle.leg_rules.specs.Numbering.{Appearance, of_variable, of_type}
use Rattle.leg_soundness.specs.Passing.{Passes, begins, leg_types, AtEnd}

-- ---- over its own names

-- The leg passes, whatever values of their types its variables begin with.
abbrev pub LegPasses : ProgramTree Variable → MethodTree Variable → Items → Type 0
LegPasses program method items =
    (names : LegName → Value) → FitNames program.records (leg_types program method) names →
    Passes program.records (leg_types program method) items AtEnd (begins names)

-- What appears on a leg has a type, and the records that the type names are there.
abbrev pub IsKnownAppearance : ProgramTree Variable → MethodTree Variable → Appearance → Type 0
IsKnownAppearance program method (of_variable x) = (t : ValueType) × (leg_types program method x ≡ Some t) × (is_known program.records t ≡ true)
IsKnownAppearance program method (of_type t) = is_known program.records t ≡ true

-- ---- over numbers

-- A numbered variable by a name, so that one meaning of passing serves for both.
abbrev pub number_name : ℕ → LegName
number_name n = own (local n)

abbrev pub named_items : List (ItemTree ℕ) → Items
named_items items = map (λ item. at_node 0 (renamed_item number_name item)) items

-- the types of the variables, by their numbers
abbrev pub number_types : List ValueType → NameTypes LegName
number_types variables (own (local n)) = slice_get variables n
number_types variables (own (global n)) = None
number_types variables (own (entry n)) = None
number_types variables (own result) = None
number_types variables (of_call node number x) = None

-- The leg over numbers passes, whatever values of their types its variables begin with.
abbrev pub NumberedPasses : LegTree → Type 0
NumberedPasses leg =
    (names : LegName → Value) → FitNames leg.records (number_types leg.variables) names →
    Passes leg.records (number_types leg.variables) (named_items leg.items) AtEnd (begins names)
