-- What the tests say.
use Rattle.std.specs.Prelude.{◌≡◌, ℕ, true, List}
use Rattle.std.specs.List.{AllByRecursion, list_all}
use Rattle.slang_values.specs.Value.{ValueType, Records}
use Rattle.program_trees.specs.Legs.{ItemTree}
use Rattle.leg_rules.specs.Typed.{AreTypedItems}
use Rattle.leg_forms.specs.WellFormed.{IsWellFormedItem}
use Rattle.item_checks.specs.Tests.{item_passes}

-- Items pass exactly where they are well typed and well formed.
abbrev pub ItemsAreTested : Type 0
ItemsAreTested = (records : Records) (variables : List ValueType) (items : List (ItemTree ℕ))
    → (list_all (item_passes records variables) items ≡ true → AreTypedItems records variables items × AllByRecursion IsWellFormedItem items)
    × (AreTypedItems records variables items → AllByRecursion IsWellFormedItem items → list_all (item_passes records variables) items ≡ true)
