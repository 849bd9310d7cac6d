-- What holds of what is to be shown along legs, as one statement each.
use Rattle.std.specs.List.{All}
use Rattle.validity.specs.Validity.{symbol_types, IsWellSorted}
use Rattle.deduction_rules.specs.Step.{AreSortedSteps}
use Rattle.program_trees.specs.Legs.{LegTree}
use Rattle.leg_rules.specs.Sequents.{Obligation, to_show, to_accept, too_large, obligations}
use Rattle.leg_rules.specs.Typed.{IsTypedLeg}

abbrev pub IsWellSortedObligation : Obligation → Type 0
IsWellSortedObligation (to_show item kind sequent) = IsWellSorted sequent
IsWellSortedObligation (to_accept item base steps) = IsWellSorted base × AreSortedSteps base.records (symbol_types base) steps
IsWellSortedObligation (too_large item kind) = Unit {0}

-- What is to be shown along a well-typed leg is well sorted.
abbrev pub SequentsAreWellSorted : Type 0
SequentsAreWellSorted = (leg : LegTree) → IsTypedLeg leg → All IsWellSortedObligation (obligations leg)
