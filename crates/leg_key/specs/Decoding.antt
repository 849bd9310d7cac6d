-- The leg of a key.
use Rattle.std.specs.Prelude.{◌≡◌, ℕ, List, Option, Some, None}
use Rattle.program_trees.specs.Legs.{LegTree}
use Rattle.leg_forms.specs.WellFormed.{IsWellFormedLeg}
use Rattle.key_rules.specs.Laws.{IsKeyOf}
use Rattle.lk_programs.specs.declared.leg.Leg.{Leg}
use Rattle.lk_programs.specs.LegData.{leg_tree}

-- The bytes are the key of no well-formed leg.
abbrev pub HasNoLeg : List ℕ → Type 0
HasNoLeg key = (leg : LegTree) → IsKeyOf key leg → ⊥

-- The bytes are the key of this leg, or where there is none, of none.
abbrev pub IsLegOf : List ℕ → Option Leg → Type 0
IsLegOf key None = HasNoLeg key
IsLegOf key (Some leg) = IsKeyOf key (leg_tree leg)

-- It is the leg, where that is well formed; else there is none.
abbrev pub IsTestedLeg : Leg → Option Leg → Type 0
IsTestedLeg leg None = IsWellFormedLeg (leg_tree leg) → ⊥
IsTestedLeg leg (Some kept) = (kept ≡ leg) × IsWellFormedLeg (leg_tree leg)
