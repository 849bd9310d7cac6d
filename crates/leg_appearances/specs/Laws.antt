-- What it says of a leg that all its variables and records are seen.
use Rattle.std.specs.Prelude.{◌≡◌, true, List, map, length, Some}
use Rattle.std.specs.List.{list_all, range_with_len}
use Rattle.program_trees.specs.Legs.{LegTree}
use Rattle.leg_forms.specs.WellFormed.{leg_name, appears, appearing_type, is_front, variable_order}
use Rattle.record_checks.specs.declared.summary.Summary.{Summary}
use Rattle.record_checks.specs.Summaries.{all_numbers_with}
use Rattle.leg_appearances.specs.declared.variables.Seen.{Seen}
use Rattle.leg_appearances.specs.Seen.{all_seen}

-- None has appeared yet; and all have.
abbrev pub nothing : Seen
nothing = record { variables = 0; records = 0 }

abbrev pub everything : LegTree → Seen
everything leg = record { variables = length leg.variables; records = length leg.records }

-- The variables are numbered by first appearance, and the types that appear bring all records of the table.
pub record AreInOrder (leg : LegTree) (table : List Summary) : Type 0 where
  pub fronts : list_all is_front (appears leg) ≡ true
  pub variables : variable_order leg ≡ map leg_name (range_with_len 0 (length leg.variables))
  pub records : all_numbers_with table 0 (map (appearing_type leg.variables) (appears leg)) ≡ Some (length leg.records)

-- All are seen exactly where it is so.
abbrev pub AppearancesAreTested : Type 0
AppearancesAreTested = (leg : LegTree) (table : List Summary)
    → (all_seen table leg.variables nothing (appears leg) ≡ Some (everything leg) → AreInOrder leg table)
    × (AreInOrder leg table → all_seen table leg.variables nothing (appears leg) ≡ Some (everything leg))
