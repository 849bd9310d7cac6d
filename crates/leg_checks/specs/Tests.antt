-- Which legs are well formed, as a test.
use Rattle.std.specs.Prelude.{ℕ, nat_eq, Bool, false, ◌&&◌, List, [], length, Option, Some, None}
use Rattle.std.specs.List.{list_all}
use Rattle.program_trees.specs.Legs.{LegTree}
use Rattle.leg_forms.specs.WellFormed.{appears}
use Rattle.record_checks.specs.declared.summary.Summary.{Summary}
use Rattle.record_checks.specs.Summaries.{is_field, table_from}
use Rattle.item_checks.specs.Tests.{item_passes}
use Rattle.leg_appearances.specs.declared.variables.Seen.{Seen}
use Rattle.leg_appearances.specs.Seen.{all_seen}
use Rattle.leg_appearances.specs.Laws.{nothing}

-- so many variables and records have appeared
abbrev pub is_all : ℕ → ℕ → Option Seen → Bool
is_all variables records None = false
is_all variables records (Some seen) = nat_eq seen.variables variables && nat_eq seen.records records

-- All variables and records appear on the leg, each the next one when it first does.
abbrev pub are_all_seen : List Summary → LegTree → Bool
are_all_seen table leg = is_all (length leg.variables) (length leg.records) (all_seen table leg.variables nothing (appears leg))

-- With this table of its records: its variables have types that are there, all appear in order, and its items pass.
abbrev pub passes_over : List Summary → LegTree → Bool
passes_over table leg =
    list_all (is_field (length leg.records)) leg.variables && (are_all_seen table leg && list_all (item_passes leg.records leg.variables) leg.items)

abbrev pub passes_by : LegTree → Option (List Summary) → Bool
passes_by leg None = false
passes_by leg (Some table) = passes_over table leg

abbrev pub leg_passes : LegTree → Bool
leg_passes leg = passes_by leg (table_from [] leg.records)
