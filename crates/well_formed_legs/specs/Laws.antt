-- What holds of the legs of methods, as one statement each.
use Rattle.std.specs.Prelude.{◌≡◌, ℕ, ◌<◌, List, length, map}
use Rattle.std.specs.List.{AllByRecursion, range_with_len}
use Rattle.slang_values.specs.Value.{AreWellFormed}
use Rattle.program_trees.specs.Programs.{MethodTree, ProgramTree}
use Rattle.program_trees.specs.Variables.{Variable}
use Rattle.program_trees.specs.Legs.{LegTree}
use Rattle.run_rules.specs.Runs.{method_at}
use Rattle.leg_rules.specs.Legs.{Items, legs}
use Rattle.leg_rules.specs.Numbering.{leg_appears, leg_tree}
use Rattle.leg_forms.specs.WellFormed.{IsWellFormedLeg, leg_name, record_order, variable_order}
use Rattle.numbering_laws.specs.NumberedPassing.{IsKnownAppearance}
use Rattle.typed_programs.specs.WellTyped.{IsTypedProgram}

-- The variables and the records of the leg are numbered in the order in which they first appear on it.
pub record IsByFirstAppearance (leg : LegTree) : Type 0 where
  pub variables : variable_order leg ≡ map leg_name (range_with_len 0 (length leg.variables))
  pub records : record_order leg ≡ range_with_len 0 (length leg.records)

-- So they are on each leg over numbers, where all that appears has a type.
abbrev pub NumbersAreByFirstAppearance : Type 0
NumbersAreByFirstAppearance =
    (program : ProgramTree Variable) (method : MethodTree Variable) (items : Items) → AreWellFormed program.records →
    AllByRecursion (IsKnownAppearance program method) (leg_appears items) → IsByFirstAppearance (leg_tree program method items)

-- the legs of the method are well formed over numbers
abbrev pub HasWellFormedLegs : ProgramTree Variable → MethodTree Variable → Type 0
HasWellFormedLegs program method = AllByRecursion (λ items. IsWellFormedLeg (leg_tree program method items)) (legs program method)

-- The legs of each method of a well-typed program are well formed.
abbrev pub LegsAreWellFormed : Type 0
LegsAreWellFormed =
    (program : ProgramTree Variable) (node_files : List ℕ) (files : ℕ) → IsTypedProgram program node_files files →
    (number : ℕ) → number < length program.methods → HasWellFormedLegs program (method_at program number)
