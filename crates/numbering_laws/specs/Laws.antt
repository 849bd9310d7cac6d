-- What numbers leave as it is, as one statement each.
use Rattle.std.specs.List.{AllByRecursion}
use Rattle.slang_values.specs.Value.{AreWellFormed}
use Rattle.program_trees.specs.Programs.{MethodTree, ProgramTree}
use Rattle.program_trees.specs.Variables.{Variable}
use Rattle.leg_rules.specs.Legs.{Items}
use Rattle.leg_rules.specs.Numbering.{leg_appears, leg_tree}
use Rattle.numbering_laws.specs.NumberedPassing.{LegPasses, IsKnownAppearance, NumberedPasses}

-- Over well-formed records, where all that appears on a leg has a type: the leg passes where the same leg over numbers passes.
abbrev pub NumberingKeepsPassing : Type 0
NumberingKeepsPassing =
    (program : ProgramTree Variable) (method : MethodTree Variable) (items : Items) → AreWellFormed program.records →
    AllByRecursion (IsKnownAppearance program method) (leg_appears items) → NumberedPasses (leg_tree program method items) →
    LegPasses program method items
