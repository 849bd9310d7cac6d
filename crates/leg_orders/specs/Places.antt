-- The program of the text and its methods, over variables by their kinds.
use Rattle.std.specs.Prelude.{ℕ, unwrap_or, Option}
use Rattle.std.specs.Option.{option_map}
use Rattle.slang_values.specs.Value.{ValueType, unit_type}
use Rattle.program_trees.specs.Programs.{MethodTree, ProgramTree}
use Rattle.program_trees.specs.Variables.{Variable, with_kinds}
use Rattle.lk_claims.specs.declared.ty.Ty.{Ty}
use Rattle.lk_claims.specs.Claim.{value_type}
use Rattle.lk_programs.specs.declared.typed.Typed.{Typed}
use Rattle.lk_programs.specs.Typed.{program_tree}
use Rattle.run_rules.specs.Runs.{method_at}

abbrev pub program_of : Typed → ProgramTree Variable
program_of typed = with_kinds (program_tree typed)

abbrev pub method_of : Typed → ℕ → MethodTree Variable
method_of typed number = method_at (program_of typed) number

-- the type, or `Unit` where there is none
abbrev pub told_type : Option Ty → ValueType
told_type type = unwrap_or (option_map value_type type) unit_type
