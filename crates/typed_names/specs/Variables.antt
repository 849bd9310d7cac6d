-- Variables of the code, as the rules see them, and their numbers.
use Rattle.std.specs.Prelude.{ℕ, Option, Some, None}
use Rattle.program_trees.specs.Variables.{Variable, local, global, entry, result, number_of}
use Rattle.type_rules.specs.Meanings.{Meaning, variable}
use Rattle.typed_names.specs.declared.variables.VariableKind.{VariableKind}
use Rattle.typed_names.specs.declared.variables.VariableKind.TheVariants as v
use Rattle.typed_names.specs.declared.variables.Numbering.{Numbering}

abbrev pub kind_seen : VariableKind → Variable
kind_seen (v.Local n) = local n
kind_seen (v.Global n) = global n
kind_seen (v.Entry n) = entry n
kind_seen v.Result = result

-- the variable that a name means, if it means one
abbrev pub variable_in : Meaning → Option Variable
variable_in (variable x is_var type) = Some x
variable_in other = None

abbrev pub number_in : Numbering → Variable → ℕ
number_in numbers x = number_of numbers.locals numbers.globals x
