-- Statements with numbers for their variables.
use Rattle.std.specs.Prelude.{◌≡◌, ℕ}
use Rattle.slang_tree.specs.declared.place.Place.{Place}
use Rattle.program_trees.specs.Programs.{CodeTree, CodeTrees, set, renamed_code, renamed_codes}
use Rattle.program_trees.specs.Variables.{Variable}
use Rattle.typed_texts.specs.Numbered.{Numbered, numbered_map}
use Rattle.lk_programs.specs.declared.expression.Expr.{Expr}
use Rattle.lk_programs.specs.declared.expression.NodeNo.{NodeNo}
use Rattle.lk_programs.specs.declared.program.Code.{Code}
use Rattle.lk_programs.specs.Expr.{typed_expr}
use Rattle.lk_programs.specs.Program.{code_tree}
use Rattle.typed_names.specs.declared.variables.Numbering.{Numbering}
use Rattle.typed_names.specs.Variables.{number_in}

abbrev pub numbered_code : Numbering → Numbered Place (CodeTree Variable) → Numbered Place (CodeTree ℕ)
numbered_code numbers code = numbered_map (renamed_code (number_in numbers)) code

abbrev pub numbered_codes : Numbering → Numbered Place (CodeTrees Variable) → Numbered Place (CodeTrees ℕ)
numbered_codes numbers codes = numbered_map (renamed_codes (number_in numbers)) codes

-- The variable gets the value.
abbrev pub IsSetting : NodeNo → ℕ → Expr → Code → Type 0
IsSetting node variable value code = code_tree code ≡ set node.0 variable (typed_expr value)
