-- The constant with which a global begins.
use Rattle.slang_values.specs.Value.{Records, Value, unit}
use Rattle.program_trees.specs.Programs.{claim_of, renamed_expr}
use Rattle.program_trees.specs.Variables.{global}
use Rattle.lk_programs.specs.Expr.{typed_expr}
use Rattle.lk_programs.specs.declared.program.Global.{Global}
use Rattle.run_rules.specs.Values.{claim_value}

-- its value, where no variable has one
abbrev pub constant_value : Records → Global → Value
constant_value records own = claim_value records (λ x. unit) (claim_of (renamed_expr global (typed_expr own.init)))
