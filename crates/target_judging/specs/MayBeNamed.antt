-- Which variables a Modifies may name, as the rules see it.
use Rattle.std.specs.Prelude.{Bool}
use Rattle.type_rules.specs.Meanings.{Meaning, is_global_var, is_var}
use Rattle.target_judging.specs.declared.modifying.MayBeNamed.{MayBeNamed}
use Rattle.target_judging.specs.declared.modifying.MayBeNamed.TheVariants as may

abbrev pub may_be_named : MayBeNamed → Meaning → Bool
may_be_named may.Vars = is_var
may_be_named may.GlobalVars = is_global_var
