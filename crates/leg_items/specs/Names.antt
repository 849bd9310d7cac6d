-- The variables of a leg, as the code holds them.
use Rattle.std.specs.Prelude.{ℕ}
use Rattle.program_trees.specs.Variables.{Variable, local, global, entry, result, variable_of}
use Rattle.leg_rules.specs.LegNames.{LegName, own, of_call, callee_name}
use Rattle.leg_items.specs.declared.name.MethodVariable.{MethodVariable}
use Rattle.leg_items.specs.declared.name.MethodVariable.TheVariants as v
use Rattle.leg_items.specs.declared.name.Name.{Name}
use Rattle.leg_items.specs.declared.name.Name.TheVariants as n
use Rattle.leg_items.specs.declared.name.Scope.{Scope}
use Rattle.leg_items.specs.declared.name.Frame.{Frame}
use Rattle.leg_items.specs.declared.name.Frame.TheVariants as f

abbrev pub variable_data : MethodVariable → Variable
variable_data (v.Local m) = local m
variable_data (v.Global m) = global m
variable_data (v.Entry m) = entry m
variable_data v.Result = result

abbrev pub leg_name : Name → LegName
leg_name (n.Own x) = own (variable_data x)
leg_name (n.OfCall node method x) = of_call node.0 method (variable_data x)

-- the variable of that number
abbrev pub kind_of : Scope → ℕ → Variable
kind_of scope number = variable_of scope.locals scope.globals number

abbrev pub frame_name : Frame → ℕ → LegName
frame_name (f.Own scope) number = own (kind_of scope number)
frame_name (f.Call node method scope) number = callee_name node.0 method (kind_of scope number)
