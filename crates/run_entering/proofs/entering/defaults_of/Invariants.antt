use Rattle.std.proofs.Common.{◌≡◌, take, map}
use Rattle.lk_programs.specs.Program.{record_types}
use Rattle.run_values.specs.Value.{plain_value}
use Rattle.run_entering.specs.Entered.{default_values}
use Rattle.run_entering.proofs.entering.defaults_of.Given as goal

abbrev pub invariant-loop-ty : goal.invariant-loop-ty
invariant-loop-ty l = map plain_value l.values ≡ default_values (record_types l.records) (take l.ty-index l.types)
