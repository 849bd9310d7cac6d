-- What holds of legs.
use Rattle.std.specs.Prelude.{◌≡◌, length}
use Rattle.program_trees.specs.Programs.{MethodTree, ProgramTree}
use Rattle.program_trees.specs.Variables.{Variable}
use Rattle.leg_rules.specs.Legs.{legs, leg_count}

abbrev pub LegsAreCounted : Type 0
LegsAreCounted = (program : ProgramTree Variable) (method : MethodTree Variable) → length (legs program method) ≡ leg_count method
