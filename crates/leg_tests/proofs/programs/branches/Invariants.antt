use Rattle.std.proofs.Common.{◌≡◌}
use Rattle.lk_programs.specs.Program.{code_trees}
use Rattle.leg_tests.specs.Programs.{branches}
use Rattle.leg_tests.proofs.programs.branches.Given as goal

abbrev pub invariant-loop-number : goal.invariant-loop-number
invariant-loop-number l = code_trees l.codes ≡ branches l.number
