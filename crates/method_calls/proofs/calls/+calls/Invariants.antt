use Rattle.std.proofs.Common.{◌≡◌, ◌+◌, ◌*◌, ◌++◌, take}
use Rattle.lk_programs.specs.declared.program.Code.{size-Code}
use Rattle.lk_programs.specs.Program.{code_trees}
use Rattle.run_rules.specs.Reach.{calls_of_all}
use Rattle.leg_count.specs.Depth.{deepest}
use Rattle.method_calls.proofs.calls.+calls.Given as goal

abbrev pub decreases-add_calls : goal.decreases-add_calls
decreases-add_calls l = 2 * deepest l.codes.now + 1

abbrev pub decreases-add_calls_of : goal.decreases-add_calls_of
decreases-add_calls_of l = 2 * size-Code l.code.now

abbrev pub invariant-add_calls-loop-code : goal.invariant-add_calls-loop-code
invariant-add_calls-loop-code l = l.called ≡ l.fn.called ++ calls_of_all (code_trees (take l.code-index l.codes))
