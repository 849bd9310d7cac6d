use Rattle.std.proofs.Common.{◌≡◌, None}
use Rattle.sym_exec.specs.Steps.{IsReady}
use Rattle.exec_tests.proofs.following.add_calls.Given as goal

abbrev pub invariant-loop : goal.invariant-loop
invariant-loop l = l.exec.end ≡ None → IsReady l.store l.exec l.leg
