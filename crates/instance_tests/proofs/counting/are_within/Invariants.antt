use Rattle.std.proofs.Common.{◌<◌, take}
use Rattle.std.specs.List.{All}
use Rattle.instance_tests.proofs.counting.are_within.Given as goal

abbrev pub invariant-loop-x : goal.invariant-loop-x
invariant-loop-x l = All (λ x. x < l.count) (take l.x-index l.xs)
