use Rattle.std.proofs.Common.{◌-◌, drop, length}
use Rattle.store_cases.specs.Search.{HasBranches}
use Rattle.store_cases.proofs.search.Search.branch.Given as goal

abbrev pub invariant-loop-count : goal.invariant-loop-count
invariant-loop-count l =
    HasBranches l.fn.self l.self l.literals l.rest (drop (length l.alternatives - l.count) l.alternatives)
