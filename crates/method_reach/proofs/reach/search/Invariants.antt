use Rattle.std.proofs.Common.{◌≤◌, ◌-◌, length}
use Rattle.program_trees.specs.Variables.{with_kinds}
use Rattle.lk_programs.specs.Typed.{program_tree}
use Rattle.method_reach.specs.Search.{IsSearch}
use Rattle.method_reach.proofs.reach.search.Given as goal

abbrev pub invariant-found : goal.invariant-found
invariant-found l = IsSearch (with_kinds (program_tree l.typed)) l.method l.marks l.found.items l.next × (l.next ≤ length l.found.items)

abbrev pub decreases-found : goal.decreases-found
decreases-found l = length l.marks - l.next
