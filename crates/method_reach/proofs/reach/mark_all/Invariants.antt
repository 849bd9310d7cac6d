use Rattle.std.proofs.Common.{take}
use Rattle.method_reach.specs.Search.{Marks}
use Rattle.method_reach.proofs.reach.mark_all.Given as goal

abbrev pub invariant-methods : goal.invariant-methods
invariant-methods l = Marks (take l.method-index l.methods) l.fn.marks l.fn.found.items l.marks l.found.items
