use Rattle.method_reach.proofs.Searching.{nothing_found}
use Rattle.method_reach.proofs.reach.search_from.Goals as goal

pub mark-requires-clause-found : goal.mark-requires-clause-found
mark-requires-clause-found c = nothing_found c.args.marks.now c.args.found.now.items c.requires.none c.requires.found
