use Rattle.program_trees.specs.Variables.{with_kinds}
use Rattle.lk_programs.specs.Typed.{program_tree}
use Rattle.method_reach.proofs.Searching.{is_reach}
use Rattle.method_reach.proofs.reach.reachable.Goals as goal

pub returns : goal.returns
returns c =
    is_reach (with_kinds (program_tree c.args.typed.now)) c.args.method c.search_from.new.marks c.search_from.new.found.items c.in_ok-search_from.ensures
    c.sort.new.self.items c.in_ok-sort.ensures.permutation c.in_ok-sort.ensures.sorted
