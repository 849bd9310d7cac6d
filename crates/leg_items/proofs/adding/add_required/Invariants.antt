use Rattle.std.proofs.Common.{◌≡◌, ◌++◌, map, take}
use Rattle.program_trees.specs.declared.answer.Kind.TheVariants as kinds
use Rattle.program_trees.specs.Legs.{check}
use Rattle.lk_programs.specs.Program.{noted_tree}
use Rattle.leg_rules.specs.Legs.{at_node}
use Rattle.leg_items.specs.Drafts.{framed, items_of}
use Rattle.leg_items.proofs.adding.add_required.Given as goal

abbrev pub invariant-loop-noted : goal.invariant-loop-noted
invariant-loop-noted l =
    items_of l.out ≡ items_of l.fn.out
    ++ map (λ noted. at_node l.node.0 (check kinds.Requires (framed l.frame (noted_tree noted).claim))) (take l.noted-index l.claims)
