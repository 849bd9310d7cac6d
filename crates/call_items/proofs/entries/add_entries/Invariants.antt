use Rattle.std.proofs.Common.{◌≡◌, ◌++◌}
use Rattle.program_trees.specs.Variables.{entry}
use Rattle.leg_rules.specs.Legs.{entry_items}
use Rattle.leg_items.specs.Drafts.{items_of}
use Rattle.call_items.specs.Frames.{claims_in, entries_among, frame_scope, frame_variable}
use Rattle.call_items.proofs.entries.add_entries.Given as goal

abbrev pub invariant-loop-global : goal.invariant-loop-global
invariant-loop-global l =
    items_of l.out ≡ items_of l.fn.out
    ++ entry_items l.node.0 (λ g. frame_variable l.frame (entry g)) (entries_among l.global (claims_in (frame_scope l.frame) l.claims))
