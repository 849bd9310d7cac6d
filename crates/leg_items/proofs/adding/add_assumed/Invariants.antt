use Rattle.std.proofs.Common.{◌≡◌, ◌++◌, map, take}
use Rattle.lk_programs.specs.Program.{noted_tree}
use Rattle.leg_items.specs.Drafts.{framed_assumption, items_of}
use Rattle.leg_items.proofs.adding.add_assumed.Given as goal

abbrev pub invariant-loop-noted : goal.invariant-loop-noted
invariant-loop-noted l = items_of l.out ≡ items_of l.fn.out ++ map (λ noted. framed_assumption l.frame (noted_tree noted)) (take l.noted-index l.claims)
