use Rattle.std.proofs.Common.{◌≡◌, map, take}
use Rattle.slang_tree.specs.StmtTree.{step_tree, steps_of}
use Rattle.type_faults.specs.FirstFault.{with_first}
use Rattle.height_rules.specs.Faults.{too_deep}
use Rattle.height_judging.proofs.steps.too_deep.Given as goal

-- the steps so far were told of
abbrev pub invariant-loop-step : goal.invariant-loop-step
invariant-loop-step l = l.told.found ≡ with_first l.fn.told.found (too_deep (steps_of (map step_tree (take l.step-index l.steps))))
