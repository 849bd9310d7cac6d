use Rattle.std.proofs.Common.{◌≡◌, map, take}
use Rattle.slang_tree.specs.StmtTree.{step_tree, steps_of}
use Rattle.type_faults.specs.FirstFault.{with_first}
use Rattle.height_rules.specs.Faults.{steps_too_high}
use Rattle.height_judging.proofs.steps.+steps.Given as goal

-- the steps so far were told of
abbrev pub invariant-step_heights-loop-step : goal.invariant-step_heights-loop-step
invariant-step_heights-loop-step l = l.told.found ≡ with_first l.fn.told.found (steps_too_high l.depth (steps_of (map step_tree (take l.step-index l.steps))))
