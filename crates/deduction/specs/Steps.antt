-- Steps over terms, as plain data.
use Rattle.std.specs.Prelude.{ℕ, max, List, [], ◌∷◌, map}
use Rattle.term_trees.specs.Term.{tree}
use Rattle.lk_terms.specs.declared.step.StepTerm.{StepTerm, size-StepTerm, fold-StepTerm}
use Rattle.lk_terms.specs.declared.step.StepTerm.TheOpen as p
use Rattle.deduction_rules.specs.Step.{StepTree, line, block, StepTrees, no_steps, step_then}

abbrev pub steps_of : List StepTree → StepTrees
steps_of [] = no_steps
steps_of (s ∷ ss) = step_then s (steps_of ss)

-- one level of a step, with the steps inside already as plain data
abbrev pub step_level : p.StepTerm-F StepTree → StepTree
step_level (p.Line label claim rule cites) = line label (tree claim) rule cites
step_level (p.Sub label symbol assumed given steps) = block label symbol assumed (tree given) (steps_of steps)

unfoldable pub step_tree : StepTerm → StepTree
step_tree = fold-StepTerm StepTree step_level

abbrev pub step_trees : List StepTerm → StepTrees
step_trees ss = steps_of (map step_tree ss)

-- the depth of the deepest of the steps
abbrev pub deepest : List StepTerm → ℕ
deepest [] = 0
deepest (s ∷ ss) = max (size-StepTerm s) (deepest ss)
