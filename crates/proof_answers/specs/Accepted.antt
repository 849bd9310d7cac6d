-- What follows where a proof is accepted.
use Rattle.std.specs.Prelude.{◌≡◌, ℕ, List, ⊤, map, Option, Some, None}
use Rattle.std.specs.List.{AllByRecursion}
use Rattle.validity.specs.Validity.{SequentTree, IsValid}
use Rattle.term_trees.specs.declared.term.Term.{Term}
use Rattle.term_trees.specs.Term.{tree}
use Rattle.deduction_rules.specs.Step.{StepTrees}
use Rattle.leg_rules.specs.Sequents.{outermost}

-- Each outermost claim is valid over the facts of the base.
abbrev pub AreValidOver : SequentTree → StepTrees → Type 0
AreValidOver base steps = AllByRecursion (λ claim. IsValid (record base { goal = claim })) (outermost steps)

-- that, where no label is told
abbrev pub UnlessRefused : Option ℕ → SequentTree → StepTrees → Type 0
UnlessRefused None base steps = AreValidOver base steps
UnlessRefused (Some label) base steps = ⊤

-- The claims that are answered are the outermost ones, in order.
abbrev pub AreOutermost : List Term → StepTrees → Type 0
AreOutermost claims steps = map tree claims ≡ outermost steps
