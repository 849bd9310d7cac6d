-- The equations of `step_tree`, one for each variant, and the depths of steps.
use Rattle.std.proofs.Common.{◌≡◌, ℕ, zero, suc, ◌+◌, ◌*◌, ◌<◌, ◌≤◌, max, List, [], ◌∷◌, length, get_or, Option, refl, sym, ap, ◌∙◌, subst, arith}
use denote.Param.Weighed.{most}
use Rattle.term_trees.specs.declared.term.Term.{Term}
use Rattle.term_trees.specs.Term.{tree}
use Rattle.lk_terms.specs.declared.step.StepTerm.{StepTerm, size-StepTerm, fold-roll-StepTerm}
use Rattle.lk_terms.specs.declared.step.StepTerm.TheOpen as p
use Rattle.lk_terms.specs.declared.step.StepTerm.TheVariants.{Line, Sub, rolls-Line, rolls-Sub}
use Rattle.lk_terms.specs.declared.step.StepTerm.TheViews.{sized-Sub}
use Rattle.validity.specs.Validity.{SequentTree}
use Rattle.deduction_rules.specs.Step.{StepTree, line, block}
use Rattle.deduction.specs.Steps.{step_level, step_tree, step_trees, deepest}
use Rattle.deduction.specs.Checking.{IsSortedOver}

pub step_tree-Line : (label : ℕ) (claim : Term) (rule : ℕ) (cites : List ℕ) → step_tree (Line label claim rule cites) ≡ line label (tree claim) rule cites
unfolding step_tree
step_tree-Line label claim rule cites =
    ap step_tree (sym (rolls-Line label claim rule cites)) ∙ fold-roll-StepTerm StepTree step_level (p.Line label claim rule cites)

pub step_tree-Sub : (label : ℕ) (symbol : Option ℕ) (assumed : ℕ) (given : Term) (steps : List StepTerm) →
    step_tree (Sub label symbol assumed given steps) ≡ block label symbol assumed (tree given) (step_trees steps)
unfolding step_tree
step_tree-Sub label symbol assumed given steps =
    ap step_tree (sym (rolls-Sub label symbol assumed given steps)) ∙
    fold-roll-StepTerm StepTree step_level (p.Sub label symbol assumed given steps)

pub ruleset step_lines = (step_tree-Line, step_tree-Sub)

deepest_is : (ss : List StepTerm) → most size-StepTerm ss ≡ deepest ss
deepest_is [] = refl
deepest_is (s ∷ ss) = ap (max (size-StepTerm s)) (deepest_is ss)

-- no step of the list is deeper than the deepest
pub size-deepest : (ss : List StepTerm) (k : ℕ) (d : StepTerm) → k < length ss → size-StepTerm (get_or ss k d) ≤ deepest ss
size-deepest [] k d h = absurd (omega arith)
size-deepest (s ∷ ss) zero d h = omega arith
size-deepest (s ∷ ss) (suc k) d h = omega (arith, size-deepest ss k d (omega arith))

pub size-Sub : (label : ℕ) (symbol : Option ℕ) (assumed : ℕ) (given : Term) (steps : List StepTerm) →
    deepest steps < size-StepTerm (Sub label symbol assumed given steps)
size-Sub label symbol assumed given steps = omega (arith, sized-Sub label symbol assumed given steps, deepest_is steps)

-- a step of the code is well sorted as its variant is
pub sorted_sub : (base : SequentTree) (s : StepTerm) (label : ℕ) (symbol : Option ℕ) (assumed : ℕ) (given : Term) (steps : List StepTerm) →
    s ≡ Sub label symbol assumed given steps → IsSortedOver base (step_tree s) →
    IsSortedOver base (block label symbol assumed (tree given) (step_trees steps))
sorted_sub base s label symbol assumed given steps is h =
    subst (IsSortedOver base) (ap step_tree is ∙ step_tree-Sub label symbol assumed given steps) h

-- ---- the steps of a block are less deep than the block, and a step is no deeper than the deepest

pub below_sub : (s : StepTerm) (label : ℕ) (symbol : Option ℕ) (assumed : ℕ) (given : Term) (steps inside : List StepTerm) →
    s ≡ Sub label symbol assumed given steps → inside ≡ steps → 3 * deepest inside + 2 < 3 * size-StepTerm s
below_sub s label symbol assumed given steps inside is same =
    let deep : deepest inside ≡ deepest steps = ap deepest same in
    let size : size-StepTerm s ≡ size-StepTerm (Sub label symbol assumed given steps) = ap size-StepTerm is in
    omega (arith, deep, size, size-Sub label symbol assumed given steps)

pub below_steps : (ss : List StepTerm) (k : ℕ) (s : StepTerm) → k < length ss → s ≡ get_or ss k s → 3 * size-StepTerm s < 3 * deepest ss + 1
below_steps ss k s h is =
    let size : size-StepTerm s ≡ size-StepTerm (get_or ss k s) = ap size-StepTerm is in omega (arith, size, size-deepest ss k s h)
