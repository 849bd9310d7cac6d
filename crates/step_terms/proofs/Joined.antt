-- Steps one after the other.
use Rattle.std.proofs.Common.{◌≡◌, ℕ, List, [], ◌∷◌, ◌++◌, Bool, true, false, refl, sym, ap, ◌∙◌, append_assoc}
use Rattle.std.specs.Prelude.{◌&&◌}
use Rattle.slang_values.specs.Value.{ValueType}
use Rattle.slang_values.specs.Tree.{Tree}
use Rattle.deduction_rules.specs.Step.{StepTree, line, block, StepTrees, no_steps, step_then}
use Rattle.lk_claims.specs.declared.step.ProofStep.{ProofStep}
use Rattle.lk_claims.specs.Step as claim_steps
use Rattle.lk_terms.specs.declared.step.StepTerm.{StepTerm}
use Rattle.deduction.specs.Steps as term_steps
use Rattle.leg_rules.specs.Store.{State}
use Rattle.leg_rules.specs.Sequents.{after_step, after_steps, step_term, step_terms, is_small_step, are_small_steps, outermost}
use Rattle.step_terms.specs.Steps.{own_claim, step_subtrees, steps_subtrees}

pub and_assoc : (a b c : Bool) → a && (b && c) ≡ (a && b) && c
and_assoc true b c = refl
and_assoc false b c = refl

-- these steps, and then those
abbrev pub join : StepTrees → StepTrees → StepTrees
join no_steps more = more
join (step_then step steps) more = step_then step (join steps more)

pub small_join : (steps more : StepTrees) → are_small_steps (join steps more) ≡ are_small_steps steps && are_small_steps more
small_join no_steps more = refl
small_join (step_then step steps) more =
    ap (λ b. is_small_step step && b) (small_join steps more) ∙ and_assoc (is_small_step step) (are_small_steps steps) (are_small_steps more)

pub outermost_join : (steps more : StepTrees) → outermost (join steps more) ≡ outermost steps ++ outermost more
outermost_join no_steps more = refl
outermost_join (step_then (line label claim rule cites) steps) more = ap (λ ts. claim ∷ ts) (outermost_join steps more)
outermost_join (step_then (block label symbol assumed given inner) steps) more = outermost_join steps more

pub outermost_one : (step : StepTree) → outermost (step_then step no_steps) ≡ own_claim step
outermost_one (line label claim rule cites) = refl
outermost_one (block label symbol assumed given inner) = refl

pub subtrees_join : (steps more : StepTrees) → steps_subtrees (join steps more) ≡ steps_subtrees steps ++ steps_subtrees more
subtrees_join no_steps more = refl
subtrees_join (step_then step steps) more =
    ap (λ ts. step_subtrees step ++ ts) (subtrees_join steps more) ∙ sym (append_assoc (step_subtrees step) (steps_subtrees steps) (steps_subtrees more))

pub built_join : (xs ys : List StepTerm) → term_steps.step_trees (xs ++ ys) ≡ join (term_steps.step_trees xs) (term_steps.step_trees ys)
built_join [] ys = refl
built_join (x ∷ xs) ys = ap (step_then (term_steps.step_tree x)) (built_join xs ys)

module _ (types : List ValueType) where
  pub after_join : (s : State) (xs ys : List ProofStep)
      → after_steps types s (claim_steps.step_trees (xs ++ ys)) ≡ after_steps types (after_steps types s (claim_steps.step_trees xs)) (claim_steps.step_trees ys)
  after_join s [] ys = refl
  after_join s (x ∷ xs) ys = after_join (after_step types s (claim_steps.step_tree x)) xs ys

  pub terms_join : (s : State) (xs ys : List ProofStep)
      → step_terms types s (claim_steps.step_trees (xs ++ ys))
      ≡ join (step_terms types s (claim_steps.step_trees xs)) (step_terms types (after_steps types s (claim_steps.step_trees xs)) (claim_steps.step_trees ys))
  terms_join s [] ys = refl
  terms_join s (x ∷ xs) ys =
      ap (step_then (step_term types s (claim_steps.step_tree x))) (terms_join (after_step types s (claim_steps.step_tree x)) xs ys)
