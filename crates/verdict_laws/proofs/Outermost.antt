-- The claims of an accepted proof are those of its outermost steps.
use Rattle.std.proofs.Common.{◌≡◌, ℕ, Bool, true, false, cond, List, [], ◌∷◌, ◌++◌, Option, Some, None, refl, sym, ap, ◌∙◌, append_assoc, append-nil}
use Rattle.slang_values.specs.Tree.{Tree}
use Rattle.validity.specs.Validity.{SequentTree}
use Rattle.deduction_rules.specs.Step.{StepTree, line, block, StepTrees, no_steps, step_then, claimed, concluded, conclusion}
use Rattle.deduction_rules.specs.Deduction.{Labelled, Before, start, with_claim, with_let, with_block, citing, Refusal, Symbol, claims_of, visible_claims, line_refusal, is_used, Progress, passed, refused_at, unless_refused, and_then, after_step, after_steps, accepted, deduction_of, deduction}
use Rattle.deduction_rules.specs.Replacement.{has_symbol}
use Rattle.leg_rules.specs.Sequents.{outermost}

passed_inj : {a b : Before} → passed a ≡ passed b → a ≡ b
passed_inj e = cc

visible_append : (es fs : List Labelled) → visible_claims (es ++ fs) ≡ visible_claims es ++ visible_claims fs
visible_append [] fs = refl
visible_append (e ∷ es) fs =
    ap (◌++◌ (claims_of (e.cited ∷ []))) (visible_append es fs) ∙ sym (append_assoc (claims_of (e.cited ∷ [])) (visible_claims es) (visible_claims fs))

-- the claim of a step, where it has one
abbrev own_claim : StepTree → List (Tree ℕ)
own_claim (line label claim rule cites) = claim ∷ []
own_claim (block label symbol assumed given steps) = []

outermost_first : (step : StepTree) (steps : StepTrees) → outermost (step_then step steps) ≡ own_claim step ++ outermost steps
outermost_first (line label claim rule cites) steps = refl
outermost_first (block label symbol assumed given inner) steps = refl

then_passed : (p : Progress) (next : Before → Progress) (after : Before) → and_then p next ≡ passed after
    → (middle : Before) × (p ≡ passed middle) × (next middle ≡ passed after)
then_passed (passed middle) next after h = (middle, refl, h)
then_passed (refused_at label why) next after h = absurd (cc)

line_passed : (label : ℕ) (o : Option Refusal) (before after : Before) → unless_refused label o before ≡ passed after → before ≡ after
line_passed label None before after h = passed_inj h
line_passed label (Some why) before after h = absurd (cc)

not_refused : (b : Bool) (label : ℕ) (why : Refusal) (p : Progress) (after : Before) → cond b (refused_at label why) p ≡ passed after → p ≡ passed after
not_refused true label why p after h = absurd (cc)
not_refused false label why p after h = h

module _ (closes : SequentTree → Bool) (base : SequentTree) where
  step_visible : (step : StepTree) (before after : Before) → after_step closes base before step ≡ passed after
      → visible_claims after.visible ≡ visible_claims before.visible ++ own_claim step
  step_visible (line label claim rule cites) before after h =
      ap (λ b. visible_claims b.visible)
      (sym (line_passed label (line_refusal closes base before claim rule (citing before.visible cites)) (with_claim label claim before) after h))
      ∙ visible_append before.visible (record { label = label; cited = claimed claim } ∷ [])
  step_visible (block label symbol assumed given steps) before after h =
      let inside = and_then (after_steps closes base (with_claim assumed given (with_let symbol before)) steps)
      (λ at_end. passed (with_block label symbol given (conclusion given steps) before at_end)) in
      let first = not_refused (is_used symbol before) label Symbol
      (cond (has_symbol (with_let symbol before).ended given) (refused_at assumed Symbol) inside) after h in
      let second = not_refused (has_symbol (with_let symbol before).ended given) assumed Symbol inside after first in
      let p = then_passed (after_steps closes base (with_claim assumed given (with_let symbol before)) steps)
      (λ at_end. passed (with_block label symbol given (conclusion given steps) before at_end)) after second in
      ap (λ b. visible_claims b.visible) (sym (passed_inj p.2))
      ∙ visible_append before.visible (record { label = label; cited = concluded symbol given (conclusion given steps) } ∷ [])

  steps_visible : (steps : StepTrees) (before after : Before) → after_steps closes base before steps ≡ passed after
      → visible_claims after.visible ≡ visible_claims before.visible ++ outermost steps
  steps_visible no_steps before after h =
      ap (λ b. visible_claims b.visible) (sym (passed_inj h)) ∙ sym (append-nil (visible_claims before.visible))
  steps_visible (step_then step steps) before after h =
      let p = then_passed (after_step closes base before step) (λ next. after_steps closes base next steps) after h in
      steps_visible steps p.0 after p.2
      ∙ (ap (λ claims. claims ++ outermost steps) (step_visible step before p.0 p.1)
      ∙ (append_assoc (visible_claims before.visible) (own_claim step) (outermost steps)
      ∙ ap (◌++◌ (visible_claims before.visible)) (sym (outermost_first step steps))))

  by_progress : (steps : StepTrees) (p : Progress) → after_steps closes base (start base.facts) steps ≡ p → (claims : List (Tree ℕ))
      → deduction_of p ≡ accepted claims → outermost steps ≡ claims
  by_progress steps (passed after) e claims h = sym (steps_visible steps (start base.facts) after e) ∙ claims_inj h
    where
      claims_inj : {a b : List (Tree ℕ)} → accepted a ≡ accepted b → a ≡ b
      claims_inj k = cc
  by_progress steps (refused_at label why) e claims h = absurd (cc)

  pub accepted_outermost : (steps : StepTrees) (claims : List (Tree ℕ)) → deduction closes base steps ≡ accepted claims → outermost steps ≡ claims
  accepted_outermost steps claims h = by_progress steps (after_steps closes base (start base.facts) steps) refl claims h
