-- The steps of a proof in turn.
use Rattle.std.proofs.Common.{◌≡◌, ℕ, ◌+◌, ◌<◌, List, [], ◌∷◌, ◌++◌, length, take, get_or, sym, ap, ◌∙◌, subst}
use Rattle.std.proofs.lemmas.List.{take_more}
use Rattle.lk_claims.specs.Step.{step_tree, step_trees}
use Rattle.lk_claims.specs.declared.step.ProofStep.{ProofStep}
use Rattle.step_terms.specs.Steps.{IsReadableStep, AreReadableSteps}

readable_push : (count : ℕ) (steps : List ProofStep) (x : ProofStep) → AreReadableSteps count (step_trees steps) → IsReadableStep count (step_tree x)
    → AreReadableSteps count (step_trees (steps ++ x ∷ []))
readable_push count [] x h k = (k, tt)
readable_push count (y ∷ steps) x h k = (h.0, readable_push count steps x h.1 k)

pub readable_more : (count : ℕ) (steps : List ProofStep) (i : ℕ) (x : ProofStep) → i < length steps → x ≡ get_or steps i x
    → AreReadableSteps count (step_trees (take i steps)) → IsReadableStep count (step_tree x) → AreReadableSteps count (step_trees (take (i + 1) steps))
readable_more count steps i x inside is h k =
    subst (λ ss. AreReadableSteps count (step_trees ss)) (sym (take_more steps i x inside ∙ ap (λ y. take i steps ++ y ∷ []) (sym is)))
    (readable_push count (take i steps) x h k)
