-- What follows from the answer of a check.
use Rattle.std.proofs.Common.{◌≡◌, List, map, Bool, Result, Ok, Err, IfOk, sym, subst}
use Rattle.std.specs.List.{All, AllByRecursion}
use Rattle.std.proofs.lemmas.List.Elements.{recursion_from_All}
use Rattle.validity.specs.Validity.{SequentTree, IsValid}
use Rattle.term_trees.specs.declared.term.Term.{Term}
use Rattle.term_trees.specs.Term.{tree}
use Rattle.deduction_rules.specs.Step.{StepTrees}
use Rattle.deduction_rules.specs.Deduction.{accepted, deduction}
use Rattle.verdict_laws.proofs.Outermost.{accepted_outermost}
use Rattle.proof_answers.specs.Accepted.{AreValidOver, AreOutermost}

module _ (closes : SequentTree → Bool) (base : SequentTree) (steps : StepTrees) where
  pub claims_valid : (claims : List Term) → deduction closes base steps ≡ accepted (map tree claims) →
      All (λ t. IsValid (record base { goal = t })) (map tree claims) → AreValidOver base steps
  claims_valid claims is valid =
      subst (AllByRecursion (λ t. IsValid (record base { goal = t }))) (sym (accepted_outermost closes base steps (map tree claims) is))
      (recursion_from_All (λ t. IsValid (record base { goal = t })) (map tree claims) valid)

  -- ---- the same of a result

  pub outermost_of : {E : Type 0} (r : Result (List Term) E) → IfOk r (λ claims. deduction closes base steps ≡ accepted (map tree claims)) →
      IfOk r (λ claims. AreOutermost claims steps)
  outermost_of (Ok claims) h = sym (accepted_outermost closes base steps (map tree claims) h)
  outermost_of (Err end) h = tt

  pub valid_of : {E : Type 0} (r : Result (List Term) E) → IfOk r (λ claims. deduction closes base steps ≡ accepted (map tree claims)) →
      IfOk r (λ claims. All (λ t. IsValid (record base { goal = t })) (map tree claims)) → IfOk r (λ claims. AreValidOver base steps)
  valid_of (Ok claims) h valid = claims_valid claims h valid
  valid_of (Err end) h valid = tt
