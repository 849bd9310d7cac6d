-- From the steps of a proof to the proof.
use Rattle.std.proofs.Common.{◌≡◌, ℕ, List, map, Bool, Result, Ok, Err, IfOk, sym, ap, ◌∙◌}
use Rattle.std.specs.List.{All}
use Rattle.slang_values.specs.Tree.{Tree}
use Rattle.validity.specs.Validity.{SequentTree, IsValid}
use Rattle.term_trees.specs.declared.term.Term.{Term}
use Rattle.term_trees.specs.Term.{tree}
use Rattle.lk_terms.specs.declared.sequent.Sequent.{Sequent}
use Rattle.deduction_rules.specs.Step.{StepTrees}
use Rattle.deduction_rules.specs.Deduction.{Before, start, passed, after_steps, visible_claims, accepted, deduction_of, deduction}
use Rattle.deduction_rules.specs.Laws.{ClosesValid}
use Rattle.deduction_rules.proofs.Soundness.{accepted_is_valid}
use Rattle.proof_scopes.specs.Scope.{nothing, is_in_some, with_used}
use Rattle.deduction.specs.declared.end.ProofEnd.{ProofEnd}
use Rattle.proof_closing.specs.Prover.{plain_sequent}
use Rattle.deduction.specs.End.{EndsSteps, EndsProof}
use Rattle.deduction.specs.Checking.{AreSortedOver}
use Rattle.deduction.proofs.Sorted.{plain_sorted}

pub is_start : (old new : Before) (facts : List (Tree ℕ)) → old ≡ nothing → new ≡ with_used (is_in_some facts) old → new ≡ start facts
is_start old new facts e f = f ∙ ap (with_used (is_in_some facts)) e

module _ (closes : SequentTree → Bool) (base : SequentTree) (steps : StepTrees) (old new : Before) (empty : old ≡ nothing)
    (used : new ≡ with_used (is_in_some base.facts) old) where
  from_start : deduction closes base steps ≡ deduction_of (after_steps closes base new steps)
  from_start = ap (λ b. deduction_of (after_steps closes base b steps)) (sym (is_start old new base.facts empty used))

  pub proof_accepted : (next : Before) (claims : List Term) → after_steps closes base new steps ≡ passed next → map tree claims ≡ visible_claims next.visible →
      deduction closes base steps ≡ accepted (map tree claims)
  proof_accepted next claims h e = from_start ∙ ap deduction_of h ∙ ap accepted (sym e)

  pub proof_ends : (end : ProofEnd) → EndsSteps end (after_steps closes base new steps) → EndsProof end (deduction closes base steps)
  proof_ends (ProofEnd.Bad step reason) h = from_start ∙ ap deduction_of h
  proof_ends (ProofEnd.Stopped told) h = tt
  proof_ends ProofEnd.NoMemory h = tt

pub valid_claims : (closes : SequentTree → Bool) → ClosesValid closes → (base : Sequent) (steps : StepTrees) → AreSortedOver (plain_sequent base) steps →
    (r : Result (List Term) ProofEnd) → IfOk r (λ claims. deduction closes (plain_sequent base) steps ≡ accepted (map tree claims)) →
    IfOk r (λ claims. All (λ t. IsValid (record (plain_sequent base) { goal = t })) (map tree claims))
valid_claims closes sound base steps typed (Ok claims) h =
    accepted_is_valid closes sound (plain_sequent base) (plain_sorted base) steps typed (map tree claims) h
valid_claims closes sound base steps typed (Err e) h = tt
