-- What reading the steps of a proof does to a valuation, and what its outermost claims say.
use Rattle.std.proofs.Common.{◌≡◌, ℕ, pos, Bool, true, false, List, length, Some, refl, sym, ap, ◌∙◌}
use Rattle.std.specs.Prelude.{slice_get}
use Rattle.std.specs.List.{AllByRecursion}
use Rattle.slang_values.specs.Value.{ValueType, number_type, truth_type, Records, is_known, Value, number, truth_of}
use Rattle.validity.specs.Validity.{IsTrueUnder}
use Rattle.program_trees.specs.Claims as claims
use Rattle.program_trees.specs.Claims.{ProofStepTree, ProofStepTrees, renamed_steps}
use Rattle.leg_rules.specs.Store.{State, read_claim}
use Rattle.leg_rules.specs.Sequents.{begin_block, after_step, after_steps, read_term, step_terms, outermost}
use Rattle.leg_rules.specs.Typed.{with_label, IsTypedStep, AreTypedSteps, no_labels}
use Rattle.leg_sequents.proofs.Reading.{wider_push, IsGood, claim_reads, good_read}
use Rattle.leg_sequents.proofs.WellSorted.{good_begin, sorted_step, claim_read}
use Rattle.leg_soundness.specs.Passing.{LegValues, IsTrueAt, claimed}
use Rattle.numbering_laws.specs.NumberedPassing.{number_name}
use Rattle.answer_laws.proofs.Symbols.{Extends, with_value, extends_with, fits_with, same_value_of, same_facts, Fits}
use Rattle.answer_laws.proofs.Reading.{Grown, claim_fits, claim_means}

module _ (records : Records) (variables : List ValueType) (fine : AllByRecursion (λ t. is_known records t ≡ true) variables) (s : LegValues) where
  abbrev Good : (ℕ → Bool) → State → Type 0
  Good lets state = IsGood records variables lets state

  abbrev GrownTo : State → (ℕ → Value) → State → Type 0
  GrownTo state values new_state = Grown records variables fine s no_labels state values new_state

  -- A block's own symbol may have any number.
  begin_fits : (has : Bool) (label : ℕ) (lets : ℕ → Bool) (state : State) (values : ℕ → Value) → Good lets state → Fits records variables s state values
      → GrownTo state values (begin_block has label state)
  begin_fits true label lets state values g fits =
      let zero_value = number (pos 0) in
      let new = with_value (length state.sorts) zero_value values in
      let extends = extends_with state.sorts zero_value values in (
        new,
        extends,
        record {
          symbols = fits_with records state.sorts number_type zero_value values fits.symbols refl;
          now_typed = fits.now_typed;
          old_typed = fits.old_typed;
          terms = λ x k u is t at.
              let before = fits.terms x k u is t at in
              let same = same_value_of records state.sorts values new extends u t (g.typed x k u t is at) in
              (λ e. same ∙ before.0 e, λ e. same ∙ before.1 e);
          later = fits.later;
          unchanged = fits.unchanged;
          facts = same_facts records state.sorts values new extends state.facts g.facts fits.facts;
        },
      )
  begin_fits false label lets state values g fits = (values, λ n t h. refl, fits)

  begin_wider : (has : Bool) (label : ℕ) (state : State) (n : ℕ) (t : ValueType) → slice_get state.sorts n ≡ Some t
      → slice_get (begin_block has label state).sorts n ≡ Some t
  begin_wider true label state n t h = wider_push state.sorts number_type n t h
  begin_wider false label state n t h = h

  mutual
    step_fits : (step : ProofStepTree ℕ) (lets : ℕ → Bool) (state : State) (values : ℕ → Value) → Good lets state → IsTypedStep records variables lets step
        → Fits records variables s state values → GrownTo state values (after_step variables state step)
    step_fits (claims.line label claim rule cites) lets state values g typed fits =
        claim_fits records variables fine s lets claim truth_type state values g fits typed
    step_fits (claims.block label has assumed given steps) lets state values g typed fits =
        let inner = with_label has label lets in
        let first = begin_block has label state in
        let second = read_claim variables given first in
        let one = begin_fits has label lets state values g fits in
        let good_first = good_begin records variables fine has label lets state g in
        let two = claim_fits records variables fine s inner given truth_type first one.0 good_first one.2 typed.0 in
        let reads = claim_reads records variables fine inner given first good_first in
        let three = steps_fit steps inner second two.0 (good_read records variables fine inner given first good_first) typed.1 two.2 in (
          three.0,
          λ n t h.
              let at_first = begin_wider has label state n t h in
              three.1 n t (reads.wider n t at_first) ∙ (two.1 n t at_first ∙ one.1 n t h),
          three.2,
        )

    steps_fit : (steps : ProofStepTrees ℕ) (lets : ℕ → Bool) (state : State) (values : ℕ → Value) → Good lets state
        → AreTypedSteps records variables lets steps → Fits records variables s state values → GrownTo state values (after_steps variables state steps)
    steps_fit claims.no_steps lets state values g typed fits = (values, λ n t h. refl, fits)
    steps_fit (claims.step_then step steps) lets state values g typed fits =
        let one = step_fits step lets state values g typed.0 fits in
        let sorted = sorted_step records variables fine step lets state g typed.0 in
        let rest = steps_fit steps lets (after_step variables state step) one.0 sorted.0 typed.1 one.2 in
        (rest.0, λ n t h. rest.1 n t (sorted.1.wider n t h) ∙ one.1 n t h, rest.2)

  -- ---- the outermost claims

  -- Where the terms of the outermost claims are true, the claims hold.
  abbrev ClaimsSaid : State → ProofStepTrees ℕ → (ℕ → Value) → Type 0
  ClaimsSaid state steps new =
      AllByRecursion (IsTrueUnder records new) (outermost (step_terms variables state steps))
      → AllByRecursion (IsTrueAt records s) (claimed (renamed_steps number_name steps))

  pub proof_fits : (steps : ProofStepTrees ℕ) (state : State) (values : ℕ → Value) → Good no_labels state
      → AreTypedSteps records variables no_labels steps → Fits records variables s state values
      → (new : ℕ → Value) × Extends state.sorts values new × Fits records variables s (after_steps variables state steps) new × ClaimsSaid state steps new
  proof_fits claims.no_steps state values g typed fits = (values, λ n t h. refl, fits, λ h. tt)
  proof_fits (claims.step_then (claims.line label claim rule cites) steps) state values g typed fits =
      let read = read_claim variables claim state in
      let one = claim_fits records variables fine s no_labels claim truth_type state values g fits typed.0 in
      let reads = claim_reads records variables fine no_labels claim state g in
      let rest = proof_fits steps read one.0 (good_read records variables fine no_labels claim state g) typed.1 one.2 in
      let is_claim = claim_read records variables fine no_labels claim state g typed.0 in
      let same = same_value_of records read.sorts one.0 rest.0 rest.1 (read_term variables state claim) truth_type is_claim.typed in
      let means = claim_means records variables fine s claim truth_type state one.0 g typed.0 one.2 in (
        rest.0,
        λ n t h. rest.1 n t (reads.wider n t h) ∙ one.1 n t h,
        rest.2,
        λ h. (ap truth_of (sym means) ∙ (ap truth_of (sym same) ∙ h.0), rest.3 h.1),
      )
  proof_fits (claims.step_then (claims.block label has assumed given inner) steps) state values g typed fits =
      let step = claims.block label has assumed given inner in
      let one = step_fits step no_labels state values g typed.0 fits in
      let sorted = sorted_step records variables fine step no_labels state g typed.0 in
      let rest = proof_fits steps (after_step variables state step) one.0 sorted.0 typed.1 one.2 in
      (rest.0, λ n t h. rest.1 n t (sorted.1.wider n t h) ∙ one.1 n t h, rest.2, rest.3)
