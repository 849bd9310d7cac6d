-- Steps pass exactly where they are well typed and well formed.
use Rattle.std.proofs.Common.{◌≡◌, ℕ, zero, suc, Bool, true, false, ◌&&◌, ◌||◌, if◌then◌else◌, true≢false, List, ◌∷◌, ◌++◌, Option, Some, None, refl, sym, ap}
use Rattle.std.proofs.Common.{◌∙◌}
use Rattle.std.specs.Prelude.{nat_eq, []}
use Rattle.std.specs.Set.{is_member}
use Rattle.std.proofs.lemmas.List.Folds.{list_any-append}
use Rattle.slang_values.specs.Value.{ValueType, number_type, truth_type, Records}
use Rattle.slang_values.specs.Typing.{NameTypes, IsTyped}
use Rattle.slang_values.proofs.Equality.{same_type-true, same_type_refl}
use Rattle.program_trees.specs.Claims.{ClaimName, variable, old_variable, let_symbol, ClaimTree, is_empty, is_rule}
use Rattle.program_trees.specs.Claims.{ProofStepTree, line, block, ProofStepTrees, no_steps, step_then}
use Rattle.leg_rules.specs.Typed.{step_names, IsLegClaim, with_label, IsTypedStep, AreTypedSteps}
use Rattle.leg_forms.specs.WellFormed.{IsLow, IsWellFormedStep, AreWellFormedSteps}
use Rattle.claim_limits.specs.Limits.{within}
use Rattle.claim_limits.proofs.Testing.{tells, passes}
use Rattle.claim_types.specs.Judged.{is_type, judged}
use Rattle.claim_types.proofs.Typing.{both_true, true_both, typed, judged_as}
use Rattle.claim_types.proofs.SameNames.{same_judged}
use Rattle.step_checks.specs.Tests.{with_symbol, claim_passes, given_passes, step_passes, steps_pass}

-- ---- claims

is_of : (t : ValueType) (o : Option ValueType) → is_type t o ≡ true → o ≡ Some t
is_of t None h = absurd (true≢false (sym h))
is_of t (Some s) h = ap Some (same_type-true s t h)

module _ (records : Records) (names : NameTypes (ClaimName ℕ)) (type : ValueType) (claim : ClaimTree ℕ) where
  pub claim_told : claim_passes records names type claim ≡ true → IsLegClaim records names type claim × IsLow claim
  claim_told h =
      let both = both_true (is_type type (judged records names claim)) (within 2000 0 claim) h in
      let low = tells 2000 0 claim both.1 in
      (record { typed = typed records names claim type (is_of type (judged records names claim) both.0); closed = low.1 }, low.0)

  pub claim_tested : IsLegClaim records names type claim → IsLow claim → claim_passes records names type claim ≡ true
  claim_tested h low =
      true_both (is_type type (judged records names claim)) (within 2000 0 claim)
      (ap (is_type type) (judged_as records names claim type h.typed) ∙ same_type_refl type) (passes 2000 0 claim low h.closed)

-- ---- the labels of the blocks around

of_both : (m e : Bool) → (m || (e || false)) ≡ (if e then true || m else m)
of_both true true = refl
of_both true false = refl
of_both false true = refl
of_both false false = refl

alone : (m e : Bool) → m ≡ (if e then false || m else m)
alone m true = refl
alone m false = refl

-- with the label of one block more
with_more : (labels : List ℕ) (lets : ℕ → Bool) (symbol : Bool) (label : ℕ) → ((n : ℕ) → is_member nat_eq labels n ≡ lets n)
    → (n : ℕ) → is_member nat_eq (with_symbol symbol label labels) n ≡ with_label symbol label lets n
with_more labels lets true label same n =
    list_any-append (nat_eq n) labels (label ∷ []) ∙ ap (λ m. m || (nat_eq n label || false)) (same n) ∙ of_both (lets n) (nat_eq n label)
with_more labels lets false label same n = same n ∙ alone (lets n) (nat_eq n label)

same_names : (variables : List ValueType) (lets others : ℕ → Bool) → ((n : ℕ) → lets n ≡ others n) → (a : ClaimName ℕ)
    → step_names variables lets a ≡ step_names variables others a
same_names variables lets others same (variable x) = refl
same_names variables lets others same (old_variable x) = refl
same_names variables lets others same (let_symbol label) = ap (λ b. if b then Some number_type else None) (same label)

-- ---- steps

module _ (records : Records) (variables : List ValueType) where
  -- a claim among labels, and among what says the same of each label
  given_as : (labels : List ℕ) (lets : ℕ → Bool) → ((n : ℕ) → is_member nat_eq labels n ≡ lets n) → (claim : ClaimTree ℕ)
      → given_passes records variables labels claim ≡ claim_passes records (step_names variables lets) truth_type claim
  given_as labels lets same claim =
      ap (λ o. is_type truth_type o && within 2000 0 claim)
      (same_judged records (step_names variables (is_member nat_eq labels)) (step_names variables lets)
      (same_names variables (is_member nat_eq labels) lets same) claim)

  given_told : (labels : List ℕ) (lets : ℕ → Bool) → ((n : ℕ) → is_member nat_eq labels n ≡ lets n) → (claim : ClaimTree ℕ)
      → given_passes records variables labels claim ≡ true → IsLegClaim records (step_names variables lets) truth_type claim × IsLow claim
  given_told labels lets same claim h = claim_told records (step_names variables lets) truth_type claim (sym (given_as labels lets same claim) ∙ h)

  given_tested : (labels : List ℕ) (lets : ℕ → Bool) → ((n : ℕ) → is_member nat_eq labels n ≡ lets n) → (claim : ClaimTree ℕ)
      → IsLegClaim records (step_names variables lets) truth_type claim → IsLow claim → given_passes records variables labels claim ≡ true
  given_tested labels lets same claim h low =
      given_as labels lets same claim ∙ claim_tested records (step_names variables lets) truth_type claim h low

  none : (lets : ℕ → Bool) (steps : ProofStepTrees ℕ) → is_empty steps ≡ true → AreTypedSteps records variables lets steps
  none lets no_steps h = tt
  none lets (step_then step steps) h = absurd (true≢false (sym h))

  mutual
    pub step_told : (labels : List ℕ) (lets : ℕ → Bool) → ((n : ℕ) → is_member nat_eq labels n ≡ lets n) → (depth : ℕ) (step : ProofStepTree ℕ)
        → step_passes records variables labels depth step ≡ true → IsTypedStep records variables lets step × IsWellFormedStep depth step
    step_told labels lets same depth (line label claim rule cites) h =
        let both = both_true (given_passes records variables labels claim) (is_rule rule) h in
        let given = given_told labels lets same claim both.0 in
        (given.0, (given.1, both.1))
    step_told labels lets same zero (block label symbol assumed claim steps) h =
        let inner = with_symbol symbol label labels in
        let both = both_true (given_passes records variables inner claim) (is_empty steps) h in
        let given = given_told inner (with_label symbol label lets) (with_more labels lets symbol label same) claim both.0 in
        ((given.0, none (with_label symbol label lets) steps both.1), (given.1, both.1))
    step_told labels lets same (suc depth) (block label symbol assumed claim steps) h =
        let inner = with_symbol symbol label labels in
        let both = both_true (given_passes records variables inner claim) (steps_pass records variables inner depth steps) h in
        let given = given_told inner (with_label symbol label lets) (with_more labels lets symbol label same) claim both.0 in
        let rest = steps_told inner (with_label symbol label lets) (with_more labels lets symbol label same) depth steps both.1 in
        ((given.0, rest.0), (given.1, rest.1))

    pub steps_told : (labels : List ℕ) (lets : ℕ → Bool) → ((n : ℕ) → is_member nat_eq labels n ≡ lets n) → (depth : ℕ) (steps : ProofStepTrees ℕ)
        → steps_pass records variables labels depth steps ≡ true → AreTypedSteps records variables lets steps × AreWellFormedSteps depth steps
    steps_told labels lets same depth no_steps h = (tt, tt)
    steps_told labels lets same depth (step_then step steps) h =
        let both = both_true (step_passes records variables labels depth step) (steps_pass records variables labels depth steps) h in
        let one = step_told labels lets same depth step both.0 in
        let rest = steps_told labels lets same depth steps both.1 in
        ((one.0, rest.0), (one.1, rest.1))

  mutual
    pub step_tested : (labels : List ℕ) (lets : ℕ → Bool) → ((n : ℕ) → is_member nat_eq labels n ≡ lets n) → (depth : ℕ) (step : ProofStepTree ℕ)
        → IsTypedStep records variables lets step → IsWellFormedStep depth step → step_passes records variables labels depth step ≡ true
    step_tested labels lets same depth (line label claim rule cites) h w =
        true_both (given_passes records variables labels claim) (is_rule rule) (given_tested labels lets same claim h w.0) w.1
    step_tested labels lets same zero (block label symbol assumed claim steps) h w =
        let inner = with_symbol symbol label labels in
        true_both (given_passes records variables inner claim) (is_empty steps)
        (given_tested inner (with_label symbol label lets) (with_more labels lets symbol label same) claim h.0 w.0) w.1
    step_tested labels lets same (suc depth) (block label symbol assumed claim steps) h w =
        let inner = with_symbol symbol label labels in
        true_both (given_passes records variables inner claim) (steps_pass records variables inner depth steps)
        (given_tested inner (with_label symbol label lets) (with_more labels lets symbol label same) claim h.0 w.0)
        (steps_tested inner (with_label symbol label lets) (with_more labels lets symbol label same) depth steps h.1 w.1)

    pub steps_tested : (labels : List ℕ) (lets : ℕ → Bool) → ((n : ℕ) → is_member nat_eq labels n ≡ lets n) → (depth : ℕ) (steps : ProofStepTrees ℕ)
        → AreTypedSteps records variables lets steps → AreWellFormedSteps depth steps → steps_pass records variables labels depth steps ≡ true
    steps_tested labels lets same depth no_steps h w = refl
    steps_tested labels lets same depth (step_then step steps) h w =
        true_both (step_passes records variables labels depth step) (steps_pass records variables labels depth steps)
        (step_tested labels lets same depth step h.0 w.0) (steps_tested labels lets same depth steps h.1 w.1)
