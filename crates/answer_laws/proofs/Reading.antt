-- What reading a claim does to a valuation: it grows, and the claim's term has the claim's value.
use Rattle.std.proofs.Common.{◌≡◌, ℕ, zero, suc, pred, ◌≤◌, Bool, true, false, cond, List, [], ◌∷◌, ◌++◌, length, Option, Some, None, refl, sym, ◌∙◌, subst, arith}
use Rattle.std.specs.Prelude.{slice_get, slice_index_or, unwrap_or}
use Rattle.std.specs.List.{AllByRecursion, fold}
use Rattle.std.proofs.lemmas.Bool.{false≢true}
use Rattle.numbering_laws.proofs.Places.{all_append, all_mapped}
use Rattle.slang_values.specs.Value.{ValueType, unit_type, number_type, Records, is_known, Value, HasType}
use Rattle.slang_values.specs.Tree.{Tree, literal, truth_literal, name, bound, unary, binary, update, quantified, listed, Trees, no_trees, tree_then, value}
use Rattle.validity.specs.Validity.{no_bounds}
use Rattle.validity.specs.Bind.{EachName, EachNameOfAll}
use Rattle.validity.proofs.Binds.{value-bind, value-same_names, EachName-typed}
use Rattle.program_trees.specs.Claims.{ClaimName, variable, old_variable, let_symbol, ClaimTree, renamed_name, renamed_claim}
use Rattle.leg_rules.specs.Store.{names, names_of_all, State, with_symbol, where_none, read_name, read_claim, term_of_name, term_of}
use Rattle.leg_rules.specs.Typed.{step_names, IsLegClaim, no_labels}
use Rattle.leg_sequents.proofs.Reading.{none≢some, IsGood, HasTerm, each_of_names, names_read, closed_names}
use Rattle.leg_soundness.specs.Passing.{LegValues, leg_name_value, leg_value}
use Rattle.numbering_laws.specs.NumberedPassing.{number_name}
use Rattle.answer_laws.proofs.Symbols.{Extends, with_value, extends_with, Fits, Matches, symbol_fits}

-- ---- the names of a claim

all_both : {A : Type 0} (P Q : A → Type 0) (xs : List A) → AllByRecursion P xs → AllByRecursion Q xs → AllByRecursion (λ x. P x × Q x) xs
all_both P Q [] h k = tt
all_both P Q (x ∷ xs) h k = ((h.0, k.0), all_both P Q xs h.1 k.1)

module _ {A : Type 0} (P : A → Type 0) where
  mutual
    names_of_each : (t : Tree A) → EachName P t → AllByRecursion P (names t)
    names_of_each (literal z) h = tt
    names_of_each (truth_literal b) h = tt
    names_of_each (name a) h = (h, tt)
    names_of_each (bound n) h = tt
    names_of_each (unary op a) h = names_of_each a h
    names_of_each (binary op a b) h = all_append P (names a) (names b) (names_of_each a h.0) (names_of_each b h.1)
    names_of_each (update a i x) h =
        all_append P (names a) (names i ++ names x) (names_of_each a h.0)
        (all_append P (names i) (names x) (names_of_each i h.1) (names_of_each x h.2))
    names_of_each (quantified q low high body) h =
        all_append P (names low) (names high ++ names body) (names_of_each low h.0)
        (all_append P (names high) (names body) (names_of_each high h.1) (names_of_each body h.2))
    names_of_each (listed l ts) h = names_of_each_of ts h

    names_of_each_of : (ts : Trees A) → EachNameOfAll P ts → AllByRecursion P (names_of_all ts)
    names_of_each_of no_trees h = tt
    names_of_each_of (tree_then t ts) h = all_append P (names t) (names_of_all ts) (names_of_each t h.0) (names_of_each_of ts h.1)

-- a number that is the one before it is 0
pub at_zero : (n : ℕ) → n ≡ pred n → n ≡ 0
at_zero zero e = refl
at_zero (suc n) e = absurd (omega (arith, e))

pred_low : (n : ℕ) → pred n ≤ n
pred_low zero = omega arith
pred_low (suc n) = omega arith

module _ (records : Records) (variables : List ValueType) (fine : AllByRecursion (λ t. is_known records t ≡ true) variables) (s : LegValues) where
  module _ (lets : ℕ → Bool) where
    abbrev Good : State → Type 0
    Good state = IsGood records variables lets state

    -- a name of a well-typed claim
    abbrev NameIn : ClaimName ℕ → Type 0
    NameIn (variable x) = (t : ValueType) × (slice_get variables x ≡ Some t)
    NameIn (old_variable x) = (t : ValueType) × (slice_get variables x ≡ Some t)
    NameIn (let_symbol label) = lets label ≡ true

    let_in : (b : Bool) (t : ValueType) → cond b (Some number_type) None ≡ Some t → b ≡ true
    let_in true t h = refl
    let_in false t h = absurd (none≢some h)

    name_in : (a : ClaimName ℕ) (t : ValueType) → step_names variables lets a ≡ Some t → NameIn a
    name_in (variable x) t h = (t, h)
    name_in (old_variable x) t h = (t, h)
    name_in (let_symbol label) t h = let_in (lets label) t h

    names_in : (claim : ClaimTree ℕ) (type : ValueType) → IsLegClaim records (step_names variables lets) type claim → AllByRecursion NameIn (names claim)
    names_in claim type h = names_of_each NameIn claim (EachName-typed records (step_names variables lets) NameIn name_in claim type h.typed)

    -- the valuation grows to one that fits the new state
    abbrev pub Grown : State → (ℕ → Value) → State → Type 0
    Grown state values new_state = (new : ℕ → Value) × Extends state.sorts values new × Fits records variables s new_state new

    version_fits : (x k : ℕ) (t : ValueType) (v : Value) (state : State) (values : ℕ → Value) (found : Option (Tree ℕ)) → Good state
        → Fits records variables s state values → slice_get variables x ≡ Some t → HasType records v t → k ≤ state.version x
        → Matches records variables s state x k v
        → Grown state values (where_none found (with_symbol (slice_index_or variables x unit_type) x k state) state)
    version_fits x k t v state values None g fits at has low match = (
      with_value (length state.sorts) v values,
      extends_with state.sorts v values,
      symbol_fits records variables s lets x k t v state values g fits at has low match,
    )
    version_fits x k t v state values (Some u) g fits at has low match = (values, λ n r h. refl, fits)

    name_fits : (a : ClaimName ℕ) (state : State) (values : ℕ → Value) → Good state → Fits records variables s state values → NameIn a
        → Grown state values (read_name variables state a)
    name_fits (variable x) state values g fits h =
        version_fits x (state.version x) h.0 (s.now (number_name x)) state values (state.terms x (state.version x)) g fits h.1
        (fits.now_typed x h.0 h.1) (omega arith) (λ e. refl, λ e. sym (fits.unchanged x (at_zero (state.version x) e)))
    name_fits (old_variable x) state values g fits h =
        version_fits x (pred (state.version x)) h.0 (s.old (number_name x)) state values (state.terms x (pred (state.version x))) g fits h.1
        (fits.old_typed x h.0 h.1) (pred_low (state.version x)) (λ e. fits.unchanged x (at_zero (state.version x) (sym e)), λ e. refl)
    name_fits (let_symbol label) state values g fits h = (values, λ n r e. refl, fits)

    names_fit : (as' : List (ClaimName ℕ)) (state : State) (values : ℕ → Value) → Good state → Fits records variables s state values
        → AllByRecursion NameIn as' → Grown state values (fold (read_name variables) state as')
    names_fit [] state values g fits h = (values, λ n r e. refl, fits)
    names_fit (a ∷ as') state values g fits h =
        let one = name_fits a state values g fits h.0 in
        let read = names_read records variables fine lets (a ∷ []) state g in
        let rest = names_fit as' (read_name variables state a) one.0 read.1 one.2 h.1 in
        (rest.0, λ n t e. rest.1 n t (read.0.wider n t e) ∙ one.1 n t e, rest.2)

    pub claim_fits : (claim : ClaimTree ℕ) (type : ValueType) (state : State) (values : ℕ → Value) → Good state → Fits records variables s state values
        → IsLegClaim records (step_names variables lets) type claim → Grown state values (read_claim variables claim state)
    claim_fits claim type state values g fits h = names_fit (names claim) state values g fits (names_in claim type h)

  -- ---- outside blocks

  name_means : (state : State) (values : ℕ → Value) → Fits records variables s state values → (a : ClaimName ℕ) → HasTerm state a × NameIn no_labels a
      → value records values no_bounds (term_of_name state a) ≡ leg_name_value s (renamed_name number_name a)
  name_means state values fits (variable x) h =
      subst (λ o. value records values no_bounds (unwrap_or o (name 0)) ≡ s.now (number_name x)) (sym h.0.1)
      ((fits.terms x (state.version x) h.0.0 h.0.1 h.1.0 h.1.1).0 refl)
  name_means state values fits (old_variable x) h =
      subst (λ o. value records values no_bounds (unwrap_or o (name 0)) ≡ s.old (number_name x)) (sym h.0.1)
      ((fits.terms x (pred (state.version x)) h.0.0 h.0.1 h.1.0 h.1.1).1 refl)
  name_means state values fits (let_symbol label) h = absurd (false≢true h.1)

  -- The term of a claim that has been read has the value of the claim.
  pub claim_means : (claim : ClaimTree ℕ) (type : ValueType) (state : State) (values : ℕ → Value) → IsGood records variables no_labels state
      → IsLegClaim records (step_names variables no_labels) type claim → Fits records variables s (read_claim variables claim state) values
      → value records values no_bounds (term_of (read_claim variables claim state) claim) ≡ leg_value records s (renamed_claim number_name claim)
  claim_means claim type state values g h fits =
      let new = read_claim variables claim state in
      let read = names_read records variables fine no_labels (names claim) state g in
      let both = all_both (HasTerm new) (NameIn no_labels) (names claim) read.2 (names_in no_labels claim type h) in
      value-bind records values (term_of_name new) (closed_names records variables fine no_labels new read.1) claim no_bounds
      ∙ (value-same_names records (λ a. value records values no_bounds (term_of_name new a)) (λ a. leg_name_value s (renamed_name number_name a)) claim no_bounds
      (each_of_names _ claim (all_mapped _ _ (name_means new values fits) (names claim) both))
      ∙ sym (value-bind records (leg_name_value s) (λ a. name (renamed_name number_name a)) (λ a. tt) claim no_bounds))
