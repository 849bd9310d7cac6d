-- A well-typed leg over numbers passes where its obligations are met.
use Rattle.std.proofs.Common.{◌≡◌, ℕ, suc, pred, ◌+◌, ◌<◌, ◌≤◌, Bool, true, false, cond, ◌||◌, List, [], ◌∷◌, map, length, Some, None, refl, sym, ap, ◌∙◌, subst, arith}
use Rattle.std.specs.Prelude.{nat_eq, slice_get}
use Rattle.std.specs.List.{AllByRecursion, fold}
use Rattle.std.specs.Set.{is_member}
use Rattle.std.proofs.lemmas.Bool.{false≢true}
use Rattle.std.proofs.lemmas.Bool.Decides.{Decides-eqb}
use Rattle.std.proofs.lemmas.List.Elements.{All-from_recursion}
use Rattle.numbering_laws.proofs.Places.{all_append, there_is}
use Rattle.slang_values.specs.Value.{ValueType, truth_type, Records, is_known, AreWellFormed, Value, unit, truth_of, HasType}
use Rattle.slang_values.specs.Tree.{Tree, value}
use Rattle.slang_values.specs.Typing.{FitNames}
use Rattle.slang_values.proofs.Typed.{HasType-value}
use Rattle.validity.specs.Validity.{no_bounds, IsTrueUnder, IsValid}
use Rattle.program_trees.specs.declared.answer.Kind.{Kind}
use Rattle.program_trees.specs.Claims.{ClaimTree, renamed_claim}
use Rattle.program_trees.specs.Legs.{ItemTree, assume, check, set, fresh, proof, LegTree}
use Rattle.leg_rules.specs.LegNames.{LegName, same_name}
use Rattle.leg_rules.specs.Store.{State, start, read_claim, with_fact, set_variable, take_symbol, make_fresh, is_small}
use Rattle.leg_rules.specs.Sequents.{after_steps, read_term, step_terms, are_small_steps, outermost, Obligation, where_small, with_facts, base, obligations_from, obligations}
use Rattle.leg_rules.specs.Typed.{no_labels, AreTypedItems, IsTypedLeg}
use Rattle.leg_sequents.proofs.Reading.{none≢some, IsGood, good_read, typed_term, closed_term, good_set, good_fresh_each, good_fact}
use Rattle.leg_sequents.proofs.WellSorted.{sorted_steps, in_proof, claim_read, outermost_claims, claims_append, good_start}
use Rattle.leg_soundness.specs.Passing.{LegValues, begins, leg_value, IsTrueAt, with_now, with_fresh, Passes, AtEnd}
use Rattle.numbering_laws.specs.NumberedPassing.{number_name, named_items, number_types, NumberedPasses}
use Rattle.answer_laws.specs.Met.{IsMet}
use Rattle.answer_laws.proofs.Symbols.{Fits, of_versions, later_with, symbol_fits}
use Rattle.answer_laws.proofs.Reading.{at_zero, claim_fits, claim_means}
use Rattle.answer_laws.proofs.Steps.{proof_fits}

-- no obligation is too large
rest_met : (small : Bool) (place : ℕ) (kind : Kind) (rest : List Obligation) → AllByRecursion IsMet (where_small small place kind rest)
    → AllByRecursion IsMet rest
rest_met true place kind rest h = h
rest_met false place kind rest h = absurd h.0

same_member : (xs : List ℕ) (y : ℕ) → is_member same_name (map number_name xs) (number_name y) ≡ is_member nat_eq xs y
same_member [] y = refl
same_member (x ∷ xs) y = ap (◌||◌ (nat_eq y x)) (same_member xs y)

module _ (records : Records) (variables : List ValueType) (fine : AllByRecursion (λ t. is_known records t ≡ true) variables) (formed : AreWellFormed records) where
  abbrev Good : State → Type 0
  Good state = IsGood records variables no_labels state

  abbrev FitsAt : LegValues → State → (ℕ → Value) → Type 0
  FitsAt s state values = Fits records variables s state values

  -- ---- changes

  module _ (s : LegValues) (state : State) (values : ℕ → Value) (fits : FitsAt s state values) where
    -- Each variable that is changed has one more version. What it was before is its old value, and the new version has no term yet.
    moved_terms : (b : Bool) (y m : ℕ) (u : Tree ℕ) (v : Value) → state.terms y m ≡ Some u → (t : ValueType) → slice_get variables y ≡ Some t
        → (m ≡ cond b (suc (state.version y)) (state.version y) → value records values no_bounds u ≡ cond b v (s.now (number_name y)))
        × (m ≡ pred (cond b (suc (state.version y)) (state.version y))
        → value records values no_bounds u ≡ cond b (s.now (number_name y)) (s.old (number_name y)))
    moved_terms true y m u v h t at = (
      λ e. absurd (none≢some (sym (fits.later y m (omega (arith, e))) ∙ h)),
      λ e. (fits.terms y m u h t at).0 e,
    )
    moved_terms false y m u v h t at = fits.terms y m u h t at

    moved_later : (b : Bool) (y m : ℕ) → cond b (suc (state.version y)) (state.version y) < m → state.terms y m ≡ None
    moved_later true y m l = fits.later y m (omega (arith, l))
    moved_later false y m l = fits.later y m l

    moved_typed : (b : Bool) (v w : Value) (t : ValueType) → (b ≡ true → HasType records v t) → HasType records w t → HasType records (cond b v w) t
    moved_typed true v w t new old = new refl
    moved_typed false v w t new old = old

    moved_unchanged : (b : Bool) (y : ℕ) (v : Value) → cond b (suc (state.version y)) (state.version y) ≡ 0
        → cond b (s.now (number_name y)) (s.old (number_name y)) ≡ cond b v (s.now (number_name y))
    moved_unchanged true y v e = absurd (omega (arith, e))
    moved_unchanged false y v e = fits.unchanged y e

    type_of_set : (x y : ℕ) (t r : ValueType) (v : Value) → slice_get variables x ≡ Some t → HasType records v t → slice_get variables y ≡ Some r
        → nat_eq y x ≡ true → HasType records v r
    type_of_set x y t r v at has at_y e =
        subst (HasType records v) (some_inj (sym at ∙ subst (λ z. slice_get variables z ≡ Some r) ((Decides-eqb y x).0 e) at_y)) has
      where
        some_inj : {a b : ValueType} → Some a ≡ Some b → a ≡ b
        some_inj e = cc

    not_before : (b : Bool) (n : ℕ) → b ≡ true → suc n ≡ pred (cond b (suc n) n) → ⊥
    not_before true n is e = omega (arith, e)
    not_before false n is e = false≢true is

    set_fits : (x : ℕ) (t : ValueType) (term : Tree ℕ) (v : Value) → slice_get variables x ≡ Some t → HasType records v t
        → value records values no_bounds term ≡ v → FitsAt (with_now (number_name x) v s) (set_variable x term state) values
    set_fits x t term v at has is =
        let self = (Decides-eqb x x).1 refl in
        let moved : State = record state { version = λ y. cond (nat_eq y x) (suc (state.version y)) (state.version y) } in
        record {
          symbols = fits.symbols;
          now_typed = λ y r at_y. moved_typed (nat_eq y x) v (s.now (number_name y)) r (type_of_set x y t r v at has at_y) (fits.now_typed y r at_y);
          old_typed = λ y r at_y. moved_typed (nat_eq y x) (s.now (number_name y)) (s.old (number_name y)) r (λ e. fits.now_typed y r at_y)
              (fits.old_typed y r at_y);
          terms = of_versions x (suc (state.version x)) term moved
              (λ y m u. (r : ValueType) → slice_get variables y ≡ Some r
              → (m ≡ moved.version y → value records values no_bounds u ≡ cond (nat_eq y x) v (s.now (number_name y)))
              × (m ≡ pred (moved.version y) → value records values no_bounds u ≡ cond (nat_eq y x) (s.now (number_name y)) (s.old (number_name y))))
              (λ r at_r. (
                λ e. is ∙ sym (ap (λ b. cond b v (s.now (number_name x))) self),
                λ e. absurd (not_before (nat_eq x x) (state.version x) self e),
              ))
              (λ y m u h r at_r. moved_terms (nat_eq y x) y m u v h r at_r);
          later = later_with x (suc (state.version x)) term moved
              (subst (λ b. suc (state.version x) ≤ cond b (suc (state.version x)) (state.version x)) (sym self) (omega arith))
              (λ y m l. moved_later (nat_eq y x) y m l);
          unchanged = λ y e. moved_unchanged (nat_eq y x) y v e;
          facts = fits.facts;
        }

    fact_fits : (term : Tree ℕ) → IsTrueUnder records values term → FitsAt s (with_fact term state) values
    fact_fits term h = record {
      symbols = fits.symbols;
      now_typed = fits.now_typed;
      old_typed = fits.old_typed;
      terms = fits.terms;
      later = fits.later;
      unchanged = fits.unchanged;
      facts = all_append (IsTrueUnder records values) state.facts (term ∷ []) fits.facts (h, tt);
    }

    facts_fit : (terms : List (Tree ℕ)) → AllByRecursion (IsTrueUnder records values) terms → FitsAt s (with_facts terms state) values
    facts_fit terms h = record {
      symbols = fits.symbols;
      now_typed = fits.now_typed;
      old_typed = fits.old_typed;
      terms = fits.terms;
      later = fits.later;
      unchanged = fits.unchanged;
      facts = all_append (IsTrueUnder records values) state.facts terms fits.facts h;
    }

    -- The fresh variables have new versions, whose symbols are still to be taken.
    fresh_moved : (xs : List ℕ) (new : LegName → Value) → FitNames records (number_types variables) new
        → FitsAt (with_fresh (map number_name xs) new s)
        (record state { version = λ y. cond (is_member nat_eq xs y) (suc (state.version y)) (state.version y) }) values
    fresh_moved xs new fit = record {
      symbols = fits.symbols;
      now_typed = λ y r at_y. subst (λ c. HasType records (cond c (new (number_name y)) (s.now (number_name y))) r) (sym (same_member xs y))
          (moved_typed (is_member nat_eq xs y) (new (number_name y)) (s.now (number_name y)) r (λ e. fit (number_name y) r at_y) (fits.now_typed y r at_y));
      old_typed = λ y r at_y. subst (λ c. HasType records (cond c (s.now (number_name y)) (s.old (number_name y))) r) (sym (same_member xs y))
          (moved_typed (is_member nat_eq xs y) (s.now (number_name y)) (s.old (number_name y)) r (λ e. fits.now_typed y r at_y) (fits.old_typed y r at_y));
      terms = λ y m u h r at_r. subst (λ c.
          (m ≡ cond (is_member nat_eq xs y) (suc (state.version y)) (state.version y)
          → value records values no_bounds u ≡ cond c (new (number_name y)) (s.now (number_name y)))
          × (m ≡ pred (cond (is_member nat_eq xs y) (suc (state.version y)) (state.version y))
          → value records values no_bounds u ≡ cond c (s.now (number_name y)) (s.old (number_name y)))) (sym (same_member xs y))
          (moved_terms (is_member nat_eq xs y) y m u (new (number_name y)) h r at_r);
      later = λ y m l. moved_later (is_member nat_eq xs y) y m l;
      unchanged = λ y e. subst (λ c. cond c (s.now (number_name y)) (s.old (number_name y)) ≡ cond c (new (number_name y)) (s.now (number_name y)))
          (sym (same_member xs y)) (moved_unchanged (is_member nat_eq xs y) y (new (number_name y)) e);
      facts = fits.facts;
    }

  symbols_fit : (s : LegValues) (xs : List ℕ) (state : State) (values : ℕ → Value) → Good state → FitsAt s state values
      → AllByRecursion (λ x. x < length variables) xs → (new : ℕ → Value) × FitsAt s (fold (take_symbol variables) state xs) new
  symbols_fit s [] state values g fits h = (values, fits)
  symbols_fit s (x ∷ xs) state values g fits h =
      let t = there_is variables x h.0 in
      symbols_fit s xs (take_symbol variables state x) _ (good_fresh_each records variables fine no_labels (x ∷ []) state g)
      (symbol_fits records variables s no_labels x (state.version x) t.0 (s.now (number_name x)) state values g fits t.1 (fits.now_typed x t.0 t.1)
      (omega arith) (λ e. refl, λ e. sym (fits.unchanged x (at_zero (state.version x) e)))) h.1

  -- ---- items

  -- what a valid sequent shows under the present valuation
  shown : (s : LegValues) (state : State) (values : ℕ → Value) (goal : Tree ℕ) → FitsAt s state values
      → IsValid (record { types = state.sorts; records = records; facts = state.facts; goal = goal }) → IsTrueUnder records values goal
  shown s state values goal fits valid = valid values fits.symbols (All-from_recursion (IsTrueUnder records values) state.facts fits.facts)

  all_shown : (s : LegValues) (state : State) (values : ℕ → Value) (terms : List (Tree ℕ)) → FitsAt s state values
      → AllByRecursion (λ claim. IsValid (record (base records state) { goal = claim })) terms → AllByRecursion (IsTrueUnder records values) terms
  all_shown s state values [] fits h = tt
  all_shown s state values (term ∷ terms) fits h = (shown s state values term fits h.0, all_shown s state values terms fits h.1)

  -- what a term with the value of a claim says
  true_claim : (s : LegValues) (values : ℕ → Value) (term : Tree ℕ) (claim : ClaimTree ℕ)
      → value records values no_bounds term ≡ leg_value records s (renamed_claim number_name claim) → IsTrueUnder records values term
      → IsTrueAt records s (renamed_claim number_name claim)
  true_claim s values term claim same h = ap truth_of (sym same) ∙ h

  items_pass : (place : ℕ) (state : State) (items : List (ItemTree ℕ)) (s : LegValues) (values : ℕ → Value) → Good state
      → AreTypedItems records variables items → FitsAt s state values → AllByRecursion IsMet (obligations_from records variables place state items)
      → Passes records (number_types variables) (named_items items) AtEnd s
  items_pass place state [] s values g typed fits met = tt
  items_pass place state (assume claim ∷ items) s values g typed fits met = λ holds.
      let h = in_proof records variables fine truth_type claim typed.0 in
      let read = read_claim variables claim state in
      let term = read_term variables state claim in
      let grown = claim_fits records variables fine s no_labels claim truth_type state values g fits h in
      let same = claim_means records variables fine s claim truth_type state grown.0 g h grown.2 in
      items_pass (place + 1) (with_fact term read) items s grown.0
      (good_fact records variables fine no_labels term read (good_read records variables fine no_labels claim state g)
      (claim_read records variables fine no_labels claim state g h)) typed.1
      (fact_fits s read grown.0 grown.2 term (ap truth_of same ∙ holds)) (rest_met (is_small term) place _ _ met)
  items_pass place state (check kind claim ∷ items) s values g typed fits met =
      let h = in_proof records variables fine truth_type claim typed.0 in
      let read = read_claim variables claim state in
      let term = read_term variables state claim in
      let grown = claim_fits records variables fine s no_labels claim truth_type state values g fits h in
      let same = claim_means records variables fine s claim truth_type state grown.0 g h grown.2 in
      let rest = rest_met (is_small term) place _ _ met in
      let is = shown s read grown.0 term grown.2 rest.0 in (
        true_claim s grown.0 term claim same is,
        items_pass (place + 1) (with_fact term read) items s grown.0
            (good_fact records variables fine no_labels term read (good_read records variables fine no_labels claim state g)
            (claim_read records variables fine no_labels claim state g h)) typed.1 (fact_fits s read grown.0 grown.2 term is) rest.1,
      )
  items_pass place state (set x claim ∷ items) s values g typed fits met =
      let t = typed.0.0 in
      let h = in_proof records variables fine t claim typed.0.2 in
      let read = read_claim variables claim state in
      let term = read_term variables state claim in
      let grown = claim_fits records variables fine s no_labels claim t state values g fits h in
      let same = claim_means records variables fine s claim t state grown.0 g h grown.2 in
      let good = good_read records variables fine no_labels claim state g in
      let is_typed = typed_term records variables fine no_labels claim t state g h in
      let has = HasType-value records formed (slice_get read.sorts) grown.0 grown.2.symbols term t no_bounds is_typed in
      items_pass (place + 1) (set_variable x term read) items (with_now (number_name x) (leg_value records s (renamed_claim number_name claim)) s) grown.0
      (good_set records variables fine no_labels x t term read good typed.0.1 is_typed (closed_term records variables fine no_labels claim t state g h))
      typed.1 (set_fits s read grown.0 grown.2 x t term _ typed.0.1 (subst (λ v. HasType records v t) same has) same)
      (rest_met (is_small term) place _ _ met)
  items_pass place state (fresh xs ∷ items) s values g typed fits met = λ new fit.
      let moved : State = record state { version = λ y. cond (is_member nat_eq xs y) (suc (state.version y)) (state.version y) } in
      let good : Good moved = record { known = g.known; closed = g.closed; typed = g.typed; symbols = g.symbols; facts = g.facts } in
      let after = with_fresh (map number_name xs) new s in
      let taken = symbols_fit after xs moved values good (fresh_moved s state values fits xs new fit) typed.0 in
      items_pass (place + 1) (make_fresh variables xs state) items after taken.0 (good_fresh_each records variables fine no_labels xs moved good) typed.1
      taken.1 met
  items_pass place state (proof steps ∷ items) s values g typed fits met =
      let after = after_steps variables state steps in
      let terms = step_terms variables state steps in
      let sorted = sorted_steps records variables fine steps no_labels state g typed.0 in
      let grown = proof_fits records variables fine s steps state values g typed.0 fits in
      let rest = rest_met (are_small_steps terms) place _ _ met in
      let are = all_shown s after grown.0 (outermost terms) grown.2 rest.0 in
      let more = claims_append records (slice_get after.sorts) after.facts (outermost terms) sorted.0.facts
      (outermost_claims records (slice_get after.sorts) terms sorted.2) in (
        grown.3 are,
        items_pass (place + 1) (with_facts (outermost terms) after) items s grown.0
            (record { known = sorted.0.known; closed = sorted.0.closed; typed = sorted.0.typed; symbols = sorted.0.symbols; facts = more }) typed.1
            (facts_fit s after grown.0 grown.2 (outermost terms) are) rest.1,
      )

pub obligations_pass : (leg : LegTree) → IsTypedLeg leg → AllByRecursion IsMet (obligations leg) → NumberedPasses leg
obligations_pass leg typed met names fit =
    items_pass leg.records leg.variables typed.variables typed.records 0 start leg.items (begins names) (λ n. unit)
    (good_start leg.records leg.variables) typed.items (record {
      symbols = λ n t h. absurd (none≢some h);
      now_typed = λ x t at. fit (number_name x) t at;
      old_typed = λ x t at. fit (number_name x) t at;
      terms = λ x k u h t at. absurd (none≢some h);
      later = λ x k l. refl;
      unchanged = λ x e. refl;
      facts = tt;
    }) met
