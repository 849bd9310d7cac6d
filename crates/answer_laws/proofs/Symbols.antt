-- A valuation of the symbols that have been taken, under which the terms of a leg's variables have the variables' values. It grows with each symbol.
use Rattle.std.proofs.Common.{◌≡◌, ℕ, zero, suc, pred, ◌<◌, ◌≤◌, Bool, true, false, cond, List, [], ◌∷◌, ◌++◌, length, Option, Some, None, refl, sym, ap, ◌∙◌, subst, arith}
use Rattle.std.specs.Prelude.{nat_eq, slice_get, slice_index_or, ◌&&◌}
use Rattle.std.specs.List.{AllByRecursion}
use Rattle.std.proofs.lemmas.Bool.{and_parts, false_from_ne_true}
use Rattle.std.proofs.lemmas.Bool.Decides.{Decides-eqb}
use Rattle.numbering_laws.proofs.Places.{got_below}
use Rattle.slang_values.specs.Value.{ValueType, unit_type, Records, Value, truth_of, HasType}
use Rattle.slang_values.specs.Tree.{Tree, name, value}
use Rattle.slang_values.specs.Typing.{IsTyped, FitNames}
use Rattle.validity.specs.Validity.{no_bounds, IsClaim, IsTrueUnder}
use Rattle.validity.proofs.Binds.{value-same_names, EachName-typed}
use Rattle.leg_rules.specs.Store.{State, with_term, with_symbol}
use Rattle.leg_sequents.proofs.Reading.{none≢some, type_at, IsGood}
use Rattle.leg_soundness.specs.Passing.{LegValues}
use Rattle.numbering_laws.specs.NumberedPassing.{number_name}

-- ---- valuations that grow

-- the second gives the symbols of these types the values that the first gives them
abbrev pub Extends : List ValueType → (ℕ → Value) → (ℕ → Value) → Type 0
Extends sorts values new = (n : ℕ) (t : ValueType) → slice_get sorts n ≡ Some t → new n ≡ values n

-- a new symbol has the value v
abbrev pub with_value : ℕ → Value → (ℕ → Value) → ℕ → Value
with_value k v values n = cond (nat_eq n k) v (values n)

not_at_length : (sorts : List ValueType) (n : ℕ) (t : ValueType) → slice_get sorts n ≡ Some t → nat_eq n (length sorts) ≡ false
not_at_length sorts n t h =
    let l = got_below sorts n t h in
    false_from_ne_true (nat_eq n (length sorts)) (λ e. let same = (Decides-eqb n (length sorts)).0 e in omega (arith, l, same))

pub extends_with : (sorts : List ValueType) (v : Value) (values : ℕ → Value) → Extends sorts values (with_value (length sorts) v values)
extends_with sorts v values n t h = ap (λ b. cond b v (values n)) (not_at_length sorts n t h)

at_length : (k : ℕ) (v : Value) (values : ℕ → Value) → with_value k v values k ≡ v
at_length k v values = ap (λ b. cond b v (values k)) ((Decides-eqb k k).1 refl)

split_push : (sorts : List ValueType) (u : ValueType) (P : ℕ → ValueType → Type 0) → ((n : ℕ) (t : ValueType) → slice_get sorts n ≡ Some t → P n t)
    → P (length sorts) u → (n : ℕ) (t : ValueType) → slice_get (sorts ++ u ∷ []) n ≡ Some t → P n t
split_push [] u P old new zero t h = subst (P zero) (some_inj h) new
  where
    some_inj : {x y : ValueType} → Some x ≡ Some y → x ≡ y
    some_inj e = cc
split_push [] u P old new (suc n) t h = absurd (none≢some h)
split_push (s ∷ sorts) u P old new zero t h = old zero t h
split_push (s ∷ sorts) u P old new (suc n) t h = split_push sorts u (λ m r. P (suc m) r) (λ m r e. old (suc m) r e) new n t h

pub fits_with : (records : Records) (sorts : List ValueType) (u : ValueType) (v : Value) (values : ℕ → Value) → FitNames records (slice_get sorts) values
    → HasType records v u → FitNames records (slice_get (sorts ++ u ∷ [])) (with_value (length sorts) v values)
fits_with records sorts u v values fit has =
    split_push sorts u (λ n t. HasType records (with_value (length sorts) v values n) t)
    (λ n t h. subst (λ w. HasType records w t) (sym (extends_with sorts v values n t h)) (fit n t h))
    (subst (λ w. HasType records w u) (sym (at_length (length sorts) v values)) has)

pub same_value_of : (records : Records) (sorts : List ValueType) (values new : ℕ → Value) → Extends sorts values new → (u : Tree ℕ) (t : ValueType)
    → IsTyped records (slice_get sorts) u t → value records new no_bounds u ≡ value records values no_bounds u
same_value_of records sorts values new extends u t h =
    value-same_names records new values u no_bounds (EachName-typed records (slice_get sorts) (λ a. new a ≡ values a) extends u t h)

pub same_facts : (records : Records) (sorts : List ValueType) (values new : ℕ → Value) → Extends sorts values new → (facts : List (Tree ℕ))
    → AllByRecursion (IsClaim records (slice_get sorts)) facts → AllByRecursion (IsTrueUnder records values) facts
    → AllByRecursion (IsTrueUnder records new) facts
same_facts records sorts values new extends [] typed h = tt
same_facts records sorts values new extends (u ∷ facts) typed h = (
  subst (λ v. truth_of v ≡ true) (sym (same_value_of records sorts values new extends u _ typed.0.typed)) h.0,
  same_facts records sorts values new extends facts typed.1 h.1,
)

-- ---- what a state knows of the values of a leg

pub record Fits (records : Records) (variables : List ValueType) (s : LegValues) (state : State) (values : ℕ → Value) : Type 0 where
  pub symbols : FitNames records (slice_get state.sorts) values
  pub now_typed : (x : ℕ) (t : ValueType) → slice_get variables x ≡ Some t → HasType records (s.now (number_name x)) t
  pub old_typed : (x : ℕ) (t : ValueType) → slice_get variables x ≡ Some t → HasType records (s.old (number_name x)) t
  -- The term of the present version has the present value, and that of the version before it the old one.
  pub terms : (x k : ℕ) (u : Tree ℕ) → state.terms x k ≡ Some u → (t : ValueType) → slice_get variables x ≡ Some t
      → (k ≡ state.version x → value records values no_bounds u ≡ s.now (number_name x))
      × (k ≡ pred (state.version x) → value records values no_bounds u ≡ s.old (number_name x))
  pub later : (x k : ℕ) → state.version x < k → state.terms x k ≡ None
  pub unchanged : (x : ℕ) → state.version x ≡ 0 → s.old (number_name x) ≡ s.now (number_name x)
  pub facts : AllByRecursion (IsTrueUnder records values) state.facts

-- ---- a term for a version of a variable

chosen : (b : Bool) (P : Tree ℕ → Type 0) (term u : Tree ℕ) (old : Option (Tree ℕ)) → cond b (Some term) old ≡ Some u → (b ≡ true → P term)
    → (old ≡ Some u → P u) → P u
chosen true P term u old h here there = subst P (some_inj h) (here refl)
  where
    some_inj : {x y : Tree ℕ} → Some x ≡ Some y → x ≡ y
    some_inj e = cc
chosen false P term u old h here there = there h

pub of_versions : (x k : ℕ) (term : Tree ℕ) (state : State) (P : ℕ → ℕ → Tree ℕ → Type 0) → P x k term
    → ((y m : ℕ) (u : Tree ℕ) → state.terms y m ≡ Some u → P y m u)
    → (y m : ℕ) (u : Tree ℕ) → (with_term x k term state).terms y m ≡ Some u → P y m u
of_versions x k term state P here there y m u h =
    chosen (nat_eq y x && nat_eq m k) (P y m) term u (state.terms y m) h
    (λ e. let both = and_parts (nat_eq y x) (nat_eq m k) e in
    subst (λ z. P z m term) (sym ((Decides-eqb y x).0 both.0)) (subst (λ z. P x z term) (sym ((Decides-eqb m k).0 both.1)) here))
    (there y m u)

pub later_with : (x k : ℕ) (term : Tree ℕ) (state : State) → k ≤ state.version x → ((y m : ℕ) → state.version y < m → state.terms y m ≡ None)
    → (y m : ℕ) → state.version y < m → (with_term x k term state).terms y m ≡ None
later_with x k term state low later y m above = by (nat_eq y x && nat_eq m k) refl
  where
    by : (b : Bool) → nat_eq y x && nat_eq m k ≡ b → cond b (Some term) (state.terms y m) ≡ None
    by true e =
        let both = and_parts (nat_eq y x) (nat_eq m k) e in
        let same_x = (Decides-eqb y x).0 both.0 in
        let same_k = (Decides-eqb m k).0 both.1 in
        let l = subst (λ z. state.version z < m) same_x above in
        absurd (omega (arith, l, low, same_k))
    by false e = later y m above

-- ---- a new symbol

module _ (records : Records) (variables : List ValueType) (s : LegValues) where
  -- the value of a version of a variable, where it is the present one or the one before
  abbrev pub Matches : State → ℕ → ℕ → Value → Type 0
  Matches state x k v = (k ≡ state.version x → v ≡ s.now (number_name x)) × (k ≡ pred (state.version x) → v ≡ s.old (number_name x))

  pub symbol_fits : (lets : ℕ → Bool) (x k : ℕ) (t : ValueType) (v : Value) (state : State) (values : ℕ → Value) → IsGood records variables lets state
      → Fits records variables s state values → slice_get variables x ≡ Some t → HasType records v t → k ≤ state.version x → Matches state x k v
      → Fits records variables s (with_symbol (slice_index_or variables x unit_type) x k state) (with_value (length state.sorts) v values)
  symbol_fits lets x k t v state values good fits at has low match =
      let new = with_value (length state.sorts) v values in
      let extends = extends_with state.sorts v values in
      record {
        symbols = fits_with records state.sorts _ v values fits.symbols (subst (HasType records v) (sym (type_at variables x t at)) has);
        now_typed = fits.now_typed;
        old_typed = fits.old_typed;
        terms = of_versions x k (name (length state.sorts)) state
            (λ y m u. (r : ValueType) → slice_get variables y ≡ Some r
            → (m ≡ state.version y → value records new no_bounds u ≡ s.now (number_name y))
            × (m ≡ pred (state.version y) → value records new no_bounds u ≡ s.old (number_name y)))
            (λ r at_r. (λ e. at_length (length state.sorts) v values ∙ match.0 e, λ e. at_length (length state.sorts) v values ∙ match.1 e))
            (λ y m u is r at_r.
            let before = fits.terms y m u is r at_r in
            let same = same_value_of records state.sorts values new extends u r (good.typed y m u r is at_r) in
            (λ e. same ∙ before.0 e, λ e. same ∙ before.1 e));
        later = later_with x k (name (length state.sorts)) state low fits.later;
        unchanged = fits.unchanged;
        facts = same_facts records state.sorts values new extends state.facts good.facts fits.facts;
      }
