-- A sequent whose goal is opened proves the one with the All.
use Rattle.std.proofs.Common.{◌≡◌, ◌⊎◌, inl, inr, ℕ, zero, suc, ◌<◌, ◌≤◌, ◌==◌, ℤ, ◌≤ℤ◌, ◌<ℤ◌, List, [], ◌∷◌, ◌++◌, length, slice_get, Bool, true, false, cond, Some, int_le, int_lt, refl, sym, ap, ap₂, ◌∙◌, subst, arith, eq-eqb, ne_eqb}
use Rattle.std.specs.List.{All, AllByRecursion}
use Rattle.std.proofs.lemmas.Bool.{cases_lt}
use Rattle.std.proofs.lemmas.Int.{ints}
use Rattle.std.proofs.lemmas.List.{length_push}
use Rattle.std.proofs.lemmas.List.Elements.{All-append, All-cons, All-nil, recursion_from_All, All-from_recursion}
use Rattle.std.proofs.lemmas.Option.{slice_get_within}
use Rattle.slang_values.specs.Value.{ValueType, number_type, truth_type, is_known, Value, number, number_of, truth_of, HasType}
use Rattle.slang_values.specs.Tree.{Tree, literal, truth_literal, name, bound, unary, binary, update, quantified, listed, inside, value}
use Rattle.slang_values.specs.Typing.{IsTyped, FitNames}
use Rattle.slang_values.specs.declared.operators.Binary.{Binary}
use Rattle.slang_values.specs.declared.operators.Quantifier.{Quantifier}
use Rattle.slang_values.proofs.Numbers.{all_of_range}
use Rattle.validity.specs.Validity.{SequentTree, symbol_types, IsClaim, IsWellSorted, IsTrueUnder, IsValid, no_bounds}
use Rattle.validity.proofs.Binds.{value-same_names, IsTyped-bind, bind-name, EachName-typed}
use Rattle.lk_terms.proofs.Substitutions.{IsTyped-substituted, IsClosed-substituted, IsInstance-closed}
use Rattle.instance_rules.specs.Instances.{open_quantified, open_once, opened_within}
use Rattle.instance_rules.specs.Laws.{Proves}

-- ---- tests of numbers

pub le_true : (m n : ℤ) → m ≤ℤ n → int_le m n ≡ true
le_true m n h = by_test (int_le m n) refl
  where
    by_test : (b : Bool) → int_le m n ≡ b → int_le m n ≡ true
    by_test true e = e
    by_test false e = absurd (omega (arith, ints, e, h))

pub lt_true : (m n : ℤ) → m <ℤ n → int_lt m n ≡ true
lt_true m n h = by_test (int_lt m n) refl
  where
    by_test : (b : Bool) → int_lt m n ≡ b → int_lt m n ≡ true
    by_test true e = e
    by_test false e = absurd (omega (arith, ints, e, h))

-- ---- one symbol more

slice_get-left : {X : Type 0} (xs ys : List X) (k : ℕ) (x : X) → slice_get xs k ≡ Some x → slice_get (xs ++ ys) k ≡ Some x
slice_get-left [] ys k x e = absurd (cc)
slice_get-left (y ∷ xs) ys zero x e = e
slice_get-left (y ∷ xs) ys (suc k) x e = slice_get-left xs ys k x e

slice_get-last : {X : Type 0} (xs : List X) (x : X) → slice_get (xs ++ x ∷ []) (length xs) ≡ Some x
slice_get-last [] x = refl
slice_get-last (y ∷ xs) x = slice_get-last xs x

slice_get-push : {X : Type 0} (xs : List X) (y x : X) (k : ℕ) → slice_get (xs ++ y ∷ []) k ≡ Some x → (k ≡ length xs → ⊥) → slice_get xs k ≡ Some x
slice_get-push [] y x zero e h = absurd (h refl)
slice_get-push [] y x (suc k) e h = e
slice_get-push (z ∷ xs) y x zero e h = e
slice_get-push (z ∷ xs) y x (suc k) e h = slice_get-push xs y x k e (λ f. h (ap suc f))

some_inj : {X : Type 0} (x y : X) → Some x ≡ Some y → x ≡ y
some_inj x y e = cc

module _ (s : SequentTree) (low high body : Tree ℕ) where
  abbrev n : ℕ
  n = length s.types

  abbrev new : SequentTree
  new = open_quantified Quantifier.All low high body s

  -- what was typed still is
  typed_still : (t : Tree ℕ) (u : ValueType) → IsTyped s.records (symbol_types s) t u → IsTyped s.records (symbol_types new) t u
  typed_still t u h =
      subst (λ x. IsTyped s.records (symbol_types new) x u) (bind-name t)
      (IsTyped-bind s.records (symbol_types s) (symbol_types new) name (λ a v e. slice_get-left s.types (number_type ∷ []) a v e) t u h)

  claim_still : (t : Tree ℕ) → IsClaim s.records (symbol_types s) t → IsClaim s.records (symbol_types new) t
  claim_still t h = record { typed = typed_still t truth_type h.typed; closed = h.closed }

  claims_still : (ts : List (Tree ℕ)) → AllByRecursion (IsClaim s.records (symbol_types s)) ts → AllByRecursion (IsClaim s.records (symbol_types new)) ts
  claims_still [] h = tt
  claims_still (t ∷ ts) h = (claim_still t h.0, claims_still ts h.1)

  symbol_typed : IsTyped s.records (symbol_types new) (name n) number_type
  symbol_typed = slice_get-last s.types number_type

  new_sorted : IsWellSorted s → s.goal ≡ quantified Quantifier.All low high body → IsWellSorted new
  new_sorted h e =
      let goal : IsClaim s.records (symbol_types s) (quantified Quantifier.All low high body) = subst (IsClaim s.records (symbol_types s)) e h.goal in
      let P = IsClaim s.records (symbol_types new) in
      let facts = All-from_recursion P s.facts (claims_still s.facts (recursion_from_All (IsClaim s.records (symbol_types s)) s.facts h.facts)) in
      record {
        records = h.records;
        symbols = All-append (λ t. is_known s.records t ≡ true) s.types (number_type ∷ []) h.symbols (All-cons (λ t. is_known s.records t ≡ true) number_type [] refl (All-nil (λ t. is_known s.records t ≡ true)));
        facts = All-append P s.facts (binary Binary.Le low (name n) ∷ binary Binary.Lt (name n) high ∷ []) facts
            (All-cons P (binary Binary.Le low (name n)) (binary Binary.Lt (name n) high ∷ []) (record { typed = (refl, typed_still low number_type goal.typed.1, symbol_typed); closed = (goal.closed.0, tt) })
            (All-cons P (binary Binary.Lt (name n) high) [] (record { typed = (refl, symbol_typed, typed_still high number_type goal.typed.2); closed = (tt, goal.closed.1) }) (All-nil P)));
        goal = record {
          typed = IsTyped-substituted s.records (symbol_types new) (name n) symbol_typed body 0 truth_type (typed_still body truth_type goal.typed.3);
          closed = IsClosed-substituted (name n) body 0 tt goal.closed.2;
        };
      }

  module _ (sorted : IsWellSorted s) (is : s.goal ≡ quantified Quantifier.All low high body) (names : ℕ → Value) (fit : FitNames s.records (symbol_types s) names) where
    goal_claim : IsClaim s.records (symbol_types s) (quantified Quantifier.All low high body)
    goal_claim = subst (IsClaim s.records (symbol_types s)) is sorted.goal

    -- the symbols' values, with k for the new one
    abbrev with_new : ℤ → ℕ → Value
    with_new k a = cond (a == n) (number k) (names a)

    new_value : (k : ℤ) → with_new k n ≡ number k
    new_value k = ap (λ b. cond b (number k) (names n)) (eq-eqb n n refl)

    old_value : (k : ℤ) (a : ℕ) → (a ≡ n → ⊥) → with_new k a ≡ names a
    old_value k a h = ap (λ b. cond b (number k) (names a)) (ne_eqb a n h)

    fits : (k : ℤ) → FitNames s.records (symbol_types new) (with_new k)
    fits k a t e = by_place (cases_lt a n)
      where
        by_place : (a < n) ⊎ (n ≤ a) → HasType s.records (with_new k a) t
        by_place (inl l) = subst (λ v. HasType s.records v t) (sym (old_value k a (λ f. omega arith))) (fit a t (slice_get-push s.types number_type t a e (λ f. omega arith)))
        by_place (inr g) =
            let within : a < length (s.types ++ number_type ∷ []) = slice_get_within (s.types ++ number_type ∷ []) a t e in
            let last : a ≡ n = omega (arith, length_push s.types number_type) in
            let type : number_type ≡ t = some_inj number_type t (sym (slice_get-last s.types number_type) ∙ ap (slice_get (s.types ++ number_type ∷ [])) (sym last) ∙ e) in
            subst (λ u. HasType s.records (with_new k a) u) type (subst (λ v. HasType s.records v number_type) (sym (ap (with_new k) last ∙ new_value k)) refl)

    -- a tree over the old symbols has its value
    same_value_of : (k : ℤ) (t : Tree ℕ) (u : ValueType) (e : _) → IsTyped s.records (symbol_types s) t u → value s.records (with_new k) e t ≡ value s.records names e t
    same_value_of k t u e h =
        value-same_names s.records (with_new k) names t e
        (EachName-typed s.records (symbol_types s) (λ a. with_new k a ≡ names a) (λ a v f. old_value k a (λ g. omega (arith, slice_get_within s.types a v f, g))) t u h)

    facts_still : (k : ℤ) (ts : List (Tree ℕ)) → AllByRecursion (IsClaim s.records (symbol_types s)) ts → AllByRecursion (IsTrueUnder s.records names) ts → AllByRecursion (IsTrueUnder s.records (with_new k)) ts
    facts_still k [] h g = tt
    facts_still k (t ∷ ts) h g = (ap truth_of (same_value_of k t truth_type no_bounds h.0.typed) ∙ g.0, facts_still k ts h.1 g.1)

    abbrev test : ℤ → Bool
    test k = truth_of (value s.records names (inside k no_bounds) body)

    opened_at : IsValid new → All (IsTrueUnder s.records names) s.facts → (k : ℤ) → number_of (value s.records names no_bounds low) ≤ℤ k → k <ℤ number_of (value s.records names no_bounds high) → test k ≡ true
    opened_at valid facts k above below =
        let P = IsTrueUnder s.records (with_new k) in
        let lows = same_value_of k low number_type no_bounds goal_claim.typed.1 in
        let highs = same_value_of k high number_type no_bounds goal_claim.typed.2 in
        let first : P (binary Binary.Le low (name n)) = ap₂ (λ v w. int_le (number_of v) (number_of w)) lows (new_value k) ∙ le_true _ k above in
        let second : P (binary Binary.Lt (name n) high) = ap₂ (λ v w. int_lt (number_of v) (number_of w)) (new_value k) highs ∙ lt_true k _ below in
        let old = All-from_recursion P s.facts (facts_still k s.facts (recursion_from_All (IsClaim s.records (symbol_types s)) s.facts sorted.facts) (recursion_from_All (IsTrueUnder s.records names) s.facts facts)) in
        let goal = valid (with_new k) (fits k) (All-append P s.facts (binary Binary.Le low (name n) ∷ binary Binary.Lt (name n) high ∷ []) old (All-cons P (binary Binary.Le low (name n)) (binary Binary.Lt (name n) high ∷ []) first (All-cons P (binary Binary.Lt (name n) high) [] second (All-nil P)))) in
        ap truth_of (sym (IsInstance-closed (name n) body tt s.records (with_new k) no_bounds k goal_claim.closed.2 (new_value k) ∙ same_value_of k body truth_type (inside k no_bounds) goal_claim.typed.3)) ∙ goal

  new_proves : IsWellSorted s → s.goal ≡ quantified Quantifier.All low high body → Proves new s
  new_proves sorted is = record {
    sorted = new_sorted sorted is;
    valid = λ valid names fit facts.
        subst (IsTrueUnder s.records names) (sym is)
        ((all_of_range (test sorted is names fit) (number_of (value s.records names no_bounds low)) (number_of (value s.records names no_bounds high))).1 (opened_at sorted is names fit valid facts));
  }

-- ---- all

pub itself_proves : (s : SequentTree) → IsWellSorted s → Proves s s
itself_proves s h = record { sorted = h; valid = λ v. v }

pub Proves-Proves : (r s t : SequentTree) → Proves r s → Proves s t → Proves r t
Proves-Proves r s t p q = record { sorted = p.sorted; valid = λ v. q.valid (p.valid v) }

once_proves : (s : SequentTree) (goal : Tree ℕ) → s.goal ≡ goal → IsWellSorted s → Proves (open_once goal s) s
once_proves s (quantified Quantifier.All low high body) e h = new_proves s low high body h e
once_proves s (quantified Quantifier.Exists low high body) e h = itself_proves s h
once_proves s (literal z) e h = itself_proves s h
once_proves s (truth_literal b) e h = itself_proves s h
once_proves s (name a) e h = itself_proves s h
once_proves s (bound m) e h = itself_proves s h
once_proves s (unary op a) e h = itself_proves s h
once_proves s (binary op a b) e h = itself_proves s h
once_proves s (update a i x) e h = itself_proves s h
once_proves s (listed l ts) e h = itself_proves s h

pub opened_proves : (k : ℕ) (s : SequentTree) → IsWellSorted s → Proves (opened_within k s) s
opened_proves zero s h = itself_proves s h
opened_proves (suc k) s h =
    let first = once_proves s s.goal refl h in
    Proves-Proves (opened_within k (open_once s.goal s)) (open_once s.goal s) s (opened_proves k (open_once s.goal s) first.sorted) first
