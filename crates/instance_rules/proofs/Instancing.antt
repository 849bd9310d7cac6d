-- Facts that are taken apart, and instances of quantified facts, follow from the facts.
use Rattle.std.proofs.Common.{◌≡◌, ℕ, suc, ℤ, ◌≤ℤ◌, ◌<ℤ◌, List, [], ◌∷◌, ◌++◌, map, length, Bool, true, false, not, ◌&&◌, ◌||◌, nat_lt, cond, int_le, int_lt, refl, ap, ◌∙◌, subst, arith}
use Rattle.std.specs.List.{AllByRecursion, flat_map, filter, list_all, list_any}
use Rattle.std.proofs.lemmas.Bool.{and_parts, ltb-true}
use Rattle.std.proofs.lemmas.Int.{ints}
use Rattle.std.proofs.lemmas.List.Elements.{recursion_from_All, All-from_recursion}
use Rattle.slang_values.specs.Value.{ValueType, number_type, truth_type, sequence_type, Records, fields, element_type, AreWellFormed, Value, unit, number, truth, sequence, record_value, number_of, truth_of, HasType}
use Rattle.slang_values.specs.Tree.{Tree, literal, truth_literal, name, bound, unary, binary, update, quantified, listed, Trees, no_trees, tree_then, sequence_of, record_of, inside, value}
use Rattle.slang_values.specs.Typing.{NameTypes, type_of, IsTyped, EachIsTyped, AreTyped, FitNames, IsClosed, AreClosed}
use Rattle.slang_values.specs.declared.operators.Unary.{Unary}
use Rattle.slang_values.specs.declared.operators.Binary.{Binary}
use Rattle.slang_values.specs.declared.operators.Quantifier.{Quantifier}
use Rattle.slang_values.specs.Measure.{node_count}
use Rattle.slang_values.proofs.Numbers.{all_of_range}
use Rattle.slang_values.proofs.Typed.{HasType-value}
use Rattle.validity.specs.Validity.{SequentTree, symbol_types, IsClaim, IsWellSorted, IsTrueUnder, no_bounds}
use Rattle.lk_terms.specs.Substitution.{substituted}
use Rattle.lk_terms.proofs.Substitutions.{IsTyped-substituted, IsClosed-substituted, IsInstance-closed}
use Rattle.instance_rules.specs.Instances.{conjuncts, with_conjuncts, opened, prepared, is_closed_within, are_closed_within, places_in, places_in_all, is_same, once, index_terms, instance, instances_of, lacking, new_facts, instance_limit, is_within_limits, too_many_instances, too_large_instance, instanced}
use Rattle.instance_rules.specs.Laws.{Proves, InstancesKeepValidity}
use Rattle.instance_rules.proofs.Opening.{Proves-Proves, opened_proves}

-- ---- lists

module _ {X : Type 0} (P : X → Type 0) where
  each_append : (xs ys : List X) → AllByRecursion P xs → AllByRecursion P ys → AllByRecursion P (xs ++ ys)
  each_append [] ys h k = k
  each_append (x ∷ xs) ys h k = (h.0, each_append xs ys h.1 k)

  each_filter : (test : X → Bool) (xs : List X) → AllByRecursion P xs → AllByRecursion P (filter test xs)
  each_filter test [] h = tt
  each_filter test (x ∷ xs) h = by_test (test x) (each_filter test xs h.1)
    where
      by_test : (b : Bool) → AllByRecursion P (filter test xs) → AllByRecursion P (cond b (x ∷ filter test xs) (filter test xs))
      by_test true k = (h.0, k)
      by_test false k = k

  -- what passes the test has the property, so all that is kept has it
  each_passes : (test : X → Bool) → ((x : X) → test x ≡ true → P x) → (xs : List X) → AllByRecursion P (filter test xs)
  each_passes test f [] = tt
  each_passes test f (x ∷ xs) = by_test (test x) refl (each_passes test f xs)
    where
      by_test : (b : Bool) → test x ≡ b → AllByRecursion P (filter test xs) → AllByRecursion P (cond b (x ∷ filter test xs) (filter test xs))
      by_test true e k = (f x e, k)
      by_test false e k = k

each_flat : {X Y : Type 0} (P : X → Type 0) (Q : Y → Type 0) (f : X → List Y) → ((x : X) → P x → AllByRecursion Q (f x)) → (xs : List X) → AllByRecursion P xs → AllByRecursion Q (flat_map f xs)
each_flat P Q f g [] h = tt
each_flat P Q f g (x ∷ xs) h = each_append Q (f x) (flat_map f xs) (g x h.0) (each_flat P Q f g xs h.1)

each_map : {X Y : Type 0} (P : X → Type 0) (Q : Y → Type 0) (f : X → Y) → ((x : X) → P x → Q (f x)) → (xs : List X) → AllByRecursion P xs → AllByRecursion Q (map f xs)
each_map P Q f g [] h = tt
each_map P Q f g (x ∷ xs) h = (g x h.0, each_map P Q f g xs h.1)

each_both : {X : Type 0} (P Q : X → Type 0) (xs : List X) → AllByRecursion P xs → AllByRecursion Q xs → AllByRecursion (λ x. P x × Q x) xs
each_both P Q [] h k = tt
each_both P Q (x ∷ xs) h k = ((h.0, k.0), each_both P Q xs h.1 k.1)

module _ (P : Tree ℕ → Type 0) where
  each_once : (ts : List (Tree ℕ)) → AllByRecursion P ts → AllByRecursion P (once ts)
  each_once [] h = tt
  each_once (t ∷ ts) h = (h.0, each_filter P (λ u. not (is_same t u)) (once ts) (each_once ts h.1))

  each_lacking : (facts ts : List (Tree ℕ)) → AllByRecursion P ts → AllByRecursion P (lacking facts ts)
  each_lacking facts [] h = tt
  each_lacking facts (t ∷ ts) h = by_test (list_any (is_same t) facts) (each_lacking facts ts h.1) (each_lacking (facts ++ t ∷ []) ts h.1)
    where
      by_test : (b : Bool) → AllByRecursion P (lacking facts ts) → AllByRecursion P (lacking (facts ++ t ∷ []) ts) → AllByRecursion P (cond b (lacking facts ts) (t ∷ lacking (facts ++ t ∷ []) ts))
      by_test true k l = k
      by_test false k l = (h.0, l)

-- ---- what is tested to be closed is closed

mutual
  closed_within : (n : ℕ) (t : Tree ℕ) → is_closed_within n t ≡ true → IsClosed n t
  closed_within n (literal z) h = tt
  closed_within n (truth_literal b) h = tt
  closed_within n (name a) h = tt
  closed_within n (bound m) h = ltb-true m n h
  closed_within n (unary op a) h = closed_within n a h
  closed_within n (binary op a b) h = let p = and_parts _ _ h in (closed_within n a p.0, closed_within n b p.1)
  closed_within n (update a i x) h =
      let p = and_parts _ _ h in let q = and_parts _ _ p.1 in (closed_within n a p.0, closed_within n i q.0, closed_within n x q.1)
  closed_within n (quantified q low high body) h =
      let p = and_parts _ _ h in let r = and_parts _ _ p.1 in (closed_within n low p.0, closed_within n high r.0, closed_within (suc n) body r.1)
  closed_within n (listed l ts) h = all_closed_within n ts h

  all_closed_within : (n : ℕ) (ts : Trees ℕ) → are_closed_within n ts ≡ true → AreClosed n ts
  all_closed_within n no_trees h = tt
  all_closed_within n (tree_then t ts) h = let p = and_parts _ _ h in (closed_within n t p.0, all_closed_within n ts p.1)

-- ---- places are numbers

module _ (records : Records) (types : NameTypes ℕ) where
  abbrev IsNumber : Tree ℕ → Type 0
  IsNumber t = IsTyped records types t number_type

  abbrev AreNumbers : List (Tree ℕ) → Type 0
  AreNumbers ts = AllByRecursion IsNumber ts

  two : (a b : List (Tree ℕ)) → AreNumbers a → AreNumbers b → AreNumbers (a ++ b)
  two a b h k = each_append IsNumber a b h k

  mutual
    places_typed : (t : Tree ℕ) (s : ValueType) → IsTyped records types t s → AreNumbers (places_in t)
    places_typed (literal z) s h = tt
    places_typed (truth_literal b) s h = tt
    places_typed (name n) s h = tt
    places_typed (bound n) s h = tt
    places_typed (unary Unary.Neg a) s h = places_typed a number_type h.1
    places_typed (unary Unary.Not a) s h = places_typed a truth_type h.1
    places_typed (unary Unary.Size a) s h = places_typed a (sequence_type (element_type (type_of records types a))) h.1
    places_typed (unary (Unary.Field k) a) s h = places_typed a (type_of records types a) h.1
    places_typed (binary Binary.Add a b) s h = two (places_in a) (places_in b) (places_typed a number_type h.1) (places_typed b number_type h.2)
    places_typed (binary Binary.Sub a b) s h = two (places_in a) (places_in b) (places_typed a number_type h.1) (places_typed b number_type h.2)
    places_typed (binary Binary.Mul a b) s h = two (places_in a) (places_in b) (places_typed a number_type h.1) (places_typed b number_type h.2)
    places_typed (binary Binary.Div a b) s h = two (places_in a) (places_in b) (places_typed a number_type h.1) (places_typed b number_type h.2)
    places_typed (binary Binary.Rem a b) s h = two (places_in a) (places_in b) (places_typed a number_type h.1) (places_typed b number_type h.2)
    places_typed (binary Binary.And a b) s h = two (places_in a) (places_in b) (places_typed a truth_type h.1) (places_typed b truth_type h.2)
    places_typed (binary Binary.Or a b) s h = two (places_in a) (places_in b) (places_typed a truth_type h.1) (places_typed b truth_type h.2)
    places_typed (binary Binary.Imply a b) s h = two (places_in a) (places_in b) (places_typed a truth_type h.1) (places_typed b truth_type h.2)
    places_typed (binary Binary.Eq a b) s h =
        two (places_in a) (places_in b) (places_typed a (type_of records types a) h.1) (places_typed b (type_of records types a) h.2)
    places_typed (binary Binary.Lt a b) s h = two (places_in a) (places_in b) (places_typed a number_type h.1) (places_typed b number_type h.2)
    places_typed (binary Binary.Le a b) s h = two (places_in a) (places_in b) (places_typed a number_type h.1) (places_typed b number_type h.2)
    places_typed (binary Binary.Read a i) s h = (h.1, two (places_in a) (places_in i) (places_typed a (sequence_type s) h.0) (places_typed i number_type h.1))
    places_typed (binary Binary.Append a x) s h = two (places_in a) (places_in x) (places_typed a s h.1) (places_typed x (type_of records types x) h.2)
    places_typed (update a i x) s h =
        (h.2, two (places_in a) (places_in i ++ places_in x) (places_typed a s h.1) (two (places_in i) (places_in x) (places_typed i number_type h.2) (places_typed x (type_of records types x) h.3)))
    places_typed (quantified q low high body) s h =
        two (places_in low) (places_in high ++ places_in body) (places_typed low number_type h.1) (two (places_in high) (places_in body) (places_typed high number_type h.2) (places_typed body truth_type h.3))
    places_typed (listed (sequence_of t) ts) s h = places_typed_each ts t h.2
    places_typed (listed (record_of n) ts) s h = places_typed_all ts (fields records n) h.2

    places_typed_each : (ts : Trees ℕ) (s : ValueType) → EachIsTyped records types ts s → AreNumbers (places_in_all ts)
    places_typed_each no_trees s h = tt
    places_typed_each (tree_then t ts) s h = two (places_in t) (places_in_all ts) (places_typed t s h.0) (places_typed_each ts s h.1)

    places_typed_all : (ts : Trees ℕ) (ss : List ValueType) → AreTyped records types ts ss → AreNumbers (places_in_all ts)
    places_typed_all no_trees ss h = tt
    places_typed_all (tree_then t ts) [] h = absurd h
    places_typed_all (tree_then t ts) (s ∷ ss) h = two (places_in t) (places_in_all ts) (places_typed t s h.0) (places_typed_all ts ss h.1)

-- ---- claims that follow from a fact

-- the tree is a claim, and true wherever the fact is
pub record Follows (records : Records) (types : NameTypes ℕ) (fact t : Tree ℕ) : Type 0 where
  pub claim : IsClaim records types t
  pub true_there : (names : ℕ → Value) → FitNames records types names → IsTrueUnder records names fact → IsTrueUnder records names t

module _ (records : Records) (fine : AreWellFormed records) (types : NameTypes ℕ) where
  -- parts of an And
  follow_parts : (fact a b : Tree ℕ) → Follows records types fact (binary Binary.And a b) → Follows records types fact a × Follows records types fact b
  follow_parts fact a b h = (
    record { claim = record { typed = h.claim.typed.1; closed = h.claim.closed.0 }; true_there = λ names fit e. (and_parts _ _ (h.true_there names fit e)).0 },
    record { claim = record { typed = h.claim.typed.2; closed = h.claim.closed.1 }; true_there = λ names fit e. (and_parts _ _ (h.true_there names fit e)).1 },
  )

  conjuncts_follow : (fact t : Tree ℕ) → Follows records types fact t → AllByRecursion (Follows records types fact) (conjuncts t)
  conjuncts_follow fact (binary Binary.And a b) h =
      let p = follow_parts fact a b h in each_append (Follows records types fact) (conjuncts a) (conjuncts b) (conjuncts_follow fact a p.0) (conjuncts_follow fact b p.1)
  conjuncts_follow fact (binary Binary.Add a b) h = (h, tt)
  conjuncts_follow fact (binary Binary.Sub a b) h = (h, tt)
  conjuncts_follow fact (binary Binary.Mul a b) h = (h, tt)
  conjuncts_follow fact (binary Binary.Div a b) h = (h, tt)
  conjuncts_follow fact (binary Binary.Rem a b) h = (h, tt)
  conjuncts_follow fact (binary Binary.Or a b) h = (h, tt)
  conjuncts_follow fact (binary Binary.Imply a b) h = (h, tt)
  conjuncts_follow fact (binary Binary.Eq a b) h = (h, tt)
  conjuncts_follow fact (binary Binary.Lt a b) h = (h, tt)
  conjuncts_follow fact (binary Binary.Le a b) h = (h, tt)
  conjuncts_follow fact (binary Binary.Read a b) h = (h, tt)
  conjuncts_follow fact (binary Binary.Append a b) h = (h, tt)
  conjuncts_follow fact (literal z) h = (h, tt)
  conjuncts_follow fact (truth_literal b) h = (h, tt)
  conjuncts_follow fact (name n) h = (h, tt)
  conjuncts_follow fact (bound n) h = (h, tt)
  conjuncts_follow fact (unary op a) h = (h, tt)
  conjuncts_follow fact (update a i x) h = (h, tt)
  conjuncts_follow fact (quantified q low high body) h = (h, tt)
  conjuncts_follow fact (listed l ts) h = (h, tt)

  -- a closed number
  abbrev IsIndex : Tree ℕ → Type 0
  IsIndex t = IsTyped records types t number_type × IsClosed 0 t

  number_is : (v : Value) → HasType records v number_type → v ≡ number (number_of v)
  number_is unit h = absurd (cc)
  number_is (number z) h = refl
  number_is (truth b) h = absurd (cc)
  number_is (sequence t vs) h = absurd (let k = h.0 in cc)
  number_is (record_value n vs) h = absurd (let k = h.0 in cc)

  implied : (a b c : Bool) → ((a && b) ≡ true → c ≡ true) → (not (a && b) || c) ≡ true
  implied true true c h = h refl
  implied true false c h = refl
  implied false b c h = refl

  instance_follows : (low high body t : Tree ℕ) → IsClaim records types (quantified Quantifier.All low high body) → IsIndex t → Follows records types (quantified Quantifier.All low high body) (instance low high body t)
  instance_follows low high body t h i = record {
    claim = record {
      typed = (refl, (refl, (refl, h.typed.1, i.0), (refl, i.0, h.typed.2)), IsTyped-substituted records types t i.0 body 0 truth_type h.typed.3);
      closed = (((h.closed.0, i.1), (i.1, h.closed.1)), IsClosed-substituted t body 0 i.1 h.closed.2);
    };
    true_there = λ names fit fact. (
        let at = value records names no_bounds in
        let k = number_of (at t) in
        let is : at t ≡ number k = number_is (at t) (HasType-value records fine types names fit t number_type no_bounds i.0) in
        let body_is = IsInstance-closed t body i.1 records names no_bounds k h.closed.2 is in
        implied (int_le (number_of (at low)) k) (int_lt k (number_of (at high))) (truth_of (at (substituted 0 t body)))
        (λ r. (let p = and_parts _ _ r in
        ap truth_of body_is ∙ (all_of_range (λ z. truth_of (value records names (inside z no_bounds) body)) (number_of (at low)) (number_of (at high))).0 fact k (at_least (number_of (at low)) k p.0) (below k (number_of (at high)) p.1))));
  }
    where
      at_least : (m n : ℤ) → int_le m n ≡ true → m ≤ℤ n
      at_least m n e = omega (arith, ints, e)

      below : (m n : ℤ) → int_lt m n ≡ true → m <ℤ n
      below m n e = omega (arith, ints, e)

  instances_follow : (ts : List (Tree ℕ)) → AllByRecursion IsIndex ts → (fact : Tree ℕ) → IsClaim records types fact → AllByRecursion (Follows records types fact) (instances_of ts fact)
  instances_follow ts i (quantified Quantifier.All low high body) h =
      each_map IsIndex (Follows records types (quantified Quantifier.All low high body)) (instance low high body) (λ t k. instance_follows low high body t h k) ts i
  instances_follow ts i (quantified Quantifier.Exists low high body) h = tt
  instances_follow ts i (literal z) h = tt
  instances_follow ts i (truth_literal b) h = tt
  instances_follow ts i (name n) h = tt
  instances_follow ts i (bound n) h = tt
  instances_follow ts i (unary op a) h = tt
  instances_follow ts i (binary op a b) h = tt
  instances_follow ts i (update a j x) h = tt
  instances_follow ts i (listed l us) h = tt

  -- ---- facts that follow from facts

  -- a claim that is true wherever all the facts are
  record FollowsAll (facts : List (Tree ℕ)) (t : Tree ℕ) : Type 0 where
    claim : IsClaim records types t
    true_there : (names : ℕ → Value) → FitNames records types names → AllByRecursion (IsTrueUnder records names) facts → IsTrueUnder records names t

  from_one : (facts : List (Tree ℕ)) (fact : Tree ℕ) → ((names : ℕ → Value) → AllByRecursion (IsTrueUnder records names) facts → IsTrueUnder records names fact) → (ts : List (Tree ℕ)) → AllByRecursion (Follows records types fact) ts → AllByRecursion (FollowsAll facts) ts
  from_one facts fact at [] h = tt
  from_one facts fact at (t ∷ ts) h = (record { claim = h.0.claim; true_there = λ names fit k. h.0.true_there names fit (at names k) }, from_one facts fact at ts h.1)

  -- what each fact gives follows from all
  from_each : (facts : List (Tree ℕ)) (f : Tree ℕ → List (Tree ℕ)) → ((t : Tree ℕ) → IsClaim records types t → AllByRecursion (Follows records types t) (f t)) → (ts : List (Tree ℕ)) → AllByRecursion (IsClaim records types) ts →
      ((names : ℕ → Value) → AllByRecursion (IsTrueUnder records names) facts → AllByRecursion (IsTrueUnder records names) ts) → AllByRecursion (FollowsAll facts) (flat_map f ts)
  from_each facts f g [] h at = tt
  from_each facts f g (t ∷ ts) h at =
      each_append (FollowsAll facts) (f t) (flat_map f ts) (from_one facts t (λ names k. (at names k).0) (f t) (g t h.0)) (from_each facts f g ts h.1 (λ names k. (at names k).1))

  claims_of : (facts ts : List (Tree ℕ)) → AllByRecursion (FollowsAll facts) ts → AllByRecursion (IsClaim records types) ts
  claims_of facts [] h = tt
  claims_of facts (t ∷ ts) h = (h.0.claim, claims_of facts ts h.1)

  truths_of : (facts ts : List (Tree ℕ)) → AllByRecursion (FollowsAll facts) ts → (names : ℕ → Value) → FitNames records types names → AllByRecursion (IsTrueUnder records names) facts → AllByRecursion (IsTrueUnder records names) ts
  truths_of facts [] h names fit k = tt
  truths_of facts (t ∷ ts) h names fit k = (h.0.true_there names fit k, truths_of facts ts h.1 names fit k)

-- ---- sequents

-- a sequent with other facts, which follow from its own
others_prove : (s : SequentTree) (sorted : IsWellSorted s) (ts : List (Tree ℕ)) → AllByRecursion (FollowsAll s.records sorted.records (symbol_types s) s.facts) ts → Proves (record s { facts = ts }) s
others_prove s sorted ts h = record {
  sorted = record {
    records = sorted.records;
    symbols = sorted.symbols;
    facts = All-from_recursion (IsClaim s.records (symbol_types s)) ts (claims_of s.records sorted.records (symbol_types s) s.facts ts h);
    goal = sorted.goal;
  };
  valid = λ valid names fit facts. valid names fit (All-from_recursion (IsTrueUnder s.records names) ts (truths_of s.records sorted.records (symbol_types s) s.facts ts h names fit (recursion_from_All (IsTrueUnder s.records names) s.facts facts)));
}

conjuncts_prove : (s : SequentTree) → IsWellSorted s → Proves (with_conjuncts s) s
conjuncts_prove s sorted =
    let types = symbol_types s in
    let claims = recursion_from_All (IsClaim s.records types) s.facts sorted.facts in
    others_prove s sorted (flat_map conjuncts s.facts)
    (from_each s.records sorted.records types s.facts conjuncts (λ t h. conjuncts_follow s.records sorted.records types t t (record { claim = h; true_there = λ names fit e. e })) s.facts claims (λ names k. k))

pub prepared_proves : (s : SequentTree) → IsWellSorted s → Proves (prepared s) s
prepared_proves s sorted =
    let first = opened_proves (node_count s.goal) s sorted in Proves-Proves (prepared s) (opened s) s (conjuncts_prove (opened s) first.sorted) first

index_terms_are : (s : SequentTree) (sorted : IsWellSorted s) → AllByRecursion (IsIndex s.records sorted.records (symbol_types s)) (index_terms s)
index_terms_are s sorted =
    let types = symbol_types s in
    let claims = recursion_from_All (IsClaim s.records types) s.facts sorted.facts in
    let all = each_append (IsClaim s.records types) s.facts (s.goal ∷ []) claims (sorted.goal, tt) in
    let places = flat_map places_in (s.facts ++ s.goal ∷ []) in
    let numbers = each_flat (IsClaim s.records types) (IsNumber s.records types) places_in (λ t h. places_typed s.records types t truth_type h.typed) (s.facts ++ s.goal ∷ []) all in
    each_once (IsIndex s.records sorted.records types) (filter (is_closed_within 0) places)
    (each_both (IsNumber s.records types) (λ t. IsClosed 0 t) (filter (is_closed_within 0) places) (each_filter (IsNumber s.records types) (is_closed_within 0) places numbers) (each_passes (λ t. IsClosed 0 t) (is_closed_within 0) (closed_within 0) places))

-- the facts themselves follow
facts_follow : (records : Records) (fine : AreWellFormed records) (types : NameTypes ℕ) (facts ts : List (Tree ℕ)) → AllByRecursion (IsClaim records types) ts → ((names : ℕ → Value) → AllByRecursion (IsTrueUnder records names) facts → AllByRecursion (IsTrueUnder records names) ts) →
    AllByRecursion (FollowsAll records fine types facts) ts
facts_follow records fine types facts [] h at = tt
facts_follow records fine types facts (t ∷ ts) h at = (record { claim = h.0; true_there = λ names fit k. (at names k).0 }, facts_follow records fine types facts ts h.1 (λ names k. (at names k).1))

pub new_facts_prove : (s : SequentTree) → IsWellSorted s → Proves (record s { facts = s.facts ++ new_facts s }) s
new_facts_prove s sorted =
    let types = symbol_types s in
    let claims = recursion_from_All (IsClaim s.records types) s.facts sorted.facts in
    let P = FollowsAll s.records sorted.records types s.facts in
    let instances = from_each s.records sorted.records types s.facts (instances_of (index_terms s)) (λ t h. instances_follow s.records sorted.records types (index_terms s) (index_terms_are s sorted) t h) s.facts claims (λ names k. k) in
    others_prove s sorted (s.facts ++ new_facts s)
    (each_append P s.facts (new_facts s) (facts_follow s.records sorted.records types s.facts s.facts claims (λ names k. k)) (each_lacking P s.facts (flat_map (instances_of (index_terms s)) s.facts) instances))

instanced_inj : (r s : SequentTree) → instanced r ≡ instanced s → r ≡ s
instanced_inj r s e = cc

with_new_at : (s r : SequentTree) (new : List (Tree ℕ)) (b c : Bool) → cond b too_many_instances (cond c (instanced (record s { facts = s.facts ++ new })) too_large_instance) ≡ instanced r → record s { facts = s.facts ++ new } ≡ r
with_new_at s r new true c e = absurd (cc)
with_new_at s r new false true e = instanced_inj _ r e
with_new_at s r new false false e = absurd (cc)

pub instances_keep_validity : InstancesKeepValidity
instances_keep_validity s r sorted e =
    let first = prepared_proves s sorted in
    let p = prepared s in
    let is = with_new_at p r (new_facts p) (nat_lt instance_limit (length (new_facts p))) (list_all is_within_limits (new_facts p)) e in
    subst (λ x. Proves x s) is (Proves-Proves _ p s (new_facts_prove p first.sorted) first)
