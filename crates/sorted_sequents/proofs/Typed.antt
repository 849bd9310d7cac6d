-- A tree fits exactly where it is well typed, of the type that is read off it.
use Rattle.std.proofs.Common.{◌≡◌, ℕ, suc, ◌<◌, ◌≤◌, max, Bool, true, false, ◌&&◌, true≢false, List, [], ◌∷◌, length, get_or, Option, Some, None, refl, sym}
use Rattle.std.proofs.Common.{ap, ◌∙◌, subst, arith}
use Rattle.std.specs.Prelude.{nat_lt, is_some, pred}
use Rattle.std.specs.Option.{unwrap_or}
use Rattle.std.proofs.lemmas.Bool.{ltb-true, lt-ltb}
use Rattle.slang_values.specs.Value.{ValueType, unit_type, number_type, truth_type, sequence_type, record_type, Records, fields, is_known, same_type}
use Rattle.slang_values.specs.Value.{element_type, field_type}
use Rattle.slang_values.specs.Tree.{Tree, literal, truth_literal, name, bound, unary, binary, update, quantified, listed, Trees, no_trees, tree_then}
use Rattle.slang_values.specs.Tree.{sequence_of, record_of}
use Rattle.slang_values.specs.Typing.{NameTypes, type_of, IsFieldType, IsTyped, EachIsTyped, AreTyped, IsClosed, AreClosed}
use Rattle.slang_values.specs.declared.operators.Unary.{Unary}
use Rattle.slang_values.specs.declared.operators.Binary.{Binary}
use Rattle.slang_values.proofs.Equality.{same_type-true, same_type_refl}
use Rattle.validity.proofs.TypeOf.{type_of_typed}
use Rattle.store_substitution.specs.Loose.{depth_needed, depth_needed_by_all}
use Rattle.sorted_sequents.specs.Fitting.{is_sequence, has_field, fits_one, fits_two, fits_update, fits_range, has_type, each_has, have, fits, is_fit, are_fit}

-- ---- truth values

pub both_true : (a b : Bool) → (a && b) ≡ true → (a ≡ true) × (b ≡ true)
both_true true b h = (refl, h)
both_true false b h = absurd (true≢false (sym h))

pub true_both : (a b : Bool) → a ≡ true → b ≡ true → (a && b) ≡ true
true_both a b h k = ap (λ x. x && b) h ∙ k

-- ---- types

sequence_is : (t : ValueType) → is_sequence t ≡ true → t ≡ sequence_type (element_type t)
sequence_is unit_type h = absurd (true≢false (sym h))
sequence_is number_type h = absurd (true≢false (sym h))
sequence_is truth_type h = absurd (true≢false (sym h))
sequence_is (sequence_type t) h = refl
sequence_is (record_type n) h = absurd (true≢false (sym h))

field_there : (records : Records) (k : ℕ) (t : ValueType) → has_field records k t ≡ true → IsFieldType records k t (field_type records k t)
field_there records k unit_type h = absurd (true≢false (sym h))
field_there records k number_type h = absurd (true≢false (sym h))
field_there records k truth_type h = absurd (true≢false (sym h))
field_there records k (sequence_type t) h = absurd (true≢false (sym h))
field_there records k (record_type n) h = (ltb-true k (length (fields records n)) h, refl)

there_field : (records : Records) (k : ℕ) (t s : ValueType) → IsFieldType records k t s → has_field records k t ≡ true
there_field records k unit_type s h = absurd h
there_field records k number_type s h = absurd h
there_field records k truth_type s h = absurd h
there_field records k (sequence_type t) s h = absurd h
there_field records k (record_type n) s h = lt-ltb k (length (fields records n)) h.0

known_name : (o : Option ValueType) → is_some o ≡ true → o ≡ Some (unwrap_or o unit_type)
known_name None h = absurd (true≢false (sym h))
known_name (Some t) h = refl

is_same : (t s : ValueType) → t ≡ s → same_type t s ≡ true
is_same t s h = ap (λ u. same_type u s) h ∙ same_type_refl s

module _ (records : Records) (types : NameTypes ℕ) where
  abbrev own : Tree ℕ → ValueType
  own t = type_of records types t

  abbrev Typed : Tree ℕ → Type 0
  Typed t = IsTyped records types t (type_of records types t)

  of_type : (t : Tree ℕ) (s : ValueType) → type_of records types t ≡ s → Typed t → IsTyped records types t s
  of_type t s e h = subst (IsTyped records types t) e h

  -- two parts of one type
  two : (s : ValueType) (a b : Tree ℕ) →
      ((same_type (type_of records types a) s && same_type (type_of records types b) s) && (is_fit records types a && is_fit records types b)) ≡ true →
      (is_fit records types a ≡ true → Typed a) → (is_fit records types b ≡ true → Typed b) → IsTyped records types a s × IsTyped records types b s
  two s a b h f g =
      let p = both_true (same_type (own a) s && same_type (own b) s) (is_fit records types a && is_fit records types b) h in
      let k = both_true (same_type (own a) s) (same_type (own b) s) p.0 in
      let q = both_true (is_fit records types a) (is_fit records types b) p.1 in
      (of_type a s (same_type-true (own a) s k.0) (f q.0), of_type b s (same_type-true (own b) s k.1) (g q.1))

  mutual
    pub typed : (t : Tree ℕ) → is_fit records types t ≡ true → IsTyped records types t (type_of records types t)
    typed (literal z) h = refl
    typed (truth_literal b) h = refl
    typed (name n) h = known_name (types n) h
    typed (bound n) h = refl
    typed (unary Unary.Neg a) h =
        let p = both_true (same_type (own a) number_type) (is_fit records types a) h in
        (refl, of_type a number_type (same_type-true (own a) number_type p.0) (typed a p.1))
    typed (unary Unary.Not a) h =
        let p = both_true (same_type (own a) truth_type) (is_fit records types a) h in
        (refl, of_type a truth_type (same_type-true (own a) truth_type p.0) (typed a p.1))
    typed (unary Unary.Size a) h =
        let p = both_true (is_sequence (own a)) (is_fit records types a) h in
        (refl, of_type a (sequence_type (element_type (own a))) (sequence_is (own a) p.0) (typed a p.1))
    typed (unary (Unary.Field k) a) h =
        let p = both_true (has_field records k (own a)) (is_fit records types a) h in
        (field_there records k (own a) p.0, typed a p.1)
    typed (binary Binary.Add a b) h = let q = two number_type a b h (typed a) (typed b) in (refl, q.0, q.1)
    typed (binary Binary.Sub a b) h = let q = two number_type a b h (typed a) (typed b) in (refl, q.0, q.1)
    typed (binary Binary.Mul a b) h = let q = two number_type a b h (typed a) (typed b) in (refl, q.0, q.1)
    typed (binary Binary.Div a b) h = let q = two number_type a b h (typed a) (typed b) in (refl, q.0, q.1)
    typed (binary Binary.Rem a b) h = let q = two number_type a b h (typed a) (typed b) in (refl, q.0, q.1)
    typed (binary Binary.And a b) h = let q = two truth_type a b h (typed a) (typed b) in (refl, q.0, q.1)
    typed (binary Binary.Or a b) h = let q = two truth_type a b h (typed a) (typed b) in (refl, q.0, q.1)
    typed (binary Binary.Imply a b) h = let q = two truth_type a b h (typed a) (typed b) in (refl, q.0, q.1)
    typed (binary Binary.Eq a b) h =
        let p = both_true (same_type (own a) (own b)) (is_fit records types a && is_fit records types b) h in
        let q = both_true (is_fit records types a) (is_fit records types b) p.1 in
        (refl, typed a q.0, of_type b (own a) (sym (same_type-true (own a) (own b) p.0)) (typed b q.1))
    typed (binary Binary.Lt a b) h = let q = two number_type a b h (typed a) (typed b) in (refl, q.0, q.1)
    typed (binary Binary.Le a b) h = let q = two number_type a b h (typed a) (typed b) in (refl, q.0, q.1)
    typed (binary Binary.Read a i) h =
        let p = both_true (is_sequence (own a) && same_type (own i) number_type) (is_fit records types a && is_fit records types i) h in
        let f = both_true (is_sequence (own a)) (same_type (own i) number_type) p.0 in
        let q = both_true (is_fit records types a) (is_fit records types i) p.1 in (
          of_type a (sequence_type (element_type (own a))) (sequence_is (own a) f.0) (typed a q.0),
          of_type i number_type (same_type-true
              (own i) number_type f.1) (typed i q.1),
        )
    typed (binary Binary.Append a x) h =
        let p = both_true (same_type (own a) (sequence_type (own x))) (is_fit records types a && is_fit records types x) h in
        let q = both_true (is_fit records types a) (is_fit records types x) p.1 in
        (same_type-true (own a) (sequence_type (own x)) p.0, typed a q.0, typed x q.1)
    typed (update a i x) h =
        let p = both_true (fits records types (update a i x)) (is_fit records types a && (is_fit records types i && is_fit records types x)) h in
        let f = both_true (same_type (own a) (sequence_type (own x))) (same_type (own i) number_type) p.0 in
        let q = both_true (is_fit records types a) (is_fit records types i && is_fit records types x) p.1 in
        let r = both_true (is_fit records types i) (is_fit records types x) q.1 in (
          same_type-true (own a) (sequence_type (own x)) f.0,
          typed a q.0,
          of_type i number_type (same_type-true (own i) number_type f.1) (typed i r.0),
          typed x r.1,
        )
    typed (quantified q low high body) h =
        let p = both_true (fits records types (quantified q low high body)) (is_fit records types low &&
        (is_fit records types high && is_fit records types body)) h in
        let f = both_true (same_type (own low) number_type) (same_type (own high) number_type && same_type (own body) truth_type) p.0 in
        let g = both_true (same_type (own high) number_type) (same_type (own body) truth_type) f.1 in
        let q = both_true (is_fit records types low) (is_fit records types high && is_fit records types body) p.1 in
        let r = both_true (is_fit records types high) (is_fit records types body) q.1 in (
          refl,
          of_type low number_type (same_type-true (own low) number_type f.0) (typed low q.0),
          of_type high number_type (same_type-true (own high) number_type g.0) (typed high r.0),
          of_type body truth_type (same_type-true (own body) truth_type g.1) (typed body r.1),
        )
    typed (listed (sequence_of s) ts) h =
        let p = both_true (is_known records s && each_has records types s ts) (are_fit records types ts) h in
        let q = both_true (is_known records s) (each_has records types s ts) p.0 in
        (refl, q.0, each_typed ts s q.1 p.1)
    typed (listed (record_of n) ts) h =
        let p = both_true (nat_lt n (length records) && have records types (fields records n) ts) (are_fit records types ts) h in
        let q = both_true (nat_lt n (length records)) (have records types (fields records n) ts) p.0 in
        (refl, ltb-true n (length records) q.0, all_typed ts (fields records n) q.1 p.1)

    each_typed : (ts : Trees ℕ) (t : ValueType) → each_has records types t ts ≡ true → are_fit records types ts ≡ true → EachIsTyped records types ts t
    each_typed no_trees t h k = tt
    each_typed (tree_then a ts) t h k =
        let p = both_true (has_type records types t a) (each_has records types t ts) h in
        let q = both_true (is_fit records types a) (are_fit records types ts) k in
        (of_type a t (same_type-true (own a) t p.0) (typed a q.0), each_typed ts t p.1 q.1)

    all_typed : (as' : Trees ℕ) (ts : List ValueType) → have records types ts as' ≡ true → are_fit records types as' ≡ true → AreTyped records types as' ts
    all_typed no_trees [] h k = tt
    all_typed no_trees (t ∷ ts) h k = absurd (true≢false (sym h))
    all_typed (tree_then a as') [] h k = absurd (true≢false (sym h))
    all_typed (tree_then a as') (t ∷ ts) h k =
        let p = both_true (has_type records types t a) (have records types ts as') h in
        let q = both_true (is_fit records types a) (are_fit records types as') k in
        (of_type a t (same_type-true (own a) t p.0) (typed a q.0), all_typed as' ts p.1 q.1)

  -- ---- the other way

  has : (a : Tree ℕ) (t : ValueType) → IsTyped records types a t → same_type (type_of records types a) t ≡ true
  has a t h = is_same (own a) t (type_of_typed records types a t h)

  fit_two : (s : ValueType) (a b : Tree ℕ) → IsTyped records types a s → IsTyped records types b s → is_fit records types a ≡ true
      → is_fit records types b ≡ true →
      ((same_type (type_of records types a) s && same_type (type_of records types b) s) && (is_fit records types a && is_fit records types b)) ≡ true
  fit_two s a b h k f g =
      true_both (same_type (own a) s && same_type (own b) s) (is_fit records types a && is_fit records types b)
      (true_both (same_type (own a) s) (same_type (own b) s) (has a s h) (has b s k)) (true_both (is_fit records types a) (is_fit records types b) f g)

  mutual
    pub fit : (a : Tree ℕ) (t : ValueType) → IsTyped records types a t → is_fit records types a ≡ true
    fit (literal z) t h = refl
    fit (truth_literal b) t h = refl
    fit (name n) t h = ap is_some h
    fit (bound n) t h = refl
    fit (unary Unary.Neg a) t h = true_both (same_type (own a) number_type) (is_fit records types a) (has a number_type h.1) (fit a number_type h.1)
    fit (unary Unary.Not a) t h = true_both (same_type (own a) truth_type) (is_fit records types a) (has a truth_type h.1) (fit a truth_type h.1)
    fit (unary Unary.Size a) t h =
        let s = sequence_type (element_type (own a)) in
        true_both (is_sequence (own a)) (is_fit records types a) (ap is_sequence (type_of_typed records types a s h.1)) (fit a s h.1)
    fit (unary (Unary.Field k) a) t h =
        true_both (has_field records k (own a)) (is_fit records types a) (there_field records k (own a) t h.0) (fit a (own a) h.1)
    fit (binary Binary.Add a b) t h = fit_two number_type a b h.1 h.2 (fit a number_type h.1) (fit b number_type h.2)
    fit (binary Binary.Sub a b) t h = fit_two number_type a b h.1 h.2 (fit a number_type h.1) (fit b number_type h.2)
    fit (binary Binary.Mul a b) t h = fit_two number_type a b h.1 h.2 (fit a number_type h.1) (fit b number_type h.2)
    fit (binary Binary.Div a b) t h = fit_two number_type a b h.1 h.2 (fit a number_type h.1) (fit b number_type h.2)
    fit (binary Binary.Rem a b) t h = fit_two number_type a b h.1 h.2 (fit a number_type h.1) (fit b number_type h.2)
    fit (binary Binary.And a b) t h = fit_two truth_type a b h.1 h.2 (fit a truth_type h.1) (fit b truth_type h.2)
    fit (binary Binary.Or a b) t h = fit_two truth_type a b h.1 h.2 (fit a truth_type h.1) (fit b truth_type h.2)
    fit (binary Binary.Imply a b) t h = fit_two truth_type a b h.1 h.2 (fit a truth_type h.1) (fit b truth_type h.2)
    fit (binary Binary.Eq a b) t h =
        true_both (same_type (own a) (own b)) (is_fit records types a && is_fit records types b)
        (is_same (own a) (own b) (sym (type_of_typed records types b (own a) h.2)))
        (true_both (is_fit records types a) (is_fit records types b) (fit a (own a) h.1) (fit b (own a) h.2))
    fit (binary Binary.Lt a b) t h = fit_two number_type a b h.1 h.2 (fit a number_type h.1) (fit b number_type h.2)
    fit (binary Binary.Le a b) t h = fit_two number_type a b h.1 h.2 (fit a number_type h.1) (fit b number_type h.2)
    fit (binary Binary.Read a i) t h =
        true_both (is_sequence (own a) && same_type (own i) number_type) (is_fit records types a && is_fit records types i)
        (true_both (is_sequence (own a)) (same_type (own i) number_type) (ap is_sequence (type_of_typed records types a (sequence_type t) h.0))
        (has i number_type h.1))
        (true_both (is_fit records types a) (is_fit records types i) (fit a (sequence_type t) h.0) (fit i number_type h.1))
    fit (binary Binary.Append a x) t h =
        true_both (same_type (own a) (sequence_type (own x))) (is_fit records types a && is_fit records types x)
        (is_same (own a) (sequence_type (own x)) (type_of_typed records types a t h.1 ∙ h.0))
        (true_both (is_fit records types a) (is_fit records types x) (fit a t h.1) (fit x (own x) h.2))
    fit (update a i x) t h =
        true_both (fits records types (update a i x)) (is_fit records types a && (is_fit records types i && is_fit records types x))
        (true_both (same_type (own a) (sequence_type (own x))) (same_type (own i) number_type)
        (is_same (own a) (sequence_type (own x)) (type_of_typed records types a t h.1 ∙ h.0)) (has i number_type h.2))
        (true_both (is_fit records types a) (is_fit records types i && is_fit records types x) (fit a t h.1)
        (true_both (is_fit records types i) (is_fit records types x) (fit i number_type h.2) (fit x (own x) h.3)))
    fit (quantified q low high body) t h =
        true_both (fits records types (quantified q low high body)) (is_fit records types low && (is_fit records types high && is_fit records types body))
        (true_both (same_type (own low) number_type) (same_type (own high) number_type && same_type (own body) truth_type) (has low number_type h.1)
        (true_both (same_type (own high) number_type) (same_type (own body) truth_type) (has high number_type h.2) (has body truth_type h.3)))
        (true_both (is_fit records types low) (is_fit records types high && is_fit records types body) (fit low number_type h.1)
        (true_both (is_fit records types high) (is_fit records types body) (fit high number_type h.2) (fit body truth_type h.3)))
    fit (listed (sequence_of s) ts) t h =
        true_both (is_known records s && each_has records types s ts) (are_fit records types ts)
        (true_both (is_known records s) (each_has records types s ts) h.1 (each_fits ts s h.2)) (each_fit ts s h.2)
    fit (listed (record_of n) ts) t h =
        true_both (nat_lt n (length records) && have records types (fields records n) ts) (are_fit records types ts)
        (true_both (nat_lt n (length records)) (have records types (fields records n) ts) (lt-ltb n (length records) h.1) (all_fits ts (fields records n) h.2))
        (all_fit ts (fields records n) h.2)

    each_fit : (ts : Trees ℕ) (t : ValueType) → EachIsTyped records types ts t → are_fit records types ts ≡ true
    each_fit no_trees t h = refl
    each_fit (tree_then a ts) t h = true_both (is_fit records types a) (are_fit records types ts) (fit a t h.0) (each_fit ts t h.1)

    all_fit : (as' : Trees ℕ) (ts : List ValueType) → AreTyped records types as' ts → are_fit records types as' ≡ true
    all_fit no_trees [] h = refl
    all_fit no_trees (t ∷ ts) h = absurd h
    all_fit (tree_then a as') [] h = absurd h
    all_fit (tree_then a as') (t ∷ ts) h = true_both (is_fit records types a) (are_fit records types as') (fit a t h.0) (all_fit as' ts h.1)

    each_fits : (ts : Trees ℕ) (t : ValueType) → EachIsTyped records types ts t → each_has records types t ts ≡ true
    each_fits no_trees t h = refl
    each_fits (tree_then a ts) t h = true_both (has_type records types t a) (each_has records types t ts) (has a t h.0) (each_fits ts t h.1)

    all_fits : (as' : Trees ℕ) (ts : List ValueType) → AreTyped records types as' ts → have records types ts as' ≡ true
    all_fits no_trees [] h = refl
    all_fits no_trees (t ∷ ts) h = absurd h
    all_fits (tree_then a as') [] h = absurd h
    all_fits (tree_then a as') (t ∷ ts) h = true_both (has_type records types t a) (have records types ts as') (has a t h.0) (all_fits as' ts h.1)

-- ---- loose bound variables

mutual
  pub closed_within : (n : ℕ) (t : Tree ℕ) → depth_needed t ≤ n → IsClosed n t
  closed_within n (literal z) h = tt
  closed_within n (truth_literal b) h = tt
  closed_within n (name a) h = tt
  closed_within n (bound m) h = omega (arith, h)
  closed_within n (unary op a) h = closed_within n a h
  closed_within n (binary op a b) h = (closed_within n a (omega (arith, h)), closed_within n b (omega (arith, h)))
  closed_within n (update a i x) h = (closed_within n a (omega (arith, h)), closed_within n i (omega (arith, h)), closed_within n x (omega (arith, h)))
  closed_within n (quantified q low high body) h =
      (closed_within n low (omega (arith, h)), closed_within n high (omega (arith, h)), closed_within (suc n) body (omega (arith, h)))
  closed_within n (listed l ts) h = all_closed_within n ts h

  all_closed_within : (n : ℕ) (ts : Trees ℕ) → depth_needed_by_all ts ≤ n → AreClosed n ts
  all_closed_within n no_trees h = tt
  all_closed_within n (tree_then t ts) h = (closed_within n t (omega (arith, h)), all_closed_within n ts (omega (arith, h)))

mutual
  pub needed_within : (n : ℕ) (t : Tree ℕ) → IsClosed n t → depth_needed t ≤ n
  needed_within n (literal z) h = omega arith
  needed_within n (truth_literal b) h = omega arith
  needed_within n (name a) h = omega arith
  needed_within n (bound m) h = omega (arith, h)
  needed_within n (unary op a) h = needed_within n a h
  needed_within n (binary op a b) h = omega (arith, needed_within n a h.0, needed_within n b h.1)
  needed_within n (update a i x) h = omega (arith, needed_within n a h.0, needed_within n i h.1, needed_within n x h.2)
  needed_within n (quantified q low high body) h = omega (arith, needed_within n low h.0, needed_within n high h.1, needed_within (suc n) body h.2)
  needed_within n (listed l ts) h = all_needed_within n ts h

  all_needed_within : (n : ℕ) (ts : Trees ℕ) → AreClosed n ts → depth_needed_by_all ts ≤ n
  all_needed_within n no_trees h = omega arith
  all_needed_within n (tree_then t ts) h = omega (arith, needed_within n t h.0, all_needed_within n ts h.1)
