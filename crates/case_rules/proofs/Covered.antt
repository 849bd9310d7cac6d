-- Where a formula holds, so does one of its cases.
use Rattle.std.proofs.Common.{◌≡◌, ◌≢◌, inl, inr, ℕ, zero, suc, ◌+◌, ◌<◌, ℤ, List, [], ◌∷◌, ◌++◌, map, length, get_or, Bool, true, false, not, ◌&&◌, ◌||◌, Option, Some, None, int_lt, int_eq, refl, sym, ap, ap₂, ◌∙◌, subst, arith, eq-eqb}
use Rattle.std.specs.Bool.{beq}
use Rattle.std.proofs.lemmas.Bool.{false≢true, and_parts}
use Rattle.std.proofs.lemmas.Bool.Decides.{Decides-int_eq}
use Rattle.std.proofs.lemmas.Int.{ints}
use Rattle.slang_values.specs.Value.{ValueType, unit_type, number_type, truth_type, sequence_type, record_type, Records, fields, AreWellFormed, Value, unit, number, truth, sequence, record_value, Values, no_values, value_then, number_of, truth_of, value_at, field_of, same_value, same_values, HasType, HaveTypes}
use Rattle.slang_values.specs.Tree.{Tree, literal, truth_literal, name, bound, unary, binary, update, quantified, listed, value}
use Rattle.slang_values.specs.Typing.{NameTypes, type_of, IsFieldType, IsTyped, FitNames}
use Rattle.slang_values.specs.declared.operators.Unary.{Unary}
use Rattle.slang_values.specs.declared.operators.Binary.{Binary}
use Rattle.slang_values.proofs.Typed.{HasType-value}
use Rattle.validity.specs.Validity.{no_bounds}
use Rattle.validity.proofs.TypeOf.{type_of_typed}
use Rattle.read_rules.specs.Reduced.{reduced}
use Rattle.read_rules.specs.Reads.{ReadCase, ReadSite, are_equal, negation, read_tree, first_site}
use Rattle.case_rules.specs.Cases.{Alternatives, field, field_equalities, one_is_false, equality_alternatives, inequality_alternatives, binary_alternatives, negated_binary_alternatives, negated_alternatives, top_alternatives, site_alternatives, unless_top, alternatives, both, all_of, taken_apart, cases_within}
use Rattle.read_rules.proofs.ReadCases.{number_is, truth_is, IsTrueTree, AllAreTrue, IsCovering, read_covers}
use Rattle.read_rules.proofs.ReducedValues.{record_inj, typed_reduced, value_reduced}
use Rattle.read_rules.proofs.Sites.{IsSite, first_site_is}
use Rattle.read_rules.specs.Some.{SomeIn}
use Rattle.read_rules.proofs.Some.{some_weaker, some_map, some_flat, all_append}
use Rattle.read_rules.proofs.Typing.{typed_from}

some_inj : {X : Type 0} (x y : X) → Some x ≡ Some y → x ≡ y
some_inj x y e = cc

none_some : {X : Type 0} (x : X) → None ≡ Some x → ⊥
none_some x e = cc

module _ (records : Records) (fine : AreWellFormed records) (types : NameTypes ℕ) (names : ℕ → Value) (fit : FitNames records types names) where
  abbrev at : Tree ℕ → Value
  at t = value records names no_bounds t

  abbrev truth_at : Tree ℕ → Bool
  truth_at t = truth_of (at t)

  abbrev Is : Tree ℕ → Type 0
  Is = IsTrueTree records fine types names fit

  abbrev Are : List (Tree ℕ) → Type 0
  Are = AllAreTrue records fine types names fit

  has_type : (t : Tree ℕ) (s : ValueType) → IsTyped records types t s → HasType records (at t) s
  has_type t s h = HasType-value records fine types names fit t s no_bounds h

  -- ---- one formula, or its negation

  yes : (t : Tree ℕ) → IsTyped records types t truth_type → truth_at t ≡ true → Is t
  yes t h e = record { typed = h; true_there = e }

  no : (t : Tree ℕ) → IsTyped records types t truth_type → truth_at t ≡ false → Is (negation t)
  no t h e = record { typed = (refl, h); true_there = ap not e }

  not_true : (b : Bool) → not b ≡ true → b ≡ false
  not_true true e = absurd (false≢true e)
  not_true false e = refl

  -- ---- connectives

  and_all : (x y : Bool) → (x && y) ≡ true → (x ≡ true) × (y ≡ true)
  and_all x y e = and_parts x y e

  or_some : (a b : Tree ℕ) → IsTyped records types a truth_type → IsTyped records types b truth_type → (x y : Bool) → truth_at a ≡ x → truth_at b ≡ y → (x || y) ≡ true → SomeIn Are ((a ∷ []) ∷ (b ∷ []) ∷ [])
  or_some a b h k true y e f g = inl (yes a h e, tt)
  or_some a b h k false true e f g = inr (inl (yes b k f, tt))
  or_some a b h k false false e f g = absurd (false≢true g)

  imply_some : (a b : Tree ℕ) → IsTyped records types a truth_type → IsTyped records types b truth_type → (x y : Bool) → truth_at a ≡ x → truth_at b ≡ y → (not x || y) ≡ true → SomeIn Are ((negation a ∷ []) ∷ (b ∷ []) ∷ [])
  imply_some a b h k false y e f g = inl (no a h e, tt)
  imply_some a b h k true true e f g = inr (inl (yes b k f, tt))
  imply_some a b h k true false e f g = absurd (false≢true g)

  not_and_some : (a b : Tree ℕ) → IsTyped records types a truth_type → IsTyped records types b truth_type → (x y : Bool) → truth_at a ≡ x → truth_at b ≡ y → (x && y) ≡ false → SomeIn Are ((negation a ∷ []) ∷ (negation b ∷ []) ∷ [])
  not_and_some a b h k false y e f g = inl (no a h e, tt)
  not_and_some a b h k true false e f g = inr (inl (no b k f, tt))
  not_and_some a b h k true true e f g = absurd (false≢true (sym g))

  not_or_some : (a b : Tree ℕ) → IsTyped records types a truth_type → IsTyped records types b truth_type → (x y : Bool) → truth_at a ≡ x → truth_at b ≡ y → (x || y) ≡ false → SomeIn Are ((negation a ∷ negation b ∷ []) ∷ [])
  not_or_some a b h k false false e f g = inl (no a h e, (no b k f, tt))
  not_or_some a b h k true y e f g = absurd (false≢true (sym g))
  not_or_some a b h k false true e f g = absurd (false≢true (sym g))

  not_imply_some : (a b : Tree ℕ) → IsTyped records types a truth_type → IsTyped records types b truth_type → (x y : Bool) → truth_at a ≡ x → truth_at b ≡ y → (not x || y) ≡ false → SomeIn Are ((a ∷ negation b ∷ []) ∷ [])
  not_imply_some a b h k true false e f g = inl (yes a h e, (no b k f, tt))
  not_imply_some a b h k true true e f g = absurd (false≢true (sym g))
  not_imply_some a b h k false y e f g = absurd (false≢true (sym g))

  same_some : (a b : Tree ℕ) → IsTyped records types a truth_type → IsTyped records types b truth_type → (x y : Bool) → truth_at a ≡ x → truth_at b ≡ y → beq x y ≡ true → SomeIn Are ((a ∷ b ∷ []) ∷ (negation a ∷ negation b ∷ []) ∷ [])
  same_some a b h k true true e f g = inl (yes a h e, (yes b k f, tt))
  same_some a b h k false false e f g = inr (inl (no a h e, (no b k f, tt)))
  same_some a b h k true false e f g = absurd (false≢true g)
  same_some a b h k false true e f g = absurd (false≢true g)

  differ_some : (a b : Tree ℕ) → IsTyped records types a truth_type → IsTyped records types b truth_type → (x y : Bool) → truth_at a ≡ x → truth_at b ≡ y → beq x y ≡ false → SomeIn Are ((a ∷ negation b ∷ []) ∷ (negation a ∷ b ∷ []) ∷ [])
  differ_some a b h k true false e f g = inl (yes a h e, (no b k f, tt))
  differ_some a b h k false true e f g = inr (inl (no a h e, (yes b k f, tt)))
  differ_some a b h k true true e f g = absurd (false≢true (sym g))
  differ_some a b h k false false e f g = absurd (false≢true (sym g))

  same_truths : (a b : Tree ℕ) → IsTyped records types a truth_type → IsTyped records types b truth_type → truth_at (are_equal a b) ≡ beq (truth_at a) (truth_at b)
  same_truths a b h k = ap₂ same_value (truth_is records (at a) (has_type a truth_type h)) (truth_is records (at b) (has_type b truth_type k))

  same_numbers : (a b : Tree ℕ) → IsTyped records types a number_type → IsTyped records types b number_type → truth_at (are_equal a b) ≡ int_eq (number_of (at a)) (number_of (at b))
  same_numbers a b h k = ap₂ same_value (number_is records (at a) (has_type a number_type h)) (number_is records (at b) (has_type b number_type k))

  apart_some : (a b : Tree ℕ) → IsTyped records types a number_type → IsTyped records types b number_type → (x y : Bool) (m n : ℤ) → number_of (at a) ≡ m → number_of (at b) ≡ n → int_lt m n ≡ x → int_lt n m ≡ y → m ≢ n →
      SomeIn Are ((binary Binary.Lt a b ∷ []) ∷ (binary Binary.Lt b a ∷ []) ∷ [])
  apart_some a b h k true y m n p q e f differ = inl (record { typed = (refl, h, k); true_there = ap₂ int_lt p q ∙ e }, tt)
  apart_some a b h k false true m n p q e f differ = inr (inl (record { typed = (refl, k, h); true_there = ap₂ int_lt q p ∙ f }, tt))
  apart_some a b h k false false m n p q e f differ = absurd (omega (arith, ints, e, f, differ))

  -- ---- records

  field_typed : (n k : ℕ) (a : Tree ℕ) → IsTyped records types a (record_type n) → k < length (fields records n) → IsTyped records types (field k a) (get_or (fields records n) k unit_type)
  field_typed n k a h l =
      let e = sym (type_of_typed records types a (record_type n) h) in
      (subst (λ r. IsFieldType records k r (get_or (fields records n) k unit_type)) e (l, refl), subst (IsTyped records types a) e h)

  fields_equal_typed : (n k : ℕ) (a b : Tree ℕ) → IsTyped records types a (record_type n) → IsTyped records types b (record_type n) → k < length (fields records n) → IsTyped records types (are_equal (field k a) (field k b)) truth_type
  fields_equal_typed n k a b h g l =
      let s = get_or (fields records n) k unit_type in
      let p = field_typed n k a h l in
      let e = sym (type_of_typed records types (field k a) s p) in
      (refl, subst (IsTyped records types (field k a)) e p, subst (IsTyped records types (field k b)) e (field_typed n k b g l))

  module _ (n : ℕ) (a b : Tree ℕ) (on_a : IsTyped records types a (record_type n)) (on_b : IsTyped records types b (record_type n)) where
    -- the fields from place k on have these values
    abbrev Compare : ℕ → Values → Values → Type 0
    Compare k vs ws = (m j : ℕ) → j ≡ k + m → truth_at (are_equal (field j a) (field j b)) ≡ same_value (value_at vs m unit) (value_at ws m unit)

    next : (k : ℕ) (v w : Value) (vs ws : Values) → Compare k (value_then v vs) (value_then w ws) → Compare (suc k) vs ws
    next k v w vs ws h m j e = h (suc m) j (omega (arith, e))

    all_fields : (ts : List ValueType) (k : ℕ) (vs ws : Values) → HaveTypes records vs ts → HaveTypes records ws ts → k + length ts ≡ length (fields records n) → Compare k vs ws → same_values vs ws ≡ true → Are (field_equalities (length ts) k a b)
    all_fields [] k vs ws h g l c e = tt
    all_fields (t ∷ ts) k no_values ws h g l c e = absurd h
    all_fields (t ∷ ts) k (value_then v vs) no_values h g l c e = absurd g
    all_fields (t ∷ ts) k (value_then v vs) (value_then w ws) h g l c e =
        let p = and_parts _ _ e in (
          yes (are_equal (field k a) (field k b)) (fields_equal_typed n k a b on_a on_b (omega (arith, l))) (c 0 k (omega arith) ∙ p.0),
          all_fields ts (suc k) vs ws h.1 g.1 (omega (arith, l)) (next k v w vs ws c) p.1,
        )

    -- the first field differs, or one behind it
    at_first : (t : ValueType) (ts : List ValueType) (k : ℕ) (v w : Value) (vs ws : Values) → k + length (t ∷ ts) ≡ length (fields records n) → Compare k (value_then v vs) (value_then w ws) → same_values (value_then v vs) (value_then w ws) ≡ false →
        (same_values vs ws ≡ false → SomeIn Are (one_is_false (field_equalities (length ts) (suc k) a b))) → (x : Bool) → same_value v w ≡ x → SomeIn Are (one_is_false (field_equalities (length (t ∷ ts)) k a b))
    at_first t ts k v w vs ws l c e rest false f = inl (no (are_equal (field k a) (field k b)) (fields_equal_typed n k a b on_a on_b (omega (arith, l))) (c 0 k (omega arith) ∙ f), tt)
    at_first t ts k v w vs ws l c e rest true f = inr (rest (ap (λ x. x && same_values vs ws) (sym f) ∙ e))

    some_field : (ts : List ValueType) (k : ℕ) (vs ws : Values) → HaveTypes records vs ts → HaveTypes records ws ts → k + length ts ≡ length (fields records n) → Compare k vs ws → same_values vs ws ≡ false →
        SomeIn Are (one_is_false (field_equalities (length ts) k a b))
    some_field [] k no_values no_values h g l c e = absurd (false≢true (sym e))
    some_field [] k no_values (value_then w ws) h g l c e = absurd g
    some_field [] k (value_then v vs) ws h g l c e = absurd h
    some_field (t ∷ ts) k no_values ws h g l c e = absurd h
    some_field (t ∷ ts) k (value_then v vs) no_values h g l c e = absurd g
    some_field (t ∷ ts) k (value_then v vs) (value_then w ws) h g l c e =
        at_first t ts k v w vs ws l c e (some_field ts (suc k) vs ws h.1 g.1 (omega (arith, l)) (next k v w vs ws c)) (same_value v w) refl

    -- the values of a and b are records of that number
    record AreRecords : Type 0 where
      firsts : Values
      seconds : Values
      of_a : at a ≡ record_value n firsts
      of_b : at b ≡ record_value n seconds
      typed_firsts : HaveTypes records firsts (fields records n)
      typed_seconds : HaveTypes records seconds (fields records n)

    record_is : (v : Value) → HasType records v (record_type n) → (vs : Values) × (v ≡ record_value n vs) × HaveTypes records vs (fields records n)
    record_is unit h = absurd (cc)
    record_is (number z) h = absurd (cc)
    record_is (truth b) h = absurd (cc)
    record_is (sequence t vs) h = absurd (let k = h.0 in cc)
    record_is (record_value m vs) h =
        let e = record_inj h.0 in (vs, ap (λ o. record_value o vs) (sym e), subst (λ o. HaveTypes records vs (fields records o)) (sym e) h.1)

    are_records : AreRecords
    are_records =
        let p = record_is (at a) (has_type a (record_type n) on_a) in
        let q = record_is (at b) (has_type b (record_type n) on_b) in
        record { firsts = p.0; seconds = q.0; of_a = p.1; of_b = q.1; typed_firsts = p.2; typed_seconds = q.2 }

    compares : (r : AreRecords) → Compare 0 r.firsts r.seconds
    compares r m j e =
        ap₂ (λ v w. same_value (field_of j v) (field_of j w)) r.of_a r.of_b ∙ ap (λ i. same_value (value_at r.firsts i unit) (value_at r.seconds i unit)) (omega (arith, e))

    truth_of_records : (r : AreRecords) → truth_at (are_equal a b) ≡ same_values r.firsts r.seconds
    truth_of_records r = ap₂ same_value r.of_a r.of_b ∙ ap (λ x. x && same_values r.firsts r.seconds) (eq-eqb n n refl)

    equal_records : truth_at (are_equal a b) ≡ true → SomeIn Are (field_equalities (length (fields records n)) 0 a b ∷ [])
    equal_records e =
        let r = are_records in
        inl (all_fields (fields records n) 0 r.firsts r.seconds r.typed_firsts r.typed_seconds (omega arith) (compares r) (sym (truth_of_records r) ∙ e))

    unequal_records : truth_at (are_equal a b) ≡ false → SomeIn Are (one_is_false (field_equalities (length (fields records n)) 0 a b))
    unequal_records e =
        let r = are_records in
        some_field (fields records n) 0 r.firsts r.seconds r.typed_firsts r.typed_seconds (omega arith) (compares r) (sym (truth_of_records r) ∙ e)

  -- ---- what stands at the top

  equality_some : (s : ValueType) (a b : Tree ℕ) (as' : Alternatives) → IsTyped records types a s → IsTyped records types b s → equality_alternatives records s a b ≡ Some as' → truth_at (are_equal a b) ≡ true → SomeIn Are as'
  equality_some unit_type a b as' h k f e = absurd (none_some as' f)
  equality_some number_type a b as' h k f e = absurd (none_some as' f)
  equality_some truth_type a b as' h k f e = subst (SomeIn Are) (some_inj _ as' f) (same_some a b h k (truth_at a) (truth_at b) refl refl (sym (same_truths a b h k) ∙ e))
  equality_some (sequence_type t) a b as' h k f e = absurd (none_some as' f)
  equality_some (record_type n) a b as' h k f e = subst (SomeIn Are) (some_inj _ as' f) (equal_records n a b h k e)

  inequality_some : (s : ValueType) (a b : Tree ℕ) (as' : Alternatives) → IsTyped records types a s → IsTyped records types b s → inequality_alternatives records s a b ≡ Some as' → truth_at (are_equal a b) ≡ false → SomeIn Are as'
  inequality_some unit_type a b as' h k f e = absurd (none_some as' f)
  inequality_some number_type a b as' h k f e =
      subst (SomeIn Are) (some_inj _ as' f) (apart_some a b h k (int_lt (number_of (at a)) (number_of (at b))) (int_lt (number_of (at b)) (number_of (at a))) (number_of (at a)) (number_of (at b)) refl refl refl refl
      (λ same. false≢true (sym (sym (same_numbers a b h k) ∙ e) ∙ (Decides-int_eq (number_of (at a)) (number_of (at b))).1 same)))
  inequality_some truth_type a b as' h k f e = subst (SomeIn Are) (some_inj _ as' f) (differ_some a b h k (truth_at a) (truth_at b) refl refl (sym (same_truths a b h k) ∙ e))
  inequality_some (sequence_type t) a b as' h k f e = absurd (none_some as' f)
  inequality_some (record_type n) a b as' h k f e = subst (SomeIn Are) (some_inj _ as' f) (unequal_records n a b h k e)

  binary_some : (op : Binary) (a b : Tree ℕ) (as' : Alternatives) → binary_alternatives records types op a b ≡ Some as' → Is (binary op a b) → SomeIn Are as'
  binary_some Binary.And a b as' f h =
      let p = and_parts (truth_at a) (truth_at b) h.true_there in
      subst (SomeIn Are) (some_inj _ as' f) (inl (yes a h.typed.1 p.0, (yes b h.typed.2 p.1, tt)))
  binary_some Binary.Or a b as' f h = subst (SomeIn Are) (some_inj _ as' f) (or_some a b h.typed.1 h.typed.2 (truth_at a) (truth_at b) refl refl h.true_there)
  binary_some Binary.Imply a b as' f h = subst (SomeIn Are) (some_inj _ as' f) (imply_some a b h.typed.1 h.typed.2 (truth_at a) (truth_at b) refl refl h.true_there)
  binary_some Binary.Eq a b as' f h = equality_some (type_of records types a) a b as' h.typed.1 h.typed.2 f h.true_there
  binary_some Binary.Add a b as' f h = absurd (none_some as' f)
  binary_some Binary.Sub a b as' f h = absurd (none_some as' f)
  binary_some Binary.Mul a b as' f h = absurd (none_some as' f)
  binary_some Binary.Div a b as' f h = absurd (none_some as' f)
  binary_some Binary.Rem a b as' f h = absurd (none_some as' f)
  binary_some Binary.Lt a b as' f h = absurd (none_some as' f)
  binary_some Binary.Le a b as' f h = absurd (none_some as' f)
  binary_some Binary.Read a b as' f h = absurd (none_some as' f)
  binary_some Binary.Append a b as' f h = absurd (none_some as' f)

  not_binary_some : (op : Binary) (a b : Tree ℕ) (as' : Alternatives) → negated_binary_alternatives records types op a b ≡ Some as' → IsTyped records types (binary op a b) truth_type → truth_at (binary op a b) ≡ false → SomeIn Are as'
  not_binary_some Binary.And a b as' f h e = subst (SomeIn Are) (some_inj _ as' f) (not_and_some a b h.1 h.2 (truth_at a) (truth_at b) refl refl e)
  not_binary_some Binary.Or a b as' f h e = subst (SomeIn Are) (some_inj _ as' f) (not_or_some a b h.1 h.2 (truth_at a) (truth_at b) refl refl e)
  not_binary_some Binary.Imply a b as' f h e = subst (SomeIn Are) (some_inj _ as' f) (not_imply_some a b h.1 h.2 (truth_at a) (truth_at b) refl refl e)
  not_binary_some Binary.Eq a b as' f h e = inequality_some (type_of records types a) a b as' h.1 h.2 f e
  not_binary_some Binary.Add a b as' f h e = absurd (none_some as' f)
  not_binary_some Binary.Sub a b as' f h e = absurd (none_some as' f)
  not_binary_some Binary.Mul a b as' f h e = absurd (none_some as' f)
  not_binary_some Binary.Div a b as' f h e = absurd (none_some as' f)
  not_binary_some Binary.Rem a b as' f h e = absurd (none_some as' f)
  not_binary_some Binary.Lt a b as' f h e = absurd (none_some as' f)
  not_binary_some Binary.Le a b as' f h e = absurd (none_some as' f)
  not_binary_some Binary.Read a b as' f h e = absurd (none_some as' f)
  not_binary_some Binary.Append a b as' f h e = absurd (none_some as' f)

  not_not : (b : Bool) → not b ≡ false → b ≡ true
  not_not true e = refl
  not_not false e = absurd (false≢true (sym e))

  negated_some : (t : Tree ℕ) (as' : Alternatives) → negated_alternatives records types t ≡ Some as' → IsTyped records types t truth_type → truth_at t ≡ false → SomeIn Are as'
  negated_some (unary Unary.Not a) as' f h e = subst (SomeIn Are) (some_inj _ as' f) (inl (yes a h.1 (not_not (truth_at a) e), tt))
  negated_some (unary Unary.Neg a) as' f h e = absurd (none_some as' f)
  negated_some (unary Unary.Size a) as' f h e = absurd (none_some as' f)
  negated_some (unary (Unary.Field k) a) as' f h e = absurd (none_some as' f)
  negated_some (binary op a b) as' f h e = not_binary_some op a b as' f h e
  negated_some (literal z) as' f h e = absurd (none_some as' f)
  negated_some (truth_literal b) as' f h e = absurd (none_some as' f)
  negated_some (name n) as' f h e = absurd (none_some as' f)
  negated_some (bound n) as' f h e = absurd (none_some as' f)
  negated_some (update a i x) as' f h e = absurd (none_some as' f)
  negated_some (quantified q low high body) as' f h e = absurd (none_some as' f)
  negated_some (listed l ts) as' f h e = absurd (none_some as' f)

  top_some : (t : Tree ℕ) (as' : Alternatives) → top_alternatives records types t ≡ Some as' → Is t → SomeIn Are as'
  top_some (unary Unary.Not a) as' f h = negated_some a as' f h.typed.1 (not_true (truth_at a) h.true_there)
  top_some (unary Unary.Neg a) as' f h = absurd (none_some as' f)
  top_some (unary Unary.Size a) as' f h = absurd (none_some as' f)
  top_some (unary (Unary.Field k) a) as' f h = absurd (none_some as' f)
  top_some (binary op a b) as' f h = binary_some op a b as' f h
  top_some (literal z) as' f h = absurd (none_some as' f)
  top_some (truth_literal b) as' f h = absurd (none_some as' f)
  top_some (name n) as' f h = absurd (none_some as' f)
  top_some (bound n) as' f h = absurd (none_some as' f)
  top_some (update a i x) as' f h = absurd (none_some as' f)
  top_some (quantified q low high body) as' f h = absurd (none_some as' f)
  top_some (listed l ts) as' f h = absurd (none_some as' f)

  -- ---- reads

  site_some : (t : Tree ℕ) (s : ReadSite) → first_site records t ≡ Some s → Is t → SomeIn Are (site_alternatives s)
  site_some t s f h =
      let site = first_site_is records types names t s f in
      let whole : IsTyped records types (s.instead s.read) truth_type = subst (λ u. IsTyped records types u truth_type) (sym site.same) h.typed in
      let inner = site.context.inner s.read truth_type whole in
      let covers = read_covers records fine types names fit site.sequence site.place inner.0 s.cases site.are_cases (subst (λ u. IsTyped records types u inner.0) site.is_read inner.1) in
      some_map Are (λ (c : ReadCase). c.conditions ++ s.instead c.instead ∷ []) s.cases
      (some_weaker (IsCovering records fine types names fit (at (read_tree site.sequence site.place)) inner.0) (λ (c : ReadCase). Are (c.conditions ++ s.instead c.instead ∷ [])) (one_case site whole inner) s.cases covers)
    where
      one_case : (site : IsSite records types names t s) → IsTyped records types (s.instead s.read) truth_type → (inner : (r : ValueType) × IsTyped records types s.read r) → (c : ReadCase) →
          IsCovering records fine types names fit (at (read_tree site.sequence site.place)) inner.0 c → Are (c.conditions ++ s.instead c.instead ∷ [])
      one_case site whole inner c k =
          let value_same : at (s.instead c.instead) ≡ at t = site.context.value c.instead s.read (k.value ∙ sym (ap at site.is_read)) ∙ ap at site.same in
          all_append Is c.conditions (s.instead c.instead ∷ []) k.conditions (
            record {
              typed = site.context.typed s.read c.instead (typed_from records types s.read c.instead inner.0 inner.1 k.typed) truth_type whole;
              true_there = ap truth_of value_same ∙ h.true_there;
            },
            tt,
          )

  -- ---- one step, and all

  either_some : (t : Tree ℕ) (o : Option Alternatives) (p : Option ReadSite) (as' : Alternatives) → top_alternatives records types t ≡ o → first_site records t ≡ p → unless_top o p ≡ Some as' → Is t → SomeIn Are as'
  either_some t (Some bs) p as' e f g h = top_some t as' (e ∙ g) h
  either_some t None None as' e f g h = absurd (none_some as' g)
  either_some t None (Some s) as' e f g h = subst (SomeIn Are) (some_inj _ as' g) (site_some t s f h)

  alternatives_some : (t : Tree ℕ) (as' : Alternatives) → alternatives records types t ≡ Some as' → Is t → SomeIn Are as'
  alternatives_some t as' g h = either_some t (top_alternatives records types t) (first_site records t) as' refl refl g h

  pub both_some : (cs ds : List (List (Tree ℕ))) → SomeIn Are cs → SomeIn Are ds → SomeIn Are (both cs ds)
  both_some cs ds h k =
      some_flat Are (λ c. map (λ d. c ++ d) ds) cs
      (some_weaker Are (λ c. SomeIn Are (map (λ d. c ++ d) ds)) (λ c g. some_map Are (λ d. c ++ d) ds (some_weaker Are (λ d. Are (c ++ d)) (λ d f. all_append Is c d g f) ds k)) cs h)

  pub all_some : (f : Tree ℕ → List (List (Tree ℕ))) → ((t : Tree ℕ) → Is t → SomeIn Are (f t)) → (ts : List (Tree ℕ)) → Are ts → SomeIn Are (all_of f ts)
  all_some f g [] h = inl tt
  all_some f g (t ∷ ts) h = both_some (f t) (all_of f ts) (g t h.0) (all_some f g ts h.1)

  is_reduced : (t : Tree ℕ) → Is t → Is (reduced t)
  is_reduced t h = record { typed = typed_reduced records types t truth_type h.typed; true_there = ap truth_of (value_reduced records fine types names fit t truth_type no_bounds h.typed) ∙ h.true_there }

  taken_some : (f : Tree ℕ → List (List (Tree ℕ))) → ((t : Tree ℕ) → Is t → SomeIn Are (f t)) → (t : Tree ℕ) (o : Option Alternatives) → alternatives records types t ≡ o → Is t → SomeIn Are (taken_apart f t o)
  taken_some f g t None e h = inl (h, tt)
  taken_some f g t (Some as') e h = some_flat Are (all_of f) as' (some_weaker Are (λ ts. SomeIn Are (all_of f ts)) (all_some f g) as' (alternatives_some t as' e h))

  -- however often it is taken apart
  pub some_case : (n : ℕ) (t : Tree ℕ) → Is t → SomeIn Are (cases_within records types n t)
  some_case zero t h = inl (is_reduced t h, tt)
  some_case (suc n) t h = taken_some (cases_within records types n) (some_case n) (reduced t) (alternatives records types (reduced t)) refl (is_reduced t h)
