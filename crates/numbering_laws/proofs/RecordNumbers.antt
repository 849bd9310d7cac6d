-- The records of a leg under their numbers: they are well formed, and have the defaults that they had.
use Rattle.std.proofs.Common.{◌≡◌, ℕ, zero, suc, ◌+◌, ◌<◌, ◌≤◌, Bool, true, List, [], ◌∷◌, map, length, get_or, Some, refl, sym, ap, ap₂, ◌∙◌, subst, arith}
use Rattle.std.specs.Prelude.{nat_eq, slice_get, slice_index_or}
use Rattle.std.specs.Option.{option_map_or}
use Rattle.std.specs.List.{AllByRecursion, fold, list_all, sum_by}
use Rattle.std.proofs.lemmas.Bool.{false≢true, and_parts, and_from, lt-ltb}
use Rattle.std.proofs.lemmas.List.{length-map}
use Rattle.slang_values.specs.Value.{ValueType, unit_type, number_type, truth_type, sequence_type, record_type, Records, fields, named_record, is_known, ends_within, parts_of_field, parts_within, AreWellFormed, record_value, value_then, values_of, default_within, default}
use Rattle.slang_values.proofs.Typed.{HasType-default}
use Rattle.leg_rules.specs.Numbering.{number_in, renumbered_type}
use Rattle.numbering_laws.proofs.Places.{none≢some, some_inj, In, got_below, all_mapped, number_at, there_is}
use Rattle.numbering_laws.proofs.Values.{TypeIn, renumbered_value, renumbered_values, AreRenumbered, typed-in}
use Rattle.numbering_laws.proofs.RecordOrder.{TypeIn-map, Before, Behind, numbers-true, numbers-self}

pub got_map : {A B : Type 0} (h : A → B) (xs : List A) (i : ℕ) (x : A) → slice_get xs i ≡ Some x → slice_get (map h xs) i ≡ Some (h x)
got_map h [] i x e = absurd (none≢some e)
got_map h (y ∷ xs) zero x e = ap (λ z. Some (h z)) (some_inj e)
got_map h (y ∷ xs) (suc i) x e = got_map h xs i x e

got_or : {A : Type 0} (xs : List A) (i : ℕ) (x d : A) → slice_get xs i ≡ Some x → get_or xs i d ≡ x
got_or [] i x d e = absurd (none≢some e)
got_or (y ∷ xs) zero x d e = some_inj e
got_or (y ∷ xs) (suc i) x d e = got_or xs i x d e

pub got_index : {A : Type 0} (xs : List A) (i : ℕ) (x d : A) → slice_get xs i ≡ Some x → slice_index_or xs i d ≡ x
got_index [] i x d e = absurd (none≢some e)
got_index (y ∷ xs) zero x d e = some_inj e
got_index (y ∷ xs) (suc i) x d e = got_index xs i x d e

module _ (records : Records) (order : List ℕ) (behind : Behind records order) (there : (i n : ℕ) → slice_get order i ≡ Some n → n < length records) (fine : AreWellFormed records) where
  abbrev new_number : ℕ → ℕ
  new_number n = number_in nat_eq order n

  abbrev new_type : ValueType → ValueType
  new_type t = renumbered_type new_number t

  abbrev new_records : Records
  new_records = map (λ n. map new_type (fields records n)) order

  at_number : (i n : ℕ) → slice_get order i ≡ Some n → (new_number n ≤ i) × (slice_get order (new_number n) ≡ Some n)
  at_number i n h = number_at nat_eq numbers-true numbers-self order i n h

  fields_at : (m n : ℕ) → slice_get order m ≡ Some n → fields new_records m ≡ map new_type (fields records n)
  fields_at m n h = got_or new_records m _ [] (got_map (λ k. map new_type (fields records k)) order m n h)

  members : (n : ℕ) → In order n → AllByRecursion (TypeIn (In order)) (fields records n)
  members n at = all_mapped (TypeIn (Before records order at.0)) (TypeIn (In order)) (TypeIn-map _ _ (λ k b. (b.0, b.2))) (fields records n)
      (behind at.0 n at.1)

  -- ---- they end

  abbrev Ends : ℕ → ValueType → Bool
  Ends depth t = option_map_or (ends_within new_records depth) (named_record t) true

  type_ends : (depth m : ℕ) → ((k : ℕ) → k < m → (n : ℕ) → slice_get order k ≡ Some n → ends_within new_records depth k ≡ true) → (t : ValueType)
      → TypeIn (Before records order m) t → Ends depth (new_type t) ≡ true
  type_ends depth m each unit_type h = refl
  type_ends depth m each number_type h = refl
  type_ends depth m each truth_type h = refl
  type_ends depth m each (sequence_type t) h = type_ends depth m each t h
  type_ends depth m each (record_type n) h =
      let at = at_number h.0 n h.2 in each (new_number n) (omega (arith, at.0, h.1)) n at.1

  fields_end : (depth m : ℕ) → ((k : ℕ) → k < m → (n : ℕ) → slice_get order k ≡ Some n → ends_within new_records depth k ≡ true) → (ts : List ValueType)
      → AllByRecursion (TypeIn (Before records order m)) ts → list_all (Ends depth) (map new_type ts) ≡ true
  fields_end depth m each [] h = refl
  fields_end depth m each (t ∷ ts) h = and_from _ _ (type_ends depth m each t h.0) (fields_end depth m each ts h.1)

  ends_at : (depth m n : ℕ) → m < depth → slice_get order m ≡ Some n → ends_within new_records depth m ≡ true
  ends_at zero m n l h = absurd (omega (arith, l))
  ends_at (suc depth) m n l h =
      subst (λ ts. list_all (Ends depth) ts ≡ true) (sym (fields_at m n h))
      (fields_end depth m (λ k below j at. ends_at depth k j (omega (arith, l, below)) at) (fields records n) (behind m n h))

  length_same : length new_records ≡ length order
  length_same = length-map order (λ n. map new_type (fields records n))

  ends_all : (m n : ℕ) → slice_get order m ≡ Some n → ends_within new_records (length new_records) m ≡ true
  ends_all m n h = ends_at (length new_records) m n (subst (λ l. m < l) (sym length_same) (got_below order m n h)) h

  -- ---- they have the parts that they had

  abbrev OldEnds : ℕ → ValueType → Bool
  OldEnds depth t = option_map_or (ends_within records depth) (named_record t) true

  abbrev SameParts : ℕ → ℕ → Type 0
  SameParts old new = (m n : ℕ) → ends_within records old n ≡ true → ends_within new_records new m ≡ true → slice_get order m ≡ Some n
      → parts_within new_records new m ≡ parts_within records old n

  parts_of_type : (old new : ℕ) → SameParts old new → (t : ValueType) → OldEnds old t ≡ true → Ends new (new_type t) ≡ true → TypeIn (In order) t
      → parts_of_field (parts_within new_records new) (new_type t) ≡ parts_of_field (parts_within records old) t
  parts_of_type old new each unit_type a b h = refl
  parts_of_type old new each number_type a b h = refl
  parts_of_type old new each truth_type a b h = refl
  parts_of_type old new each (sequence_type t) a b h = refl
  parts_of_type old new each (record_type n) a b h = each (new_number n) n a b (at_number h.0 n h.1).1

  parts_of_fields : (old new : ℕ) → SameParts old new → (ts : List ValueType) → list_all (OldEnds old) ts ≡ true
      → list_all (Ends new) (map new_type ts) ≡ true → AllByRecursion (TypeIn (In order)) ts → (before : ℕ)
      → fold (λ sum t. sum + parts_of_field (parts_within new_records new) t) before (map new_type ts)
      ≡ fold (λ sum t. sum + parts_of_field (parts_within records old) t) before ts
  parts_of_fields old new each [] a b h before = refl
  parts_of_fields old new each (t ∷ ts) a b h before =
      let p = and_parts _ _ a in
      let q = and_parts _ _ b in
      let same = ap (◌+◌ before) (parts_of_type old new each t p.0 q.0 h.0) in
      ap (λ k. fold (λ sum t. sum + parts_of_field (parts_within new_records new) t) k (map new_type ts)) same
      ∙ parts_of_fields old new each ts p.1 q.1 h.1 (before + parts_of_field (parts_within records old) t)

  same_parts : (old new : ℕ) → SameParts old new
  same_parts zero new m n a b h = absurd (false≢true a)
  same_parts (suc old) zero m n a b h = absurd (false≢true b)
  same_parts (suc old) (suc new) m n a b h =
      let is = fields_at m n h in
      let ends = subst (λ ts. list_all (Ends new) ts ≡ true) is b in
      ap (λ ts. length ts + sum_by (parts_of_field (parts_within new_records new)) ts) is
      ∙ ap₂ ◌+◌ (length-map (fields records n) new_type) (parts_of_fields old new (same_parts old new) (fields records n) a ends (members n (m, h)) 0)

  -- ---- they have the defaults that they had

  abbrev SameDefaults : ℕ → ℕ → Type 0
  SameDefaults old new = (t : ValueType) → OldEnds old t ≡ true → Ends new (new_type t) ≡ true → TypeIn (In order) t
      → default_within new_records new (new_type t) ≡ renumbered_value new_number (default_within records old t)

  defaults_of : (old new : ℕ) → SameDefaults old new → (ts : List ValueType) → list_all (OldEnds old) ts ≡ true
      → list_all (Ends new) (map new_type ts) ≡ true → AllByRecursion (TypeIn (In order)) ts
      → values_of (map (default_within new_records new) (map new_type ts)) ≡ renumbered_values new_number (values_of (map (default_within records old) ts))
  defaults_of old new each [] a b h = refl
  defaults_of old new each (t ∷ ts) a b h =
      let p = and_parts _ _ a in
      let q = and_parts _ _ b in
      ap₂ value_then (each t p.0 q.0 h.0) (defaults_of old new each ts p.1 q.1 h.1)

  same_defaults : (old new : ℕ) → SameDefaults old new
  same_defaults old new unit_type a b h = refl
  same_defaults old new number_type a b h = refl
  same_defaults old new truth_type a b h = refl
  same_defaults old new (sequence_type t) a b h = refl
  same_defaults zero new (record_type n) a b h = absurd (false≢true a)
  same_defaults (suc old) zero (record_type n) a b h = absurd (false≢true b)
  same_defaults (suc old) (suc new) (record_type n) a b h =
      let is = fields_at (new_number n) n (at_number h.0 n h.1).1 in
      let ends = subst (λ ts. list_all (Ends new) ts ≡ true) is b in
      ap (λ ts. record_value (new_number n) (values_of (map (default_within new_records new) ts))) is
      ∙ ap (record_value (new_number n)) (defaults_of old new (same_defaults old new) (fields records n) a ends (members n h))

  old_ends : (t : ValueType) → TypeIn (In order) t → OldEnds (length records) t ≡ true
  old_ends unit_type h = refl
  old_ends number_type h = refl
  old_ends truth_type h = refl
  old_ends (sequence_type t) h = old_ends t h
  old_ends (record_type n) h = fine.finite n (there h.0 n h.1)

  new_ends : (t : ValueType) → TypeIn (In order) t → Ends (length new_records) (new_type t) ≡ true
  new_ends unit_type h = refl
  new_ends number_type h = refl
  new_ends truth_type h = refl
  new_ends (sequence_type t) h = new_ends t h
  new_ends (record_type n) h = ends_all (new_number n) n (at_number h.0 n h.1).1

  pub are_renumbered : AreRenumbered records new_records (In order) new_number (λ m. slice_index_or order m 0)
  are_renumbered = record {
    back = λ n at. got_index order (new_number n) n 0 (at_number at.0 n at.1).1;
    members = members;
    fields_are = λ n at. fields_at (new_number n) n (at_number at.0 n at.1).1;
    defaults_in = λ t h. typed-in records (In order) members (default records t) t (HasType-default records fine t) h;
    defaults = λ t h. same_defaults (length records) (length new_records) t (old_ends t h) (new_ends t h) h;
  }

  -- ---- they are well formed

  pub new_known : (t : ValueType) → TypeIn (In order) t → is_known new_records (new_type t) ≡ true
  new_known unit_type h = refl
  new_known number_type h = refl
  new_known truth_type h = refl
  new_known (sequence_type t) h = new_known t h
  new_known (record_type n) h =
      lt-ltb (new_number n) (length new_records)
      (subst (λ l. new_number n < l) (sym length_same) (got_below order (new_number n) n (at_number h.0 n h.1).1))

  all_known : (ts : List ValueType) → AllByRecursion (TypeIn (In order)) ts → list_all (is_known new_records) (map new_type ts) ≡ true
  all_known [] h = refl
  all_known (t ∷ ts) h = and_from _ _ (new_known t h.0) (all_known ts h.1)

  pub new_well_formed : AreWellFormed new_records
  new_well_formed = record {
    known = λ m l. let at = there_is order m (subst (λ k. m < k) length_same l) in
        subst (λ ts. list_all (is_known new_records) ts ≡ true) (sym (fields_at m at.0 at.1)) (all_known (fields records at.0) (members at.0 (m, at.1)));
    finite = λ m l. let at = there_is order m (subst (λ k. m < k) length_same l) in ends_all m at.0 at.1;
    small = λ m l. let at = there_is order m (subst (λ k. m < k) length_same l) in
        subst (λ k. k ≤ 1000)
        (sym (same_parts (length records) (length new_records) m at.0 (fine.finite at.0 (there m at.0 at.1)) (ends_all m at.0 at.1) at.1))
        (fine.small at.0 (there m at.0 at.1));
  }
