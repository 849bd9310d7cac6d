-- The records that fields name, and their parts.
use Rattle.std.proofs.Common.{◌≡◌, ℕ, zero, suc, ◌+◌, ◌<◌, ◌≤◌, Bool, true, List, [], ◌∷◌, ◌++◌, length, Option, Some, None, refl, sym, ap, ◌∙◌, arith}
use Rattle.std.specs.Prelude.{nat_lt}
use Rattle.std.specs.Option.{option_map_or}
use Rattle.std.specs.List.{flat_map, list_all, sum_by}
use Rattle.std.proofs.lemmas.Bool.{ltb-true, lt-ltb, and_parts, and_from}
use Rattle.std.proofs.lemmas.List.Sums.{sum_by-cons}
use Rattle.slang_values.specs.Value.{ValueType, unit_type, number_type, truth_type, sequence_type, record_type, Records, fields, is_value_type}
use Rattle.slang_values.specs.Value.{named_record, parts_of_field}
use Rattle.leg_forms.specs.WellFormed.{records_within}
use Rattle.record_checks.specs.declared.summary.Summary.{Summary}
use Rattle.record_checks.specs.Summaries.{names_below, is_field, parts_at, parts_sum}

-- ---- what a type names

-- a type with a test of the record that it names
pub named_test : (test : ℕ → Bool) (t : ValueType) (m : ℕ) → named_record t ≡ Some m → option_map_or test (named_record t) true ≡ true → test m ≡ true
named_test test t m e h = sym (ap (λ o. option_map_or test o true) e) ∙ h

pub names_less : (n : ℕ) (t : ValueType) (m : ℕ) → named_record t ≡ Some m → names_below n t ≡ true → m < n
names_less n t m e h = ltb-true m n (named_test (λ k. nat_lt k n) t m e h)

below_by : (n k : ℕ) (o : Option ℕ) → n ≤ k → option_map_or (λ m. nat_lt m n) o true ≡ true → option_map_or (λ m. nat_lt m k) o true ≡ true
below_by n k None l h = refl
below_by n k (Some m) l h = lt-ltb m k (let b = ltb-true m n h in omega (arith, b, l))

pub names_below_more : (n k : ℕ) (t : ValueType) → n ≤ k → names_below n t ≡ true → names_below k t ≡ true
names_below_more n k t l h = below_by n k (named_record t) l h

pub all_below_more : (n k : ℕ) (ts : List ValueType) → n ≤ k → list_all (names_below n) ts ≡ true → list_all (names_below k) ts ≡ true
all_below_more n k [] l h = refl
all_below_more n k (t ∷ ts) l h =
    let p = and_parts (names_below n t) (list_all (names_below n) ts) h in
    and_from (names_below k t) (list_all (names_below k) ts) (names_below_more n k t l p.0) (all_below_more n k ts l p.1)

pub field_parts : (n : ℕ) (ts : List ValueType) → list_all (is_field n) ts ≡ true → (list_all is_value_type ts ≡ true) × (list_all (names_below n) ts ≡ true)
field_parts n [] h = (refl, refl)
field_parts n (t ∷ ts) h =
    let p = and_parts (is_field n t) (list_all (is_field n) ts) h in
    let q = and_parts (is_value_type t) (names_below n t) p.0 in
    let r = field_parts n ts p.1 in
    (and_from (is_value_type t) (list_all is_value_type ts) q.0 r.0, and_from (names_below n t) (list_all (names_below n) ts) q.1 r.1)

pub field_from : (n : ℕ) (ts : List ValueType) → list_all is_value_type ts ≡ true → list_all (names_below n) ts ≡ true → list_all (is_field n) ts ≡ true
field_from n [] h k = refl
field_from n (t ∷ ts) h k =
    let p = and_parts (is_value_type t) (list_all is_value_type ts) h in
    let q = and_parts (names_below n t) (list_all (names_below n) ts) k in
    and_from (is_field n t) (list_all (is_field n) ts) (and_from (is_value_type t) (names_below n t) p.0 q.0) (field_from n ts p.1 q.1)

-- ---- the records that a type brings

module _ (records : Records) where
  pub none_brought : (d : ℕ) (t : ValueType) → named_record t ≡ None → records_within records d t ≡ []
  none_brought zero t e = refl
  none_brought (suc d) t e = ap (λ o. option_map_or (λ n. flat_map (records_within records d) (fields records n) ++ n ∷ []) o []) e

  pub record_brought : (d : ℕ) (t : ValueType) (n : ℕ) → named_record t ≡ Some n
      → records_within records (suc d) t ≡ flat_map (records_within records d) (fields records n) ++ n ∷ []
  record_brought d t n e = ap (λ o. option_map_or (λ n. flat_map (records_within records d) (fields records n) ++ n ∷ []) o []) e

  -- a type brings what the record that it names brings
  pub as_record : (d : ℕ) (t : ValueType) (n : ℕ) → named_record t ≡ Some n → records_within records d t ≡ records_within records d (record_type n)
  as_record zero t n e = refl
  as_record (suc d) t n e = record_brought d t n e

-- ---- parts

one_part : (f g : ℕ → ℕ) (n : ℕ) → ((m : ℕ) → m < n → f m ≡ g m) → (t : ValueType) → names_below n t ≡ true → parts_of_field f t ≡ parts_of_field g t
one_part f g n same unit_type h = refl
one_part f g n same number_type h = refl
one_part f g n same truth_type h = refl
one_part f g n same (sequence_type t) h = refl
one_part f g n same (record_type m) h = same m (ltb-true m n h)

counted : (l a b s all rest : ℕ) → a ≡ b → l + s ≡ rest → all ≡ a + s → suc l + all ≡ (1 + b) + rest
counted l a b s all rest e f g = omega (arith, e, f, g)

pub parts_summed : (f : ℕ → ℕ) (table : List Summary) (n : ℕ) → ((m : ℕ) → m < n → f m ≡ parts_at table m) → (ts : List ValueType)
    → list_all (names_below n) ts ≡ true → length ts + sum_by (parts_of_field f) ts ≡ parts_sum table ts
parts_summed f table n same [] h = refl
parts_summed f table n same (t ∷ ts) h =
    let p = and_parts (names_below n t) (list_all (names_below n) ts) h in
    let one = one_part f (parts_at table) n same t p.0 in
    let rest = parts_summed f table n same ts p.1 in
    let cons = sum_by-cons (parts_of_field f) t ts in
    counted (length ts) (parts_of_field f t) (parts_of_field (parts_at table) t) (sum_by (parts_of_field f) ts) (sum_by (parts_of_field f) (t ∷ ts))
    (parts_sum table ts) one rest cons
