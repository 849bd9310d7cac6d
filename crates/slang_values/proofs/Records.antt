-- Records that end: their defaults, and that none holds itself.
use Rattle.std.proofs.Common.{◌≡◌, ℕ, zero, suc, ◌<◌, List, [], ◌∷◌, map, length, get_or, true, Some, refl, ap, ap₂, subst, arith, ⊎_elim}
use Rattle.std.specs.Option.{option_map_or}
use Rattle.std.specs.List.{list_all}
use Rattle.std.proofs.lemmas.Bool.{false≢true, and_parts, cases_lt}
use Rattle.std.proofs.lemmas.List.{get_or_past}
use Rattle.slang_values.specs.Value.{ValueType, unit_type, number_type, truth_type, sequence_type, record_type, Records, fields, named_record, ends_within, AreWellFormed, record_value, values_of, default_within, default}
use Rattle.slang_values.specs.Laws.{Holds, HoldsInside, directly, through}

-- ---- the default of a record is the record of its fields' defaults

same_defaults : (records : Records) (depth : ℕ) → ((t : ValueType) → option_map_or (ends_within records depth) (named_record t) true ≡ true → default_within records depth t ≡ default_within records (suc depth) t) → (ts : List ValueType) → list_all (λ t. option_map_or (ends_within records depth) (named_record t) true) ts ≡ true → map (default_within records depth) ts ≡ map (default_within records (suc depth)) ts
same_defaults records depth each [] h = refl
same_defaults records depth each (t ∷ ts) h =
    let p = and_parts _ _ h in ap₂ ◌∷◌ (each t p.0) (same_defaults records depth each ts p.1)

-- one more record inside another changes no default that ends
default_within_more : (records : Records) (depth : ℕ) (t : ValueType) → option_map_or (ends_within records depth) (named_record t) true ≡ true → default_within records depth t ≡ default_within records (suc depth) t
default_within_more records depth unit_type h = refl
default_within_more records depth number_type h = refl
default_within_more records depth truth_type h = refl
default_within_more records depth (sequence_type t) h = refl
default_within_more records zero (record_type n) h = absurd (false≢true h)
default_within_more records (suc depth) (record_type n) h =
    ap (λ vs. record_value n (values_of vs)) (same_defaults records depth (default_within_more records depth) (fields records n) h)

at_depth : (records : Records) (n depth : ℕ) → ends_within records depth n ≡ true → default_within records depth (record_type n) ≡ record_value n (values_of (map (default_within records depth) (fields records n)))
at_depth records n zero h = absurd (false≢true h)
at_depth records n (suc depth) h =
    ap (λ vs. record_value n (values_of vs)) (same_defaults records depth (default_within_more records depth) (fields records n) h)

past_all : (records : Records) (n depth : ℕ) → fields records n ≡ [] → default_within records depth (record_type n) ≡ record_value n (values_of (map (default_within records depth) (fields records n)))
past_all records n zero e = rw e refl
past_all records n (suc depth) e = rw e refl

pub default-record : (records : Records) → AreWellFormed records → (n : ℕ) → default records (record_type n) ≡ record_value n (values_of (map (default records) (fields records n)))
default-record records fine n = ⊎_elim
    (λ h. at_depth records n (length records) (fine.finite n h))
    (λ h. past_all records n (length records) (get_or_past records n [] h))
    (cases_lt n (length records))

-- ---- no record holds itself

field_ends : (records : Records) (depth n : ℕ) (ts : List ValueType) (k : ℕ) → list_all (λ t. option_map_or (ends_within records depth) (named_record t) true) ts ≡ true → k < length ts → named_record (get_or ts k unit_type) ≡ Some n → ends_within records depth n ≡ true
field_ends records depth n [] k h l e = absurd (omega arith)
field_ends records depth n (t ∷ ts) zero h l e =
    let p = and_parts _ _ h in subst (λ o. option_map_or (ends_within records depth) o true ≡ true) e p.0
field_ends records depth n (t ∷ ts) (suc k) h l e =
    let p = and_parts _ _ h in field_ends records depth n ts k p.1 (omega arith) e

held_ends : (records : Records) (depth m n : ℕ) → ends_within records depth m ≡ true → Holds records m n → (less : ℕ) × (less < depth) × (ends_within records less n ≡ true)
held_ends records zero m n h k = absurd (false≢true h)
held_ends records (suc depth) m n h k = (depth, omega arith, field_ends records depth n (fields records m) k.place h k.there k.names)

inside_ends : (records : Records) (depth m n : ℕ) → ends_within records depth m ≡ true → HoldsInside records m n → (less : ℕ) × (less < depth) × (ends_within records less n ≡ true)
inside_ends records depth m n h (directly k) = held_ends records depth m n h k
inside_ends records depth m n h (through {middle = l} k rest) =
    let first = held_ends records depth m l h k in
    let next = inside_ends records first.0 l n first.2 rest in
    (next.0, omega (arith, first.1, next.1), next.2)

no_cycle : (records : Records) (bound depth n : ℕ) → depth < bound → ends_within records depth n ≡ true → HoldsInside records n n → ⊥
no_cycle records zero depth n below h k = absurd (omega arith)
no_cycle records (suc bound) depth n below h k =
    let less = inside_ends records depth n n h k in
    no_cycle records bound less.0 n (omega (arith, less.1)) less.2 k

pub holds_not_itself : (records : Records) → AreWellFormed records → (n : ℕ) → n < length records → HoldsInside records n n → ⊥
holds_not_itself records fine n l k = no_cycle records (suc (length records)) (length records) n (omega arith) (fine.finite n l) k
