-- The value of a well-typed tree has the tree's type.
use Rattle.std.proofs.Common.{◌≡◌, ℕ, zero, suc, ◌<◌, ◌≤◌, ℤ, pos, negsuc, List, [], ◌∷◌, map, length, get_or, true, refl, sym, subst, arith, le_of_suc-le-suc}
use Rattle.std.specs.Option.{option_map_or}
use Rattle.std.specs.List.{list_all}
use Rattle.std.proofs.lemmas.Bool.{false≢true, and_parts}
use Rattle.std.proofs.Common.{⊎_elim}
use Rattle.std.proofs.lemmas.Bool.{cases_lt}
use Rattle.std.proofs.lemmas.List.{get_or_past}
use Rattle.slang_values.specs.Tree.{Tree, literal, truth_literal, name, bound, unary, binary, update, quantified, listed, Trees, no_trees, tree_then, sequence_of, record_of, Bounds, value, values}
use Rattle.slang_values.specs.Typing.{NameTypes, type_of, IsFieldType, IsTyped, EachIsTyped, AreTyped, FitNames}
use Rattle.slang_values.specs.declared.operators.Unary.{Unary}
use Rattle.slang_values.specs.declared.operators.Binary.{Binary}
use Rattle.slang_values.specs.Value.{number_of, ValueType, unit_type, number_type, truth_type, sequence_type, record_type, Records, fields, named_record, ends_within, AreWellFormed, Value, unit, number, truth, sequence, record_value, Values, no_values, value_then, values_of, value_at, with_value_at, with_value_last, default_within, default, read, updated, appended, field_of, HasType, EachHasType, HaveTypes}

-- ---- defaults

HaveTypes-defaults : (records : Records) (depth : ℕ) → ((t : ValueType) → option_map_or (ends_within records depth) (named_record t) true ≡ true → HasType records (default_within records depth t) t) → (ts : List ValueType) → list_all (λ t. option_map_or (ends_within records depth) (named_record t) true) ts ≡ true → HaveTypes records (values_of (map (default_within records depth) ts)) ts
HaveTypes-defaults records depth each [] h = tt
HaveTypes-defaults records depth each (t ∷ ts) h =
    let p = and_parts _ _ h in
    (each t p.0, HaveTypes-defaults records depth each ts p.1)

HasType-default_within : (records : Records) (depth : ℕ) (t : ValueType) → option_map_or (ends_within records depth) (named_record t) true ≡ true → HasType records (default_within records depth t) t
HasType-default_within records depth unit_type h = refl
HasType-default_within records depth number_type h = refl
HasType-default_within records depth truth_type h = refl
HasType-default_within records depth (sequence_type t) h = (refl, tt)
HasType-default_within records zero (record_type n) h = absurd (false≢true h)
HasType-default_within records (suc depth) (record_type n) h =
    (refl, HaveTypes-defaults records depth (HasType-default_within records depth) (fields records n) h)

fields_past : (records : Records) (n : ℕ) → length records ≤ n → fields records n ≡ []
fields_past records n h = get_or_past records n [] h

HasType-default_past : (records : Records) (depth n : ℕ) → fields records n ≡ [] → HasType records (default_within records depth (record_type n)) (record_type n)
HasType-default_past records zero n e = (refl, rw e tt)
HasType-default_past records (suc depth) n e = (refl, rw e tt)

pub HasType-default : (records : Records) → AreWellFormed records → (t : ValueType) → HasType records (default records t) t
HasType-default records fine unit_type = refl
HasType-default records fine number_type = refl
HasType-default records fine truth_type = refl
HasType-default records fine (sequence_type t) = (refl, tt)
HasType-default records fine (record_type n) = ⊎_elim
    (λ h. HasType-default_within records (length records) (record_type n) (fine.finite n h))
    (λ h. HasType-default_past records (length records) n (fields_past records n h))
    (cases_lt n (length records))

-- ---- sequences and records

EachHasType-value_at : (records : Records) (vs : Values) (n : ℕ) (d : Value) (t : ValueType) → EachHasType records vs t → HasType records d t → HasType records (value_at vs n d) t
EachHasType-value_at records no_values n d t h k = k
EachHasType-value_at records (value_then v vs) zero d t h k = h.0
EachHasType-value_at records (value_then v vs) (suc n) d t h k = EachHasType-value_at records vs n d t h.1 k

EachHasType-with_value_at : (records : Records) (vs : Values) (n : ℕ) (x : Value) (t : ValueType) → EachHasType records vs t → HasType records x t → EachHasType records (with_value_at vs n x) t
EachHasType-with_value_at records no_values n x t h k = tt
EachHasType-with_value_at records (value_then v vs) zero x t h k = (k, h.1)
EachHasType-with_value_at records (value_then v vs) (suc n) x t h k = (h.0, EachHasType-with_value_at records vs n x t h.1 k)

EachHasType-with_value_last : (records : Records) (vs : Values) (x : Value) (t : ValueType) → EachHasType records vs t → HasType records x t → EachHasType records (with_value_last vs x) t
EachHasType-with_value_last records no_values x t h k = (k, tt)
EachHasType-with_value_last records (value_then v vs) x t h k = (h.0, EachHasType-with_value_last records vs x t h.1 k)

HaveTypes-value_at : (records : Records) (vs : Values) (ts : List ValueType) (k : ℕ) → HaveTypes records vs ts → k < length ts → HasType records (value_at vs k unit) (get_or ts k unit_type)
HaveTypes-value_at records no_values [] k h l = absurd (omega arith)
HaveTypes-value_at records no_values (t ∷ ts) k h l = absurd h
HaveTypes-value_at records (value_then v vs) [] k h l = absurd h
HaveTypes-value_at records (value_then v vs) (t ∷ ts) zero h l = h.0
HaveTypes-value_at records (value_then v vs) (t ∷ ts) (suc k) h l = HaveTypes-value_at records vs ts k h.1 (le_of_suc-le-suc l)

sequence_inj : {s t : ValueType} → sequence_type s ≡ sequence_type t → s ≡ t
sequence_inj e = cc

record_inj : {m n : ℕ} → record_type m ≡ record_type n → m ≡ n
record_inj e = cc

pub HasType-read : (records : Records) → AreWellFormed records → (v : Value) (i : ℤ) (t : ValueType) → HasType records v (sequence_type t) → HasType records (read records v i) t
HasType-read records fine unit i t h = absurd (cc)
HasType-read records fine (number z) i t h = absurd (cc)
HasType-read records fine (truth b) i t h = absurd (cc)
HasType-read records fine (sequence s vs) (pos n) t h =
    let each = subst (λ u. EachHasType records vs u) (sym (sequence_inj h.0)) h.1 in
    let past = subst (λ u. HasType records (default records u) t) (sequence_inj h.0) (HasType-default records fine t) in
    EachHasType-value_at records vs n (default records s) t each past
HasType-read records fine (sequence s vs) (negsuc n) t h =
    subst (λ u. HasType records (default records u) t) (sequence_inj h.0) (HasType-default records fine t)
HasType-read records fine (record_value n vs) i t h = absurd (let e = h.0 in cc)

pub HasType-updated : (records : Records) (v : Value) (i : ℤ) (x : Value) (t : ValueType) → HasType records v (sequence_type t) → HasType records x t → HasType records (updated v i x) (sequence_type t)
HasType-updated records unit i x t h k = h
HasType-updated records (number z) i x t h k = absurd (cc)
HasType-updated records (truth b) i x t h k = absurd (cc)
HasType-updated records (sequence s vs) (pos n) x t h k =
    (h.0, EachHasType-with_value_at records vs n x s h.1 (subst (λ u. HasType records x u) (sequence_inj h.0) k))
HasType-updated records (sequence s vs) (negsuc n) x t h k = h
HasType-updated records (record_value n vs) i x t h k = absurd (let e = h.0 in cc)

pub HasType-appended : (records : Records) (v : Value) (x : Value) (t : ValueType) → HasType records v (sequence_type t) → HasType records x t → HasType records (appended v x) (sequence_type t)
HasType-appended records unit x t h k = h
HasType-appended records (number z) x t h k = absurd (cc)
HasType-appended records (truth b) x t h k = absurd (cc)
HasType-appended records (sequence s vs) x t h k =
    (h.0, EachHasType-with_value_last records vs x s h.1 (subst (λ u. HasType records x u) (sequence_inj h.0) k))
HasType-appended records (record_value n vs) x t h k = absurd (let e = h.0 in cc)

pub HasType-field_of : (records : Records) (k : ℕ) (v : Value) (s t : ValueType) → IsFieldType records k s t → HasType records v s → HasType records (field_of k v) t
HasType-field_of records k v unit_type t f h = absurd f
HasType-field_of records k v number_type t f h = absurd f
HasType-field_of records k v truth_type t f h = absurd f
HasType-field_of records k v (sequence_type s) t f h = absurd f
HasType-field_of records k unit (record_type n) t f h = absurd (cc)
HasType-field_of records k (number z) (record_type n) t f h = absurd (cc)
HasType-field_of records k (truth b) (record_type n) t f h = absurd (cc)
HasType-field_of records k (sequence u vs) (record_type n) t f h = absurd (let e = h.0 in cc)
HasType-field_of records k (record_value m vs) (record_type n) t f h =
    let have = subst (λ r. HaveTypes records vs (fields records r)) (sym (record_inj h.0)) h.1 in
    rw f.1 (HaveTypes-value_at records vs (fields records n) k have f.0)

-- ---- trees

module _ {A : Type 0} (records : Records) (fine : AreWellFormed records) (types : NameTypes A) (names : A → Value) (fit : FitNames records types names) where
  mutual
    pub HasType-value : (t : Tree A) (s : ValueType) (e : Bounds) → IsTyped records types t s → HasType records (value records names e t) s
    HasType-value (literal z) s e h = h
    HasType-value (truth_literal b) s e h = h
    HasType-value (name a) s e h = fit a s h
    HasType-value (bound n) s e h = h
    HasType-value (unary Unary.Neg a) s e h = h.0
    HasType-value (unary Unary.Not a) s e h = h.0
    HasType-value (unary Unary.Size a) s e h = h.0
    HasType-value (unary (Unary.Field k) a) s e h =
        HasType-field_of records k (value records names e a) (type_of records types a) s h.0 (HasType-value a (type_of records types a) e h.1)
    HasType-value (binary Binary.Add a b) s e h = h.0
    HasType-value (binary Binary.Sub a b) s e h = h.0
    HasType-value (binary Binary.Mul a b) s e h = h.0
    HasType-value (binary Binary.Div a b) s e h = h.0
    HasType-value (binary Binary.Rem a b) s e h = h.0
    HasType-value (binary Binary.And a b) s e h = h.0
    HasType-value (binary Binary.Or a b) s e h = h.0
    HasType-value (binary Binary.Imply a b) s e h = h.0
    HasType-value (binary Binary.Eq a b) s e h = h.0
    HasType-value (binary Binary.Lt a b) s e h = h.0
    HasType-value (binary Binary.Le a b) s e h = h.0
    HasType-value (binary Binary.Read a i) s e h =
        HasType-read records fine (value records names e a) (number_of (value records names e i)) s (HasType-value a (sequence_type s) e h.0)
    HasType-value (binary Binary.Append a x) s e h =
        let t = type_of records types x in
        let on_sequence = subst (λ u. HasType records (value records names e a) u) h.0 (HasType-value a s e h.1) in
        subst (λ u. HasType records (appended (value records names e a) (value records names e x)) u) (sym h.0)
        (HasType-appended records (value records names e a) (value records names e x) t on_sequence (HasType-value x t e h.2))
    HasType-value (update a i x) s e h =
        let t = type_of records types x in
        let on_sequence = subst (λ u. HasType records (value records names e a) u) h.0 (HasType-value a s e h.1) in
        subst (λ u. HasType records (updated (value records names e a) (number_of (value records names e i)) (value records names e x)) u) (sym h.0)
        (HasType-updated records (value records names e a) (number_of (value records names e i)) (value records names e x) t on_sequence (HasType-value x t e h.3))
    HasType-value (quantified q low high body) s e h = h.0
    HasType-value (listed (sequence_of t) ts) s e h = (h.0, EachHasType-values ts t e h.2)
    HasType-value (listed (record_of n) ts) s e h = (h.0, HaveTypes-values ts (fields records n) e h.2)

    EachHasType-values : (ts : Trees A) (s : ValueType) (e : Bounds) → EachIsTyped records types ts s → EachHasType records (values records names e ts) s
    EachHasType-values no_trees s e h = tt
    EachHasType-values (tree_then t ts) s e h = (HasType-value t s e h.0, EachHasType-values ts s e h.1)

    HaveTypes-values : (ts : Trees A) (ss : List ValueType) (e : Bounds) → AreTyped records types ts ss → HaveTypes records (values records names e ts) ss
    HaveTypes-values no_trees [] e h = tt
    HaveTypes-values no_trees (s ∷ ss) e h = h
    HaveTypes-values (tree_then t ts) [] e h = h
    HaveTypes-values (tree_then t ts) (s ∷ ss) e h = (HasType-value t s e h.0, HaveTypes-values ts ss e h.1)
