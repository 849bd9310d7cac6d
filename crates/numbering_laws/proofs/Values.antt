-- Values with other numbers for their records: what the operators do to them is the same.
use Rattle.std.proofs.Common.{◌≡◌, ℕ, zero, suc, ℤ, pos, negsuc, Bool, List, [], ◌∷◌, map, refl, sym, ap, ap₂, ◌∙◌, subst}
use Rattle.std.specs.List.{AllByRecursion}
use Rattle.slang_values.specs.Value.{ValueType, unit_type, number_type, truth_type, sequence_type, record_type, Records, fields, Value, unit, number, truth, sequence, record_value, Values, no_values, value_then, number_of, truth_of, count, value_at, with_value_at, with_value_last, default, read, updated, appended, size_of, field_of, same_value, HasType, EachHasType, HaveTypes}
use Rattle.slang_values.specs.Tree.{unary_value, binary_value}
use Rattle.slang_values.specs.declared.operators.Unary.{Unary}
use Rattle.slang_values.specs.declared.operators.Binary.{Binary}
use Rattle.slang_values.proofs.Equality.{same_value-true, same_value-equal}
use Rattle.leg_rules.specs.Numbering.{renumbered_type}
use Rattle.numbering_laws.proofs.Places.{same_bool}

abbrev mutual
  pub renumbered_value : (ℕ → ℕ) → Value → Value
  renumbered_value f unit = unit
  renumbered_value f (number z) = number z
  renumbered_value f (truth b) = truth b
  renumbered_value f (sequence t vs) = sequence (renumbered_type f t) (renumbered_values f vs)
  renumbered_value f (record_value n vs) = record_value (f n) (renumbered_values f vs)

  pub renumbered_values : (ℕ → ℕ) → Values → Values
  renumbered_values f no_values = no_values
  renumbered_values f (value_then v vs) = value_then (renumbered_value f v) (renumbered_values f vs)

-- each record that the type names is so
abbrev pub TypeIn : (ℕ → Type 0) → ValueType → Type 0
TypeIn S unit_type = Unit {0}
TypeIn S number_type = Unit {0}
TypeIn S truth_type = Unit {0}
TypeIn S (sequence_type t) = TypeIn S t
TypeIn S (record_type n) = S n

abbrev mutual
  -- each record in the value is so
  pub ValueIn : (ℕ → Type 0) → Value → Type 0
  ValueIn S unit = Unit {0}
  ValueIn S (number z) = Unit {0}
  ValueIn S (truth b) = Unit {0}
  ValueIn S (sequence t vs) = TypeIn S t × ValuesIn S vs
  ValueIn S (record_value n vs) = S n × ValuesIn S vs

  pub ValuesIn : (ℕ → Type 0) → Values → Type 0
  ValuesIn S no_values = Unit {0}
  ValuesIn S (value_then v vs) = ValueIn S v × ValuesIn S vs

-- ---- reading a value by its form

pub number_of-renumbered : (f : ℕ → ℕ) (v : Value) → number_of (renumbered_value f v) ≡ number_of v
number_of-renumbered f unit = refl
number_of-renumbered f (number z) = refl
number_of-renumbered f (truth b) = refl
number_of-renumbered f (sequence t vs) = refl
number_of-renumbered f (record_value n vs) = refl

pub truth_of-renumbered : (f : ℕ → ℕ) (v : Value) → truth_of (renumbered_value f v) ≡ truth_of v
truth_of-renumbered f unit = refl
truth_of-renumbered f (number z) = refl
truth_of-renumbered f (truth b) = refl
truth_of-renumbered f (sequence t vs) = refl
truth_of-renumbered f (record_value n vs) = refl

count-renumbered : (f : ℕ → ℕ) (vs : Values) → count (renumbered_values f vs) ≡ count vs
count-renumbered f no_values = refl
count-renumbered f (value_then v vs) = ap suc (count-renumbered f vs)

size_of-renumbered : (f : ℕ → ℕ) (v : Value) → size_of (renumbered_value f v) ≡ size_of v
size_of-renumbered f unit = refl
size_of-renumbered f (number z) = refl
size_of-renumbered f (truth b) = refl
size_of-renumbered f (sequence t vs) = count-renumbered f vs
size_of-renumbered f (record_value n vs) = refl

value_at-renumbered : (f : ℕ → ℕ) (vs : Values) (k : ℕ) (past : Value) → value_at (renumbered_values f vs) k (renumbered_value f past)
    ≡ renumbered_value f (value_at vs k past)
value_at-renumbered f no_values k past = refl
value_at-renumbered f (value_then v vs) zero past = refl
value_at-renumbered f (value_then v vs) (suc k) past = value_at-renumbered f vs k past

field_of-renumbered : (f : ℕ → ℕ) (k : ℕ) (v : Value) → field_of k (renumbered_value f v) ≡ renumbered_value f (field_of k v)
field_of-renumbered f k unit = refl
field_of-renumbered f k (number z) = refl
field_of-renumbered f k (truth b) = refl
field_of-renumbered f k (sequence t vs) = refl
field_of-renumbered f k (record_value n vs) = value_at-renumbered f vs k unit

with_value_at-renumbered : (f : ℕ → ℕ) (vs : Values) (k : ℕ) (x : Value) → with_value_at (renumbered_values f vs) k (renumbered_value f x)
    ≡ renumbered_values f (with_value_at vs k x)
with_value_at-renumbered f no_values k x = refl
with_value_at-renumbered f (value_then v vs) zero x = refl
with_value_at-renumbered f (value_then v vs) (suc k) x = ap (value_then (renumbered_value f v)) (with_value_at-renumbered f vs k x)

pub updated-renumbered : (f : ℕ → ℕ) (v : Value) (i : ℤ) (x : Value) → updated (renumbered_value f v) i (renumbered_value f x)
    ≡ renumbered_value f (updated v i x)
updated-renumbered f unit i x = refl
updated-renumbered f (number z) i x = refl
updated-renumbered f (truth b) i x = refl
updated-renumbered f (sequence t vs) (pos k) x = ap (sequence (renumbered_type f t)) (with_value_at-renumbered f vs k x)
updated-renumbered f (sequence t vs) (negsuc k) x = refl
updated-renumbered f (record_value n vs) i x = refl

with_value_last-renumbered : (f : ℕ → ℕ) (vs : Values) (x : Value) → with_value_last (renumbered_values f vs) (renumbered_value f x)
    ≡ renumbered_values f (with_value_last vs x)
with_value_last-renumbered f no_values x = refl
with_value_last-renumbered f (value_then v vs) x = ap (value_then (renumbered_value f v)) (with_value_last-renumbered f vs x)

appended-renumbered : (f : ℕ → ℕ) (v x : Value) → appended (renumbered_value f v) (renumbered_value f x) ≡ renumbered_value f (appended v x)
appended-renumbered f unit x = refl
appended-renumbered f (number z) x = refl
appended-renumbered f (truth b) x = refl
appended-renumbered f (sequence t vs) x = ap (sequence (renumbered_type f t)) (with_value_last-renumbered f vs x)
appended-renumbered f (record_value n vs) x = refl

-- ---- the records of what the operators make

module _ (S : ℕ → Type 0) where
  value_at-in : (vs : Values) (k : ℕ) (past : Value) → ValuesIn S vs → ValueIn S past → ValueIn S (value_at vs k past)
  value_at-in no_values k past h p = p
  value_at-in (value_then v vs) zero past h p = h.0
  value_at-in (value_then v vs) (suc k) past h p = value_at-in vs k past h.1 p

  field_of-in : (k : ℕ) (v : Value) → ValueIn S v → ValueIn S (field_of k v)
  field_of-in k unit h = tt
  field_of-in k (number z) h = tt
  field_of-in k (truth b) h = tt
  field_of-in k (sequence t vs) h = tt
  field_of-in k (record_value n vs) h = value_at-in vs k unit h.1 tt

  with_value_at-in : (vs : Values) (k : ℕ) (x : Value) → ValuesIn S vs → ValueIn S x → ValuesIn S (with_value_at vs k x)
  with_value_at-in no_values k x h p = tt
  with_value_at-in (value_then v vs) zero x h p = (p, h.1)
  with_value_at-in (value_then v vs) (suc k) x h p = (h.0, with_value_at-in vs k x h.1 p)

  pub updated-in : (v : Value) (i : ℤ) (x : Value) → ValueIn S v → ValueIn S x → ValueIn S (updated v i x)
  updated-in unit i x h p = tt
  updated-in (number z) i x h p = tt
  updated-in (truth b) i x h p = tt
  updated-in (sequence t vs) (pos k) x h p = (h.0, with_value_at-in vs k x h.1 p)
  updated-in (sequence t vs) (negsuc k) x h p = h
  updated-in (record_value n vs) i x h p = tt

  with_value_last-in : (vs : Values) (x : Value) → ValuesIn S vs → ValueIn S x → ValuesIn S (with_value_last vs x)
  with_value_last-in no_values x h p = (p, tt)
  with_value_last-in (value_then v vs) x h p = (h.0, with_value_last-in vs x h.1 p)

  appended-in : (v x : Value) → ValueIn S v → ValueIn S x → ValueIn S (appended v x)
  appended-in unit x h p = tt
  appended-in (number z) x h p = tt
  appended-in (truth b) x h p = tt
  appended-in (sequence t vs) x h p = (h.0, with_value_last-in vs x h.1 p)
  appended-in (record_value n vs) x h p = tt

-- ---- back to the numbers before

module _ (S : ℕ → Type 0) (f g : ℕ → ℕ) (back : (n : ℕ) → S n → g (f n) ≡ n) where
  type_back : (t : ValueType) → TypeIn S t → renumbered_type g (renumbered_type f t) ≡ t
  type_back unit_type h = refl
  type_back number_type h = refl
  type_back truth_type h = refl
  type_back (sequence_type t) h = ap sequence_type (type_back t h)
  type_back (record_type n) h = ap record_type (back n h)

  mutual
    value_back : (v : Value) → ValueIn S v → renumbered_value g (renumbered_value f v) ≡ v
    value_back unit h = refl
    value_back (number z) h = refl
    value_back (truth b) h = refl
    value_back (sequence t vs) h = ap₂ sequence (type_back t h.0) (values_back vs h.1)
    value_back (record_value n vs) h = ap₂ record_value (back n h.0) (values_back vs h.1)

    values_back : (vs : Values) → ValuesIn S vs → renumbered_values g (renumbered_values f vs) ≡ vs
    values_back no_values h = refl
    values_back (value_then v vs) h = ap₂ value_then (value_back v h.0) (values_back vs h.1)

  same_value-renumbered : (v w : Value) → ValueIn S v → ValueIn S w → same_value (renumbered_value f v) (renumbered_value f w) ≡ same_value v w
  same_value-renumbered v w h k = same_bool _ _
      (λ e. same_value-equal v w (sym (value_back v h) ∙ (ap (renumbered_value g) (same_value-true _ _ e) ∙ value_back w k)))
      (λ e. same_value-equal _ _ (ap (renumbered_value f) (same_value-true v w e)))

-- ---- values of a type

module _ (records : Records) (S : ℕ → Type 0) (members : (n : ℕ) → S n → AllByRecursion (TypeIn S) (fields records n)) where
  mutual
    pub typed-in : (v : Value) (t : ValueType) → HasType records v t → TypeIn S t → ValueIn S v
    typed-in unit t h k = tt
    typed-in (number z) t h k = tt
    typed-in (truth b) t h k = tt
    typed-in (sequence s vs) t h k = let at = subst (TypeIn S) h.0 k in (at, each-in vs s h.1 at)
    typed-in (record_value n vs) t h k = let at = subst (TypeIn S) h.0 k in (at, have-in vs (fields records n) h.1 (members n at))

    each-in : (vs : Values) (t : ValueType) → EachHasType records vs t → TypeIn S t → ValuesIn S vs
    each-in no_values t h k = tt
    each-in (value_then v vs) t h k = (typed-in v t h.0 k, each-in vs t h.1 k)

    have-in : (vs : Values) (ts : List ValueType) → HaveTypes records vs ts → AllByRecursion (TypeIn S) ts → ValuesIn S vs
    have-in no_values ts h k = tt
    have-in (value_then v vs) [] h k = absurd h
    have-in (value_then v vs) (t ∷ ts) h k = (typed-in v t h.0 k.0, have-in vs ts h.1 k.1)

-- ---- over the records under their new numbers

-- What numbers of records keep: the members have these fields under their new numbers, and the fields of members name members.
pub record AreRenumbered (records new_records : Records) (S : ℕ → Type 0) (f g : ℕ → ℕ) : Type 0 where
  pub back : (n : ℕ) → S n → g (f n) ≡ n
  pub members : (n : ℕ) → S n → AllByRecursion (TypeIn S) (fields records n)
  pub fields_are : (n : ℕ) → S n → fields new_records (f n) ≡ map (renumbered_type f) (fields records n)
  pub defaults_in : (t : ValueType) → TypeIn S t → ValueIn S (default records t)
  pub defaults : (t : ValueType) → TypeIn S t → default new_records (renumbered_type f t) ≡ renumbered_value f (default records t)

module _ (records new_records : Records) (S : ℕ → Type 0) (f g : ℕ → ℕ) (are : AreRenumbered records new_records S f g) where
  read-renumbered : (v : Value) (i : ℤ) → ValueIn S v → read new_records (renumbered_value f v) i ≡ renumbered_value f (read records v i)
  read-renumbered unit i h = refl
  read-renumbered (number z) i h = refl
  read-renumbered (truth b) i h = refl
  read-renumbered (sequence t vs) (pos k) h =
      ap (value_at (renumbered_values f vs) k) (are.defaults t h.0) ∙ value_at-renumbered f vs k (default records t)
  read-renumbered (sequence t vs) (negsuc k) h = are.defaults t h.0
  read-renumbered (record_value n vs) i h = refl

  read-in : (v : Value) (i : ℤ) → ValueIn S v → ValueIn S (read records v i)
  read-in unit i h = tt
  read-in (number z) i h = tt
  read-in (truth b) i h = tt
  read-in (sequence t vs) (pos k) h = value_at-in S vs k (default records t) h.1 (are.defaults_in t h.0)
  read-in (sequence t vs) (negsuc k) h = are.defaults_in t h.0
  read-in (record_value n vs) i h = tt

  pub unary-in : (op : Unary) (v : Value) → ValueIn S v → ValueIn S (unary_value op v)
  unary-in Unary.Neg v h = tt
  unary-in Unary.Not v h = tt
  unary-in Unary.Size v h = tt
  unary-in (Unary.Field k) v h = field_of-in S k v h

  pub binary-in : (op : Binary) (v w : Value) → ValueIn S v → ValueIn S w → ValueIn S (binary_value records op v w)
  binary-in Binary.Add v w h k = tt
  binary-in Binary.Sub v w h k = tt
  binary-in Binary.Mul v w h k = tt
  binary-in Binary.Div v w h k = tt
  binary-in Binary.Rem v w h k = tt
  binary-in Binary.And v w h k = tt
  binary-in Binary.Or v w h k = tt
  binary-in Binary.Imply v w h k = tt
  binary-in Binary.Eq v w h k = tt
  binary-in Binary.Lt v w h k = tt
  binary-in Binary.Le v w h k = tt
  binary-in Binary.Read v w h k = read-in v (number_of w) h
  binary-in Binary.Append v w h k = appended-in S v w h k

  pub unary-renumbered : (op : Unary) (v : Value) → unary_value op (renumbered_value f v) ≡ renumbered_value f (unary_value op v)
  unary-renumbered Unary.Neg v = ap (λ z. unary_value Unary.Neg (number z)) (number_of-renumbered f v)
  unary-renumbered Unary.Not v = ap (λ b. unary_value Unary.Not (truth b)) (truth_of-renumbered f v)
  unary-renumbered Unary.Size v = ap (λ n. number (pos n)) (size_of-renumbered f v)
  unary-renumbered (Unary.Field k) v = field_of-renumbered f k v

  by_numbers : (make : ℤ → ℤ → Value) (v w : Value) → make (number_of (renumbered_value f v)) (number_of (renumbered_value f w)) ≡ make (number_of v)
      (number_of w)
  by_numbers make v w = ap₂ make (number_of-renumbered f v) (number_of-renumbered f w)

  by_truths : (make : Bool → Bool → Value) (v w : Value) → make (truth_of (renumbered_value f v)) (truth_of (renumbered_value f w)) ≡ make (truth_of v)
      (truth_of w)
  by_truths make v w = ap₂ make (truth_of-renumbered f v) (truth_of-renumbered f w)

  pub binary-renumbered : (op : Binary) (v w : Value) → ValueIn S v → ValueIn S w → binary_value new_records op (renumbered_value f v)
      (renumbered_value f w)
      ≡ renumbered_value f (binary_value records op v w)
  binary-renumbered Binary.Add v w h k = by_numbers (λ y z. binary_value records Binary.Add (number y) (number z)) v w
  binary-renumbered Binary.Sub v w h k = by_numbers (λ y z. binary_value records Binary.Sub (number y) (number z)) v w
  binary-renumbered Binary.Mul v w h k = by_numbers (λ y z. binary_value records Binary.Mul (number y) (number z)) v w
  binary-renumbered Binary.Div v w h k = by_numbers (λ y z. binary_value records Binary.Div (number y) (number z)) v w
  binary-renumbered Binary.Rem v w h k = by_numbers (λ y z. binary_value records Binary.Rem (number y) (number z)) v w
  binary-renumbered Binary.And v w h k = by_truths (λ a b. binary_value records Binary.And (truth a) (truth b)) v w
  binary-renumbered Binary.Or v w h k = by_truths (λ a b. binary_value records Binary.Or (truth a) (truth b)) v w
  binary-renumbered Binary.Imply v w h k = by_truths (λ a b. binary_value records Binary.Imply (truth a) (truth b)) v w
  binary-renumbered Binary.Eq v w h k = ap truth (same_value-renumbered S f g are.back v w h k)
  binary-renumbered Binary.Lt v w h k = by_numbers (λ y z. binary_value records Binary.Lt (number y) (number z)) v w
  binary-renumbered Binary.Le v w h k = by_numbers (λ y z. binary_value records Binary.Le (number y) (number z)) v w
  binary-renumbered Binary.Read v w h k =
      ap (read new_records (renumbered_value f v)) (number_of-renumbered f w) ∙ read-renumbered v (number_of w) h
  binary-renumbered Binary.Append v w h k = appended-renumbered f v w

  -- ---- types

  mutual
    pub typed-renumbered : (v : Value) (t : ValueType) → HasType records v t → TypeIn S t → HasType new_records (renumbered_value f v) (renumbered_type f t)
    typed-renumbered unit t h k = ap (renumbered_type f) h
    typed-renumbered (number z) t h k = ap (renumbered_type f) h
    typed-renumbered (truth b) t h k = ap (renumbered_type f) h
    typed-renumbered (sequence s vs) t h k = (ap (renumbered_type f) h.0, each-renumbered vs s h.1 (subst (TypeIn S) h.0 k))
    typed-renumbered (record_value n vs) t h k =
        let at = subst (TypeIn S) h.0 k in (
          ap (renumbered_type f) h.0,
          subst (HaveTypes new_records (renumbered_values f vs)) (sym (are.fields_are n at))
              (have-renumbered vs (fields records n) h.1 (are.members n at)),
        )

    each-renumbered : (vs : Values) (t : ValueType) → EachHasType records vs t → TypeIn S t → EachHasType new_records (renumbered_values f vs)
        (renumbered_type f t)
    each-renumbered no_values t h k = tt
    each-renumbered (value_then v vs) t h k = (typed-renumbered v t h.0 k, each-renumbered vs t h.1 k)

    have-renumbered : (vs : Values) (ts : List ValueType) → HaveTypes records vs ts → AllByRecursion (TypeIn S) ts → HaveTypes new_records
        (renumbered_values f vs) (map (renumbered_type f) ts)
    have-renumbered no_values [] h k = tt
    have-renumbered no_values (t ∷ ts) h k = absurd h
    have-renumbered (value_then v vs) [] h k = absurd h
    have-renumbered (value_then v vs) (t ∷ ts) h k = (typed-renumbered v t h.0 k.0, have-renumbered vs ts h.1 k.1)
