-- What holds of values and trees, as one statement each.
use Rattle.std.specs.Prelude.{◌≡◌, ◌≢◌, ◌↔◌, ◌⊎◌, ◌<◌, ◌+◌, ℕ, ℤ, pos, ◌+ℤ◌, ◌*ℤ◌, ◌≤ℤ◌, ◌<ℤ◌, unsigned_abs, Bool, true, length, get_or, map, Some}
use Rattle.std.specs.List.{list_all, list_any}
use Rattle.slang_values.specs.Number.{quotient, remainder, numbers_between}
use Rattle.slang_values.specs.Value.{ValueType, unit_type, record_type, Records, fields, named_record, AreWellFormed, Value, sequence, record_value, Values, values_of, count, default, read, updated, appended, size_of, same_value, HasType}
use Rattle.slang_values.specs.Tree.{Tree, Bounds, value}
use Rattle.slang_values.specs.Typing.{NameTypes, IsTyped, FitNames, IsClosed}

-- ---- whole numbers

-- Division rounds toward zero: the remainder is smaller than the divisor and has the dividend's sign. By 0 both are 0.
pub record IsDivision (a d : ℤ) : Type 0 where
  pub whole : d ≢ pos 0 → a ≡ (quotient a d *ℤ d) +ℤ remainder a d
  pub small : d ≢ pos 0 → unsigned_abs (remainder a d) < unsigned_abs d
  pub not_negative : pos 0 ≤ℤ a → pos 0 ≤ℤ remainder a d
  pub not_positive : a ≤ℤ pos 0 → remainder a d ≤ℤ pos 0
  pub by_zero : d ≡ pos 0 → (quotient a d ≡ pos 0) × (remainder a d ≡ pos 0)

-- A test holds of all the numbers of a range exactly where it holds of each from low on that is below high.
pub record IsRange (low high : ℤ) : Type 0 where
  pub all : (test : ℤ → Bool) →
      (list_all test (numbers_between low high) ≡ true) ↔ ((k : ℤ) → low ≤ℤ k → k <ℤ high → test k ≡ true)
  pub some : (test : ℤ → Bool) →
      (list_any test (numbers_between low high) ≡ true) ↔ ((k : ℤ) × (low ≤ℤ k) × (k <ℤ high) × (test k ≡ true))

-- ---- values

abbrev pub EqualityIsExact : Type 0
EqualityIsExact = (v w : Value) → (same_value v w ≡ true) ↔ (v ≡ w)

-- the place is not one of the sequence's
abbrev pub IsOutside : Values → ℤ → Type 0
IsOutside vs i = (i <ℤ pos 0) ⊎ (pos (count vs) ≤ℤ i)

-- What reads, updates and appends do to a sequence of elements of type t, in range and out of range.
pub record IsSequence (records : Records) (t : ValueType) (vs : Values) : Type 0 where
  pub read_outside : (j : ℤ) → IsOutside vs j → read records (sequence t vs) j ≡ default records t
  pub updated_outside : (i : ℤ) (x : Value) → IsOutside vs i → updated (sequence t vs) i x ≡ sequence t vs
  pub read-updated_same : (i : ℤ) (x : Value) → pos 0 ≤ℤ i → i <ℤ pos (count vs) → read records (updated (sequence t vs) i x) i ≡ x
  pub read-updated_other : (i j : ℤ) (x : Value) → i ≢ j →
      read records (updated (sequence t vs) i x) j ≡ read records (sequence t vs) j
  pub size-updated : (i : ℤ) (x : Value) → size_of (updated (sequence t vs) i x) ≡ size_of (sequence t vs)
  pub read-appended_last : (x : Value) → read records (appended (sequence t vs) x) (pos (size_of (sequence t vs))) ≡ x
  pub read-appended_other : (j : ℤ) (x : Value) → j ≢ pos (size_of (sequence t vs)) →
      read records (appended (sequence t vs) x) j ≡ read records (sequence t vs) j
  pub size-appended : (x : Value) → size_of (appended (sequence t vs) x) ≡ size_of (sequence t vs) + 1

-- ---- records

-- a field of record m is of record n, or of sequences of it
pub record Holds (records : Records) (m n : ℕ) : Type 0 where
  pub place : ℕ
  pub there : place < length (fields records m)
  pub names : named_record (get_or (fields records m) place unit_type) ≡ Some n

-- the same, or through other records
pub data HoldsInside (records : Records) : ℕ → ℕ → Type 0 where
  directly : {m n : ℕ} → Holds records m n → HoldsInside records m n
  through : {m middle n : ℕ} → Holds records m middle → HoldsInside records middle n → HoldsInside records m n

pub record HaveDefaults (records : Records) : Type 0 where
  pub holds_not_itself : (n : ℕ) → n < length records → HoldsInside records n n → ⊥
  pub default-record : (n : ℕ) →
      default records (record_type n) ≡ record_value n (values_of (map (default records) (fields records n)))
  pub default_has_type : (t : ValueType) → HasType records (default records t) t

-- ---- trees

-- Over well-formed records, where each name has a value of its type, the value of a well-typed tree has the tree's type.
abbrev pub ValuesHaveTheirTypes : Type 0 → Type 0
ValuesHaveTheirTypes A =
    (records : Records) → AreWellFormed records → (types : NameTypes A) (names : A → Value) → FitNames records types names →
    (t : Tree A) (s : ValueType) (e : Bounds) → IsTyped records types t s → HasType records (value records names e t) s

-- The value of a tree without loose bound variables beyond n depends on the first n bound variables alone.
abbrev pub ClosedTreesIgnoreBounds : Type 0 → Type 0
ClosedTreesIgnoreBounds A =
    (records : Records) (names : A → Value) (t : Tree A) (n : ℕ) (e f : Bounds) → IsClosed n t →
    ((m : ℕ) → m < n → e m ≡ f m) → value records names e t ≡ value records names f t
