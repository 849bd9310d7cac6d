-- Reads, updates and appends.
use Rattle.std.proofs.Common.{◌≡◌, ◌≢◌, ℕ, zero, suc, ◌<◌, ◌≤◌, ℤ, pos, negsuc, ◌≤ℤ◌, ◌<ℤ◌, ◌⊎◌, refl, ap, arith, ⊎_elim}
use Rattle.std.proofs.lemmas.Int.{ints}
use Rattle.slang_values.specs.Value.{ValueType, Records, Value, sequence, Values, no_values, value_then, count, value_at, with_value_at, with_value_last, default, read, updated, appended, size_of}

count-with_value_at : (vs : Values) (n : ℕ) (x : Value) → count (with_value_at vs n x) ≡ count vs
count-with_value_at no_values n x = refl
count-with_value_at (value_then v vs) zero x = refl
count-with_value_at (value_then v vs) (suc n) x = ap suc (count-with_value_at vs n x)

count-with_value_last : (vs : Values) (x : Value) → count (with_value_last vs x) ≡ suc (count vs)
count-with_value_last no_values x = refl
count-with_value_last (value_then v vs) x = ap suc (count-with_value_last vs x)

value_at_past : (vs : Values) (n : ℕ) (d : Value) → count vs ≤ n → value_at vs n d ≡ d
value_at_past no_values n d h = refl
value_at_past (value_then v vs) zero d h = absurd (omega arith)
value_at_past (value_then v vs) (suc n) d h = value_at_past vs n d (omega arith)

value_at-with_same : (vs : Values) (n : ℕ) (x d : Value) → n < count vs → value_at (with_value_at vs n x) n d ≡ x
value_at-with_same no_values n x d h = absurd (omega arith)
value_at-with_same (value_then v vs) zero x d h = refl
value_at-with_same (value_then v vs) (suc n) x d h = value_at-with_same vs n x d (omega arith)

value_at-with_other : (vs : Values) (m n : ℕ) (x d : Value) → (m ≡ n → ⊥) → value_at (with_value_at vs m x) n d ≡ value_at vs n d
value_at-with_other no_values m n x d h = refl
value_at-with_other (value_then v vs) zero zero x d h = absurd (h refl)
value_at-with_other (value_then v vs) zero (suc n) x d h = refl
value_at-with_other (value_then v vs) (suc m) zero x d h = refl
value_at-with_other (value_then v vs) (suc m) (suc n) x d h = value_at-with_other vs m n x d (λ e. h (ap suc e))

with_value_at_past : (vs : Values) (n : ℕ) (x : Value) → count vs ≤ n → with_value_at vs n x ≡ vs
with_value_at_past no_values n x h = refl
with_value_at_past (value_then v vs) zero x h = absurd (omega arith)
with_value_at_past (value_then v vs) (suc n) x h = ap (value_then v) (with_value_at_past vs n x (omega arith))

value_at-with_last : (vs : Values) (x d : Value) → value_at (with_value_last vs x) (count vs) d ≡ x
value_at-with_last no_values x d = refl
value_at-with_last (value_then v vs) x d = value_at-with_last vs x d

value_at-before_last : (vs : Values) (n : ℕ) (x d : Value) → (n ≡ count vs → ⊥) → value_at (with_value_last vs x) n d ≡ value_at vs n d
value_at-before_last no_values zero x d h = absurd (h refl)
value_at-before_last no_values (suc n) x d h = refl
value_at-before_last (value_then v vs) zero x d h = refl
value_at-before_last (value_then v vs) (suc n) x d h = value_at-before_last vs n x d (λ e. h (ap suc e))

module _ (records : Records) (t : ValueType) (vs : Values) where
  pub read_outside : (j : ℤ) → (j <ℤ pos 0) ⊎ (pos (count vs) ≤ℤ j) → read records (sequence t vs) j ≡ default records t
  read_outside (pos n) h = value_at_past vs n (default records t) (⊎_elim (λ l. absurd (omega (arith, ints, l))) (λ r. omega (arith, ints, r)) h)
  read_outside (negsuc n) h = refl

  pub updated_outside : (i : ℤ) (x : Value) → (i <ℤ pos 0) ⊎ (pos (count vs) ≤ℤ i) → updated (sequence t vs) i x ≡ sequence t vs
  updated_outside (pos n) x h = ap (sequence t) (with_value_at_past vs n x (⊎_elim (λ l. absurd (omega (arith, ints, l))) (λ r. omega (arith, ints, r)) h))
  updated_outside (negsuc n) x h = refl

  pub read-updated_same : (i : ℤ) (x : Value) → pos 0 ≤ℤ i → i <ℤ pos (count vs) → read records (updated (sequence t vs) i x) i ≡ x
  read-updated_same (pos n) x h k = value_at-with_same vs n x (default records t) (omega (arith, ints))
  read-updated_same (negsuc n) x h k = absurd (omega (arith, ints))

  pub read-updated_other : (i j : ℤ) (x : Value) → i ≢ j → read records (updated (sequence t vs) i x) j ≡ read records (sequence t vs) j
  read-updated_other (pos m) (pos n) x h = value_at-with_other vs m n x (default records t) (λ e. h (ap pos e))
  read-updated_other (pos m) (negsuc n) x h = refl
  read-updated_other (negsuc m) j x h = refl

  pub size-updated : (i : ℤ) (x : Value) → size_of (updated (sequence t vs) i x) ≡ count vs
  size-updated (pos n) x = count-with_value_at vs n x
  size-updated (negsuc n) x = refl

  pub read-appended_last : (x : Value) → read records (appended (sequence t vs) x) (pos (count vs)) ≡ x
  read-appended_last x = value_at-with_last vs x (default records t)

  pub read-appended_other : (j : ℤ) (x : Value) → j ≢ pos (count vs) → read records (appended (sequence t vs) x) j ≡ read records (sequence t vs) j
  read-appended_other (pos n) x h = value_at-before_last vs n x (default records t) (λ e. h (ap pos e))
  read-appended_other (negsuc n) x h = refl

  pub size-appended : (x : Value) → size_of (appended (sequence t vs) x) ≡ suc (count vs)
  size-appended x = count-with_value_last vs x
