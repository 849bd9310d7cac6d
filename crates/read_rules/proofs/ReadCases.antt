-- A read that depends on conditions is one of its cases.
use Rattle.std.proofs.Common.{◌≡◌, ◌≢◌, ◌⊎◌, inl, inr, ℕ, zero, suc, ◌+◌, ◌<◌, ◌≤◌, ℤ, pos, negsuc, ◌<ℤ◌, ◌≤ℤ◌, List, ◌++◌, length, Bool, true, false, not, ◌&&◌, Option, Some, None, int_eq, int_le, int_lt, refl, sym, ap, ap₂, ◌∙◌, subst, arith}
use Rattle.std.specs.List.{AllByRecursion}
use Rattle.std.proofs.lemmas.Bool.{false≢true, and_parts, cases_lt}
use Rattle.std.proofs.lemmas.Bool.Decides.{Decides-int_eq}
use Rattle.std.proofs.lemmas.Int.{ints}
use Rattle.slang_values.specs.Value.{ValueType, number_type, truth_type, sequence_type, Records, AreWellFormed, Value, unit, number, truth, sequence, record_value, Values, number_of, truth_of, count, value_at, size_of, default, read, updated, appended, same_value, HasType}
use Rattle.slang_values.specs.Tree.{Tree, literal, truth_literal, name, bound, unary, binary, update, quantified, listed, Trees, no_trees, tree_then, sequence_of, record_of, value, values}
use Rattle.slang_values.specs.Typing.{NameTypes, IsTyped, EachIsTyped, FitNames}
use Rattle.slang_values.specs.declared.operators.Unary.{Unary}
use Rattle.slang_values.specs.declared.operators.Binary.{Binary}
use Rattle.slang_values.proofs.Sequences.{read_outside, updated_outside, read-updated_same, read-updated_other, read-appended_last, read-appended_other}
use Rattle.slang_values.proofs.Typed.{HasType-value}
use Rattle.validity.specs.Validity.{IsTrueUnder, no_bounds}
use Rattle.validity.proofs.TypeOf.{type_of_typed}
use Rattle.read_rules.specs.Reduced.{trees_length}
use Rattle.read_rules.specs.Reads.{ReadCase, are_equal, read_tree, is_updated_place, update_cases, append_cases, element_cases, outside_cases, list_cases, binary_read_cases, default_tree, read_cases}
use Rattle.read_rules.proofs.Defaults.{IsDefault, is_default}
use Rattle.read_rules.proofs.ReducedValues.{sequence_inj, size_unary, count-values}
use Rattle.read_rules.specs.Some.{SomeIn}
use Rattle.read_rules.proofs.Some.{some_left, some_right}

some_inj : {X : Type 0} (x y : X) → Some x ≡ Some y → x ≡ y
some_inj x y e = cc

none_some : {X : Type 0} (x : X) → None ≡ Some x → ⊥
none_some x e = cc

-- ---- values

pub number_is : (records : Records) (v : Value) → HasType records v number_type → v ≡ number (number_of v)
number_is records unit h = absurd (cc)
number_is records (number z) h = refl
number_is records (truth b) h = absurd (cc)
number_is records (sequence t vs) h = absurd (let k = h.0 in cc)
number_is records (record_value n vs) h = absurd (let k = h.0 in cc)

pub truth_is : (records : Records) (v : Value) → HasType records v truth_type → v ≡ truth (truth_of v)
truth_is records unit h = absurd (cc)
truth_is records (number z) h = absurd (cc)
truth_is records (truth b) h = refl
truth_is records (sequence t vs) h = absurd (let k = h.0 in cc)
truth_is records (record_value n vs) h = absurd (let k = h.0 in cc)

equal_numbers : (y z : ℤ) → int_eq y z ≡ true → y ≡ z
equal_numbers y z h = (Decides-int_eq y z).0 h

unequal_numbers : (y z : ℤ) → int_eq y z ≡ false → y ≢ z
unequal_numbers y z h e = false≢true (sym h ∙ (Decides-int_eq y z).1 e)

module _ (records : Records) (v : Value) (t : ValueType) (typed : HasType records v (sequence_type t)) where
  -- at the place of an update
  same_place : (i j : ℤ) (x : Value) → int_eq i j ≡ true → int_le (pos 0) i ≡ true → int_lt i (pos (size_of v)) ≡ true → read records (updated v i x) j ≡ x
  same_place i j x e f g = by_value v typed g
    where
      by_value : (w : Value) → HasType records w (sequence_type t) → int_lt i (pos (size_of w)) ≡ true → read records (updated w i x) j ≡ x
      by_value unit h k = absurd (cc)
      by_value (number z) h k = absurd (cc)
      by_value (truth b) h k = absurd (cc)
      by_value (sequence s vs) h k =
          subst (λ z. read records (updated (sequence s vs) i x) z ≡ x) (equal_numbers i j e) (read-updated_same records s vs i x (omega (arith, ints, f)) (omega (arith, ints, k)))
      by_value (record_value n vs) h k = absurd (let p = h.0 in cc)

  -- at another place, and where the place of the update is out of range
  other_place : (i j : ℤ) (x : Value) (a b c : Bool) → int_eq i j ≡ a → int_le (pos 0) i ≡ b → int_lt i (pos (size_of v)) ≡ c → (a && (b && c)) ≡ false → read records (updated v i x) j ≡ read records v j
  other_place i j x a b c e f g = by_value v typed a b c e f g
    where
      by_value : (w : Value) → HasType records w (sequence_type t) → (p q r : Bool) → int_eq i j ≡ p → int_le (pos 0) i ≡ q → int_lt i (pos (size_of w)) ≡ r → (p && (q && r)) ≡ false → read records (updated w i x) j ≡ read records w j
      by_value unit h p q r k l m n = absurd (cc)
      by_value (number z) h p q r k l m n = absurd (cc)
      by_value (truth u) h p q r k l m n = absurd (cc)
      by_value (sequence s vs) h false q r k l m n = read-updated_other records s vs i j x (unequal_numbers i j k)
      by_value (sequence s vs) h true false r k l m n = ap (λ w. read records w j) (updated_outside records s vs i x (inl (omega (arith, ints, l))))
      by_value (sequence s vs) h true true false k l m n = ap (λ w. read records w j) (updated_outside records s vs i x (inr (omega (arith, ints, m))))
      by_value (sequence s vs) h true true true k l m n = absurd (false≢true (sym n))
      by_value (record_value o vs) h p q r k l m n = absurd (let d = h.0 in cc)

  last_place : (j : ℤ) (x : Value) → int_eq j (pos (size_of v)) ≡ true → read records (appended v x) j ≡ x
  last_place j x e = by_value v typed e
    where
      by_value : (w : Value) → HasType records w (sequence_type t) → int_eq j (pos (size_of w)) ≡ true → read records (appended w x) j ≡ x
      by_value unit h k = absurd (cc)
      by_value (number z) h k = absurd (cc)
      by_value (truth b) h k = absurd (cc)
      by_value (sequence s vs) h k = subst (λ z. read records (appended (sequence s vs) x) z ≡ x) (sym (equal_numbers j (pos (count vs)) k)) (read-appended_last records s vs x)
      by_value (record_value n vs) h k = absurd (let p = h.0 in cc)

  before_last : (j : ℤ) (x : Value) → int_eq j (pos (size_of v)) ≡ false → read records (appended v x) j ≡ read records v j
  before_last j x e = by_value v typed e
    where
      by_value : (w : Value) → HasType records w (sequence_type t) → int_eq j (pos (size_of w)) ≡ false → read records (appended w x) j ≡ read records w j
      by_value unit h k = absurd (cc)
      by_value (number z) h k = absurd (cc)
      by_value (truth b) h k = absurd (cc)
      by_value (sequence s vs) h k = read-appended_other records s vs j x (unequal_numbers j (pos (count vs)) k)
      by_value (record_value n vs) h k = absurd (let p = h.0 in cc)

-- ---- the cases

module _ (records : Records) (fine : AreWellFormed records) (types : NameTypes ℕ) (names : ℕ → Value) (fit : FitNames records types names) where
  abbrev at : Tree ℕ → Value
  at t = value records names no_bounds t

  -- a well-typed truth value that is T
  pub record IsTrueTree (t : Tree ℕ) : Type 0 where
    pub typed : IsTyped records types t truth_type
    pub true_there : IsTrueUnder records names t

  abbrev pub AllAreTrue : List (Tree ℕ) → Type 0
  AllAreTrue ts = AllByRecursion IsTrueTree ts

  -- The conditions of the case hold, and what it has for the read has its value, and the type.
  pub record IsCovering (v : Value) (s : ValueType) (c : ReadCase) : Type 0 where
    pub conditions : AllAreTrue c.conditions
    pub value : at c.instead ≡ v
    pub typed : IsTyped records types c.instead s

  number_at : (t : Tree ℕ) → IsTyped records types t number_type → at t ≡ number (number_of (at t))
  number_at t h = number_is records (at t) (HasType-value records fine types names fit t number_type no_bounds h)

  equal_typed : (a b : Tree ℕ) (s : ValueType) → IsTyped records types a s → IsTyped records types b s → IsTyped records types (are_equal a b) truth_type
  equal_typed a b s h k =
      let e = sym (type_of_typed records types a s h) in (refl, subst (IsTyped records types a) e h, subst (IsTyped records types b) e k)

  -- an equality of numbers
  truth_of_equal : (a b : Tree ℕ) → IsTyped records types a number_type → IsTyped records types b number_type → truth_of (at (are_equal a b)) ≡ int_eq (number_of (at a)) (number_of (at b))
  truth_of_equal a b h k = ap₂ same_value (number_at a h) (number_at b k)

  update_covers : (a i v j : Tree ℕ) (s : ValueType) → IsTyped records types (read_tree (update a i v) j) s → SomeIn (IsCovering (at (read_tree (update a i v) j)) s) (update_cases a i v j)
  update_covers a i v j s h = by_condition (truth_of (at (is_updated_place a i j))) refl
    where
      on_a : IsTyped records types a (sequence_type s)
      on_a = h.0.1

      element : IsTyped records types v s
      element = subst (IsTyped records types v) (sym (sequence_inj h.0.0)) h.0.3

      condition : IsTyped records types (is_updated_place a i j) truth_type
      condition = (refl, equal_typed i j number_type h.0.2 h.1, (refl, (refl, refl, h.0.2), (refl, h.0.2, size_unary records types a s on_a)))

      sequence_at : HasType records (at a) (sequence_type s)
      sequence_at = HasType-value records fine types names fit a (sequence_type s) no_bounds on_a

      equals : truth_of (at (are_equal i j)) ≡ int_eq (number_of (at i)) (number_of (at j))
      equals = truth_of_equal i j h.0.2 h.1

      by_condition : (b : Bool) → truth_of (at (is_updated_place a i j)) ≡ b → SomeIn (IsCovering (at (read_tree (update a i v) j)) s) (update_cases a i v j)
      by_condition true e =
          let p = and_parts _ _ e in
          let q = and_parts _ _ p.1 in
          inl (record {
            conditions = (record { typed = condition; true_there = e }, tt);
            value = sym (same_place records (at a) s sequence_at (number_of (at i)) (number_of (at j)) (at v) (sym equals ∙ p.0) q.0 q.1);
            typed = element;
          })
      by_condition false e =
          inr (inl (record {
            conditions = (record { typed = (refl, condition); true_there = ap not e }, tt);
            value = sym (other_place records (at a) s sequence_at (number_of (at i)) (number_of (at j)) (at v) _ _ _ refl refl refl (ap (λ b. b && (int_le (pos 0) (number_of (at i)) && int_lt (number_of (at i)) (pos (size_of (at a))))) (sym equals) ∙ e));
            typed = (on_a, h.1);
          }))

  append_covers : (a v j : Tree ℕ) (s : ValueType) → IsTyped records types (read_tree (binary Binary.Append a v) j) s → SomeIn (IsCovering (at (read_tree (binary Binary.Append a v) j)) s) (append_cases a v j)
  append_covers a v j s h = by_condition (truth_of (at last)) refl
    where
      last : Tree ℕ
      last = are_equal j (unary Unary.Size a)

      on_a : IsTyped records types a (sequence_type s)
      on_a = h.0.1

      element : IsTyped records types v s
      element = subst (IsTyped records types v) (sym (sequence_inj h.0.0)) h.0.2

      condition : IsTyped records types last truth_type
      condition = equal_typed j (unary Unary.Size a) number_type h.1 (size_unary records types a s on_a)

      sequence_at : HasType records (at a) (sequence_type s)
      sequence_at = HasType-value records fine types names fit a (sequence_type s) no_bounds on_a

      equals : truth_of (at last) ≡ int_eq (number_of (at j)) (pos (size_of (at a)))
      equals = truth_of_equal j (unary Unary.Size a) h.1 (size_unary records types a s on_a)

      by_condition : (b : Bool) → truth_of (at last) ≡ b → SomeIn (IsCovering (at (read_tree (binary Binary.Append a v) j)) s) (append_cases a v j)
      by_condition true e = inl (record {
        conditions = (record { typed = condition; true_there = e }, tt);
        value = sym (last_place records (at a) s sequence_at (number_of (at j)) (at v) (sym equals ∙ e));
        typed = element;
      })
      by_condition false e = inr (inl (record {
        conditions = (record { typed = (refl, condition); true_there = ap not e }, tt);
        value = sym (before_last records (at a) s sequence_at (number_of (at j)) (at v) (sym equals ∙ e));
        typed = (on_a, h.1);
      }))

  element_covers : (j : Tree ℕ) (s : ValueType) (d : Value) → IsTyped records types j number_type → (ts : Trees ℕ) (k m n : ℕ) → m < trees_length ts → n ≡ k + m → number_of (at j) ≡ pos n → EachIsTyped records types ts s →
      SomeIn (IsCovering (value_at (values records names no_bounds ts) m d) s) (element_cases k ts j)
  element_covers j s d hj no_trees k m n l e f h = absurd (omega arith)
  element_covers j s d hj (tree_then t ts) k zero n l e f h =
      let here : number_of (at j) ≡ pos k = f ∙ ap pos (omega (arith, e)) in
      inl (record {
        conditions = (record { typed = equal_typed j (literal (pos k)) number_type hj refl; true_there = truth_of_equal j (literal (pos k)) hj refl ∙ (Decides-int_eq (number_of (at j)) (pos k)).1 here }, tt);
        value = refl;
        typed = h.0;
      })
  element_covers j s d hj (tree_then t ts) k (suc m) n l e f h = inr (element_covers j s d hj ts (suc k) m n (omega arith) (omega (arith, e)) f h.1)

  -- below the list or behind it
  outside_covers : (j d : Tree ℕ) (s : ValueType) (n : ℕ) → IsTyped records types j number_type → IsTyped records types d s → (number_of (at j) <ℤ pos 0) ⊎ (pos n ≤ℤ number_of (at j)) → SomeIn (IsCovering (at d) s) (outside_cases n d j)
  outside_covers j d s n hj hd (inl l) = inl (record { conditions = (record { typed = (refl, hj, refl); true_there = below (number_of (at j)) l }, tt); value = refl; typed = hd })
    where
      below_by : (z : ℤ) (b : Bool) → z <ℤ pos 0 → int_lt z (pos 0) ≡ b → int_lt z (pos 0) ≡ true
      below_by z true g e = e
      below_by z false g e = absurd (omega (arith, ints, g, e))

      below : (z : ℤ) → z <ℤ pos 0 → int_lt z (pos 0) ≡ true
      below z g = below_by z (int_lt z (pos 0)) g refl
  outside_covers j d s n hj hd (inr l) = inr (inl (record { conditions = (record { typed = (refl, refl, hj); true_there = above (number_of (at j)) l }, tt); value = refl; typed = hd }))
    where
      above_by : (z : ℤ) (b : Bool) → pos n ≤ℤ z → int_le (pos n) z ≡ b → int_le (pos n) z ≡ true
      above_by z true g e = e
      above_by z false g e = absurd (omega (arith, ints, g, e))

      above : (z : ℤ) → pos n ≤ℤ z → int_le (pos n) z ≡ true
      above z g = above_by z (int_le (pos n) z) g refl

  covering_as : (v w : Value) (s t : ValueType) → v ≡ w → s ≡ t → (cs : List ReadCase) → SomeIn (IsCovering v s) cs → SomeIn (IsCovering w t) cs
  covering_as v w s t e f cs h = subst (λ x. SomeIn (IsCovering x t) cs) e (subst (λ r. SomeIn (IsCovering v r) cs) f h)

  list_covers : (t : ValueType) (ts : Trees ℕ) (j : Tree ℕ) (s : ValueType) (o : Option (Tree ℕ)) (cs : List ReadCase) → IsTyped records types (read_tree (listed (sequence_of t) ts) j) s → default_tree records t ≡ o → list_cases ts o j ≡ Some cs →
      SomeIn (IsCovering (at (read_tree (listed (sequence_of t) ts) j)) s) cs
  list_covers t ts j s None cs h f g = absurd (none_some cs g)
  list_covers t ts j s (Some d) cs h f g =
      subst (SomeIn (IsCovering (at (read_tree (listed (sequence_of t) ts) j)) s)) (some_inj _ cs g) (by_place (number_of (at j)) refl)
    where
      same : t ≡ s
      same = sym (sequence_inj h.0.0)

      vs : Values
      vs = values records names no_bounds ts

      given : IsDefault records fine types names no_bounds (length records) t d
      given = is_default records fine types names no_bounds (length records) t d f

      typed : IsTyped records types d t
      typed = given.typed h.0.1

      elements : List ReadCase
      elements = element_cases 0 ts j

      outside : List ReadCase
      outside = outside_cases (trees_length ts) d j

      past : (z : ℤ) → number_of (at j) ≡ z → (z <ℤ pos 0) ⊎ (pos (trees_length ts) ≤ℤ z) → SomeIn (IsCovering (at (read_tree (listed (sequence_of t) ts) j)) s) (elements ++ outside)
      past z e l =
          let far : (z <ℤ pos 0) ⊎ (pos (count vs) ≤ℤ z) = subst (λ n. (z <ℤ pos 0) ⊎ (pos n ≤ℤ z)) (sym (count-values records fine types names fit no_bounds ts)) l in
          let value_there : at d ≡ at (read_tree (listed (sequence_of t) ts) j) = given.value ∙ sym (ap (read records (sequence t vs)) e ∙ read_outside records t vs z far) in
          some_right (IsCovering (at (read_tree (listed (sequence_of t) ts) j)) s) elements outside
          (covering_as (at d) (at (read_tree (listed (sequence_of t) ts) j)) t s value_there same outside
          (outside_covers j d t (trees_length ts) h.1 typed (subst (λ y. (y <ℤ pos 0) ⊎ (pos (trees_length ts) ≤ℤ y)) (sym e) l)))

      within : (n : ℕ) → number_of (at j) ≡ pos n → (n < trees_length ts) ⊎ (trees_length ts ≤ n) → SomeIn (IsCovering (at (read_tree (listed (sequence_of t) ts) j)) s) (elements ++ outside)
      within n e (inl l) =
          let value_there : value_at vs n (default records t) ≡ at (read_tree (listed (sequence_of t) ts) j) = sym (ap (read records (sequence t vs)) e) in
          some_left (IsCovering (at (read_tree (listed (sequence_of t) ts) j)) s) elements outside
          (covering_as (value_at vs n (default records t)) (at (read_tree (listed (sequence_of t) ts) j)) t s value_there same elements
          (element_covers j t (default records t) h.1 ts 0 n n l (omega arith) e h.0.2))
      within n e (inr l) = past (pos n) e (inr (omega (arith, ints, l)))

      by_place : (z : ℤ) → number_of (at j) ≡ z → SomeIn (IsCovering (at (read_tree (listed (sequence_of t) ts) j)) s) (elements ++ outside)
      by_place (pos n) e = within n e (cases_lt n (trees_length ts))
      by_place (negsuc n) e = past (negsuc n) e (inl (omega (arith, ints)))

  binary_covers : (op : Binary) (a v j : Tree ℕ) (s : ValueType) (cs : List ReadCase) → binary_read_cases op a v j ≡ Some cs → IsTyped records types (read_tree (binary op a v) j) s → SomeIn (IsCovering (at (read_tree (binary op a v) j)) s) cs
  binary_covers Binary.Append a v j s cs e h = subst (SomeIn (IsCovering (at (read_tree (binary Binary.Append a v) j)) s)) (some_inj _ cs e) (append_covers a v j s h)
  binary_covers Binary.Add a v j s cs e h = absurd (none_some cs e)
  binary_covers Binary.Sub a v j s cs e h = absurd (none_some cs e)
  binary_covers Binary.Mul a v j s cs e h = absurd (none_some cs e)
  binary_covers Binary.Div a v j s cs e h = absurd (none_some cs e)
  binary_covers Binary.Rem a v j s cs e h = absurd (none_some cs e)
  binary_covers Binary.And a v j s cs e h = absurd (none_some cs e)
  binary_covers Binary.Or a v j s cs e h = absurd (none_some cs e)
  binary_covers Binary.Imply a v j s cs e h = absurd (none_some cs e)
  binary_covers Binary.Eq a v j s cs e h = absurd (none_some cs e)
  binary_covers Binary.Lt a v j s cs e h = absurd (none_some cs e)
  binary_covers Binary.Le a v j s cs e h = absurd (none_some cs e)
  binary_covers Binary.Read a v j s cs e h = absurd (none_some cs e)

  -- a read is what one of its cases has for it
  pub read_covers : (a j : Tree ℕ) (s : ValueType) (cs : List ReadCase) → read_cases records a j ≡ Some cs → IsTyped records types (read_tree a j) s → SomeIn (IsCovering (at (read_tree a j)) s) cs
  read_covers (update a i v) j s cs e h = subst (SomeIn (IsCovering (at (read_tree (update a i v) j)) s)) (some_inj _ cs e) (update_covers a i v j s h)
  read_covers (binary op a v) j s cs e h = binary_covers op a v j s cs e h
  read_covers (listed (sequence_of t) ts) j s cs e h = list_covers t ts j s (default_tree records t) cs h refl e
  read_covers (listed (record_of n) ts) j s cs e h = absurd (none_some cs e)
  read_covers (literal z) j s cs e h = absurd (none_some cs e)
  read_covers (truth_literal b) j s cs e h = absurd (none_some cs e)
  read_covers (name n) j s cs e h = absurd (none_some cs e)
  read_covers (bound n) j s cs e h = absurd (none_some cs e)
  read_covers (unary op a) j s cs e h = absurd (none_some cs e)
  read_covers (quantified q low high body) j s cs e h = absurd (none_some cs e)
