-- Expressions as trees over names of any kind, and their values. Claims of a program and terms of the prover are both read as
-- such trees, so both mean the same.
use Rattle.std.specs.Prelude.{ℕ, zero, suc, ℤ, pos, ◌+ℤ◌, ◌-ℤ◌, ◌*ℤ◌, neg_ℤ, List, [], ◌∷◌, Bool, not, ◌&&◌, ◌||◌, int_lt, int_le}
use Rattle.std.specs.List.{list_all, list_any}
use Rattle.slang_values.specs.Number.{quotient, remainder, numbers_between}
use Rattle.slang_values.specs.Value.{ValueType, Records, Value, number, truth, sequence, record_value, Values, no_values, value_then, number_of, truth_of, size_of, field_of, read, updated, appended, same_value}
use Rattle.slang_values.specs.declared.operators.Unary.{Unary}
use Rattle.slang_values.specs.declared.operators.Binary.{Binary}
use Rattle.slang_values.specs.declared.operators.Quantifier.{Quantifier}

-- what stands in front of a list of parts
pub data Listed : Type 0 where
  -- the sequence of the parts, whose elements have that type
  sequence_of : ValueType → Listed
  -- the record of that number, with the parts as its fields
  record_of : ℕ → Listed

mutual
  pub data Tree (A : Type 0) : Type 0 where
    literal : ℤ → Tree A
    truth_literal : Bool → Tree A
    name : A → Tree A
    -- a bound variable: how many quantifiers stand between it and its own, counted outward
    bound : ℕ → Tree A
    unary : Unary → Tree A → Tree A
    binary : Binary → Tree A → Tree A → Tree A
    -- a sequence, a place, and what stands there afterwards
    update : Tree A → Tree A → Tree A → Tree A
    -- low, high and body
    quantified : Quantifier → Tree A → Tree A → Tree A → Tree A
    listed : Listed → Trees A → Tree A

  pub data Trees (A : Type 0) : Type 0 where
    no_trees : Trees A
    tree_then : Tree A → Trees A → Trees A

-- ---- what the operators mean

abbrev pub unary_value : Unary → Value → Value
unary_value Unary.Neg v = number (neg_ℤ (number_of v))
unary_value Unary.Not v = truth (not (truth_of v))
unary_value Unary.Size v = number (pos (size_of v))
unary_value (Unary.Field k) v = field_of k v

abbrev pub binary_value : Records → Binary → Value → Value → Value
binary_value records Binary.Add v w = number (number_of v +ℤ number_of w)
binary_value records Binary.Sub v w = number (number_of v -ℤ number_of w)
binary_value records Binary.Mul v w = number (number_of v *ℤ number_of w)
binary_value records Binary.Div v w = number (quotient (number_of v) (number_of w))
binary_value records Binary.Rem v w = number (remainder (number_of v) (number_of w))
binary_value records Binary.And v w = truth (truth_of v && truth_of w)
binary_value records Binary.Or v w = truth (truth_of v || truth_of w)
binary_value records Binary.Imply v w = truth (not (truth_of v) || truth_of w)
binary_value records Binary.Eq v w = truth (same_value v w)
binary_value records Binary.Lt v w = truth (int_lt (number_of v) (number_of w))
binary_value records Binary.Le v w = truth (int_le (number_of v) (number_of w))
binary_value records Binary.Read v w = read records v (number_of w)
binary_value records Binary.Append v w = appended v w

-- whether the test holds of all the numbers, or of some
abbrev pub holds_of : Quantifier → (ℤ → Bool) → List ℤ → Bool
holds_of Quantifier.All test ks = list_all test ks
holds_of Quantifier.Exists test ks = list_any test ks

abbrev pub listed_value : Listed → Values → Value
listed_value (sequence_of t) vs = sequence t vs
listed_value (record_of n) vs = record_value n vs

-- ---- the value of a tree

-- the values of the bound variables, by their numbers
abbrev pub Bounds : Type 0
Bounds = ℕ → ℤ

-- inside one more quantifier, whose variable has the value k
abbrev pub inside : ℤ → Bounds → Bounds
inside k e zero = k
inside k e (suc n) = e n

abbrev mutual
  pub value : {A : Type 0} → Records → (A → Value) → Bounds → Tree A → Value
  value records names e (literal z) = number z
  value records names e (truth_literal b) = truth b
  value records names e (name a) = names a
  value records names e (bound n) = number (e n)
  value records names e (unary op a) = unary_value op (value records names e a)
  value records names e (binary op a b) = binary_value records op (value records names e a) (value records names e b)
  value records names e (update a i x) =
      updated (value records names e a) (number_of (value records names e i)) (value records names e x)
  value records names e (quantified q low high body) =
      truth (holds_of q (λ k. truth_of (value records names (inside k e) body)) (numbers_between (number_of (value records names e low)) (number_of (value records names e high))))
  value records names e (listed l ts) = listed_value l (values records names e ts)

  pub values : {A : Type 0} → Records → (A → Value) → Bounds → Trees A → Values
  values records names e no_trees = no_values
  values records names e (tree_then t ts) = value_then (value records names e t) (values records names e ts)

-- ---- the parts of a tree, from the left

abbrev pub tree_list : {A : Type 0} → Trees A → List (Tree A)
tree_list no_trees = []
tree_list (tree_then t ts) = t ∷ tree_list ts

abbrev pub parts : {A : Type 0} → Tree A → List (Tree A)
parts (literal z) = []
parts (truth_literal b) = []
parts (name a) = []
parts (bound n) = []
parts (unary op a) = a ∷ []
parts (binary op a b) = a ∷ b ∷ []
parts (update a i x) = a ∷ i ∷ x ∷ []
parts (quantified q low high body) = low ∷ high ∷ body ∷ []
parts (listed l ts) = tree_list ts
