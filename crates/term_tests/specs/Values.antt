-- Values of terms, worked out by hand.
use Rattle.std.specs.Prelude.{◌≡◌, ℕ, ℤ, pos, negsuc, [], ◌∷◌, true, false}
use Rattle.slang_values.specs.Value.{number_type, truth_type, sequence_type, record_type, Records, Value, unit, number, truth, sequence, record_value, no_values, value_then}
use Rattle.slang_values.specs.Tree.{Tree, literal, truth_literal, bound, unary, binary, update, quantified, listed, sequence_of, no_trees, tree_then, value}
use Rattle.slang_values.specs.declared.operators.Unary.{Unary}
use Rattle.slang_values.specs.declared.operators.Binary.{Binary}
use Rattle.slang_values.specs.declared.operators.Quantifier.{Quantifier}

-- one record, of a number, a truth value and a sequence of numbers
abbrev pub records : Records
records = (number_type ∷ truth_type ∷ sequence_type number_type ∷ []) ∷ []

-- the value of a tree without names, where each loose bound variable is 0
abbrev pub of_tree : Tree ℕ → Value
of_tree t = value records (λ n. unit) (λ n. pos 0) t

abbrev pub of_two : Binary → ℤ → ℤ → Value
of_two op a b = of_tree (binary op (literal a) (literal b))

-- `/` rounds toward zero, and `%` has the sign of the dividend; by 0 both are 0.
pub record DivisionsOfEachSign : Type 0 where
  pub positive_quotient : of_two Binary.Div (pos 7) (pos 2) ≡ number (pos 3)
  pub positive_remainder : of_two Binary.Rem (pos 7) (pos 2) ≡ number (pos 1)
  pub negative_dividend_quotient : of_two Binary.Div (negsuc 6) (pos 2) ≡ number (negsuc 2)
  pub negative_dividend_remainder : of_two Binary.Rem (negsuc 6) (pos 2) ≡ number (negsuc 0)
  pub negative_divisor_quotient : of_two Binary.Div (pos 7) (negsuc 1) ≡ number (negsuc 2)
  pub negative_divisor_remainder : of_two Binary.Rem (pos 7) (negsuc 1) ≡ number (pos 1)
  pub negative_quotient : of_two Binary.Div (negsuc 6) (negsuc 1) ≡ number (pos 3)
  pub negative_remainder : of_two Binary.Rem (negsuc 6) (negsuc 1) ≡ number (negsuc 0)
  pub quotient_by_zero : of_two Binary.Div (pos 7) (pos 0) ≡ number (pos 0)
  pub remainder_by_zero : of_two Binary.Rem (negsuc 6) (pos 0) ≡ number (pos 0)

-- the sequence of 10, 20 and 30
abbrev pub tens : Tree ℕ
tens = listed (sequence_of number_type) (tree_then (literal (pos 10)) (tree_then (literal (pos 20)) (tree_then (literal (pos 30)) no_trees)))

abbrev pub tens_with : ℤ → ℤ → ℤ → Value
tens_with a b c = sequence number_type (value_then (number a) (value_then (number b) (value_then (number c) no_values)))

abbrev pub tens_at : ℤ → Value
tens_at i = of_tree (binary Binary.Read tens (literal i))

-- with 5 at the place i
abbrev pub tens_updated : ℤ → Tree ℕ
tens_updated i = update tens (literal i) (literal (pos 5))

-- Out of range a read gives the default of the elements' type, and an update changes nothing.
pub record ReadsAndUpdates : Type 0 where
  pub first : tens_at (pos 0) ≡ number (pos 10)
  pub last : tens_at (pos 2) ≡ number (pos 30)
  pub past_the_end : tens_at (pos 3) ≡ number (pos 0)
  pub before_the_start : tens_at (negsuc 0) ≡ number (pos 0)
  pub record_past_the_end :
      of_tree (binary Binary.Read (listed (sequence_of (record_type 0)) no_trees) (literal (pos 0)))
      ≡ record_value 0 (value_then (number (pos 0)) (value_then (truth false) (value_then (sequence number_type no_values) no_values)))
  pub updated_last : of_tree (tens_updated (pos 2)) ≡ tens_with (pos 10) (pos 20) (pos 5)
  pub updated_past_the_end : of_tree (tens_updated (pos 3)) ≡ tens_with (pos 10) (pos 20) (pos 30)
  pub updated_before_the_start : of_tree (tens_updated (negsuc 0)) ≡ tens_with (pos 10) (pos 20) (pos 30)
  pub read_updated : of_tree (binary Binary.Read (tens_updated (pos 1)) (literal (pos 1))) ≡ number (pos 5)
  pub read_appended : of_tree (binary Binary.Read (binary Binary.Append tens (literal (pos 40))) (literal (pos 3))) ≡ number (pos 40)
  pub size_appended : of_tree (unary Unary.Size (binary Binary.Append tens (literal (pos 40)))) ≡ number (pos 4)
  pub equal_of_one_type : of_tree (binary Binary.Eq tens (tens_updated (pos 3))) ≡ truth true
  pub empty_of_two_types :
      of_tree (binary Binary.Eq (listed (sequence_of number_type) no_trees) (listed (sequence_of truth_type) no_trees)) ≡ truth false

-- from low until high, the body
abbrev pub range_of : Quantifier → ℤ → ℤ → Tree ℕ → Tree ℕ
range_of q low high body = quantified q (literal low) (literal high) body

-- Bound variables are counted outward, and of an empty range All is T and Exists is F.
pub record Ranges : Type 0 where
  pub all_of_none : of_tree (range_of Quantifier.All (pos 2) (pos 2) (truth_literal false)) ≡ truth true
  pub some_of_none : of_tree (range_of Quantifier.Exists (pos 2) (pos 1) (truth_literal true)) ≡ truth false
  pub all_below : of_tree (range_of Quantifier.All (negsuc 1) (pos 3) (binary Binary.Lt (bound 0) (literal (pos 3)))) ≡ truth true
  pub high_is_left_out : of_tree (range_of Quantifier.Exists (pos 0) (pos 3) (binary Binary.Eq (bound 0) (literal (pos 3)))) ≡ truth false
  pub low_is_there : of_tree (range_of Quantifier.Exists (negsuc 1) (pos 3) (binary Binary.Eq (bound 0) (literal (negsuc 1)))) ≡ truth true
  -- the inner variable is 0, and the outer 1
  pub inner_below_outer :
      of_tree (range_of Quantifier.All (pos 1) (pos 3) (range_of Quantifier.Exists (pos 0) (pos 1) (binary Binary.Lt (bound 0) (bound 1)))) ≡ truth true
  pub outer_below_inner :
      of_tree (range_of Quantifier.All (pos 1) (pos 3) (range_of Quantifier.Exists (pos 0) (pos 1) (binary Binary.Lt (bound 1) (bound 0)))) ≡ truth false
