-- Which literals and which atoms have rows, each with what its rows are.
use Rattle.std.proofs.Common.{◌≡◌, ℕ, ℤ, pos, ◌-ℤ◌, int_le, List, [], ◌∷◌, Bool, true, false, cond, refl, ap}
use Rattle.slang_values.specs.Value.{number_type, same_type, Records}
use Rattle.slang_values.specs.Tree.{Tree, literal, truth_literal, name, bound, unary, binary, update, quantified, listed}
use Rattle.slang_values.specs.Typing.{NameTypes, type_of}
use Rattle.slang_values.specs.declared.operators.Unary.{Unary}
use Rattle.slang_values.specs.declared.operators.Binary.{Binary}
use Rattle.closing.specs.Rows.{AtomRow, at_most, at_least, eq_rows, rest_form, rows_of_literal, rows_of_atom}

-- ---- atoms

abbrev pub quotient_rows : Tree ℕ → ℤ → List AtomRow
quotient_rows a c =
    let rest = rest_form a c (binary Binary.Div a (literal c)) in at_least rest (pos 1 -ℤ c) ∷ at_most rest (c -ℤ pos 1) ∷ []

pub rows_of_division : (a : Tree ℕ) (c : ℤ) → int_le (pos 1) c ≡ true → rows_of_atom (binary Binary.Div a (literal c)) ≡ quotient_rows a c
rows_of_division a c h = ap (λ b. cond b (quotient_rows a c) []) h

module _ (M : Tree ℕ → Type 0) (sized : (a : Tree ℕ) → M (unary Unary.Size a)) (divided : (a : Tree ℕ) (c : ℤ) → int_le (pos 1) c ≡ true → M (binary Binary.Div a (literal c)))
    (others : (t : Tree ℕ) → rows_of_atom t ≡ [] → M t) where
  at_divisor : (b : Bool) (a : Tree ℕ) (c : ℤ) → int_le (pos 1) c ≡ b → M (binary Binary.Div a (literal c))
  at_divisor true a c h = divided a c h
  at_divisor false a c h = others (binary Binary.Div a (literal c)) (ap (λ b. cond b (quotient_rows a c) []) h)

  by_divisor : (a d : Tree ℕ) → M (binary Binary.Div a d)
  by_divisor a (literal c) = at_divisor (int_le (pos 1) c) a c refl
  by_divisor a (truth_literal b) = others (binary Binary.Div a (truth_literal b)) refl
  by_divisor a (name n) = others (binary Binary.Div a (name n)) refl
  by_divisor a (bound n) = others (binary Binary.Div a (bound n)) refl
  by_divisor a (unary op x) = others (binary Binary.Div a (unary op x)) refl
  by_divisor a (binary op x y) = others (binary Binary.Div a (binary op x y)) refl
  by_divisor a (update x i y) = others (binary Binary.Div a (update x i y)) refl
  by_divisor a (quantified q low high body) = others (binary Binary.Div a (quantified q low high body)) refl
  by_divisor a (listed l ts) = others (binary Binary.Div a (listed l ts)) refl

  -- an atom is a size, a quotient by a literal of 1 or more, or has no rows
  pub by_atom : (t : Tree ℕ) → M t
  by_atom (literal z) = others (literal z) refl
  by_atom (truth_literal b) = others (truth_literal b) refl
  by_atom (name n) = others (name n) refl
  by_atom (bound n) = others (bound n) refl
  by_atom (unary Unary.Size a) = sized a
  by_atom (unary Unary.Neg a) = others (unary Unary.Neg a) refl
  by_atom (unary Unary.Not a) = others (unary Unary.Not a) refl
  by_atom (unary (Unary.Field k) a) = others (unary (Unary.Field k) a) refl
  by_atom (binary Binary.Div a b) = by_divisor a b
  by_atom (binary Binary.Add a b) = others (binary Binary.Add a b) refl
  by_atom (binary Binary.Sub a b) = others (binary Binary.Sub a b) refl
  by_atom (binary Binary.Mul a b) = others (binary Binary.Mul a b) refl
  by_atom (binary Binary.Rem a b) = others (binary Binary.Rem a b) refl
  by_atom (binary Binary.And a b) = others (binary Binary.And a b) refl
  by_atom (binary Binary.Or a b) = others (binary Binary.Or a b) refl
  by_atom (binary Binary.Imply a b) = others (binary Binary.Imply a b) refl
  by_atom (binary Binary.Eq a b) = others (binary Binary.Eq a b) refl
  by_atom (binary Binary.Lt a b) = others (binary Binary.Lt a b) refl
  by_atom (binary Binary.Le a b) = others (binary Binary.Le a b) refl
  by_atom (binary Binary.Read a b) = others (binary Binary.Read a b) refl
  by_atom (binary Binary.Append a b) = others (binary Binary.Append a b) refl
  by_atom (update a i x) = others (update a i x) refl
  by_atom (quantified q low high body) = others (quantified q low high body) refl
  by_atom (listed l ts) = others (listed l ts) refl

-- ---- literals

pub rows_of_equality : (records : Records) (types : NameTypes ℕ) (a b : Tree ℕ) → same_type (type_of records types a) number_type ≡ true →
    rows_of_literal records types (binary Binary.Eq a b) ≡ eq_rows a b
rows_of_equality records types a b h = ap (λ c. cond c (eq_rows a b) []) h

module _ (records : Records) (types : NameTypes ℕ) (M : Tree ℕ → Type 0)
    (less : (a b : Tree ℕ) → M (binary Binary.Lt a b)) (less_or_equal : (a b : Tree ℕ) → M (binary Binary.Le a b))
    (equal : (a b : Tree ℕ) → same_type (type_of records types a) number_type ≡ true → M (binary Binary.Eq a b))
    (not_less : (a b : Tree ℕ) → M (unary Unary.Not (binary Binary.Lt a b))) (not_less_or_equal : (a b : Tree ℕ) → M (unary Unary.Not (binary Binary.Le a b)))
    (others : (t : Tree ℕ) → rows_of_literal records types t ≡ [] → M t) where
  at_equality : (c : Bool) (a b : Tree ℕ) → same_type (type_of records types a) number_type ≡ c → M (binary Binary.Eq a b)
  at_equality true a b h = equal a b h
  at_equality false a b h = others (binary Binary.Eq a b) (ap (λ c. cond c (eq_rows a b) []) h)

  by_relation : (op : Binary) (a b : Tree ℕ) → M (binary op a b)
  by_relation Binary.Eq a b = at_equality (same_type (type_of records types a) number_type) a b refl
  by_relation Binary.Lt a b = less a b
  by_relation Binary.Le a b = less_or_equal a b
  by_relation Binary.Add a b = others (binary Binary.Add a b) refl
  by_relation Binary.Sub a b = others (binary Binary.Sub a b) refl
  by_relation Binary.Mul a b = others (binary Binary.Mul a b) refl
  by_relation Binary.Div a b = others (binary Binary.Div a b) refl
  by_relation Binary.Rem a b = others (binary Binary.Rem a b) refl
  by_relation Binary.And a b = others (binary Binary.And a b) refl
  by_relation Binary.Or a b = others (binary Binary.Or a b) refl
  by_relation Binary.Imply a b = others (binary Binary.Imply a b) refl
  by_relation Binary.Read a b = others (binary Binary.Read a b) refl
  by_relation Binary.Append a b = others (binary Binary.Append a b) refl

  by_opposite : (op : Binary) (a b : Tree ℕ) → M (unary Unary.Not (binary op a b))
  by_opposite Binary.Lt a b = not_less a b
  by_opposite Binary.Le a b = not_less_or_equal a b
  by_opposite Binary.Eq a b = others (unary Unary.Not (binary Binary.Eq a b)) refl
  by_opposite Binary.Add a b = others (unary Unary.Not (binary Binary.Add a b)) refl
  by_opposite Binary.Sub a b = others (unary Unary.Not (binary Binary.Sub a b)) refl
  by_opposite Binary.Mul a b = others (unary Unary.Not (binary Binary.Mul a b)) refl
  by_opposite Binary.Div a b = others (unary Unary.Not (binary Binary.Div a b)) refl
  by_opposite Binary.Rem a b = others (unary Unary.Not (binary Binary.Rem a b)) refl
  by_opposite Binary.And a b = others (unary Unary.Not (binary Binary.And a b)) refl
  by_opposite Binary.Or a b = others (unary Unary.Not (binary Binary.Or a b)) refl
  by_opposite Binary.Imply a b = others (unary Unary.Not (binary Binary.Imply a b)) refl
  by_opposite Binary.Read a b = others (unary Unary.Not (binary Binary.Read a b)) refl
  by_opposite Binary.Append a b = others (unary Unary.Not (binary Binary.Append a b)) refl

  by_negated : (t : Tree ℕ) → M (unary Unary.Not t)
  by_negated (binary op a b) = by_opposite op a b
  by_negated (literal z) = others (unary Unary.Not (literal z)) refl
  by_negated (truth_literal b) = others (unary Unary.Not (truth_literal b)) refl
  by_negated (name n) = others (unary Unary.Not (name n)) refl
  by_negated (bound n) = others (unary Unary.Not (bound n)) refl
  by_negated (unary op a) = others (unary Unary.Not (unary op a)) refl
  by_negated (update a i x) = others (unary Unary.Not (update a i x)) refl
  by_negated (quantified q low high body) = others (unary Unary.Not (quantified q low high body)) refl
  by_negated (listed l ts) = others (unary Unary.Not (listed l ts)) refl

  -- a literal is a relation of numbers, the negation of an order, or has no rows
  pub by_literal : (t : Tree ℕ) → M t
  by_literal (literal z) = others (literal z) refl
  by_literal (truth_literal b) = others (truth_literal b) refl
  by_literal (name n) = others (name n) refl
  by_literal (bound n) = others (bound n) refl
  by_literal (unary Unary.Not a) = by_negated a
  by_literal (unary Unary.Neg a) = others (unary Unary.Neg a) refl
  by_literal (unary Unary.Size a) = others (unary Unary.Size a) refl
  by_literal (unary (Unary.Field k) a) = others (unary (Unary.Field k) a) refl
  by_literal (binary op a b) = by_relation op a b
  by_literal (update a i x) = others (update a i x) refl
  by_literal (quantified q low high body) = others (quantified q low high body) refl
  by_literal (listed l ts) = others (listed l ts) refl
