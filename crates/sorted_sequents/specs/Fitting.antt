-- A tree is well typed exactly where each operator in it fits the types of its parts.
use Rattle.std.specs.Prelude.{ℕ, nat_lt, is_some, Bool, true, false, ◌&&◌, List, [], ◌∷◌, length}
use Rattle.slang_values.specs.Value.{ValueType, unit_type, number_type, truth_type, sequence_type, record_type, Records, fields, same_type, is_known}
use Rattle.slang_values.specs.Tree.{Tree, Trees, no_trees, tree_then, literal, truth_literal, name, bound, unary, binary, update, quantified, listed}
use Rattle.slang_values.specs.Tree.{sequence_of, record_of}
use Rattle.slang_values.specs.Typing.{NameTypes, type_of}
use Rattle.slang_values.specs.declared.operators.Unary.{Unary}
use Rattle.slang_values.specs.declared.operators.Binary.{Binary}

-- ---- operators and the types of their parts

abbrev pub is_sequence : ValueType → Bool
is_sequence unit_type = false
is_sequence number_type = false
is_sequence truth_type = false
is_sequence (sequence_type t) = true
is_sequence (record_type n) = false

-- a record with a field at place k
abbrev pub has_field : Records → ℕ → ValueType → Bool
has_field records k unit_type = false
has_field records k number_type = false
has_field records k truth_type = false
has_field records k (sequence_type t) = false
has_field records k (record_type n) = nat_lt k (length (fields records n))

abbrev pub fits_one : Records → Unary → ValueType → Bool
fits_one records Unary.Neg a = same_type a number_type
fits_one records Unary.Not a = same_type a truth_type
fits_one records Unary.Size a = is_sequence a
fits_one records (Unary.Field k) a = has_field records k a

abbrev pub are_numbers : ValueType → ValueType → Bool
are_numbers a b = same_type a number_type && same_type b number_type

abbrev pub are_truths : ValueType → ValueType → Bool
are_truths a b = same_type a truth_type && same_type b truth_type

abbrev pub fits_two : Binary → ValueType → ValueType → Bool
fits_two Binary.Add a b = are_numbers a b
fits_two Binary.Sub a b = are_numbers a b
fits_two Binary.Mul a b = are_numbers a b
fits_two Binary.Div a b = are_numbers a b
fits_two Binary.Rem a b = are_numbers a b
fits_two Binary.And a b = are_truths a b
fits_two Binary.Or a b = are_truths a b
fits_two Binary.Imply a b = are_truths a b
fits_two Binary.Eq a b = same_type a b
fits_two Binary.Lt a b = are_numbers a b
fits_two Binary.Le a b = are_numbers a b
fits_two Binary.Read a b = is_sequence a && same_type b number_type
fits_two Binary.Append a b = same_type a (sequence_type b)

abbrev pub fits_update : ValueType → ValueType → ValueType → Bool
fits_update a i x = same_type a (sequence_type x) && same_type i number_type

abbrev pub fits_range : ValueType → ValueType → ValueType → Bool
fits_range low high body = same_type low number_type && (same_type high number_type && same_type body truth_type)

-- ---- trees

module _ (records : Records) (types : NameTypes ℕ) where
  abbrev pub has_type : ValueType → Tree ℕ → Bool
  has_type t a = same_type (type_of records types a) t

  abbrev pub each_has : ValueType → Trees ℕ → Bool
  each_has t no_trees = true
  each_has t (tree_then a as') = has_type t a && each_has t as'

  -- as many trees as types, one after the other
  abbrev pub have : List ValueType → Trees ℕ → Bool
  have [] no_trees = true
  have [] (tree_then a as') = false
  have (t ∷ ts) no_trees = false
  have (t ∷ ts) (tree_then a as') = has_type t a && have ts as'

  -- the operator fits the types of the parts, and the name is known
  abbrev pub fits : Tree ℕ → Bool
  fits (literal z) = true
  fits (truth_literal b) = true
  fits (name n) = is_some (types n)
  fits (bound n) = true
  fits (unary op a) = fits_one records op (type_of records types a)
  fits (binary op a b) = fits_two op (type_of records types a) (type_of records types b)
  fits (update a i x) = fits_update (type_of records types a) (type_of records types i) (type_of records types x)
  fits (quantified q low high body) = fits_range (type_of records types low) (type_of records types high) (type_of records types body)
  fits (listed (sequence_of t) ts) = is_known records t && each_has t ts
  fits (listed (record_of n) ts) = nat_lt n (length records) && have (fields records n) ts

  abbrev mutual
    -- each operator in the tree fits
    pub is_fit : Tree ℕ → Bool
    is_fit (literal z) = true
    is_fit (truth_literal b) = true
    is_fit (name n) = fits (name n)
    is_fit (bound n) = true
    is_fit (unary op a) = fits (unary op a) && is_fit a
    is_fit (binary op a b) = fits (binary op a b) && (is_fit a && is_fit b)
    is_fit (update a i x) = fits (update a i x) && (is_fit a && (is_fit i && is_fit x))
    is_fit (quantified q low high body) = fits (quantified q low high body) && (is_fit low && (is_fit high && is_fit body))
    is_fit (listed l ts) = fits (listed l ts) && are_fit ts

    pub are_fit : Trees ℕ → Bool
    are_fit no_trees = true
    are_fit (tree_then t ts) = is_fit t && are_fit ts
