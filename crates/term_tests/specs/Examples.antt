-- Sequents and tables of records, worked out by hand.
use Rattle.std.specs.Prelude.{ℕ, pos, [], ◌∷◌, replicate}
use Rattle.slang_values.specs.Value.{number_type, sequence_type, record_type, Records, AreWellFormed}
use Rattle.slang_values.specs.Tree.{Tree, literal, name, bound, unary, binary}
use Rattle.slang_values.specs.declared.operators.Unary.{Unary}
use Rattle.slang_values.specs.declared.operators.Binary.{Binary}
use Rattle.lk_terms.specs.Validity.{SequentTree, IsWellSorted, IsValid}

-- symbol 0, a record of a number and of a sequence of numbers, and symbol 1, a number
abbrev pub record_symbol : Tree ℕ
record_symbol = name 0

abbrev pub number_symbol : Tree ℕ
number_symbol = name 1

-- the record's number is at most the other
abbrev pub is_bounded : Tree ℕ
is_bounded = binary Binary.Le (unary (Unary.Field 0) record_symbol) number_symbol

-- from the fact that it is, that goal
abbrev pub bounded_then : Tree ℕ → SequentTree
bounded_then t = record {
  types = record_type 0 ∷ number_type ∷ [];
  records = (number_type ∷ sequence_type number_type ∷ []) ∷ [];
  facts = is_bounded ∷ [];
  goal = t;
}

pub record SequentsAreJudged : Type 0 where
  pub well_sorted : IsWellSorted (bounded_then is_bounded)
  -- a truth value, but of a loose bound variable
  pub not_closed : IsWellSorted (bounded_then (binary Binary.Le (bound 0) number_symbol)) → ⊥
  pub no_truth_value : IsWellSorted (bounded_then number_symbol) → ⊥
  pub no_symbol : IsWellSorted (bounded_then (binary Binary.Le (name 2) number_symbol)) → ⊥
  pub no_field : IsWellSorted (bounded_then (binary Binary.Le (unary (Unary.Field 2) record_symbol) number_symbol)) → ⊥
  pub a_fact_is_valid : IsValid (bounded_then is_bounded)
  -- without the fact: each sequence has a size
  pub a_size_is_valid : IsValid (bounded_then (binary Binary.Le (literal (pos 0)) (unary Unary.Size (unary (Unary.Field 1) record_symbol))))
  pub turned_is_not : IsValid (bounded_then (binary Binary.Le number_symbol (unary (Unary.Field 0) record_symbol))) → ⊥

pub record TablesAreJudged : Type 0 where
  pub no_records : AreWellFormed []
  -- a record that holds another twice, and a sequence of it
  pub others : AreWellFormed ((number_type ∷ []) ∷ (record_type 0 ∷ record_type 0 ∷ sequence_type (record_type 0) ∷ []) ∷ [])
  pub holds_itself : AreWellFormed ((record_type 0 ∷ []) ∷ []) → ⊥
  pub by_another : AreWellFormed ((record_type 1 ∷ []) ∷ (number_type ∷ record_type 0 ∷ []) ∷ []) → ⊥
  pub in_a_sequence : AreWellFormed ((sequence_type (record_type 0) ∷ []) ∷ []) → ⊥
  pub not_there : AreWellFormed ((record_type 1 ∷ []) ∷ []) → ⊥

-- a record of so many numbers, and one of two such records, which has twice as many parts and these two
abbrev pub two_of : ℕ → Records
two_of n = replicate n number_type ∷ (record_type 0 ∷ record_type 0 ∷ []) ∷ []

pub record PartsAreLimited : Type 0 where
  pub a_thousand : AreWellFormed (two_of 499)
  pub two_more : AreWellFormed (two_of 500) → ⊥
