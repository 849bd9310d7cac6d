-- Which literals close a case of the whole language, as they stand.
use Rattle.std.specs.Prelude.{ℕ, List, Bool, true, false, ◌&&◌, ◌||◌}
use Rattle.std.specs.List.{list_any}
use Rattle.slang_values.specs.Value.{ValueType, sequence_type, Records}
use Rattle.slang_values.specs.Tree.{Tree, binary}
use Rattle.slang_values.specs.Typing.{NameTypes, type_of}
use Rattle.slang_values.specs.declared.operators.Binary.{Binary}
use Rattle.closing.specs.Literals.{is_negation_with, is_false, are_alike, is_opposite}

abbrev pub is_sequence : ValueType → Bool
is_sequence (sequence_type t) = true
is_sequence t = false

abbrev pub equates_alike : Records → NameTypes ℕ → Binary → Tree ℕ → Tree ℕ → Bool
equates_alike records types Binary.Eq a b = is_sequence (type_of records types a) && are_alike records types a b
equates_alike records types op a b = false

-- an equality of two sequences that are equal but for the forms of their numbers
abbrev pub is_same_sequence : Records → NameTypes ℕ → Tree ℕ → Bool
is_same_sequence records types (binary op a b) = equates_alike records types op a b
is_same_sequence records types t = false

-- the negation of such an equality
abbrev pub is_unequal_itself : Records → NameTypes ℕ → Tree ℕ → Bool
is_unequal_itself records types t = is_negation_with (is_same_sequence records types) t

-- A literal is false, or says that a sequence is unequal to itself, or two of them are opposites.
abbrev pub closed_by_literals : Records → NameTypes ℕ → List (Tree ℕ) → Bool
closed_by_literals records types literals =
    list_any is_false literals || (list_any (is_unequal_itself records types) literals || list_any (λ s. list_any (is_opposite records types s) literals) literals)
