-- The types that sorts and the answers of this crate stand for.
use Rattle.std.specs.Prelude.{ℕ, List, map, slice_get}
use Rattle.std.specs.Option.{unwrap_or}
use Rattle.slang_values.specs.Value.{ValueType, unit_type, number_type, truth_type, sequence_type, record_type, Records}
use Rattle.slang_values.specs.Typing.{NameTypes}
use Rattle.term_trees.specs.declared.term.Sort.{Sort}
use Rattle.term_trees.specs.Term.{sort_type}
use Rattle.term_sorts.specs.declared.term_type.TermType.{TermType}

-- symbol n has the type at place n
abbrev pub types_of : List Sort → NameTypes ℕ
types_of symbols n = slice_get (map sort_type symbols) n

-- the type of symbol n; of one that is not there, no other type
abbrev pub symbol_type : List Sort → ℕ → ValueType
symbol_type symbols n = unwrap_or (types_of symbols n) unit_type

abbrev pub record_types : List (List Sort) → Records
record_types records = map (map sort_type) records

-- the type that is answered
abbrev pub type_value : TermType → ValueType
type_value TermType.Unit = unit_type
type_value TermType.Number = number_type
type_value TermType.Truth = truth_type
type_value (TermType.Sequence s) = sequence_type (sort_type s.now)
type_value (TermType.Record n) = record_type n
