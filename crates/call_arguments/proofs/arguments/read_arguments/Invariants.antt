use Rattle.std.proofs.Common.{◌≡◌, ◌++◌, List, length, map}
use Rattle.std.specs.Prelude.{string_bytes}
use Rattle.slang_values.specs.Value.{Value}
use Rattle.lk_programs.specs.Program.{record_types, field_types}
use Rattle.argument_fronts.specs.Types.{names_of}
use Rattle.call_arguments.specs.Arguments.{AreArgumentsOf}
use Rattle.call_arguments.specs.Next.{plain_items, AreLeft}
use Rattle.call_arguments.proofs.arguments.read_arguments.Given as goal

-- the values so far, in front of those of what is left, are those of all words, and the other way round
abbrev pub invariant-arguments : goal.invariant-arguments
invariant-arguments l = record {
  sound : (more : List Value) → AreLeft (names_of l.records) (record_types l.records) l.place more
      → AreArgumentsOf (names_of l.records) (record_types l.records) (map string_bytes l.words) (field_types l.params) (plain_items l.values ++ more);
  complete : (all : List Value)
      → AreArgumentsOf (names_of l.records) (record_types l.records) (map string_bytes l.words) (field_types l.params) all
      → (more : List Value) × AreLeft (names_of l.records) (record_types l.records) l.place more × (all ≡ plain_items l.values ++ more);
}

abbrev pub decreases-arguments : goal.decreases-arguments
decreases-arguments l = length l.place.words.now
