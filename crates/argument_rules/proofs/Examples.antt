-- The examples of arguments.
use Rattle.std.proofs.Common.{refl}
use Rattle.slang_lexer.specs.Spelling.{is_number}
use Rattle.argument_rules.specs.Examples.{ArgumentExamples}

pub argument_examples : ArgumentExamples
unfolding is_number
argument_examples = record {
  a_number = refl;
  below_zero = refl;
  of_another_type = refl;
  a_record = refl;
  comma_behind = refl;
  another_record = refl;
  field_of_another_type = refl;
  no_elements = refl;
  other_elements = refl;
  a_sequence = refl;
  least = refl;
  below_least = refl;
}
