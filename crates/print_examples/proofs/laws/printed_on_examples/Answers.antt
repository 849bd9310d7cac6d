use Rattle.std.proofs.Common.{refl}
use Rattle.slang_lexer.specs.Spelling.{signs, words}
use Rattle.slang_grammar.specs.Operators.{operators}
use Rattle.print_expressions.specs.Operators.{row_of}
use Rattle.print_expressions.specs.Hefts.{is_lighter, stays}
use Rattle.print_expressions.specs.Accounts.{numeral, left_stays, right_stays, head_stays, first_stays}
use Rattle.print_examples.proofs.laws.printed_on_examples.Goals as goal

pub returns : goal.returns
unfolding numeral row_of operators signs words left_stays right_stays head_stays first_stays stays is_lighter
returns c = record {
  joined_to_the_left = refl;
  not_joined_to_the_right = refl;
  joined_to_the_right = refl;
  not_joined_to_the_left = refl;
  no_mixed_chain = refl;
  tighter = refl;
  looser = refl;
  behind_a_prefix = refl;
  prefixes = refl;
  in_front_of_a_dot = refl;
  arguments = refl;
  light_as_it_is = refl;
  light_in_brackets = refl;
  light_head = refl;
  light_index = refl;
  globals = refl;
  contract = refl;
  loop = refl;
  proof = refl;
}
