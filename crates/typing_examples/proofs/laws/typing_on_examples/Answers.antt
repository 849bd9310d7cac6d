use Rattle.std.proofs.Common.{refl}
use Rattle.slang_tree.specs.Rules.{rules}
use Rattle.typing_examples.proofs.laws.typing_on_examples.Goals as goal

pub returns : goal.returns
unfolding rules
returns c = record {
  nothing = refl;
  well_typed = refl;
  unknown = refl;
  duplicate = refl;
  other_type = refl;
  other_count = refl;
  constant = refl;
  not_modified = refl;
  nested_call = refl;
  quantifier = refl;
  count_first = refl;
  change_first = refl;
  parts_first = refl;
  no_value = refl;
  shadowed = refl;
  siblings_share = refl;
  method_as_value = refl;
  around_itself = refl;
  no_class = refl;
  nine_hundreds = refl;
  eleven_hundreds = refl;
  modified_twice = refl;
  modified_constant = refl;
  result_in_body = refl;
  entry_in_body = refl;
  old_in_body = refl;
  proved = refl;
  no_rule = refl;
  one_cited = refl;
  label_twice = refl;
  files = refl;
}
