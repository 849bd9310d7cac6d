use Rattle.slang_values.proofs.Numbers.{all_of_range, any_of_range}
use Rattle.slang_values.proofs.laws.ranges.Goals as goal

pub returns : goal.returns
returns c = λ low high. record {
  all = λ test. all_of_range test low high;
  some = λ test. any_of_range test low high;
}
