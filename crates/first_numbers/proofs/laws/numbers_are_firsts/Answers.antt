use Rattle.first_numbers.proofs.Firsts.{in_order, counted}
use Rattle.first_numbers.proofs.laws.numbers_are_firsts.Goals as goal

pub returns : goal.returns
returns c = λ ns count. (in_order 0 count ns, counted 0 count ns)
