use Rattle.whole_numbers.proofs.Products.{sum-mul, mul-sum, mul-difference, mul-mul, mul_le, mul_lt, nonzero_product, mul_left_cancel}
use Rattle.whole_numbers.proofs.laws_of_products.Goals as goal

pub returns-clause-over_a_sum : goal.returns-clause-over_a_sum
returns-clause-over_a_sum c = mul-sum

pub returns-clause-of_a_sum : goal.returns-clause-of_a_sum
returns-clause-of_a_sum c = sum-mul

pub returns-clause-over_a_difference : goal.returns-clause-over_a_difference
returns-clause-over_a_difference c = mul-difference

pub returns-clause-associative : goal.returns-clause-associative
returns-clause-associative c = mul-mul

pub returns-clause-ordered : goal.returns-clause-ordered
returns-clause-ordered c = mul_le

pub returns-clause-strictly : goal.returns-clause-strictly
returns-clause-strictly c = mul_lt

pub returns-clause-nonzero : goal.returns-clause-nonzero
returns-clause-nonzero c = nonzero_product

pub returns-clause-cancelled : goal.returns-clause-cancelled
returns-clause-cancelled c = mul_left_cancel
