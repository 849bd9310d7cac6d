use Rattle.whole_numbers.proofs.Truncation.{quotient-remainder, remainder_below, remainder_bounds, truncation_unique, exact-product}
use Rattle.whole_numbers.proofs.laws_of_truncation.Goals as goal

pub returns-clause-whole : goal.returns-clause-whole
returns-clause-whole c = quotient-remainder

pub returns-clause-below : goal.returns-clause-below
returns-clause-below c = remainder_below

pub returns-clause-bounds : goal.returns-clause-bounds
returns-clause-bounds c = remainder_bounds

pub returns-clause-unique : goal.returns-clause-unique
returns-clause-unique c = λ a d q r e small up down. truncation_unique a d q r e (small, up, down)

pub returns-clause-exact : goal.returns-clause-exact
returns-clause-exact c = exact-product
