use Rattle.lin_rows.proofs.SumLaws.{coefficient-sum, canonical_unique, Holds-combined, IsCanonical-combined}
use Rattle.lin_rows.proofs.laws.sums_add_up.Goals as goal

pub returns-clause-coefficients : goal.returns-clause-coefficients
returns-clause-coefficients c = λ a b p q v. coefficient-sum a.parts p b.parts q v

pub returns-clause-canonical : goal.returns-clause-canonical
returns-clause-canonical c = λ a b p q. IsCanonical-combined a p b q

pub returns-clause-unique : goal.returns-clause-unique
returns-clause-unique c = canonical_unique 0

pub returns-clause-true_of_the_same : goal.returns-clause-true_of_the_same
returns-clause-true_of_the_same c = λ x a b p q hp hq ha hb. Holds-combined x a p b q hp hq ha hb
