use Rattle.lin_rows.proofs.CutLaws.{Holds-cut, Holds-tightened, divides-divisor, dvd-divisor}
use Rattle.lin_rows.proofs.laws.cuts_keep_the_numbers.Goals as goal

pub returns-clause-cut : goal.returns-clause-cut
returns-clause-cut c = Holds-cut

pub returns-clause-tightened : goal.returns-clause-tightened
returns-clause-tightened c = Holds-tightened

pub returns-clause-divides : goal.returns-clause-divides
returns-clause-divides c = divides-divisor

pub returns-clause-greatest : goal.returns-clause-greatest
returns-clause-greatest c = dvd-divisor
