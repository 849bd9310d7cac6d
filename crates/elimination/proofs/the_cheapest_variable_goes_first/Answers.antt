use Rattle.elimination.proofs.Choice.{chosen-occurs, chosen-first, chosen-none_occurs}
use Rattle.elimination.proofs.the_cheapest_variable_goes_first.Goals as goal

pub returns-clause-occurs : goal.returns-clause-occurs
returns-clause-occurs c = chosen-occurs

pub returns-clause-first : goal.returns-clause-first
returns-clause-first c = λ rows v w e h. (chosen-first rows v e w h).order

pub returns-clause-none : goal.returns-clause-none
returns-clause-none c = λ rows w e h. chosen-none_occurs rows e w h
