use Rattle.leg_sequents.proofs.WellSorted.{sequents_well_sorted}
use Rattle.leg_sequents.proofs.laws.sequents_are_well_sorted.Goals as goal

pub returns : goal.returns
returns c = λ leg typed. sequents_well_sorted leg typed
