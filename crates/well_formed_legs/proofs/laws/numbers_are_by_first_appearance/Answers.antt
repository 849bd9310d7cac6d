use Rattle.well_formed_legs.proofs.Orders.{by_first_appearance}
use Rattle.well_formed_legs.proofs.laws.numbers_are_by_first_appearance.Goals as goal

pub returns : goal.returns
returns c = λ program method items fine known. by_first_appearance program method items fine known
