use Rattle.whole_numbers.proofs.Floors.{floor_is_greatest, floor-product}
use Rattle.whole_numbers.proofs.laws_of_floors.Goals as goal

pub returns-clause-greatest : goal.returns-clause-greatest
returns-clause-greatest c = floor_is_greatest

pub returns-clause-of_a_product : goal.returns-clause-of_a_product
returns-clause-of_a_product c = floor-product
