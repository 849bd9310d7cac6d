use Rattle.item_checks.proofs.Tested.{items_told, items_tested}
use Rattle.item_checks.proofs.laws.items_are_tested.Goals as goal

pub returns : goal.returns
returns c = λ records variables items. (items_told records variables items, items_tested records variables items)
