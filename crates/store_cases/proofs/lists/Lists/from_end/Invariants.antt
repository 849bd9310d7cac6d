use Rattle.std.proofs.Common.{◌≡◌, ◌<◌, ◌++◌, length}
use Rattle.store_cases.specs.Lists.{list_at}
use Rattle.store_cases.proofs.lists.Lists.from_end.Given as goal

abbrev pub invariant-cells : goal.invariant-cells
invariant-cells l =
    (l.at < length l.self) × (l.ids.items ++ list_at l.self l.at ≡ list_at l.self l.place)

abbrev pub decreases-cells : goal.decreases-cells
decreases-cells l =
    l.at
