use Rattle.std.proofs.Common.{◌≡◌, ◌-◌, ◌++◌, drop, length}
use Rattle.store_cases.specs.Lists.{Extends, list_at, IsListAt}
use Rattle.store_cases.proofs.lists.Lists.add_all.Given as goal

abbrev pub invariant-loop-count : goal.invariant-loop-count
invariant-loop-count l =
    IsListAt l.self l.place (drop (length l.ids - l.count) l.ids ++ list_at l.fn.self l.rest) × Extends l.fn.self l.self
