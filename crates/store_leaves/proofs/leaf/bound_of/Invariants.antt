use Rattle.std.proofs.Common.{ℕ, ◌<◌, ◌≤◌, length, take}
use Rattle.std.specs.List.{All}
use Rattle.store_leaves.proofs.leaf.bound_of.Given as goal

abbrev pub invariant-loop-at : goal.invariant-loop-at
invariant-loop-at l = record {
  above : All (λ (k : ℕ). k < l.bound) (take l.at l.literals);
  within : l.bound ≤ length l.store;
}
