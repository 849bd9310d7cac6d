use Rattle.std.proofs.Common.{◌≡◌, ◌+◌, ◌-◌, ◌≤◌, ◌++◌, length, drop, true}
use Rattle.lin_rows.specs.Inequality.{are_small}
use Rattle.lin_rows.specs.Sum.{sum_of_parts}
use Rattle.lin_rows.proofs.summing.combine_parts.Given as goal

-- the parts so far, and the sum of what is left, are the sum
abbrev pub invariant-parts : goal.invariant-parts
invariant-parts l = record {
  in_left : l.i ≤ length l.left;
  in_right : l.j ≤ length l.right;
  sum : l.parts.items ++ sum_of_parts (drop l.i l.left) l.p (drop l.j l.right) l.q ≡ sum_of_parts l.left l.p l.right l.q;
  small : are_small l.parts.items ≡ true;
}

abbrev pub decreases-parts : goal.decreases-parts
decreases-parts l = l.total - (l.i + l.j)
