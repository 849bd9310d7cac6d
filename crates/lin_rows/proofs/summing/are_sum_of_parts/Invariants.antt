use Rattle.std.proofs.Common.{◌≡◌, ◌+◌, ◌-◌, ◌≤◌, ◌++◌, length, take, drop}
use Rattle.lin_rows.specs.Sum.{sum_of_parts}
use Rattle.lin_rows.proofs.summing.are_sum_of_parts.Given as goal

-- the first n claimed parts, and the sum of what is left, are the sum
abbrev pub invariant-parts : goal.invariant-parts
invariant-parts l = record {
  in_left : l.i ≤ length l.left;
  in_right : l.j ≤ length l.right;
  in_claimed : l.n ≤ length l.claimed;
  sum : take l.n l.claimed ++ sum_of_parts (drop l.i l.left) l.p (drop l.j l.right) l.q ≡ sum_of_parts l.left l.p l.right l.q;
}

abbrev pub decreases-parts : goal.decreases-parts
decreases-parts l = l.total - (l.i + l.j)
