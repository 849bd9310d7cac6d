use Rattle.std.proofs.Common.{◌≡◌, ◌≤◌, ◌^◌, drop}
use Rattle.whole_numbers.specs.Gcd.{gcd}
use Rattle.lin_rows.specs.Cut.{divisor}
use Rattle.lin_rows.proofs.cutting.divisor_of_parts.Given as goal

-- the divisor so far, with that of what is left, is the divisor
abbrev pub invariant-loop-part : goal.invariant-loop-part
invariant-loop-part l = record {
  so_far : gcd l.common (divisor (drop l.part-index l.parts)) ≡ divisor l.parts;
  most : l.common ≤ 2 ^ 127;
}
