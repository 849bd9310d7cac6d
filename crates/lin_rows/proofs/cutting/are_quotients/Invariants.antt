use Rattle.std.proofs.Common.{◌≡◌, ◌↔◌, IsTrue, length, drop}
use Rattle.lin_rows.specs.Cut.{divides, cut_parts}
use Rattle.lin_rows.proofs.cutting.are_quotients.Given as goal

-- the answer is that for what is left
abbrev pub invariant-loop-i : goal.invariant-loop-i
invariant-loop-i l = record {
  as_long : length l.claimed ≡ length l.parts;
  left : (IsTrue (divides l.by (drop l.i l.parts)) × (drop l.i l.claimed ≡ cut_parts l.by (drop l.i l.parts)))
      ↔ (IsTrue (divides l.by l.parts) × (l.claimed ≡ cut_parts l.by l.parts));
}
