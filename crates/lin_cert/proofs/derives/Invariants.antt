use Rattle.std.proofs.Common.{◌↔◌, IsTrue, take, drop}
use Rattle.lin_cert.specs.Certificate.{IsDerivation, IsDerivationAfter, are_within}
use Rattle.lin_cert.proofs.derives.Given as goal

-- the lines so far are within the limit, and the lines are right where those that are left are
abbrev pub invariant-loop-k : goal.invariant-loop-k
invariant-loop-k l = record {
  within : IsTrue (are_within (take l.k l.lines));
  left : IsDerivationAfter l.rows (take l.k l.lines) (drop l.k l.lines) ↔ IsDerivation l.rows l.lines;
}
