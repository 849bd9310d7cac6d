use Rattle.std.proofs.Common.{take, is_some, nat_eq, IsTrue}
use Rattle.std.specs.HashMap.{get}
use Rattle.std.specs.List.{AllByRecursion}
use Rattle.lin_solve.specs.Lines.{row_of}
use Rattle.lin_solve.specs.Print.{print_of}
use Rattle.lin_solve.proofs.keeping.Kept.of.Given as goal

-- the lines so far are found
abbrev pub invariant-loop-place : goal.invariant-loop-place
invariant-loop-place l =
    AllByRecursion (λ k. IsTrue (is_some (get nat_eq l.places (print_of (row_of l.lines k))))) (take l.place l.kept.items)
