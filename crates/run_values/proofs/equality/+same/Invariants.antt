use Rattle.std.proofs.Common.{◌≡◌, ℕ, drop}
use Rattle.slang_values.specs.Value.{same_values}
use Rattle.run_values.specs.Value.{plain_values}
use Rattle.run_values.proofs.equality.+same.Given as goal

abbrev pub invariant-are_all_same-loop-place : goal.invariant-are_all_same-loop-place
invariant-are_all_same-loop-place l =
    same_values (plain_values l.a) (plain_values l.b) ≡ same_values (plain_values (drop l.place l.a)) (plain_values (drop l.place l.b))
