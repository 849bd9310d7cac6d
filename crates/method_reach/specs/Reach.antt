-- The methods that calls lead to, as a list of their numbers.
use Rattle.std.specs.Prelude.{◌≡◌, ◌↔◌, ℕ, List, true, nat_eq}
use Rattle.std.specs.List.Sorted.{IsStrictlyIncreasing}
use Rattle.std.specs.Set.{is_member}
use Rattle.program_trees.specs.Programs.{ProgramTree}
use Rattle.program_trees.specs.Variables.{Variable}
use Rattle.run_rules.specs.Reach.{Reaches}

-- These are the numbers of all methods that calls lead to from one, in ascending order. The method itself is among them.
pub record IsReach (program : ProgramTree Variable) (from : ℕ) (numbers : List ℕ) : Type 0 where
  pub ascending : IsStrictlyIncreasing numbers
  pub reached : (number : ℕ) → (is_member nat_eq numbers number ≡ true) ↔ Reaches program from number
