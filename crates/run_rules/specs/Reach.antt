-- Which methods calls lead to.
use Rattle.std.specs.Prelude.{◌≡◌, ℕ, nat_eq, List, [], ◌∷◌, ◌++◌, Bool, true, ◌&&◌}
use Rattle.std.specs.Set.{is_member}
use Rattle.program_trees.specs.Programs.{CodeTree, set, give, assert, deduce, branch, loop, call, CodeTrees, no_code, code_then, ProgramTree}
use Rattle.program_trees.specs.Variables.{Variable}
use Rattle.run_rules.specs.Runs.{method_at}

abbrev mutual
  -- the methods that a statement calls, by number, in the order of the text
  pub calls : {A : Type 0} → CodeTree A → List ℕ
  calls (set node target value) = []
  calls (give node value) = []
  calls (assert noted) = []
  calls (deduce node steps) = []
  calls (branch node test on_true on_false) = calls_of_all on_true ++ calls_of_all on_false
  calls (loop node test modifies invariants body) = calls_of_all body
  calls (call node target name_node method arguments) = method ∷ []

  pub calls_of_all : {A : Type 0} → CodeTrees A → List ℕ
  calls_of_all no_code = []
  calls_of_all (code_then code codes) = calls code ++ calls_of_all codes

-- The first of the methods is called by the one of that number, the next by the first, and so on, and the last of them is `to`.
abbrev pub leads : ProgramTree Variable → ℕ → List ℕ → ℕ → Bool
leads program number [] to = nat_eq number to
leads program number (called ∷ path) to = is_member nat_eq (calls_of_all (method_at program number).body) called && leads program called path to

-- A list of calls leads from the one method to the other. The empty list leads from a method to itself.
abbrev pub Reaches : ProgramTree Variable → ℕ → ℕ → Type 0
Reaches program from to = (path : List ℕ) × (leads program from path to ≡ true)
