-- A program of one method whose body is `if (b) { }`, so many times.
use Rattle.std.specs.Prelude.{ℕ, zero, suc, [], ◌∷◌}
use Rattle.slang_values.specs.Value.{unit_type, truth_type}
use Rattle.program_trees.specs.Claims.{NotedTree, variable_claim}
use Rattle.program_trees.specs.Programs.{CodeTree, branch, variable, CodeTrees, no_code, code_then, MethodTree, ProgramTree}

abbrev pub if_b : CodeTree ℕ
if_b = branch 0 (variable 0 0) no_code no_code

abbrev pub branches : ℕ → CodeTrees ℕ
branches zero = no_code
branches (suc n) = code_then if_b (branches n)

-- Ensures(b)
abbrev pub ensures_b : NotedTree ℕ
ensures_b = record { claim = variable_claim 0; node = 0 }

-- def m(b: B): Unit
abbrev pub branching : ℕ → MethodTree ℕ
branching n = record {
  name = 109 ∷ [];
  node = 0;
  params = truth_type ∷ [];
  result = unit_type;
  requires_ = [];
  modifies = [];
  ensures_ = ensures_b ∷ [];
  locals = truth_type ∷ [];
  body = branches n;
}

abbrev pub program : ℕ → ProgramTree ℕ
program n = record { records = []; globals = []; methods = branching n ∷ [] }
