-- The blocks of a method's code by their paths, and the statements of a block by their numbers.
use Rattle.std.specs.Prelude.{◌≡◌, ℕ, zero, suc, Bool, true, false, List, [], ◌∷◌, if◌then◌else◌, Option, Some, None}
use Rattle.program_trees.specs.Programs.{CodeTree, set, give, assert, deduce, branch, loop, call, CodeTrees, no_code, code_then}
use Rattle.code_paths.specs.declared.inside.Inside.{Inside}

-- the statement of that number
abbrev pub nth_statement : {A : Type 0} → CodeTrees A → ℕ → Option (CodeTree A)
nth_statement no_code n = None
nth_statement (code_then code codes) zero = Some code
nth_statement (code_then code codes) (suc n) = nth_statement codes n

-- the statements from that number on
abbrev pub from_statement : {A : Type 0} → CodeTrees A → ℕ → CodeTrees A
from_statement codes zero = codes
from_statement no_code (suc n) = no_code
from_statement (code_then code codes) (suc n) = from_statement codes n

-- what an `if` does otherwise, or else its first part or the body of a loop
abbrev pub part_of : {A : Type 0} → CodeTree A → Bool → CodeTrees A
part_of (set node target value) otherwise = no_code
part_of (give node value) otherwise = no_code
part_of (assert noted) otherwise = no_code
part_of (deduce node steps) otherwise = no_code
part_of (branch node test on_true on_false) otherwise = if otherwise then on_false else on_true
part_of (loop node test modifies invariants body) otherwise = body
part_of (call node target name_node number arguments) otherwise = no_code

abbrev pub part_where : {A : Type 0} → Option (CodeTree A) → Bool → CodeTrees A
part_where None otherwise = no_code
part_where (Some code) otherwise = part_of code otherwise

abbrev pub inner_block : {A : Type 0} → CodeTrees A → ℕ → Bool → CodeTrees A
inner_block codes statement otherwise = part_where (nth_statement codes statement) otherwise

-- the block at the end of a path
abbrev pub block_in : {A : Type 0} → CodeTrees A → List Inside → CodeTrees A
block_in codes [] = codes
block_in codes (inside ∷ path) = block_in (inner_block codes inside.statement inside.otherwise) path
