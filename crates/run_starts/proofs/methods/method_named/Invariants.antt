use Rattle.std.proofs.Common.{ℕ, ◌<◌}
use Rattle.program_trees.specs.Variables.{with_kinds}
use Rattle.lk_programs.specs.Typed.{program_tree}
use Rattle.run_starts.specs.Methods.{HasName}
use Rattle.run_starts.proofs.methods.method_named.Given as goal

-- no method so far has the name
abbrev pub invariant-methods : goal.invariant-methods
invariant-methods l = (n : ℕ) → n < l.place → HasName (with_kinds (program_tree l.typed)) n l.name → ⊥
