use Rattle.std.proofs.Common.{◌≡◌, false, take}
use Rattle.std.specs.List.{list_any}
use Rattle.slang_values.specs.Tree.{parts}
use Rattle.term_trees.specs.declared.term.Term.{size-Term}
use Rattle.term_trees.specs.Term.{tree}
use Rattle.deduction_rules.specs.Replacement.{has_symbol}
use Rattle.proof_scopes.specs.Scope.{has}
use Rattle.proof_scopes.proofs.symbols.+mentions.Given as goal

abbrev pub decreases-mentions : goal.decreases-mentions
decreases-mentions l = size-Term l.term.now

abbrev pub invariant-loop-place : goal.invariant-loop-place
invariant-loop-place l = list_any (has_symbol (has l.symbols)) (take l.place (parts (tree l.term))) ≡ false
