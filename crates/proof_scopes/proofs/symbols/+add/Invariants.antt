use Rattle.std.proofs.Common.{take}
use Rattle.slang_values.specs.Tree.{parts}
use Rattle.term_trees.specs.declared.term.Term.{size-Term}
use Rattle.term_trees.specs.Term.{tree}
use Rattle.proof_scopes.specs.Scope.{is_in_some, Gains}
use Rattle.proof_scopes.proofs.symbols.+add.Given as goal

abbrev pub decreases-add_symbols : goal.decreases-add_symbols
decreases-add_symbols l = size-Term l.term.now

abbrev pub invariant-loop-place : goal.invariant-loop-place
invariant-loop-place l = Gains l.fn.symbols l.symbols (is_in_some (take l.place (parts (tree l.term))))
