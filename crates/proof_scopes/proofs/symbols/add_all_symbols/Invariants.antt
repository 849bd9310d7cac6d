use Rattle.std.proofs.Common.{map, take}
use Rattle.term_trees.specs.Term.{tree}
use Rattle.proof_scopes.specs.Scope.{is_in_some, Gains}
use Rattle.proof_scopes.proofs.symbols.add_all_symbols.Given as goal

abbrev pub invariant-loop-term : goal.invariant-loop-term
invariant-loop-term l = Gains l.fn.symbols l.symbols (is_in_some (take l.term-index (map tree l.terms)))
