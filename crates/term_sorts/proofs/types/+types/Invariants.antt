use Rattle.std.proofs.Common.{◌+◌, ◌*◌}
use Rattle.term_trees.specs.declared.term.Term.{size-Term}
use Rattle.term_sorts.proofs.types.+types.Given as goal

abbrev pub decreases-type_of : goal.decreases-type_of
decreases-type_of l = 2 * size-Term l.term.now

abbrev pub decreases-type_of_unary : goal.decreases-type_of_unary
decreases-type_of_unary l = 2 * size-Term l.a.now + 1

abbrev pub decreases-type_of_binary : goal.decreases-type_of_binary
decreases-type_of_binary l = 2 * size-Term l.a.now + 1
