use Rattle.std.proofs.Common.{◌≡◌, ◌+◌, ◌*◌, ◌++◌, max, take, map}
use Rattle.term_trees.specs.declared.term.Term.{size-Term}
use Rattle.term_trees.specs.Shape.{deepest}
use Rattle.term_trees.specs.Term.{tree}
use Rattle.term_walks.proofs.copying.+copy.Given as goal

abbrev pub decreases-copy : goal.decreases-copy
decreases-copy l = 3 * size-Term l.term.now

abbrev pub decreases-copy_binary : goal.decreases-copy_binary
decreases-copy_binary l = 3 * max (size-Term l.a.now) (size-Term l.b.now) + 1

abbrev pub decreases-copy_update : goal.decreases-copy_update
decreases-copy_update l = 3 * max (size-Term l.a.now) (max (size-Term l.i.now) (size-Term l.x.now)) + 1

abbrev pub decreases-copy_quantified : goal.decreases-copy_quantified
decreases-copy_quantified l = 3 * max (size-Term l.low.now) (max (size-Term l.high.now) (size-Term l.body.now)) + 1

abbrev pub decreases-copy_all : goal.decreases-copy_all
decreases-copy_all l = 3 * deepest l.terms.now + 2

abbrev pub decreases-add_copies : goal.decreases-add_copies
decreases-add_copies l = 3 * deepest l.terms.now + 1

abbrev pub invariant-add_copies-loop-term : goal.invariant-add_copies-loop-term
invariant-add_copies-loop-term l = map tree l.copies ≡ map tree l.fn.copies ++ map tree (take l.term-index l.terms)
