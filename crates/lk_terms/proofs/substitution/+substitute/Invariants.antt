use Rattle.std.proofs.Common.{◌+◌, ◌*◌, max, take}
use Rattle.term_trees.specs.declared.term.Term.{size-Term}
use Rattle.term_trees.specs.Shape.{deepest}
use Rattle.term_trees.specs.Term.{tree, trees}
use Rattle.lk_terms.specs.Substitution.{AllSubstitute}
use Rattle.lk_terms.proofs.substitution.+substitute.Given as goal

abbrev pub decreases-substitute_at : goal.decreases-substitute_at
decreases-substitute_at l = 3 * size-Term l.term.now

abbrev pub decreases-substitute_binary : goal.decreases-substitute_binary
decreases-substitute_binary l = 3 * max (size-Term l.a.now) (size-Term l.b.now) + 1

abbrev pub decreases-substitute_update : goal.decreases-substitute_update
decreases-substitute_update l = 3 * max (size-Term l.a.now) (max (size-Term l.i.now) (size-Term l.x.now)) + 1

abbrev pub decreases-substitute_quantified : goal.decreases-substitute_quantified
decreases-substitute_quantified l = 3 * max (size-Term l.low.now) (max (size-Term l.high.now) (size-Term l.body.now)) + 1

abbrev pub decreases-substitute_all : goal.decreases-substitute_all
decreases-substitute_all l = 3 * deepest l.terms.now + 2

abbrev pub decreases-add_substituted : goal.decreases-add_substituted
decreases-add_substituted l = 3 * deepest l.terms.now + 1

abbrev pub invariant-add_substituted-loop-term : goal.invariant-add_substituted-loop-term
invariant-add_substituted-loop-term l =
    AllSubstitute l.place (tree l.by) (trees (take l.term-index l.terms)) (trees l.parts)
