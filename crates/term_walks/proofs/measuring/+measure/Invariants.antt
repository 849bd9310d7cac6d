use Rattle.std.proofs.Common.{◌+◌, ◌*◌, take}
use Rattle.slang_values.specs.Measure.{total_nodes, greatest_height}
use Rattle.term_trees.specs.declared.term.Term.{size-Term}
use Rattle.term_walks.specs.Measure.{IsMeasureOf}
use Rattle.term_trees.specs.Shape.{deepest}
use Rattle.term_trees.specs.Term.{trees}
use Rattle.term_walks.proofs.measuring.+measure.Given as goal

abbrev pub decreases-measure : goal.decreases-measure
decreases-measure l = 2 * size-Term l.term.now

abbrev pub decreases-measure_all : goal.decreases-measure_all
decreases-measure_all l = 2 * deepest l.terms.now + 1

abbrev pub invariant-measure_all-loop-term : goal.invariant-measure_all-loop-term
invariant-measure_all-loop-term l =
    IsMeasureOf (total_nodes (trees (take l.term-index l.terms))) (greatest_height (trees (take l.term-index l.terms))) l.all
