use Rattle.lk_terms.proofs.Substituting.{AllSubstitute-more}
use Rattle.term_trees.specs.Term.{tree}
use Rattle.lk_terms.proofs.substitution.+substitute.Goals as goal

pub add_substituted-loop-term-preserved : goal.add_substituted-loop-term-preserved
add_substituted-loop-term-preserved t c =
    AllSubstitute-more c.args.place (tree c.args.by.now) c.args.terms.now c.loop-term.parts c.push.new.self c.loop-term.term-index c.term-item.result c.in_ok-substitute_at.field-0 c.loop-term.invariant c.loop-term-test.true c.term-item.is c.in_ok-substitute_at.ensures c.in_ok-push.ensures.ok
