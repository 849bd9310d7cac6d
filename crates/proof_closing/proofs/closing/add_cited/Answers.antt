use Rattle.std.proofs.Common.{map}
use Rattle.term_trees.specs.Term.{tree}
use Rattle.proof_closing.proofs.Claims.{cited_more}
use Rattle.proof_closing.proofs.closing.add_cited.Goals as goal

pub loop-one-preserved : goal.loop-one-preserved
loop-one-preserved c =
    cited_more (map tree c.args.claims.now) (map tree c.loop-one.claims) (map tree c.add_claim.new.claims) c.args.cited.now c.loop-one.one-index
    c.one-item.result c.loop-one-test.true c.one-item.is c.loop-one.invariant c.in_ok-add_claim.ensures
