use Rattle.slang_values.specs.declared.operators.Quantifier.{Quantifier}
use Rattle.lk_claims.specs.declared.claim.Claim.TheVariants.{All, Exists}
use Rattle.lk_claims.proofs.Trees.{claim_tree-All, claim_tree-Exists}
use Rattle.lk_claims.proofs.Shapes.{made_quantified}
use Rattle.lk_claims.proofs.claim.Claim.quantified.Goals as goal

pub returns-in-All : goal.returns-in-All
returns-in-All c =
    made_quantified All Quantifier.All claim_tree-All c.args.low c.args.high c.args.body c.in_ok-low.low c.in_ok-low.high c.in_ok-low.body c.args.quantifier c.in-All.is (c.in_ok-low.ensures.0) (c.in_ok-low.ensures.1) (c.in_ok-low.ensures.2)

pub returns-in-Exists : goal.returns-in-Exists
returns-in-Exists c =
    made_quantified Exists Quantifier.Exists claim_tree-Exists c.args.low c.args.high c.args.body c.in_ok-low.low c.in_ok-low.high c.in_ok-low.body c.args.quantifier c.in-Exists.is (c.in_ok-low.ensures.0) (c.in_ok-low.ensures.1) (c.in_ok-low.ensures.2)
