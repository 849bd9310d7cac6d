use Rattle.slang_values.specs.declared.operators.Unary.{Unary}
use Rattle.lk_claims.specs.declared.claim.Claim.TheVariants.{Neg, Not, Size, Field}
use Rattle.lk_claims.proofs.Trees.{claim_tree-Neg, claim_tree-Not, claim_tree-Size, claim_tree-Field}
use Rattle.lk_claims.proofs.Shapes.{made_unary}
use Rattle.lk_claims.proofs.claim.Claim.unary.Goals as goal

pub returns-in-Neg : goal.returns-in-Neg
returns-in-Neg c = made_unary Neg Unary.Neg claim_tree-Neg c.args.a c.in_ok-a.a c.args.op c.in-Neg.is c.in_ok-a.ensures

pub returns-in-Not : goal.returns-in-Not
returns-in-Not c = made_unary Not Unary.Not claim_tree-Not c.args.a c.in_ok-a.a c.args.op c.in-Not.is c.in_ok-a.ensures

pub returns-in-Size : goal.returns-in-Size
returns-in-Size c = made_unary Size Unary.Size claim_tree-Size c.args.a c.in_ok-a.a c.args.op c.in-Size.is c.in_ok-a.ensures

pub returns-in-Field : goal.returns-in-Field
returns-in-Field c =
    made_unary (λ a. Field a c.in-Field.k) (Unary.Field c.in-Field.k) (λ a. claim_tree-Field a c.in-Field.k) c.args.a c.in_ok-a.a c.args.op c.in-Field.is c.in_ok-a.ensures
