use Rattle.lk_claims.specs.Claim.{claim_tree}
use Rattle.lk_programs.specs.Expr.{typed_expr}
use Rattle.leg_items.specs.Drafts.{items_of}
use Rattle.leg_items.proofs.AddedItems.{set_is}
use Rattle.leg_items.proofs.adding.add_set.Goals as goal

pub returns : goal.returns
returns c =
    set_is c.args.scope c.args.node.0 c.args.target (typed_expr c.args.value.now) (claim_tree c.in_ok-claim.claim)
    (items_of c.args.out.now) (items_of c.add_demanded.new.out) (items_of c.add_value.new.out)
    c.in_ok-add_demanded.ensures c.in_ok-add_value.ensures c.in_ok-claim.ensures
