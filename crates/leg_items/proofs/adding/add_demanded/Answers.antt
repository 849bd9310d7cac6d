use Rattle.std.proofs.Common.{◌++◌, map, ap, ◌∙◌}
use Rattle.lk_claims.specs.Claim.{claim_tree}
use Rattle.lk_programs.specs.Expr.{typed_expr}
use Rattle.leg_rules.specs.Checks.{demands}
use Rattle.leg_items.specs.Drafts.{items_of}
use Rattle.leg_items.specs.Demands.{demanded_under}
use Rattle.leg_items.proofs.AddedItems.{demanded_is}
use Rattle.leg_items.proofs.adding.add_demanded.Goals as goal

pub returns : goal.returns
returns c =
    demanded_is c.args.scope (typed_expr c.args.expr.now) (items_of c.args.out.now) (items_of c.add_demands.new.out)
    (c.in_ok-add_demands.ensures.items
    ∙ ap (λ cs. items_of c.args.out.now ++ demanded_under c.args.scope (map claim_tree cs) (demands (typed_expr c.args.expr.now))) c.new-conditions.ensures)
