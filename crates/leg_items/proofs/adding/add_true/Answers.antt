use Rattle.std.proofs.Common.{sym, ap, ◌∙◌}
use Rattle.program_trees.specs.Legs.{assume}
use Rattle.lk_programs.specs.Expr.{typed_expr}
use Rattle.leg_rules.specs.Legs.{at_node}
use Rattle.leg_items.specs.declared.name.Frame.TheVariants as f
use Rattle.leg_items.specs.Drafts.{framed}
use Rattle.leg_items.proofs.AddedItems.{own_expr, pushed}
use Rattle.leg_items.proofs.adding.add_true.Goals as goal

pub returns : goal.returns
returns c =
    pushed c.args.out.now c.push.new.self _ _ c.in_ok-push.ensures.ok
    (ap (λ t. at_node c.args.node.0 (assume t))
    (ap (framed (f.Own c.args.scope)) c.in_ok-claim.ensures ∙ sym (own_expr c.args.scope (typed_expr c.args.test.now))))
