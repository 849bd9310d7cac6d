use Rattle.std.proofs.Common.{ap, ap₂, sym, ◌∙◌}
use Rattle.program_trees.specs.Legs.{set}
use Rattle.lk_programs.specs.Expr.{typed_expr}
use Rattle.leg_rules.specs.Legs.{at_node}
use Rattle.leg_items.specs.declared.name.Frame.TheVariants as f
use Rattle.leg_items.specs.Names.{leg_name}
use Rattle.leg_items.specs.Drafts.{framed}
use Rattle.leg_items.proofs.AddedItems.{own_expr, pushed}
use Rattle.call_items.proofs.call.add_parameter.Goals as goal

pub returns : goal.returns
returns c =
    let caller = c.args.call.caller in
    pushed c.args.out.now c.push.new.self _ _ c.in_ok-push.ensures.ok
    (ap₂ (λ v t. at_node c.args.call.node.0 (set (leg_name v) t)) c.variable.ensures
    (ap (framed (f.Own caller)) c.in_ok-claim.ensures ∙ sym (own_expr caller (typed_expr c.args.argument.now))))
