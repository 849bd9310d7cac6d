use Rattle.std.proofs.Common.{ap}
use Rattle.program_trees.specs.Legs.{set}
use Rattle.lk_claims.specs.Claim.{claim_tree}
use Rattle.leg_rules.specs.Legs.{at_node}
use Rattle.leg_items.specs.declared.name.Frame.TheVariants as f
use Rattle.leg_items.specs.Drafts.{framed}
use Rattle.leg_items.proofs.AddedItems.{pushed}
use Rattle.leg_items.proofs.adding.add_value.Goals as goal

pub returns : goal.returns
returns c =
    pushed c.args.out.now c.push.new.self _ _ c.in_ok-push.ensures.ok
    (ap (λ x. at_node c.args.node.0 (set x (framed (f.Own c.args.scope) (claim_tree c.args.claim)))) c.name.ensures)
