use Rattle.std.proofs.Common.{sym, ap, ◌∙◌}
use Rattle.lk_claims.specs.Step.{step_trees, steps_of}
use Rattle.program_trees.specs.Claims.{renamed_steps}
use Rattle.program_trees.specs.Legs.{proof}
use Rattle.leg_rules.specs.Legs.{at_node}
use Rattle.leg_items.specs.declared.name.Frame.TheVariants as f
use Rattle.leg_items.specs.Names.{frame_name}
use Rattle.leg_items.proofs.AddedItems.{own_steps, pushed}
use Rattle.leg_items.proofs.adding.add_proof.Goals as goal

pub returns : goal.returns
returns c =
    pushed c.args.out.now c.push.new.self _ _ c.in_ok-push.ensures.ok
    (ap (λ t. at_node c.args.node.0 (proof t))
    (ap (λ l. renamed_steps (frame_name (f.Own c.args.scope)) (steps_of l)) c.in_ok-steps.ensures
    ∙ sym (own_steps c.args.scope (step_trees c.args.steps.now))))
