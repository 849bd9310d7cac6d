-- The items of a leg before its variables are numbered, as plain data.
use Rattle.std.specs.Prelude.{ℕ, List, map}
use Rattle.program_trees.specs.Claims.{ClaimTree, NotedTree, variable_claim, renamed_claim, renamed_steps}
use Rattle.program_trees.specs.Legs.{ItemTree, assume, check, set, fresh, proof, NotedItem}
use Rattle.program_trees.specs.declared.answer.Kind.{Kind}
use Rattle.lk_claims.specs.Claim.{claim_tree}
use Rattle.lk_claims.specs.Step.{step_trees}
use Rattle.leg_rules.specs.LegNames.{LegName}
use Rattle.leg_rules.specs.Legs.{Items, at_node}
use Rattle.leg_rules.specs.Checks.{Demand}
use Rattle.leg_items.specs.declared.draft.Draft.{Draft}
use Rattle.leg_items.specs.declared.draft.Draft.TheVariants as d
use Rattle.leg_items.specs.declared.draft.DraftItem.{DraftItem}
use Rattle.leg_items.specs.declared.name.Frame.{Frame}
use Rattle.leg_items.specs.Names.{leg_name, frame_name}

-- a claim over the variables of the frame
abbrev pub framed : Frame → ClaimTree ℕ → ClaimTree LegName
framed frame claim = renamed_claim (frame_name frame) claim

abbrev pub draft_item : Draft → ItemTree LegName
draft_item (d.Assume frame claim) = assume (framed frame (claim_tree claim))
draft_item (d.Check kind frame claim) = check kind (framed frame (claim_tree claim))
draft_item (d.Set name frame claim) = set (leg_name name) (framed frame (claim_tree claim))
draft_item (d.SetToVariable name source) = set (leg_name name) (variable_claim (leg_name source))
draft_item (d.Fresh names) = fresh (map leg_name names)
draft_item (d.Proof frame steps) = proof (renamed_steps (frame_name frame) (step_trees steps))

abbrev pub noted_item : DraftItem → NotedItem LegName
noted_item item = at_node item.node.0 (draft_item item.draft)

-- what the drafts are
abbrev pub items_of : List DraftItem → Items
items_of drafts = map noted_item drafts

-- what claims are where they are assumed, or checked
abbrev pub framed_assumption : Frame → NotedTree ℕ → NotedItem LegName
framed_assumption frame noted = at_node noted.node (assume (framed frame noted.claim))

abbrev pub framed_check : Kind → Frame → NotedTree ℕ → NotedItem LegName
framed_check kind frame noted = at_node noted.node (check kind (framed frame noted.claim))

abbrev pub framed_demand : Frame → Demand ℕ → NotedItem LegName
framed_demand frame demand = at_node demand.node (check demand.kind (framed frame demand.claim))
