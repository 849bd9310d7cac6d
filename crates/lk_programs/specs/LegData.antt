-- A leg as plain data.
use Rattle.std.specs.Prelude.{ℕ, map}
use Rattle.program_trees.specs.Legs.{ItemTree, assume, check, set, fresh, proof, LegTree}
use Rattle.lk_claims.specs.Claim.{value_type, claim_tree}
use Rattle.lk_claims.specs.Step.{step_trees}
use Rattle.lk_programs.specs.declared.leg.Item.{Item}
use Rattle.lk_programs.specs.declared.leg.Item.TheVariants as i
use Rattle.lk_programs.specs.declared.leg.Leg.{Leg}

abbrev pub item_tree : Item → ItemTree ℕ
item_tree (i.Assume claim) = assume (claim_tree claim)
item_tree (i.Check kind claim) = check kind (claim_tree claim)
item_tree (i.Set target claim) = set target (claim_tree claim)
item_tree (i.Fresh targets) = fresh targets
item_tree (i.Proof steps) = proof (step_trees steps)

abbrev pub leg_tree : Leg → LegTree
leg_tree leg = record {
  records = map (map value_type) leg.records;
  variables = map value_type leg.vars;
  items = map item_tree leg.items;
}
