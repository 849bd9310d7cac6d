-- What it is that an order goes on along a leg.
use Rattle.std.specs.Prelude.{◌≡◌, ℕ, List}
use Rattle.std.specs.List.{flat_map}
use Rattle.lk_claims.specs.declared.claim.Claim.{Claim}
use Rattle.lk_claims.specs.Claim.{claim_tree}
use Rattle.lk_programs.specs.declared.typed.Typed.{Typed}
use Rattle.leg_rules.specs.Numbering.{Appearance, claim_appears}
use Rattle.leg_items.specs.declared.name.Frame.{Frame}
use Rattle.leg_items.specs.Drafts.{framed}
use Rattle.leg_orders.specs.declared.order.Order.{Order}
use Rattle.leg_orders.specs.Places.{method_of, program_of}
use Rattle.leg_orders.specs.Orders.{seen, sees_all}
use Rattle.leg_orders.specs.Closed.{IsClosed}

-- The second order is the first with what appears, and each of its records comes with all that it is made of.
pub record Follows (typed : Typed) (method : ℕ) (old new : Order) (appearances : List Appearance) : Type 0 where
  pub more : seen new.names new.records ≡ sees_all (program_of typed) (method_of typed method) (seen old.names old.records) appearances
  pub closed : IsClosed (program_of typed) new.records

-- of claims, one after the other
abbrev pub claims_appear : Frame → List Claim → List Appearance
claims_appear frame claims = flat_map (λ claim. claim_appears (framed frame (claim_tree claim))) claims
