use Rattle.std.proofs.Common.{refl}
use Rattle.std.proofs.lemmas.Result.{on_ok_weaker}
use Rattle.lk_claims.specs.Claim.{claim_tree}
use Rattle.lk_programs.specs.Expr.{typed_expr}
use Rattle.leg_items.specs.Drafts.{items_of}
use Rattle.leg_items.proofs.AddedItems.{pushed}
use Rattle.leg_paths.proofs.Forms.{returned}
use Rattle.leg_paths.proofs.statements.add_returned.Goals as goal

pub returns : goal.returns
returns c =
    on_ok_weaker c.push.result
    (λ h. returned c.args.scope c.args.node.0 (typed_expr c.args.value.now) (claim_tree c.in_ok-claim.claim) (items_of c.args.out.now) (items_of c.add_demanded.new.out) (items_of c.push.new.self)
    c.in_ok-add_demanded.ensures (pushed c.add_demanded.new.out c.push.new.self _ _ h refl) c.in_ok-claim.ensures)
    c.push.ensures.ok
