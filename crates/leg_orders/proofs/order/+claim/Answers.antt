use Rattle.std.proofs.Common.{[], ◌∷◌, ◌++◌, take, length, ◌<◌, ◌+◌, sym, ap, ◌∙◌, arith}
use Rattle.std.proofs.lemmas.List.{take_more}
use Rattle.std.proofs.lemmas.Result.{on_ok_weaker}
use Rattle.lk_claims.specs.Claim.{claim_tree, value_type}
use Rattle.leg_rules.specs.Numbering.{claim_appears}
use Rattle.leg_items.specs.Drafts.{framed}
use Rattle.leg_items.specs.Names.{leg_name}
use Rattle.leg_orders.proofs.Walks.{follows_more, follows_nothing, goes_binary, goes_bound, goes_literal, goes_old, goes_quantified, goes_record, goes_sequence, goes_symbol, goes_truth, goes_unary, goes_update, goes_variable}
use Rattle.leg_orders.proofs.order.+claim.Goals as goal

pub add_claim-returns-in-Literal : goal.add_claim-returns-in-Literal
add_claim-returns-in-Literal t c = goes_literal c.args.typed.now c.args.method c.args.frame c.args.order.now (claim_tree c.args.claim.now) _ c.in-Literal.ensures c.requires

pub add_claim-returns-in-Truth : goal.add_claim-returns-in-Truth
add_claim-returns-in-Truth t c = goes_truth c.args.typed.now c.args.method c.args.frame c.args.order.now (claim_tree c.args.claim.now) _ c.in-Truth.ensures c.requires

pub add_claim-returns-in-Bound : goal.add_claim-returns-in-Bound
add_claim-returns-in-Bound t c = goes_bound c.args.typed.now c.args.method c.args.frame c.args.order.now (claim_tree c.args.claim.now) _ c.in-Bound.ensures c.requires

pub add_claim-returns-in-LetSymbol : goal.add_claim-returns-in-LetSymbol
add_claim-returns-in-LetSymbol t c = goes_symbol c.args.typed.now c.args.method c.args.frame c.args.order.now (claim_tree c.args.claim.now) _ c.in-LetSymbol.ensures c.requires

pub add_claim-returns-in-Variable : goal.add_claim-returns-in-Variable
add_claim-returns-in-Variable t c =
    on_ok_weaker c.add_name.result
    (goes_variable c.args.typed.now c.args.method c.args.frame c.args.order.now c.add_name.new.order (claim_tree c.args.claim.now) c.in-Variable.n (leg_name c.name.result)
    c.in-Variable.ensures c.name.ensures)
    c.add_name.ensures

pub add_claim-returns-in-OldVariable : goal.add_claim-returns-in-OldVariable
add_claim-returns-in-OldVariable t c =
    on_ok_weaker c.add_name-in-OldVariable.result
    (goes_old c.args.typed.now c.args.method c.args.frame c.args.order.now c.add_name-in-OldVariable.new.order (claim_tree c.args.claim.now) c.in-OldVariable.n (leg_name c.name-in-OldVariable.result)
    c.in-OldVariable.ensures c.name-in-OldVariable.ensures)
    c.add_name-in-OldVariable.ensures

pub add_claim-returns-in-Unary : goal.add_claim-returns-in-Unary
add_claim-returns-in-Unary t c =
    on_ok_weaker c.add_claim.result
    (goes_unary c.args.typed.now c.args.method c.args.frame c.args.order.now c.add_claim.new.order (claim_tree c.args.claim.now) (claim_tree c.in-Unary.a.now) c.in-Unary.field-0 c.in-Unary.ensures.0)
    c.add_claim.ensures

pub add_claim-returns-in_ok-add_claim-in-Binary : goal.add_claim-returns-in_ok-add_claim-in-Binary
add_claim-returns-in_ok-add_claim-in-Binary t c =
    on_ok_weaker c.add_claim-in-Binary-2.result
    (goes_binary c.args.typed.now c.args.method c.args.frame c.args.order.now c.add_claim-in-Binary.new.order c.add_claim-in-Binary-2.new.order (claim_tree c.args.claim.now)
    (claim_tree c.in-Binary.a.now) (claim_tree c.in-Binary.b.now) c.in-Binary.field-0 c.in-Binary.ensures.0 c.in_ok-add_claim-in-Binary.ensures)
    c.add_claim-in-Binary-2.ensures

pub add_claim-returns-in-Update : goal.add_claim-returns-in-Update
add_claim-returns-in-Update t c =
    on_ok_weaker c.add_three.result
    (goes_update c.args.typed.now c.args.method c.args.frame c.args.order.now c.add_three.new.order (claim_tree c.args.claim.now) (claim_tree c.in-Update.a.now) (claim_tree c.in-Update.i.now)
    (claim_tree c.in-Update.x.now) c.in-Update.ensures.0)
    c.add_three.ensures

pub add_claim-returns-in-Quantified : goal.add_claim-returns-in-Quantified
add_claim-returns-in-Quantified t c =
    on_ok_weaker c.add_three-in-Quantified.result
    (goes_quantified c.args.typed.now c.args.method c.args.frame c.args.order.now c.add_three-in-Quantified.new.order (claim_tree c.args.claim.now) (claim_tree c.in-Quantified.low.now)
    (claim_tree c.in-Quantified.high.now) (claim_tree c.in-Quantified.body.now) c.in-Quantified.field-0 c.in-Quantified.ensures.0)
    c.add_three-in-Quantified.ensures

pub add_claim-returns-in_ok-add_element_type-in-Sequence : goal.add_claim-returns-in_ok-add_element_type-in-Sequence
add_claim-returns-in_ok-add_element_type-in-Sequence t c =
    on_ok_weaker c.add_claims.result
    (goes_sequence c.args.typed.now c.args.method c.args.frame c.args.order.now c.add_element_type.new.order c.add_claims.new.order (claim_tree c.args.claim.now) (value_type c.in-Sequence.ty.now)
    c.in-Sequence.claims.now c.in-Sequence.ensures.0 c.in_ok-add_element_type-in-Sequence.ensures)
    c.add_claims.ensures

pub add_claim-returns-in_ok-add_front_record-in-Record : goal.add_claim-returns-in_ok-add_front_record-in-Record
add_claim-returns-in_ok-add_front_record-in-Record t c =
    on_ok_weaker c.add_claims-in-Record.result
    (goes_record c.args.typed.now c.args.method c.args.frame c.args.order.now c.add_front_record.new.order c.add_claims-in-Record.new.order (claim_tree c.args.claim.now) c.in-Record.number
    c.in-Record.claims.now c.in-Record.ensures.0 c.in_ok-add_front_record-in-Record.ensures)
    c.add_claims-in-Record.ensures

pub add_claims-loop-claim-init : goal.add_claims-loop-claim-init
add_claims-loop-claim-init t c = follows_nothing c.args.typed.now c.args.method c.args.order.now c.requires

pub add_claims-loop-claim-preserved : goal.add_claims-loop-claim-preserved
add_claims-loop-claim-preserved t c =
    let claims = c.args.claims.now in
    let i = c.loop-claim.claim-index in
    let below : i < length claims = omega (arith, c.loop-claim-test.true) in
    follows_more c.args.typed.now c.args.method (λ claim. claim_appears (framed c.args.frame (claim_tree claim))) (take i claims) (take (i + 1) claims) c.claim-item.result
    c.args.order.now c.loop-claim.order c.add_claim.new.order
    (take_more claims i c.claim-item.result below ∙ ap (λ x. take i claims ++ x ∷ []) (sym c.claim-item.is))
    c.loop-claim.invariant c.in_ok-add_claim.ensures
