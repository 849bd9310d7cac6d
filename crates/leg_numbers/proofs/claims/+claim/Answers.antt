use Rattle.std.proofs.Common.{◌≡◌, ℕ, ◌<◌, [], ◌∷◌, ◌++◌, length, map, take, ap, ap₂, sym, ◌∙◌, arith}
use Rattle.std.proofs.lemmas.List.{map-append, map_more}
use Rattle.program_trees.specs.Claims.{ClaimTree}
use Rattle.lk_claims.specs.declared.claim.Claim.{Claim}
use Rattle.lk_claims.specs.Claim.{claim_tree, value_type}
use Rattle.lk_claims.proofs.Trees.{claim_tree-Rec, claim_tree-SeqLit}
use Rattle.leg_items.specs.Drafts.{framed}
use Rattle.leg_numbers.specs.Numbered.{numbered_claim, numbered_type}
use Rattle.leg_numbers.proofs.NumberedLines.{record_numbered, sequence_numbered}
use Rattle.owned_results.proofs.Parts.{of_part}
use Rattle.leg_numbers.proofs.claims.+claim.Goals as goal

pub claim_numbered-returns-in_ok-ty-in-Sequence : goal.claim_numbered-returns-in_ok-ty-in-Sequence
claim_numbered-returns-in_ok-ty-in-Sequence t c =
    let order = c.args.order.now in
    let frame = c.args.frame in
    let w = c.in_ok-ty-in-Sequence in
    let cs = c.in-Sequence.claims.now in
    claim_tree-SeqLit w.ty w.claims
    ∙ sequence_numbered order frame (claim_tree c.args.claim.now) (value_type w.ty) (value_type c.in-Sequence.ty.now) cs w.claims c.in-Sequence.ensures.0
    (of_part (λ u. value_type u ≡ numbered_type order (value_type c.in-Sequence.ty.now)) c.type_numbered.result w.ty c.type_numbered.ensures w.ensures.parts.0)
    (of_part (λ l. map claim_tree l ≡ map (λ claim. numbered_claim order (framed frame (claim_tree claim))) cs) c.claims_numbered.result w.claims c.claims_numbered.ensures w.ensures.parts.1)

pub claim_numbered-returns-in_ok-claims_numbered-in-Record : goal.claim_numbered-returns-in_ok-claims_numbered-in-Record
claim_numbered-returns-in_ok-claims_numbered-in-Record t c =
    let new = c.in_ok-claims_numbered-in-Record in
    claim_tree-Rec c.in_ok-record-in-Record.record new.field-0
    ∙ record_numbered c.args.order.now c.args.frame (claim_tree c.args.claim.now) c.in_ok-record-in-Record.record c.in-Record.record c.in-Record.claims.now new.field-0
    c.in-Record.ensures.0 c.in_ok-record-in-Record.ensures new.ensures

pub claims_numbered-loop-claim-preserved : goal.claims_numbered-loop-claim-preserved
claims_numbered-loop-claim-preserved t c =
    let claims = c.args.claims.now in
    let i = c.loop-claim.claim-index in
    let over : Claim → ClaimTree ℕ = λ claim. numbered_claim c.args.order.now (framed c.args.frame (claim_tree claim)) in
    let below : i < length claims = omega (arith, c.loop-claim-test.true) in
    ap (map claim_tree) c.in_ok-push.ensures.ok ∙ map-append claim_tree c.loop-claim.numbered (c.in_ok-claim_numbered.field-0 ∷ [])
    ∙ ap₂ (λ xs y. xs ++ y ∷ []) c.loop-claim.invariant c.in_ok-claim_numbered.ensures
    ∙ sym (map_more over claims i c.claim-item.result below ∙ ap (λ y. map over (take i claims) ++ over y ∷ []) (sym c.claim-item.is))
