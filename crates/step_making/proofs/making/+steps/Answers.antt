use Rattle.std.proofs.Common.{◌≡◌, ◌+◌, ◌++◌, ◌∷◌, [], false, true, map, refl, sym, ap, subst, take, ◌∙◌}
use Rattle.std.specs.Prelude.{IfOk}
use Rattle.std.proofs.lemmas.List.{take_more}
use Rattle.std.proofs.lemmas.Result.{IfOk-weaker}
use Rattle.slang_tree.specs.ExprTree.{expr_tree}
use Rattle.slang_tree.specs.StmtTree.{line, block, let_block, step_tree, steps_of}
use Rattle.slang_tree.proofs.Lines.{step_tree-Let, step_tree-Line, step_tree-Sub}
use Rattle.type_rules.specs.Meanings.{block_variable, with_name}
use Rattle.type_rules.specs.Expressions.{in_proof}
use Rattle.typed_texts.specs.Claims.{claim_of_tree, label_numbers, rule_number}
use Rattle.name_scopes.specs.Fits.{Fits}
use Rattle.claim_making.specs.Parts.{FromTwo}
use Rattle.step_making.specs.Made.{AreSteps}
use Rattle.step_making.proofs.Steps.{NodeLine, block_made, block_scope, line_made, line_scope, none_yet, of_tree, one_more}
use Rattle.step_making.proofs.making.+steps.Goals as goal

pub made_step-returns-in-Line-clause-step : goal.made_step-returns-in-Line-clause-step
made_step-returns-in-Line-clause-step t c =
    let claim = expr_tree c.in-Line.claim in
    let rule = c.in-Line.rule in
    let cites = c.in-Line.cites in
    let made = c.line.result in
    of_tree c.args.records.now c.args.numbers c.args.scope.now made (step_tree c.args.step.now) (line c.in-Line.label claim rule cites)
    (ap step_tree c.in-Line.is ∙ step_tree-Line c.in-Line.label c.in-Line.claim rule cites)
    (line_made c.args.records.now c.args.numbers c.args.scope.now c.made_claim-claim.result c.label_numbers-cites.result c.in-Line.label.number
    (rule_number rule) (label_numbers cites)
    (λ at. claim_of_tree at in_proof claim) made c.made_claim-claim.ensures.claim
    (subst (λ ls. IfOk c.label_numbers-cites.result (λ ns. ns ≡ label_numbers ls)) c.as_slice.ensures c.label_numbers-cites.ensures)
    (subst (λ r. IfOk made (FromTwo c.made_claim-claim.result c.label_numbers-cites.result (NodeLine c.in-Line.label.number r))) c.rule_number.ensures
    c.line.ensures))

pub made_step-returns-in-Line-clause-scope : goal.made_step-returns-in-Line-clause-scope
made_step-returns-in-Line-clause-scope t c =
    line_scope c.args.scope.now c.made_claim-claim.new.scope c.in-Line.label.number c.rule_number.result c.made_claim-claim.result
    c.label_numbers-cites.result c.line.result
    c.made_claim-claim.ensures.scope c.line.ensures

pub made_step-returns-in-Sub-clause-step : goal.made_step-returns-in-Sub-clause-step
made_step-returns-in-Sub-clause-step t c =
    let claim = expr_tree c.in-Sub.assumption in
    let steps = c.as_slice-in-Sub.result.now in
    let label = c.in-Sub.label in
    let assumed = c.in-Sub.assumed in
    let made = c.block.result in
    of_tree c.args.records.now c.args.numbers c.args.scope.now made (step_tree c.args.step.now) (block label assumed claim (steps_of (map step_tree steps)))
    (ap step_tree c.in-Sub.is ∙ step_tree-Sub label assumed c.in-Sub.assumption c.in-Sub.steps
    ∙ ap (λ ss. block label assumed claim (steps_of (map step_tree ss))) (sym c.as_slice-in-Sub.ensures))
    (block_made c.args.records.now c.args.numbers c.args.scope.now c.args.scope.now c.made_claim-assumption.new.scope c.made_claim-assumption.result
    c.made_steps-steps.result
    label.number false assumed.number (λ at. at) (λ at. claim_of_tree at in_proof claim) steps made (λ at fits. fits) (λ at fields. fields)
    c.made_claim-assumption.ensures.claim c.made_claim-assumption.ensures.scope c.made_steps-steps.ensures.steps c.block.ensures)

pub made_step-returns-in-Sub-clause-scope : goal.made_step-returns-in-Sub-clause-scope
made_step-returns-in-Sub-clause-scope t c =
    block_scope c.args.scope.now c.made_claim-assumption.new.scope c.made_steps-steps.new.scope c.in-Sub.label.number false c.in-Sub.assumed.number
    c.made_claim-assumption.result c.made_steps-steps.result c.block.result
    c.made_claim-assumption.ensures.scope c.made_steps-steps.ensures.scope c.block.ensures

pub made_step-returns-in-Let-clause-step : goal.made_step-returns-in-Let-clause-step
made_step-returns-in-Let-clause-step t c =
    let steps = c.as_slice-in-Let.result.now in
    let tree = let_block c.in-Let.label c.in-Let.name c.in-Let.assumed (expr_tree c.in-Let.assumption) (steps_of (map step_tree steps)) in
    of_tree c.args.records.now c.args.numbers c.args.scope.now c.made_block.result (step_tree c.args.step.now) tree
    (ap step_tree c.in-Let.is ∙ step_tree-Let c.in-Let.label c.in-Let.name c.in-Let.assumed c.in-Let.assumption c.in-Let.steps
    ∙ ap (λ ss. let_block c.in-Let.label c.in-Let.name c.in-Let.assumed (expr_tree c.in-Let.assumption) (steps_of (map step_tree ss))) (sym
    c.as_slice-in-Let.ensures))
    c.made_block.ensures.step

pub made_block-returns-clause-step : goal.made_block-returns-clause-step
made_block-returns-clause-step t c =
    let name = c.args.name.now in
    let number = c.args.label.number in
    block_made c.args.records.now c.args.numbers c.args.scope.now c.open_block.new.self c.made_claim-assumption.new.scope c.made_claim-assumption.result
    c.made_steps-steps.result
    number true c.args.assumed.number (λ at. with_name at name.text (block_variable number)) (λ at. claim_of_tree at in_proof (expr_tree
    c.args.assumption.now)) c.args.steps.now c.block.result
    (λ at fits. subst (λ text. Fits c.open_block.new.self (with_name at text (block_variable number))) c.as_str.ensures (c.in_ok-open_block.ensures.fits at
    fits)) (λ at fields. fields)
    c.made_claim-assumption.ensures.claim c.made_claim-assumption.ensures.scope c.made_steps-steps.ensures.steps c.block.ensures

pub made_block-returns-clause-scope : goal.made_block-returns-clause-scope
made_block-returns-clause-scope t c =
    IfOk-weaker c.block.result (λ _. c.made_steps-steps.new.scope ≡ c.open_block.new.self) (λ _. c.close_block.new.self ≡ c.args.scope.now)
    (λ _ same.
    c.close_block.ensures
    ∙ (λ i. record (same i) { names = take (c.len-names.ensures i) (same i).names })
    ∙ c.in_ok-open_block.ensures.back)
    (block_scope c.open_block.new.self c.made_claim-assumption.new.scope c.made_steps-steps.new.scope c.args.label.number true c.args.assumed.number
    c.made_claim-assumption.result c.made_steps-steps.result c.block.result
    c.made_claim-assumption.ensures.scope c.made_steps-steps.ensures.scope c.block.ensures)

pub made_steps-loop-step-init : goal.made_steps-loop-step-init
made_steps-loop-step-init t c = (none_yet c.args.records.now c.args.numbers c.args.scope.now c.new-made.result c.new-made.ensures, refl)

pub made_steps-loop-step-preserved : goal.made_steps-loop-step-preserved
made_steps-loop-step-preserved t c =
    let i = c.loop-step.step-index in
    let steps = c.args.steps.now in
    let more : take (i + 1) steps ≡ take i steps ++ c.step-item.result ∷ [] =
    take_more steps i c.step-item.result c.loop-step-test.true ∙ ap (λ x. take i steps ++ x ∷ []) (sym c.step-item.is) in (
      subst (AreSteps c.args.records.now c.args.numbers c.args.scope.now (take (i + 1) steps)) (sym c.in_ok-push.ensures.ok)
          (one_more c.args.records.now c.args.numbers c.args.scope.now c.loop-step.scope (take i steps) (take (i + 1) steps) c.step-item.result
          c.loop-step.made c.in_ok-made_step.field-0 c.loop-step.invariant.1 more c.loop-step.invariant.0 c.in_ok-made_step.ensures.step),
      c.in_ok-made_step.ensures.scope ∙ c.loop-step.invariant.1,
    )
