use Rattle.std.proofs.Common.{[], ◌∷◌, ◌++◌, ◌+◌, ◌≡◌, ◌∙◌, ap, map, subst, sym, take}
use Rattle.std.specs.Prelude.{OnOk}
use Rattle.std.proofs.lemmas.List.{map_more}
use Rattle.std.proofs.lemmas.Result.{on_ok_weaker}
use Rattle.slang_tree.specs.ExprTree.{expr_tree}
use Rattle.slang_tree.specs.StmtTree.{block, let_block, line, step_tree, steps_of}
use Rattle.slang_tree.proofs.Lines.{step_tree-Let, step_tree-Line, step_tree-Sub}
use Rattle.type_rules.specs.Meanings.{Scope, block_variable, with_name}
use Rattle.type_rules.specs.Steps.{claim_faults, new_name_faults, rule_faults, step_faults, steps_faults}
use Rattle.type_faults.specs.FirstFault.{with_first}
use Rattle.name_scopes.specs.Fits.{Fits}
use Rattle.step_judging.proofs.StepFaults.{steps_more, told_two}
use Rattle.step_judging.proofs.steps.+steps.Goals as goal

pub judged_step-returns-in_ok-claim-in-Line-clause-told : goal.judged_step-returns-in_ok-claim-in-Line-clause-told
judged_step-returns-in_ok-claim-in-Line-clause-told t c = λ at fits.
    subst (λ tree. c.cited_by.new.told.found ≡ with_first c.args.told.now.found (step_faults at tree))
    (sym (ap step_tree c.in-Line.is ∙ step_tree-Line _ _ _ _))
    (told_two c.args.told.now.found c.claim.new.told.found c.cited_by.new.told.found
    (claim_faults at (expr_tree c.in-Line.shown)) (rule_faults c.in-Line.rule c.in-Line.cites)
    (c.in_ok-claim-in-Line.ensures.told at fits)
    (c.cited_by.ensures ∙ ap (λ cites. with_first c.claim.new.told.found (rule_faults c.in-Line.rule cites)) c.as_slice.ensures))

pub judged_step-returns-in_ok-claim-in-Sub-clause-told : goal.judged_step-returns-in_ok-claim-in-Sub-clause-told
judged_step-returns-in_ok-claim-in-Sub-clause-told t c =
    on_ok_weaker c.judged_steps.result
    (λ h at fits.
    subst (λ tree. c.judged_steps.new.told.found ≡ with_first c.args.told.now.found (step_faults at tree))
    (sym (ap step_tree c.in-Sub.is ∙ step_tree-Sub _ _ _ _))
    (told_two c.args.told.now.found c.claim-in-Sub.new.told.found c.judged_steps.new.told.found
    (claim_faults at (expr_tree c.in-Sub.assumption)) (steps_faults at (steps_of (map step_tree c.in-Sub.steps)))
    (c.in_ok-claim-in-Sub.ensures.told at fits)
    (h at (subst (λ s. Fits s at) (sym c.in_ok-claim-in-Sub.ensures.scope) fits)
    ∙ ap (λ steps. with_first c.claim-in-Sub.new.told.found (steps_faults at (steps_of (map step_tree steps)))) c.as_slice-in-Sub.ensures)))
    c.judged_steps.ensures.told

pub judged_steps-loop-step-preserved : goal.judged_steps-loop-step-preserved
judged_steps-loop-step-preserved t c =
    let i = c.loop-step.step-index in
    let steps = c.args.steps.now in
    let before = map step_tree (take i steps) in
    let more : map step_tree (take (i + 1) steps) ≡ before ++ step_tree c.step-item.result ∷ [] =
    map_more step_tree steps i c.step-item.result c.loop-step-test.true ∙ ap (λ x. before ++ step_tree x ∷ []) (sym c.step-item.is) in (
      λ at fits.
          steps_more c.args.told.now.found c.loop-step.told.found c.judged_step.new.told.found at before (map step_tree (take (i + 1) steps)) (step_tree c.step-item.result) more
          (c.loop-step.invariant.0 at fits)
          (c.in_ok-judged_step.ensures.told at (subst (λ s. Fits s at) (sym c.loop-step.invariant.1) fits)),
      c.in_ok-judged_step.ensures.scope ∙ c.loop-step.invariant.1,
    )

pub judged_block-returns-clause-told : goal.judged_block-returns-clause-told
judged_block-returns-clause-told t c = λ at fits assumed.
    let name = c.args.name.now in
    let inner = with_name at name.text (block_variable c.args.label.number) in
    let inside = subst (λ text. Fits c.open_block.new.self (with_name at text (block_variable c.args.label.number))) c.as_str.ensures (c.in_ok-open_block.ensures.fits at fits) in
    let new = new_name_faults at name in
    let shown = claim_faults inner (expr_tree c.args.assumption.now) in
    let steps = steps_faults inner (steps_of (map step_tree c.args.steps.now)) in
    told_two c.args.told.now.found c.claim.new.told.found c.judged_steps.new.told.found (new ++ shown) steps
    (told_two c.args.told.now.found c.new_name.new.told.found c.claim.new.told.found new shown (c.new_name.ensures at fits) (c.in_ok-claim.ensures.told inner inside))
    (c.in_ok-judged_steps.ensures.told inner (subst (λ s. Fits s inner) (sym c.in_ok-claim.ensures.scope) inside))

pub judged_step-returns-in-Let-clause-told : goal.judged_step-returns-in-Let-clause-told
judged_step-returns-in-Let-clause-told t c =
    on_ok_weaker c.judged_block.result
    (λ h at fits.
    subst (λ tree. c.judged_block.new.told.found ≡ with_first c.args.told.now.found (step_faults at tree))
    (sym (ap step_tree c.in-Let.is ∙ step_tree-Let _ _ _ _ _))
    (h at fits c.in-Let.assumed
    ∙ ap (λ steps. with_first c.args.told.now.found (step_faults at (let_block c.in-Let.label c.in-Let.name c.in-Let.assumed (expr_tree c.in-Let.assumption) (steps_of (map step_tree steps)))))
    c.as_slice-in-Let.ensures))
    c.judged_block.ensures.told
