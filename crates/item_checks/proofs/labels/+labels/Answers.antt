use Rattle.std.proofs.Common.{[], ◌∷◌, ◌++◌, ◌+◌, ◌≡◌, ◌∙◌, ap, map, sym, take}
use Rattle.std.proofs.lemmas.List.{map_more}
use Rattle.std.proofs.lemmas.Result.{on_ok_weaker}
use Rattle.program_trees.specs.Claims.{labels, step_labels}
use Rattle.lk_claims.specs.Step.{step_tree, step_trees}
use Rattle.lk_claims.proofs.Steps.{step_tree-Line, step_tree-Sub}
use Rattle.item_checks.proofs.StepLabels.{block_labels, labels_more}
use Rattle.item_checks.proofs.labels.+labels.Goals as goal

pub add_labels_of-returns-in-Line : goal.add_labels_of-returns-in-Line
add_labels_of-returns-in-Line t c =
    on_ok_weaker c.push.result
    (λ h. h ∙ ap (λ tree. c.args.labels.now ++ step_labels tree)
    (sym (ap step_tree c.in-Line.is ∙ step_tree-Line c.in-Line.label c.in-Line.claim c.in-Line.rule c.in-Line.cites)))
    c.push.ensures.ok

pub add_labels_of-returns-in-Sub : goal.add_labels_of-returns-in-Sub
add_labels_of-returns-in-Sub t c =
    let s = c.in-Sub in
    on_ok_weaker c.add_block.result
    (λ h. h
    ∙ ap (λ steps. c.args.labels.now ++ (s.label ∷ s.assumed ∷ labels (step_trees steps))) c.as_slice.ensures
    ∙ ap (λ tree. c.args.labels.now ++ step_labels tree)
    (sym (ap step_tree s.is ∙ step_tree-Sub s.label s.bind s.assumed s.assumption s.steps)))
    c.add_block.ensures

pub add_block-returns : goal.add_block-returns
add_block-returns t c =
    on_ok_weaker c.add_labels.result
    (λ h. block_labels c.args.labels.now c.push.new.self c.push-2.new.self c.add_labels.new.labels c.args.label c.args.assumed
    (labels (step_trees c.args.steps.now)) c.in_ok-push.ensures.ok c.in_ok-push-2.ensures.ok h)
    c.add_labels.ensures

pub add_labels-loop-step-preserved : goal.add_labels-loop-step-preserved
add_labels-loop-step-preserved t c =
    let i = c.loop-step.step-index in
    let steps = c.args.steps.now in
    let before = map step_tree (take i steps) in
    let more : map step_tree (take (i + 1) steps) ≡ before ++ step_tree c.step-item.result ∷ [] =
    map_more step_tree steps i c.step-item.result c.loop-step-test.true ∙ ap (λ x. before ++ step_tree x ∷ []) (sym c.step-item.is) in
    labels_more c.args.labels.now c.loop-step.labels c.add_labels_of.new.labels before (map step_tree (take (i + 1) steps)) (step_tree c.step-item.result) more
    c.loop-step.invariant c.in_ok-add_labels_of.ensures
