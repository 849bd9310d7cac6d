use Rattle.std.proofs.Common.{[], ◌∷◌, ◌++◌, ◌+◌, ◌≡◌, ◌∙◌, ap, map, subst, sym, take}
use Rattle.std.specs.Prelude.{OnOk}
use Rattle.std.proofs.lemmas.List.{map_more}
use Rattle.std.proofs.lemmas.Result.{on_ok_weaker}
use Rattle.slang_tree.specs.ExprTree.{expr_tree}
use Rattle.slang_tree.specs.StmtTree.{block, let_block, step_tree, steps_of}
use Rattle.slang_tree.proofs.Lines.{step_tree-Let, step_tree-Line, step_tree-Sub}
use Rattle.type_rules.specs.Steps.{labels_of, labels_of_step}
use Rattle.proof_judging.proofs.Labels.{block_labels, labels_more}
use Rattle.proof_judging.proofs.step_labels.+labels.Goals as goal

pub add_labels_of-returns-in-Line : goal.add_labels_of-returns-in-Line
add_labels_of-returns-in-Line t c =
    on_ok_weaker c.push.result
    (λ h. h ∙ ap (λ tree. c.args.labels.now ++ labels_of_step tree) (sym (ap step_tree c.in-Line.is ∙ step_tree-Line _ _ _ _)))
    c.push.ensures.ok

pub add_labels_of-returns-in-Sub : goal.add_labels_of-returns-in-Sub
add_labels_of-returns-in-Sub t c =
    on_ok_weaker c.add_block.result
    (λ h. h
    ∙ ap (λ steps. c.args.labels.now ++ (c.in-Sub.label ∷ c.in-Sub.assumed ∷ labels_of (steps_of (map step_tree steps)))) c.as_slice.ensures
    ∙ ap (λ tree. c.args.labels.now ++ labels_of_step tree) (sym (ap step_tree c.in-Sub.is ∙ step_tree-Sub _ _ _ _)))
    c.add_block.ensures

pub add_labels_of-returns-in-Let : goal.add_labels_of-returns-in-Let
add_labels_of-returns-in-Let t c =
    on_ok_weaker c.add_block-in-Let.result
    (λ h. h
    ∙ ap (λ steps. c.args.labels.now ++ (c.in-Let.label ∷ c.in-Let.assumed ∷ labels_of (steps_of (map step_tree steps)))) c.as_slice-in-Let.ensures
    ∙ ap (λ tree. c.args.labels.now ++ labels_of_step tree) (sym (ap step_tree c.in-Let.is ∙ step_tree-Let _ _ _ _ _)))
    c.add_block-in-Let.ensures

pub add_block-returns : goal.add_block-returns
add_block-returns t c =
    on_ok_weaker c.add_labels.result
    (λ h. block_labels c.args.labels.now c.push.new.self c.push-2.new.self c.add_labels.new.labels c.args.label c.args.assumed
    (labels_of (steps_of (map step_tree c.args.steps.now))) c.in_ok-push.ensures.ok c.in_ok-push-2.ensures.ok h)
    c.add_labels.ensures

pub add_labels-loop-step-preserved : goal.add_labels-loop-step-preserved
add_labels-loop-step-preserved t c =
    let i = c.loop-step.step-index in
    let steps = c.args.steps.now in
    let before = map step_tree (take i steps) in
    let more : map step_tree (take (i + 1) steps) ≡ before ++ step_tree c.step-item.result ∷ [] =
    map_more step_tree steps i c.step-item.result c.loop-step-test.true ∙ ap (λ x. before ++ step_tree x ∷ []) (sym c.step-item.is) in
    labels_more c.args.labels.now c.loop-step.labels c.add_labels_of.new.labels before (map step_tree (take (i + 1) steps)) (step_tree c.step-item.result) more
    c.loop-step.invariant c.in_ok-add_labels_of.ensures
