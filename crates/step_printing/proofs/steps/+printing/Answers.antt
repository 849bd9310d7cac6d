use Rattle.std.proofs.Common.{ap, ◌∙◌}
use Rattle.std.proofs.lemmas.Result.{on_ok_weaker}
use Rattle.slang_tree.specs.StmtTree.{step_tree}
use Rattle.slang_tree.proofs.Lines.{step_tree-Sub, step_tree-Let}
use Rattle.step_printing.proofs.Forms.{block_added, let_block_added, around_added, one_step_behind}
use Rattle.step_printing.proofs.steps.+printing.Goals as goal

pub add_step-returns-in_ok-add_label-in-Sub : goal.add_step-returns-in_ok-add_label-in-Sub
add_step-returns-in_ok-add_label-in-Sub t c =
    on_ok_weaker c.add_block.result
    (λ h. block_added c.args.light c.args.depth c.args.step.now c.in-Sub.label c.in-Sub.assumed c.in-Sub.assumption c.in-Sub.steps _ c.as_slice-in-Sub.ensures
    (ap step_tree c.in-Sub.is ∙ step_tree-Sub c.in-Sub.label c.in-Sub.assumed c.in-Sub.assumption c.in-Sub.steps) c.in_ok-add_label-in-Sub.ensures h) c.add_block.ensures

pub add_step-returns-in_ok-add_block-in-Let : goal.add_step-returns-in_ok-add_block-in-Let
add_step-returns-in_ok-add_block-in-Let t c =
    on_ok_weaker c.add_text.result
    (λ h. let_block_added c.args.light c.args.depth c.args.step.now c.in-Let.label c.in-Let.name c.in-Let.assumed c.in-Let.assumption c.in-Let.steps _ c.as_slice-in-Let.ensures
    (ap step_tree c.in-Let.is ∙ step_tree-Let c.in-Let.label c.in-Let.name c.in-Let.assumed c.in-Let.assumption c.in-Let.steps)
    c.in_ok-add_label-in-Let.ensures c.in_ok-add_let-in-Let.ensures c.in_ok-add_block-in-Let.ensures h) c.add_text.ensures

pub add_block-returns : goal.add_block-returns
add_block-returns t c =
    on_ok_weaker c.add_word.result
    (λ h. around_added c.args.light c.args.depth c.in_ok-inner.inner c.args.assumed c.args.assumption.now c.args.steps.now c.in_ok-inner.ensures
    c.in_ok-add_assumption.ensures c.in_ok-add_behind.ensures h) c.add_word.ensures

pub add_behind-loop-step-preserved : goal.add_behind-loop-step-preserved
add_behind-loop-step-preserved t c =
    one_step_behind c.args.light c.args.depth c.args.steps.now c.loop-step.step-index _ c.loop-step-test.true c.step-item.is c.loop-step.invariant c.in_ok-add_text.ensures c.in_ok-add_step.ensures
