use Rattle.std.proofs.Common.{◌≡◌, ◌+◌, ◌++◌, ◌∙◌, [], ◌∷◌, map, take, sym, ap, append-nil}
use Rattle.std.proofs.lemmas.List.{map_more}
use Rattle.slang_tree.specs.StmtTree.{step_tree, steps_of}
use Rattle.type_faults.specs.FirstFault.{with_first}
use Rattle.height_rules.specs.Faults.{step_too_high, steps_too_high}
use Rattle.height_judging.proofs.Told.{part_more, steps-join}
use Rattle.height_judging.proofs.steps.+steps.Goals as goal

pub step_heights-loop-step-preserved : goal.step_heights-loop-step-preserved
step_heights-loop-step-preserved t c =
    let i = c.loop-step.step-index in
    let xs = c.args.steps.now in
    let before = map step_tree (take i xs) in
    let more : map step_tree (take (i + 1) xs) ≡ before ++ step_tree c.step-item.result ∷ [] =
    map_more step_tree xs i c.step-item.result c.loop-step-test.true ∙ ap (λ x. before ++ step_tree x ∷ []) (sym c.step-item.is) in
    part_more c.args.told.now.found c.loop-step.told.found c.step_heights_at.new.told.found (λ trees. steps_too_high c.args.depth (steps_of trees)) (steps-join c.args.depth) before (map step_tree (take (i + 1) xs)) (step_tree c.step-item.result) more
    c.loop-step.invariant
    (c.step_heights_at.ensures ∙ ap (with_first c.loop-step.told.found) (sym (append-nil (step_too_high c.args.depth (step_tree c.step-item.result)))))
