use Rattle.std.proofs.Common.{◌≡◌, ◌+◌, ◌++◌, ◌∙◌, [], ◌∷◌, map, take, sym, ap}
use Rattle.std.proofs.lemmas.List.{map_more}
use Rattle.slang_tree.specs.StmtTree.{step_tree, steps_of}
use Rattle.type_faults.specs.FirstFault.{with_first}
use Rattle.height_rules.specs.Faults.{too_high, too_deep}
use Rattle.height_judging.proofs.Told.{part_more, deep-join}
use Rattle.height_judging.proofs.steps.too_deep.Goals as goal

pub loop-step-preserved : goal.loop-step-preserved
loop-step-preserved c =
    let i = c.loop-step.step-index in
    let xs = c.args.steps.now in
    let before = map step_tree (take i xs) in
    let more : map step_tree (take (i + 1) xs) ≡ before ++ step_tree c.step-item.result ∷ [] =
    map_more step_tree xs i c.step-item.result c.loop-step-test.true ∙ ap (λ x. before ++ step_tree x ∷ []) (sym c.step-item.is) in
    part_more c.args.told.now.found c.loop-step.told.found c.tell.new.self.found (λ trees. too_deep (steps_of trees)) (deep-join) before (map step_tree (take (i + 1) xs)) (step_tree c.step-item.result) more
    c.loop-step.invariant
    (c.tell.ensures ∙ ap (λ found. with_first c.loop-step.told.found (found ∷ [])) (c.too_high.ensures ∙ ap too_high c.step_place.ensures))
