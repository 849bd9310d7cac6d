use Rattle.std.proofs.Common.{◌≡◌, ◌+◌, ◌++◌, ◌∙◌, [], ◌∷◌, map, take, sym, ap, append-nil}
use Rattle.std.proofs.lemmas.List.{map_more}
use Rattle.slang_tree.specs.ExprTree.{expr_tree}
use Rattle.type_faults.specs.FirstFault.{with_first}
use Rattle.height_rules.specs.Faults.{expr_too_high, claims_too_high}
use Rattle.height_judging.proofs.Told.{part_more, mapped-join}
use Rattle.height_judging.proofs.expressions.claim_heights.Goals as goal

pub loop-claim-preserved : goal.loop-claim-preserved
loop-claim-preserved c =
    let i = c.loop-claim.claim-index in
    let xs = c.args.claims.now in
    let before = map expr_tree (take i xs) in
    let more : map expr_tree (take (i + 1) xs) ≡ before ++ expr_tree c.claim-item.result ∷ [] =
    map_more expr_tree xs i c.claim-item.result c.loop-claim-test.true ∙ ap (λ x. before ++ expr_tree x ∷ []) (sym c.claim-item.is) in
    part_more c.args.told.now.found c.loop-claim.told.found c.expression_height.new.told.found (claims_too_high) (mapped-join expr_too_high) before (map expr_tree (take (i + 1) xs)) (expr_tree c.claim-item.result) more
    c.loop-claim.invariant
    (c.expression_height.ensures ∙ ap (with_first c.loop-claim.told.found) (sym (append-nil (expr_too_high (expr_tree c.claim-item.result)))))
