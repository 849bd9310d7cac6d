use Rattle.std.proofs.Common.{◌≡◌, ◌+◌, ◌++◌, ◌∙◌, [], ◌∷◌, map, take, nat_le, true, false, sym, ap, subst}
use Rattle.std.proofs.lemmas.List.{map_more}
use Rattle.slang_tree.specs.DeclTree.{const_tree, consts_of}
use Rattle.text_heights.specs.Heights.{const_height, greatest_const}
use Rattle.height_judging.proofs.Within.{not_within_const, more_within_const}
use Rattle.height_judging.proofs.constants.+within.Goals as goal

pub are_within-returns-then-not-is_within : goal.are_within-returns-then-not-is_within
are_within-returns-then-not-is_within t c =
    not_within_const const_tree c.args.constants.now c.loop-constant.constant-index c.args.limit c.constant-item.result c.loop-constant-test.true
    (subst (λ x. false ≡ nat_le (const_height (const_tree x)) c.args.limit) c.constant-item.is c.if-not-is_within.ensures)

pub are_within-loop-constant-preserved : goal.are_within-loop-constant-preserved
are_within-loop-constant-preserved t c =
    let i = c.loop-constant.constant-index in
    let xs = c.args.constants.now in
    let before = map const_tree (take i xs) in
    let more : map const_tree (take (i + 1) xs) ≡ before ++ const_tree c.constant-item.result ∷ [] =
    map_more const_tree xs i c.constant-item.result c.loop-constant-test.true ∙ ap (λ x. before ++ const_tree x ∷ []) (sym c.constant-item.is) in
    subst (λ trees. nat_le (greatest_const (consts_of trees)) c.args.limit ≡ true) (sym more)
    (more_within_const before (const_tree c.constant-item.result) c.args.limit c.loop-constant.invariant (sym c.if-not-is_within.ensures))
