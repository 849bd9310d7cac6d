-- Trees of one shape have one measure.
use Rattle.std.proofs.Common.{◌≡◌, ℕ, ◌+◌, ◌-◌, ◌^◌, ◌<◌, min, max, List, [], ◌∷◌, ◌++◌, map, take, get_or, length, refl, sym, ap, ◌∙◌, arith}
use Rattle.std.proofs.lemmas.List.{take_more, map-append}
use Rattle.slang_values.specs.Measure.{node_count, height, total_nodes, greatest_height}
use Rattle.slang_values.specs.Tree.{Tree}
use Rattle.term_trees.specs.declared.term.Term.{Term}
use Rattle.term_walks.specs.declared.measuring.TermSize.{TermSize}
use Rattle.term_walks.specs.Measure.{IsMeasureOf}
use Rattle.term_trees.specs.Term.{tree, trees, trees_of}

total_nodes-push : (ts : List (Tree ℕ)) (t : Tree ℕ) → total_nodes (trees_of (ts ++ t ∷ [])) ≡ total_nodes (trees_of ts) + node_count t
total_nodes-push [] t = omega arith
total_nodes-push (x ∷ ts) t = omega (arith, total_nodes-push ts t)

greatest_height-push : (ts : List (Tree ℕ)) (t : Tree ℕ) → greatest_height (trees_of (ts ++ t ∷ [])) ≡ max (greatest_height (trees_of ts)) (height t)
greatest_height-push [] t = omega arith
greatest_height-push (x ∷ ts) t = omega (arith, greatest_height-push ts t)

pub more_trees : (terms : List Term) (i : ℕ) (t : Term) → i < length terms → t ≡ get_or terms i t → trees (take (i + 1) terms) ≡ trees_of (map tree (take i terms) ++ tree t ∷ [])
more_trees terms i t l is =
    let at_i : take (i + 1) terms ≡ take i terms ++ t ∷ [] = take_more terms i t l ∙ ap (λ x. take i terms ++ x ∷ []) (sym is) in
    rw (at_i, map-append) refl

-- the step of a loop over terms
pub IsMeasureOf-more : (terms : List Term) (i : ℕ) (t : Term) (a b c : TermSize) → IsMeasureOf (total_nodes (trees (take i terms))) (greatest_height (trees (take i terms))) a → i < length terms → t ≡ get_or terms i t → IsMeasureOf (node_count (tree t)) (height (tree t)) b → c.nodes ≡ min (a.nodes + b.nodes) (2 ^ 64 - 1) → c.height ≡ max a.height b.height → IsMeasureOf (total_nodes (trees (take (i + 1) terms))) (greatest_height (trees (take (i + 1) terms))) c
IsMeasureOf-more terms i t a b c h l is g n e =
    let nodes = ap total_nodes (more_trees terms i t l is) ∙ total_nodes-push (map tree (take i terms)) (tree t) in
    let high = ap greatest_height (more_trees terms i t l is) ∙ greatest_height-push (map tree (take i terms)) (tree t) in
    record { nodes_told = omega (arith, nodes); height_told = omega (arith, high) }
