-- The parts of a list of terms.
use Rattle.std.proofs.Common.{◌≡◌, ℕ, ◌<◌, List, [], ◌∷◌, map, length, get_or, slice_get, Some, refl, ap, ◌∙◌}
use Rattle.std.proofs.lemmas.List.{length-map}
use Rattle.std.proofs.lemmas.Option.{slice_get-map, slice_get_read}
use Rattle.std.specs.Option.{option_map}
use Rattle.slang_values.specs.Tree.{Tree, tree_list}
use Rattle.term_trees.specs.declared.term.Term.{Term}
use Rattle.term_trees.specs.Term.{tree, trees, trees_of}
use Rattle.term_trees.proofs.Sizes.{size-deepest}

tree_list-trees_of : (ts : List (Tree ℕ)) → tree_list (trees_of ts) ≡ ts
tree_list-trees_of [] = refl
tree_list-trees_of (t ∷ ts) = ap (λ us. t ∷ us) (tree_list-trees_of ts)

tree_list-trees : (ts : List Term) → tree_list (trees ts) ≡ map tree ts
tree_list-trees ts = tree_list-trees_of (map tree ts)

pub length-tree_list : (ts : List Term) → length (tree_list (trees ts)) ≡ length ts
length-tree_list ts = ap length (tree_list-trees ts) ∙ length-map ts tree

pub slice_get-tree_list : (ts : List Term) (k : ℕ) (t : Term) → k < length ts → t ≡ get_or ts k t → slice_get (tree_list (trees ts)) k ≡ Some (tree t)
slice_get-tree_list ts k t l e =
    ap (λ us. slice_get us k) (tree_list-trees ts) ∙ slice_get-map tree ts k ∙ ap (option_map tree) (slice_get_read ts (length ts) k t refl l e)

pub ruleset part_lines = (length-tree_list, slice_get-tree_list, size-deepest)
