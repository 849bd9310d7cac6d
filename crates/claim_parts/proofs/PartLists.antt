-- The parts of a list of claims.
use Rattle.std.proofs.Common.{◌≡◌, ℕ, ◌<◌, List, [], ◌∷◌, map, length, get_or, slice_get, Some, refl, ap, ◌∙◌}
use Rattle.std.proofs.lemmas.List.{length-map}
use Rattle.std.proofs.lemmas.Option.{slice_get-map, slice_get_read}
use Rattle.std.specs.Option.{option_map}
use Rattle.slang_values.specs.Tree.{tree_list}
use Rattle.program_trees.specs.Claims.{ClaimTree}
use Rattle.lk_claims.specs.declared.claim.Claim.{Claim}
use Rattle.lk_claims.specs.Claim.{claim_tree, claim_trees, trees_of}
use Rattle.lk_claims.proofs.Sizes.{size-deepest}

tree_list-trees_of : (ts : List (ClaimTree ℕ)) → tree_list (trees_of ts) ≡ ts
tree_list-trees_of [] = refl
tree_list-trees_of (t ∷ ts) = ap (λ us. t ∷ us) (tree_list-trees_of ts)

tree_list-trees : (ts : List Claim) → tree_list (claim_trees ts) ≡ map claim_tree ts
tree_list-trees ts = tree_list-trees_of (map claim_tree ts)

pub length-tree_list : (ts : List Claim) → length (tree_list (claim_trees ts)) ≡ length ts
length-tree_list ts = ap length (tree_list-trees ts) ∙ length-map ts claim_tree

pub slice_get-tree_list : (ts : List Claim) (k : ℕ) (t : Claim) → k < length ts → t ≡ get_or ts k t
    → slice_get (tree_list (claim_trees ts)) k ≡ Some (claim_tree t)
slice_get-tree_list ts k t l e =
    ap (λ us. slice_get us k) (tree_list-trees ts) ∙ slice_get-map claim_tree ts k ∙ ap (option_map claim_tree) (slice_get_read ts (length ts) k t refl l e)

pub ruleset part_lines = (length-tree_list, slice_get-tree_list, size-deepest)
