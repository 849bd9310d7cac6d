use Rattle.tree_forms.proofs.Ordered.{tree_cmp_total}
use Rattle.tree_forms.proofs.TreesApart.{tree_cmp-Equal, tree_cmp_same, tree_cmp-parts}
use Rattle.tree_forms.proofs.laws.trees_are_ordered.Goals as goal

pub returns : goal.returns
returns c = record {
  total = tree_cmp_total;
  exact = λ s t. (tree_cmp-Equal s t, tree_cmp_same s t);
  by_parts = tree_cmp-parts;
}
