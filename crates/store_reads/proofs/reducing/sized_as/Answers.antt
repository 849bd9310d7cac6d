use Rattle.std.proofs.Common.{ℕ, List, pos, ◌≡◌, ap, sym, subst, length}
use Rattle.slang_values.specs.Tree.{Tree, literal}
use Rattle.read_rules.specs.Reduced.{size_tree}
use Rattle.term_nodes.specs.Node.{tree_of, shape_tree}
use Rattle.store_reads.proofs.Listed.{count-listed}
use Rattle.store_reads.proofs.reducing.sized_as.Goals as goal

pub returns-in-Sequence : goal.returns-in-Sequence
returns-in-Sequence c =
    subst (λ s. (ts : List (Tree ℕ)) → size_tree (shape_tree ts s) ≡ literal (pos (length c.in-Sequence.parts.now))) (sym c.in-Sequence.is)
    (λ ts. ap (λ n. literal (pos n)) (count-listed (tree_of ts) c.in-Sequence.parts.now))
