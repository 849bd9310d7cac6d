use Rattle.std.proofs.Common.{◌+◌, ◌*◌, map, take}
use Rattle.read_rules.specs.Reduced.{reduced}
use Rattle.term_store.specs.Store.{tree_at, Grows, AreTreesOf}
use Rattle.store_reads.proofs.reducing.+reduce.Given as goal

abbrev pub decreases-reduce : goal.decreases-reduce
decreases-reduce l = 2 * l.id + 1

abbrev pub decreases-reduce_all : goal.decreases-reduce_all
decreases-reduce_all l = 2 * l.bound

abbrev pub invariant-reduce_all-loop-id : goal.invariant-reduce_all-loop-id
invariant-reduce_all-loop-id l =
    Grows l.fn.store l.store × AreTreesOf l.store l.reduced.items (map (λ k. reduced (tree_at l.fn.store k)) (take l.id-index l.ids))
