use Rattle.std.proofs.Common.{◌+◌, ◌*◌, map, take}
use Rattle.std.specs.List.{flat_map}
use Rattle.term_store.specs.Store.{tree_at, GainsAmong, AreTreesOf, subtrees}
use Rattle.store_substitution.specs.Levels.{levelled}
use Rattle.store_substitution.specs.Table.{AreSubstituted}
use Rattle.store_substitution.proofs.substituting.+substitute.Given as goal

abbrev pub decreases-substitute : goal.decreases-substitute
decreases-substitute l = 3 * l.id + 2

abbrev pub decreases-substitute_parts : goal.decreases-substitute_parts
decreases-substitute_parts l = 3 * l.id + 1

abbrev pub decreases-substitute_all : goal.decreases-substitute_all
decreases-substitute_all l = 3 * l.bound

abbrev pub invariant-substitute_all-loop-place : goal.invariant-substitute_all-loop-place
invariant-substitute_all-loop-place l =
    AreTreesOf l.store l.numbers.items (take l.place (levelled l.n (tree_at l.fn.store l.by) l.outer (map (tree_at l.fn.store) l.ids))) ×
    GainsAmong l.fn.store l.store (flat_map subtrees (levelled l.n (tree_at l.fn.store l.by) l.outer (map (tree_at l.fn.store) l.ids))) × AreSubstituted l.store l.table
