use Rattle.std.proofs.Common.{◌≡◌, ◌+◌, ◌≤◌, ◌^◌, length}
use Rattle.slang_values.specs.Measure.{node_count}
use Rattle.instance_rules.specs.Instances.{opened}
use Rattle.term_store.specs.Store.{tree_at, Grows}
use Rattle.term_store.specs.Sequent.{sequent_at, IsSequentWithin}
use Rattle.store_openings.specs.Tables.{AreTables}
use Rattle.store_openings.proofs.opening.open.Given as goal

abbrev pub decreases-loop-range : goal.decreases-loop-range
decreases-loop-range l = node_count (tree_at l.store l.sequent.goal)

abbrev pub invariant-loop-range : goal.invariant-loop-range
invariant-loop-range l =
    (opened (sequent_at l.store l.sequent) ≡ opened (sequent_at l.fn.store l.fn.sequent)) × IsSequentWithin l.store l.sequent × Grows l.fn.store l.store × AreTables l.store l.tables ×
    (length l.sequent.sorts + node_count (tree_at l.store l.sequent.goal) ≤ 2 ^ 32)
