use Rattle.std.proofs.Common.{ℕ, List, map, take}
use Rattle.slang_values.specs.Tree.{Tree}
use Rattle.term_store.specs.Inside.{AreMeasured}
use Rattle.term_nodes.specs.Node.{tree_of}
use Rattle.term_store.proofs.Measures.{IsMeasureOfAll}
use Rattle.term_store.proofs.growing.measure_over.Given as goal

abbrev pub invariant-loop-part : goal.invariant-loop-part
invariant-loop-part l =
    (ts : List (Tree ℕ)) → AreMeasured ts l.entries → IsMeasureOfAll (map (tree_of ts) (take l.part-index l.parts)) l.all
