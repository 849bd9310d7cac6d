use Rattle.std.proofs.Common.{◌≡◌, map, take}
use Rattle.std.specs.List.{flat_map}
use Rattle.instance_rules.specs.Instances.{conjuncts}
use Rattle.term_store.specs.Store.{tree_at, AreWithin}
use Rattle.store_openings.proofs.conjuncts.all_conjuncts.Given as goal

abbrev pub invariant-loop-place : goal.invariant-loop-place
invariant-loop-place l = (map (tree_at l.store) l.all ≡ flat_map conjuncts (map (tree_at l.store) (take l.place l.facts))) × AreWithin l.store l.all
