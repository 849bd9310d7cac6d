use Rattle.std.proofs.Common.{◌≡◌, ◌≤◌, map, take, length}
use Rattle.std.specs.List.{flat_map}
use Rattle.instance_rules.specs.Instances.{instances_of, instance_limit}
use Rattle.term_store.specs.Store.{tree_at, AreWithin, Grows}
use Rattle.store_openings.specs.Tables.{AreTables}
use Rattle.store_instances.specs.Added.{with_lacking}
use Rattle.store_new_facts.proofs.adding.add_all_instances.Given as goal

abbrev pub invariant-loop-place : goal.invariant-loop-place
invariant-loop-place l =
    (map (tree_at l.store) l.new ≡ with_lacking (map (tree_at l.fn.store) l.facts) (map (tree_at l.fn.store) l.fn.new) (flat_map (λ k. instances_of (map (tree_at l.fn.store) l.terms) (tree_at l.fn.store k)) (take l.place l.facts))) ×
    AreWithin l.store l.new × (length l.new ≤ instance_limit) × Grows l.fn.store l.store × AreTables l.store l.tables
