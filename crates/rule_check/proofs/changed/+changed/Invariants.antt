use Rattle.std.proofs.Common.{◌≡◌, ℕ, ◌+◌, ◌*◌, take}
use Rattle.slang_values.specs.Tree.{Tree, parts}
use Rattle.term_trees.specs.declared.term.Term.{size-Term}
use Rattle.term_trees.specs.Term.{tree}
use Rattle.rule_check.specs.Changed.{Makes}
use Rattle.rule_check.proofs.changed.+changed.Given as goal

abbrev pub decreases-is_changed : goal.decreases-is_changed
decreases-is_changed l = 2 * size-Term l.term.now + 1

abbrev pub decreases-are_parts_changed : goal.decreases-are_parts_changed
decreases-are_parts_changed l = 2 * size-Term l.term.now

abbrev pub invariant-are_parts_changed-loop-place : goal.invariant-are_parts_changed-loop-place
invariant-are_parts_changed-loop-place l =
    (f : Tree ℕ → Tree ℕ) → Makes l.change f → take l.place (parts (f (tree l.term))) ≡ take l.place (parts (tree l.claim))
