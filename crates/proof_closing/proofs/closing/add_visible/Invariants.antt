use Rattle.std.proofs.Common.{◌≡◌, ◌++◌, map, take}
use Rattle.term_trees.specs.Term.{tree}
use Rattle.deduction_rules.specs.Deduction.{visible_claims}
use Rattle.proof_scopes.specs.Scope.{labelled_tree}
use Rattle.proof_closing.proofs.closing.add_visible.Given as goal

abbrev pub invariant-loop-one : goal.invariant-loop-one
invariant-loop-one l = map tree l.claims ≡ map tree l.fn.claims ++ visible_claims (map labelled_tree (take l.one-index l.visible))
