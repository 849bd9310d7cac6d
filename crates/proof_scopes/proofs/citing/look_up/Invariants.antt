use Rattle.std.proofs.Common.{◌≡◌, map, drop}
use Rattle.deduction_rules.specs.Deduction as rule
use Rattle.proof_scopes.specs.Scope.{labelled_tree}
use Rattle.proof_scopes.proofs.citing.look_up.Given as goal

abbrev pub invariant-loop-one : goal.invariant-loop-one
invariant-loop-one l = rule.look_up (map labelled_tree l.visible) l.label ≡ rule.look_up (map labelled_tree (drop l.one-index l.visible)) l.label
