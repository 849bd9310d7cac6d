use Rattle.std.proofs.Common.{◌≡◌, map, take}
use Rattle.rule_check.specs.Cited.{cited_tree}
use Rattle.deduction_rules.specs.Deduction.{citing, found}
use Rattle.proof_scopes.specs.Scope.{labelled_tree}
use Rattle.proof_scopes.proofs.citing.cite.Given as goal

abbrev pub invariant-loop-label : goal.invariant-loop-label
invariant-loop-label l = citing (map labelled_tree l.visible) (take l.label-index l.labels) ≡ found (map cited_tree l.cited.items)
