use Rattle.std.proofs.Common.{◌≡◌, ◌++◌, map, take}
use Rattle.term_trees.specs.Term.{tree}
use Rattle.rule_check.specs.Cited.{cited_tree}
use Rattle.deduction_rules.specs.Deduction.{claims_of}
use Rattle.proof_closing.proofs.closing.add_cited.Given as goal

abbrev pub invariant-loop-one : goal.invariant-loop-one
invariant-loop-one l = map tree l.claims ≡ map tree l.fn.claims ++ claims_of (map cited_tree (take l.one-index l.cited))
