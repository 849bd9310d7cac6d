use Rattle.std.proofs.Common.{◌≡◌, ◌++◌, map, take}
use Rattle.term_trees.specs.Term.{tree}
use Rattle.deduction_tests.specs.Claims.{test_claim}
use Rattle.deduction_tests.proofs.steps.add_facts.Given as goal

abbrev pub invariant-loop-number : goal.invariant-loop-number
invariant-loop-number l = map tree l.facts ≡ map tree l.fn.facts ++ map test_claim (take l.number-index l.claims)
