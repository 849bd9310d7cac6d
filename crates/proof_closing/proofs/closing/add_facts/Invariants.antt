use Rattle.std.proofs.Common.{◌≡◌, ◌++◌, map, take}
use Rattle.term_trees.specs.Term.{tree}
use Rattle.proof_closing.proofs.closing.add_facts.Given as goal

abbrev pub invariant-loop-fact : goal.invariant-loop-fact
invariant-loop-fact l = map tree l.claims ≡ map tree l.fn.claims ++ map tree (take l.fact-index l.facts)
