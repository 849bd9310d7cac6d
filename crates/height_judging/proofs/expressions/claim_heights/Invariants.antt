use Rattle.std.proofs.Common.{◌≡◌, map, take}
use Rattle.slang_tree.specs.ExprTree.{expr_tree}
use Rattle.type_faults.specs.FirstFault.{with_first}
use Rattle.height_rules.specs.Faults.{claims_too_high}
use Rattle.height_judging.proofs.expressions.claim_heights.Given as goal

-- the claims so far were told of
abbrev pub invariant-loop-claim : goal.invariant-loop-claim
invariant-loop-claim l = l.told.found ≡ with_first l.fn.told.found (claims_too_high (map expr_tree (take l.claim-index l.claims)))
