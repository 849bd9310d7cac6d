use Rattle.std.proofs.Common.{◌≡◌, map, take}
use Rattle.slang_tree.specs.ExprTree.{expr_tree, exprs_of}
use Rattle.type_faults.specs.FirstFault.{with_first}
use Rattle.height_rules.specs.Faults.{exprs_too_high}
use Rattle.height_judging.proofs.expressions.expression_heights.Given as goal

-- the expressions so far were told of
abbrev pub invariant-loop-expr : goal.invariant-loop-expr
invariant-loop-expr l = l.told.found ≡ with_first l.fn.told.found (exprs_too_high (exprs_of (map expr_tree (take l.expr-index l.exprs))))
