use Rattle.std.proofs.Common.{◌≡◌, map, nat_le, take, true}
use Rattle.slang_tree.specs.ExprTree.{expr_tree, exprs_of}
use Rattle.text_heights.specs.Heights.{greatest_height}
use Rattle.height_judging.proofs.expressions.+within.Given as goal

-- none of the expressions so far is higher
abbrev pub invariant-are_within-loop-expr : goal.invariant-are_within-loop-expr
invariant-are_within-loop-expr l = nat_le (greatest_height (exprs_of (map expr_tree (take l.expr-index l.exprs)))) l.limit ≡ true
