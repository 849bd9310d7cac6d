use Rattle.std.proofs.Common.{subst}
use Rattle.std.proofs.lemmas.Result.{IfOk-weaker}
use Rattle.slang_tree.specs.ExprTree.{expr_tree}
use Rattle.text_types.specs.Found.{IsJudged}
use Rattle.right_sides.proofs.RightSides.{right_elsewhere}
use Rattle.right_sides.proofs.sides.judged_elsewhere.Goals as goal

pub returns-clause-judged : goal.returns-clause-judged
returns-clause-judged c =
    IfOk-weaker c.judged.result _ _
    (λ found was at fits is_none.
    subst (IsJudged c.args.told.now.found c.judged.new.told.found found) (right_elsewhere at (expr_tree c.args.expr.now) is_none) (was at fits))
    c.judged.ensures.judged
