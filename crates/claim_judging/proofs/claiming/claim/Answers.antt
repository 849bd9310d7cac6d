use Rattle.slang_values.specs.Value.{truth_type}
use Rattle.slang_tree.specs.ExprTree.{expr_tree}
use Rattle.type_rules.specs.Expressions.{judged}
use Rattle.expression_forms.specs.Context.{context_seen}
use Rattle.claim_judging.proofs.ClaimFaults.{against_part}
use Rattle.claim_judging.proofs.claiming.claim.Goals as goal

pub returns-clause-told : goal.returns-clause-told
returns-clause-told c = λ at fits.
    against_part c.args.told.now.found c.judged.new.told.found c.against.new.told.found c.in_ok-found.found truth_type (judged at (context_seen c.args.context) (expr_tree c.args.expr.now)) (c.in_ok-found.ensures.judged at fits) c.against.ensures
