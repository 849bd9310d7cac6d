use Rattle.std.proofs.Common.{pos, ap, ap₂, ◌∙◌}
use Rattle.std.proofs.lemmas.Result.{IfOk-weaker}
use Rattle.slang_values.specs.Tree.{unary, binary}
use Rattle.slang_values.specs.declared.operators.Unary.{Unary}
use Rattle.slang_values.specs.declared.operators.Binary.{Binary}
use Rattle.lk_claims.proofs.Trees.{claim_tree-Lit}
use Rattle.leg_items.proofs.demands.not_zero.Goals as goal

pub returns : goal.returns
returns c =
    IfOk-weaker c.unary.result _ _
    (λ x e. e ∙ ap (unary Unary.Not) (c.in_ok-is_zero.ensures ∙ ap₂ (binary Binary.Eq) c.in_ok-divisor.ensures (claim_tree-Lit (pos 0))))
    c.unary.ensures
