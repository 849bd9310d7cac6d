use Rattle.std.proofs.Common.{pos, ap₂, ◌∙◌}
use Rattle.std.proofs.lemmas.Result.{IfOk-weaker}
use Rattle.slang_values.specs.Tree.{binary}
use Rattle.slang_values.specs.declared.operators.Binary.{Binary}
use Rattle.lk_claims.proofs.Trees.{claim_tree-Lit}
use Rattle.leg_items.proofs.demands.not_negative.Goals as goal

pub returns : goal.returns
returns c =
    IfOk-weaker c.binary.result _ _ (λ x e. e ∙ ap₂ (binary Binary.Le) (claim_tree-Lit (pos 0)) c.in_ok-claim_of.ensures) c.binary.ensures
