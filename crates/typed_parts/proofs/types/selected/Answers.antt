use Rattle.std.proofs.Common.{◌∙◌, ap}
use Rattle.std.proofs.lemmas.Result.{IfOk-weaker}
use Rattle.typed_texts.specs.Claims.{selector}
use Rattle.typed_parts.proofs.types.selected.Goals as goal

pub returns-clause-selected : goal.returns-clause-selected
returns-clause-selected c =
    IfOk-weaker c.selector.result _ _ (λ op is at fits has. is at has ∙ ap (λ type. selector at type c.args.name.now) (c.in_ok-ty.ensures.known at fits)) c.selector.ensures
