use Rattle.std.proofs.Common.{◌∙◌}
use Rattle.std.proofs.lemmas.Result.{IfOk-weaker}
use Rattle.lk_claims.proofs.Types.{value_type-Unit}
use Rattle.expression_forms.specs.Context.{context_seen}
use Rattle.typed_parts.proofs.Known.{none_first, type_first}
use Rattle.typed_parts.proofs.types.first_ty.Goals as goal

pub returns-in-None-clause-known : goal.returns-in-None-clause-known
returns-in-None-clause-known c = λ at fits.
    value_type-Unit ∙ none_first at (context_seen c.args.context) c.args.elements.now c.in-None.ensures

pub returns-in_ok-known_type-in-Some-clause-known : goal.returns-in_ok-known_type-in-Some-clause-known
returns-in_ok-known_type-in-Some-clause-known c =
    IfOk-weaker c.ty_of.result _ _ (λ made is at fits.
    is ∙ c.in_ok-known_type-in-Some.ensures.known at fits
    ∙ type_first at (context_seen c.args.context) c.args.elements.now c.in-Some.first.now c.in-Some.ensures) c.ty_of.ensures
