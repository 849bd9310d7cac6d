use Rattle.std.proofs.Common.{◌∙◌}
use Rattle.std.proofs.lemmas.Result.{IfOk-weaker}
use Rattle.lk_claims.proofs.Types.{value_type-Unit}
use Rattle.constant_making.proofs.Classes.{none_first, type_first}
use Rattle.constant_making.proofs.types.first_ty.Goals as goal

pub returns-in-None : goal.returns-in-None
returns-in-None c = λ at fits. value_type-Unit ∙ none_first at c.args.elements.now c.in-None.ensures

pub returns-in_ok-known_type-in-Some : goal.returns-in_ok-known_type-in-Some
returns-in_ok-known_type-in-Some c =
    IfOk-weaker c.ty_of.result _ _ (λ made is at fits.
    is ∙ c.in_ok-known_type-in-Some.ensures at fits ∙ type_first at c.args.elements.now c.in-Some.first.now c.in-Some.ensures) c.ty_of.ensures
