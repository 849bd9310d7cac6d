use Rattle.std.proofs.Common.{ap, sym, ◌∙◌}
use Rattle.std.specs.Option.{option_map}
use Rattle.lk_claims.proofs.Types.{value_type-Unit}
use Rattle.text_types.specs.TextType.{text_value}
use Rattle.typed_texts.specs.Code.{type_declared}
use Rattle.target_making.proofs.declaring.known_ty.Goals as goal

pub returns-in-None : goal.returns-in-None
returns-in-None c = value_type-Unit ∙ ap (λ t. type_declared (option_map text_value t)) (sym c.in-None.is)
