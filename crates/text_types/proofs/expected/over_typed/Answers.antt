use Rattle.std.proofs.Common.{◌∙◌, sym}
use Rattle.std.specs.Option.{option_map}
use Rattle.text_types.specs.TextType.{text_value}
use Rattle.text_types.proofs.Parts.{over_typed, over_untyped}
use Rattle.text_types.proofs.expected.over_typed.Goals as goal

pub returns-then-typed : goal.returns-then-typed
returns-then-typed c = λ parts faults typed is.
    over_typed c.args.told.now.found c.tell_first.new.self.found c.args.place parts faults c.args.own.found c.args.ty c.typed_without-ty.result
    (sym typed ∙ c.if-typed.true) is c.tell_first.ensures c.typed_without-ty.ensures

pub returns-else-typed : goal.returns-else-typed
returns-else-typed c = λ parts faults typed is.
    over_untyped c.args.told.now.found c.untyped.result c.args.place parts faults (option_map text_value c.args.ty)
    (sym typed ∙ c.if-typed.false) c.untyped.ensures
