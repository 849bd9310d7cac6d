use Rattle.std.proofs.Common.{None, ap, subst, sym}
use Rattle.std.specs.Option.{option_map}
use Rattle.slang_tree.specs.TypeTree.{type_tree}
use Rattle.value_judging.specs.IsDeclared.{IsDeclared}
use Rattle.value_judging.proofs.Values.{type_alone, type_beside}
use Rattle.value_judging.proofs.declaring.declared.Goals as goal

pub returns-in-None : goal.returns-in-None
returns-in-None c = λ at before it fits value.
    subst (λ ty. IsDeclared before c.of_value.new.told.found c.of_value.result at ty it) (sym (ap (option_map type_tree) c.in-None.is))
    (type_alone before c.args.told.now.found c.of_value.new.told.found c.args.value c.of_value.result at it value c.of_value.ensures.told c.of_value.ensures.ty)

pub returns-in-Some : goal.returns-in-Some
returns-in-Some c = λ at before it fits value.
    subst (λ ty. IsDeclared before c.as_written.new.told.found c.as_written.result at ty it) (sym (ap (option_map type_tree) c.in-Some.is))
    (type_beside before c.args.told.now.found c.as_written.new.told.found c.args.value c.as_written.result c.args.scope.now at (type_tree c.in-Some.ty) it
    fits value c.as_written.ensures)
