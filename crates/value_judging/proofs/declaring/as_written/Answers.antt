use Rattle.slang_tree.specs.TypeTree.{type_tree}
use Rattle.type_rules.specs.TypeNames.{judged_type}
use Rattle.name_scopes.specs.Meanings.{declared_in}
use Rattle.value_judging.proofs.Values.{written_first}
use Rattle.value_judging.proofs.declaring.as_written.Goals as goal

pub returns : goal.returns
returns c =
    written_first c.args.told.now.found c.variable_type-written.new.told.found c.against_optional.new.told.found c.variable_type-written.result c.args.value
    (judged_type (declared_in c.args.scope.now.names) (type_tree c.args.ty.now)) c.variable_type-written.ensures c.against_optional.ensures
