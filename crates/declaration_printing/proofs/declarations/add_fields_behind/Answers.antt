use Rattle.slang_tree.specs.DeclTree.{field_tree}
use Rattle.declaration_printing.proofs.Lists.{one_param_behind}
use Rattle.declaration_printing.proofs.declarations.add_fields_behind.Goals as goal

pub loop-field-preserved : goal.loop-field-preserved
loop-field-preserved c =
    one_param_behind field_tree c.args.fields.now c.loop-field.field-index _ c.loop-field-test.true c.field-item.is c.loop-field.invariant
    c.in_ok-add_text.ensures
    c.in_ok-add_with_type.ensures
