use Rattle.std.proofs.Common.{◌∙◌, ap}
use Rattle.slang_tree.specs.DeclTree.{field_tree}
use Rattle.name_maps.specs.Names.{is_named}
use Rattle.record_judging.proofs.Judging.{field_is, type_known}
use Rattle.record_judging.proofs.fields.judged_field.Goals as goal

pub returns : goal.returns
returns c = λ names knows.
    let tree = field_tree c.args.field.now in
    field_is c.args.by_name.now c.args.own.now c.args.at names tree c.contains-known.result c.told_at-allowed.result c.allowed_type.result
    (c.contains-known.ensures ∙ ap (is_named c.args.by_name.now) c.as_str.ensures) c.tell_unless.ensures
    (type_known c.args.outline.now.names names knows tree.ty c.variable_type-found.ensures) c.told_at-allowed.ensures c.tell_unless-2.ensures c.allowed_type.ensures
