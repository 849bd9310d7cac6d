use Rattle.std.proofs.Common.{◌∙◌, ap, drop, map, subst}
use Rattle.slang_tree.specs.DeclTree.{field_tree}
use Rattle.name_maps.specs.Names.{with_name}
use Rattle.record_judging.specs.Fields.{FieldsSoFar}
use Rattle.record_judging.proofs.Judging.{drop_all, fields_end, fields_next, fields_none}
use Rattle.record_judging.proofs.fields.add_fields.Goals as goal

pub loop-at-init : goal.loop-at-init
loop-at-init c = λ names written n knows allowed none nothing.
    fields_none c.args.told.now.found c.args.types.now c.args.by_name.now c.args.own.now names written n (map field_tree c.args.fields.now) none nothing

pub loop-at-preserved : goal.loop-at-preserved
loop-at-preserved c = λ names written n knows allowed none nothing.
    fields_next c.loop-at.typed c.in_ok-typed.typed c.loop-at.types c.add_type.new.types c.loop-at.by_name c.add.new.self c.args.own.now names written n
    c.args.fields.now c.loop-at.at c.index-fields-at.result c.judged_field-ty.result c.loop-at-test.true c.index-fields-at.is allowed (c.judged_field-ty.ensures names knows)
    c.in_ok-typed.ensures (c.in_ok-add.ensures ∙ ap (λ t. with_name c.loop-at.by_name t c.judged_field-ty.result) c.as_str.ensures)
    (c.loop-at.invariant names written n knows allowed none nothing)

pub returns : goal.returns
returns c = λ names written n knows allowed none nothing.
    let fields = c.args.fields.now in
    let at = c.loop-at.at in
    fields_end c.loop-at.typed c.loop-at.types c.loop-at.by_name c.args.own.now names written n (map field_tree fields) at
    (subst (λ fs. FieldsSoFar c.args.told.now.found c.loop-at.told.found c.loop-at.typed c.loop-at.types c.loop-at.by_name c.args.own.now names written n (map field_tree fields) at (map field_tree fs))
    (drop_all fields at c.loop-at-test.false) (c.loop-at.invariant names written n knows allowed none nothing))
