use Rattle.std.proofs.Common.{◌≡◌, ◌+◌, ◌++◌, ◌∷◌, ◌∙◌, [], ap, map, sym, take}
use Rattle.std.specs.Option.{option_map}
use Rattle.std.proofs.lemmas.List.{map-append, map_more}
use Rattle.slang_tree.specs.DeclTree.{TypedName, field_tree}
use Rattle.text_types.specs.TextType.{text_value}
use Rattle.type_rules.specs.Judged.{Judged}
use Rattle.type_rules.specs.TypeNames.{judged_type}
use Rattle.record_parts.specs.Chains.{fields_seen}
use Rattle.record_judging.specs.Written.{types_written}
use Rattle.record_judging.proofs.Judging.{type_known}
use Rattle.record_judging.proofs.written.types_written.Goals as goal

pub loop-field-preserved : goal.loop-field-preserved
loop-field-preserved c = λ names knows.
    let i = c.loop-field.field-index in
    let fields = c.args.fields.now in
    let tree = field_tree c.field-item.result in
    let before = map field_tree (take i fields) in
    let more : map field_tree (take (i + 1) fields) ≡ before ++ tree ∷ [] =
    map_more field_tree fields i c.field-item.result c.loop-field-test.true ∙ ap (λ f. before ++ field_tree f ∷ []) (sym c.field-item.is) in
    let judged = type_known c.args.outline.now.names names knows tree.ty c.variable_type-found.ensures in
    ap fields_seen c.in_ok-push.ensures.ok
    ∙ map-append (option_map text_value) c.loop-field.types (c.variable_type-found.result.ty ∷ [])
    ∙ ap (λ ts. ts ++ option_map text_value c.variable_type-found.result.ty ∷ []) (c.loop-field.invariant names knows)
    ∙ ap (λ t. types_written names before ++ t ∷ []) (ap (λ (j : Judged). j.type) judged.is)
    ∙ sym (ap (types_written names) more ∙ map-append (λ (f : TypedName). (judged_type names f.ty).type) before (tree ∷ []))
