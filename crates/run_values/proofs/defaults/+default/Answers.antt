use Rattle.std.proofs.Common.{◌≡◌, ◌∙◌, ap, map, List}
use Rattle.std.proofs.lemmas.List.{take_all}
use Rattle.slang_values.specs.Value.{ValueType, default_within, record_value, values_of}
use Rattle.slang_values.specs.Value as plain
use Rattle.lk_programs.specs.declared.program.FieldTy.{FieldTy}
use Rattle.lk_programs.specs.Program.{field_types, record_types}
use Rattle.run_values.proofs.Values.{plain_value-Rec}
use Rattle.run_values.proofs.defaults.+default.Goals as goal

-- the loop has gone over all fields
pub default_record-returns : goal.default_record-returns
default_record-returns t c =
    let defaults = default_within (record_types c.args.records.now) c.args.depth in
    plain_value-Rec c.args.number c.loop-field.values
    ∙ ap (λ (vs : List plain.Value). record_value c.args.number (values_of vs)) (c.loop-field.invariant
    ∙ ap (λ (fs : List FieldTy). map defaults (field_types fs)) (take_all _ _ c.loop-field-test.false)
    ∙ ap (λ (ts : List ValueType). map defaults ts) c.fields_of-field-items.ensures)
