use Rattle.std.proofs.Common.{◌≡◌, List, map, ap, ◌∙◌}
use Rattle.program_trees.specs.Programs.{renamed_global}
use Rattle.program_trees.specs.Variables.{with_kinds, global}
use Rattle.lk_programs.specs.Program.{global_tree}
use Rattle.lk_programs.specs.Typed.{program_tree}
use Rattle.slang_values.specs.Value.{Records}
use Rattle.run_rules.specs.Runs.{initial_value}
use Rattle.run_values.specs.declared.value.Value.{Value}
use Rattle.run_values.specs.Value.{plain_value}
use Rattle.run_starts.specs.Constants.{constant_value}
use Rattle.run_starts.proofs.Constants.{if_ok_map, globals_same}
use Rattle.run_starts.proofs.globals.initial_globals.Goals as goal

pub returns : goal.returns
returns c =
    let program = with_kinds (program_tree c.args.typed.now) in
    if_ok_map c.values_of.result (λ (values : List Value). (records : Records) → map plain_value values
    ≡ map (constant_value records) c.as_slice.result.now)
    (λ (values : List Value). map plain_value values ≡ map (initial_value program) (map (renamed_global global) (map global_tree c.args.typed.now.globals)))
    (λ values is. is program.records ∙ ap (map (constant_value program.records)) c.as_slice.ensures ∙ globals_same program c.args.typed.now.globals)
    c.values_of.ensures
