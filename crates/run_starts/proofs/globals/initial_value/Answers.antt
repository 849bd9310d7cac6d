use Rattle.std.proofs.Common.{◌≡◌, ◌∙◌}
use Rattle.slang_values.specs.Value.{Records, unit}
use Rattle.program_trees.specs.Variables.{global}
use Rattle.program_trees.specs.Programs.{claim_of, renamed_expr}
use Rattle.lk_programs.specs.Expr.{typed_expr}
use Rattle.run_rules.specs.Values.{claim_value}
use Rattle.run_values.specs.declared.value.Value.{Value}
use Rattle.run_values.specs.Value.{plain_value, held_value}
use Rattle.expression_values.specs.Environment.{values_in, variable_in}
use Rattle.run_starts.proofs.Constants.{if_ok_map, same_constant}
use Rattle.run_starts.proofs.globals.initial_value.Goals as goal

pub returns-in-Ok : goal.returns-in-Ok
returns-in-Ok c =
    let env = c.args.env.now in
    let init = typed_expr c.args.init.now in
    if_ok_map c.into_value.result (λ (v : Value). plain_value v ≡ held_value c.in-Ok.held)
    (λ (v : Value). (records : Records) → plain_value v ≡ claim_value records (λ x. unit) (claim_of (renamed_expr global init)))
    (λ v is records. is ∙ (c.in-Ok.ensures records).1 ∙ same_constant records (values_in env) (variable_in env) global init c.requires)
    c.into_value.ensures
