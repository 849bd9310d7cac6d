use Rattle.std.proofs.Common.{ℕ, List, Some, None, map, sym, ap, subst, ◌∙◌}
use Rattle.std.specs.Prelude.{string_bytes}
use Rattle.std.proofs.lemmas.List.{length-map}
use Rattle.program_trees.specs.Programs.{MethodTree}
use Rattle.program_trees.specs.Variables.{Variable}
use Rattle.run_rules.specs.Runs.{method_at}
use Rattle.run_steps.specs.Steps.{program_of}
use Rattle.stopped_runs.specs.Runs.{command_run}
use Rattle.lk_programs.specs.Program.{record_types, field_types}
use Rattle.run_values.specs.Value.{plain_value}
use Rattle.argument_fronts.specs.Only.{IsOnly}
use Rattle.argument_fronts.specs.Types.{names_of}
use Rattle.call_arguments.specs.Arguments.{AreArgumentsOf}
use Rattle.call_arguments.specs.Next.{plain_items}
use Rattle.run_starts.specs.Methods.{HasName}
use Rattle.run_lines.specs.Lines.{names_in}
use Rattle.run_command.specs.Runs.{IsRanTo, IsRunOf, ran, no_arguments}
use Rattle.run_command.specs.declared.command.Ran.{Ran}
use Rattle.run_command.proofs.Runs.{if_ok_map, as_many, read_as}
use Rattle.run_command.proofs.command.run_method.Goals as goal

pub run_from-requires-clause-as_many : goal.run_from-requires-clause-as_many
run_from-requires-clause-as_many c =
    let typed = c.args.typed.now in
    let program = program_of typed in
    let found = read_as (map string_bytes c.args.words.now) (Some c.in-Ok-Some.arguments) c.as_slice.result.now typed.records c.as_slice.ensures
    (field_types c.as_slice-2.result.now) (method_at program c.args.number).params
    (ap field_types c.as_slice-2.ensures ∙ sym (ap (λ (m : MethodTree Variable). m.params) c.method_at-own.ensures))
    (subst (IsOnly plain_items (AreArgumentsOf (names_of c.as_slice.result.now) (record_types c.as_slice.result.now) (map string_bytes c.args.words.now)
    (field_types c.as_slice-2.result.now))) c.in-Ok-Some.field-0-is c.in-Ok-Some.ensures) in
    sym (length-map c.in-Ok-Some.arguments plain_value)
    ∙ as_many (names_of typed.records) (record_types typed.records) (map string_bytes c.args.words.now) (method_at program c.args.number).params
    (map plain_value c.in-Ok-Some.arguments) found.0

pub returns-in-Ok-None : goal.returns-in-Ok-None
returns-in-Ok-None c = λ method named.
    let typed = c.args.typed.now in
    let program = program_of typed in
    let none = read_as (map string_bytes c.args.words.now) None c.as_slice.result.now typed.records c.as_slice.ensures
    (field_types c.as_slice-2.result.now) (method_at program c.args.number).params
    (ap field_types c.as_slice-2.ensures ∙ sym (ap (λ (m : MethodTree Variable). m.params) c.method_at-own.ensures))
    (subst (IsOnly plain_items (AreArgumentsOf (names_of c.as_slice.result.now) (record_types c.as_slice.result.now) (map string_bytes c.args.words.now)
    (field_types c.as_slice-2.result.now))) c.in-Ok-None.field-0-is c.in-Ok-None.ensures) in
    no_arguments c.args.number named none c.no_fit.ensures.text c.no_fit.ensures.code

pub returns-in-Ok-Some : goal.returns-in-Ok-Some
returns-in-Ok-Some c =
    let typed = c.args.typed.now in
    let program = program_of typed in
    let words = map string_bytes c.args.words.now in
    let values = map plain_value c.in-Ok-Some.arguments in
    let found = read_as words (Some c.in-Ok-Some.arguments) c.as_slice.result.now typed.records c.as_slice.ensures
    (field_types c.as_slice-2.result.now) (method_at program c.args.number).params
    (ap field_types c.as_slice-2.ensures ∙ sym (ap (λ (m : MethodTree Variable). m.params) c.method_at-own.ensures))
    (subst (IsOnly plain_items (AreArgumentsOf (names_of c.as_slice.result.now) (record_types c.as_slice.result.now) words
    (field_types c.as_slice-2.result.now))) c.in-Ok-Some.field-0-is c.in-Ok-Some.ensures) in
    if_ok_map c.run_from.result
    (λ (r : Ran). IsRanTo (names_in typed) (command_run program (method_at program c.args.number) values c.args.turns) r.text.items r.code)
    (λ (r : Ran). (method : List ℕ) → HasName program c.args.number method → IsRunOf program (names_in typed) method c.args.turns words r.text.items r.code)
    (λ r h method named. ran c.args.number values named found.0 h) c.run_from.ensures
