use Rattle.std.proofs.Common.{ℕ, ◌≤◌, length, sym, subst, ap, ◌∙◌, List, map}
use Rattle.std.specs.Prelude.{Ok, Err}
use Rattle.run_values.specs.declared.value.Value.{Value}
use Rattle.run_values.specs.Value.{plain_value}
use Rattle.run_steps.specs.Entering.{Enters}
use Rattle.std.specs.Option.{option_map}
use Rattle.slang_values.specs.Value as plain
use Rattle.program_trees.specs.declared.answer.Kind.TheVariants as kinds
use Rattle.run_rules.specs.Values.{Values}
use Rattle.run_rules.specs.Runs.{method_at, entered, fails, begin, back}
use Rattle.expression_values.specs.Environment.{values_in, value_in, variable_in}
use Rattle.stopped_runs.specs.Runs.{Stopped, reached, on_test}
use Rattle.stopped_runs.specs.Tests.{test}
use Rattle.run_steps.specs.Steps.{program_of}
use Rattle.run_steps.specs.Ends.{Tells}
use Rattle.run_steps.proofs.Values.{values_count}
use Rattle.run_steps.proofs.calling.call.Goals as goal

pub begin_call-requires-clause-few : goal.begin_call-requires-clause-few
begin_call-requires-clause-few c =
    let program = program_of c.args.typed.now in
    subst (λ (n : ℕ). n ≤ length (method_at program c.args.number).locals)
    (sym (values_count program c.args.env.now c.args.arguments.now c.in-Ok.values (c.in-Ok.ensures program).1)) c.requires.few

pub returns-in-Err-clause-does : goal.returns-in-Err-clause-does
returns-in-Err-clause-does c node more rest = c.in-Err.ensures (program_of c.args.typed.now) _

-- What becomes of the run behind the arguments is what the beginning of the method tells.
pub returns-in-Err-begin_call-clause-does : goal.returns-in-Err-begin_call-clause-does
returns-in-Err-begin_call-clause-does c node more rest =
    let program = program_of c.args.typed.now in
    let env = c.args.env.now in
    let m = method_at program c.args.number in
    let found = c.in-Ok.ensures program in
    subst (Tells c.in-Err-begin_call.end) (sym (found.0 _))
    (subst (λ (vs : List plain.Value). Tells c.in-Err-begin_call.end
    (on_test (test c.args.limit program.records (entered program.records m vs (value_in env.globals)) m.requires_) (λ n. reached
    (fails kinds.Requires c.args.name.0))
    (more (begin m.body (back m (values_in env) (option_map (variable_in env) c.args.target) rest)) (entered program.records m vs (value_in env.globals)))))
    found.1 (subst (λ (globals : List Value). Enters c.args.limit program c.args.number (map plain_value c.in-Ok.values) globals c.args.name.0
    (Err c.in-Err-begin_call.end)) c.as_slice.ensures c.in-Err-begin_call.ensures.enters _))

pub returns-in-Ok-begin_call-clause-does : goal.returns-in-Ok-begin_call-clause-does
returns-in-Ok-begin_call-clause-does c node more rest =
    let program = program_of c.args.typed.now in
    let env = c.args.env.now in
    let m = method_at program c.args.number in
    let found = c.in-Ok.ensures program in
    let entering = subst (λ (globals : List Value). Enters c.args.limit program c.args.number (map plain_value c.in-Ok.values) globals c.args.name.0
    (Ok c.in-Ok-begin_call.callee)) c.as_slice.ensures c.in-Ok-begin_call.ensures.enters in
    let on : Values → Stopped = λ (vs : Values). more (begin m.body (back m (values_in env) (option_map (variable_in env) c.args.target) rest)) vs in
    found.0 _
    ∙ ap (λ (vs : List plain.Value). on_test (test c.args.limit program.records (entered program.records m vs (value_in env.globals)) m.requires_)
    (λ n. reached (fails kinds.Requires c.args.name.0))
    (on (entered program.records m vs (value_in env.globals)))) (sym found.1)
    ∙ entering.0 _
    ∙ ap on (sym entering.1)
