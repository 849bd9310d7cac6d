use Rattle.std.proofs.Common.{◌≡◌, ℕ, ◌≤◌, List, length, map, ap, sym, subst, ◌∙◌}
use Rattle.std.specs.Prelude.{Ok, Err}
use Rattle.std.proofs.lemmas.Result.{IfOk-weaker}
use Rattle.run_stops.specs.ClaimStops.{visit_limit}
use Rattle.run_steps.specs.Entering.{Enters}
use Rattle.program_trees.specs.Programs.{MethodTree}
use Rattle.program_trees.specs.Variables.{Variable}
use Rattle.lk_programs.specs.declared.program.NodePlace.{NodePlace}
use Rattle.run_rules.specs.Runs.{method_at}
use Rattle.run_values.specs.declared.value.Value.{Value}
use Rattle.run_values.specs.Value.{plain_value}
use Rattle.run_steps.specs.Steps.{program_of}
use Rattle.frame_steps.proofs.Callable.{params_few}
use Rattle.interp.specs.declared.machine.Machine.{Machine}
use Rattle.interp.specs.Machines.{run_of, IsMachineOf}
use Rattle.interp.proofs.Begins.{has_begun, has_stopped, last_fits, start_fits}
use Rattle.interp.proofs.machine.Machine.new.Goals as goal

pub begin_call-requires-clause-few : goal.begin_call-requires-clause-few
begin_call-requires-clause-few c =
    let program = program_of c.args.typed.now in
    subst (λ (n : ℕ). n ≤ length (method_at program c.args.method).locals) (sym c.requires.as_many_arguments)
    (params_few program (length (map (λ
    (node : NodePlace). node.file) c.args.typed.now.nodes)) c.args.typed.now.well_typed.methods c.args.method c.requires.there)

pub returns-in-Err-clause-begins : goal.returns-in-Err-clause-begins
returns-in-Err-clause-begins c =
    let program = program_of c.args.typed.now in
    let node = c.method_at.result.now.node.0 in
    let entering = subst (λ (globals : List Value). Enters visit_limit program c.args.method (map plain_value c.args.arguments) globals node
    (Err c.in-Err.end))
    c.as_slice.ensures c.in-Err.ensures.enters in
    IfOk-weaker c.stopped.result _ _
    (λ machine h n. has_stopped program c.args.method (map plain_value c.args.arguments) c.args.globals node
    (ap (λ (m : MethodTree Variable). m.node) c.method_at.ensures) c.in-Err.end machine n entering h.0 h.1)
    c.stopped.ensures

pub returns-in-Err-clause-of : goal.returns-in-Err-clause-of
returns-in-Err-clause-of c =
    IfOk-weaker c.stopped.result _ _ (λ machine h. last_fits (program_of c.args.typed.now) c.in-Err.end machine h.0) c.stopped.ensures

pub returns-clause-begins : goal.returns-clause-begins
returns-clause-begins c =
    let program = program_of c.args.typed.now in
    let node = c.method_at.result.now.node.0 in
    let entering = subst (λ (globals : List Value). Enters visit_limit program c.args.method (map plain_value c.args.arguments) globals node (Ok c.in-Ok.env))
    c.as_slice.ensures c.in-Ok.ensures.enters in
    IfOk-weaker c.begun.result _ _
    (λ machine is n. ap (λ (m : Machine). run_of program m n) is
    ∙ has_begun program c.args.method (map plain_value c.args.arguments) c.args.globals node
    (ap (λ (m : MethodTree Variable). m.node) c.method_at.ensures) c.in-Ok.env n entering.0 entering.1)
    c.begun.ensures

pub returns-clause-of : goal.returns-clause-of
returns-clause-of c =
    let program = program_of c.args.typed.now in
    IfOk-weaker c.begun.result _ _
    (λ machine is. subst (IsMachineOf program) (sym is) (start_fits program c.args.method c.in-Ok.env c.in-Ok.ensures.begins)) c.begun.ensures
