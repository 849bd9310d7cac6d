use Rattle.std.proofs.Common.{◌≡◌, ℕ, ◌+◌, List, ap, ap₂, sym, subst, ◌∙◌}
use Rattle.program_trees.specs.declared.answer.Kind.{Kind}
use Rattle.program_trees.specs.Claims.{NotedTree}
use Rattle.program_trees.specs.Variables.{Variable}
use Rattle.lk_programs.specs.Program.{record_types}
use Rattle.expression_values.specs.Environment.{values_in}
use Rattle.stopped_runs.specs.Runs.{Stopped, tested, turns, test_loop}
use Rattle.code_paths.specs.declared.inside.Inside.{Inside}
use Rattle.run_frames.specs.Frames.{loop_at}
use Rattle.run_steps.specs.Ends.{Tells}
use Rattle.run_steps.specs.Steps.{program_of}
use Rattle.frame_steps.specs.Places.{IsThere}
use Rattle.frame_steps.specs.Runs.{stack_in}
use Rattle.frame_steps.proofs.Turning.{turned_over}
use Rattle.frame_steps.proofs.looping.again.Goals as goal

pub test_due-requires-clause-there : goal.test_due-requires-clause-there
test_due-requires-clause-there c =
    let run = c.args.run.now in
    subst (λ (p : List Inside). IsThere (program_of c.args.typed.now) run.method run.env p c.args.statement c.code_at-code.result) c.as_slice.ensures
    c.code_at-code.ensures.there

pub returns-in-Err-clause-turned : goal.returns-in-Err-clause-turned
returns-in-Err-clause-turned c m =
    let program = program_of c.args.typed.now in
    let run = c.args.run.now in
    let there = subst (λ (p : List Inside). IsThere program run.method run.env p c.args.statement c.code_at-code.result) c.as_slice.ensures
    c.code_at-code.ensures.there in
    let claims = c.invariants_at.ensures program run.method c.args.path c.args.statement there in
    subst (Tells c.in-Err.end)
    (ap₂ (λ (kind : Kind) (cs : List (NotedTree Variable)). tested c.args.limit program kind cs (values_in run.env) (test_loop c.args.limit program
    (turns c.args.limit program (c.args.left.now + m)) (loop_at program run.method c.args.path c.args.statement) (stack_in program run) (values_in run.env)))
    c.kind_of.ensures claims)
    (c.in-Err.ensures program (ap record_types (sym c.as_slice-2.ensures)) _)

pub returns-in-Ok-clause-turned : goal.returns-in-Ok-clause-turned
returns-in-Ok-clause-turned c =
    let program = program_of c.args.typed.now in
    let run = c.args.run.now in
    let there = subst (λ (p : List Inside). IsThere program run.method run.env p c.args.statement c.code_at-code.result) c.as_slice.ensures
    c.code_at-code.ensures.there in
    let claims = c.invariants_at.ensures program run.method c.args.path c.args.statement there in
    turned_over c.args.limit program c.test_due.new.run _ _ c.args.left.now c.test_due.new.left c.test_due.result
    (λ n. ap₂ (λ (kind : Kind) (cs : List (NotedTree Variable)). tested c.args.limit program kind cs (values_in run.env) (test_loop c.args.limit program
    (turns c.args.limit program n) (loop_at program run.method c.args.path c.args.statement) (stack_in program run) (values_in run.env)))
    (sym c.kind_of.ensures) (sym claims)
    ∙ (c.in-Ok.ensures program (ap record_types (sym c.as_slice-2.ensures))).0 _)
    c.test_due.ensures.turned
