use Rattle.std.proofs.Common.{List, ap, sym, subst, ◌∙◌}
use Rattle.program_trees.specs.declared.answer.Kind.TheVariants as kinds
use Rattle.program_trees.specs.Claims.{NotedTree}
use Rattle.program_trees.specs.Variables.{Variable}
use Rattle.lk_programs.specs.declared.program.Noted.{Noted}
use Rattle.lk_programs.specs.Program.{record_types}
use Rattle.expression_values.specs.Environment.{values_in}
use Rattle.claim_tests.specs.Tested.{noted_in}
use Rattle.stopped_runs.specs.Runs.{tested}
use Rattle.run_steps.specs.Ends.{Gives, Holds}
use Rattle.run_steps.specs.Steps.{program_of}
use Rattle.run_steps.proofs.Methods.{ensures_are}
use Rattle.frame_steps.proofs.returning.ensures_hold.Goals as goal

pub returns : goal.returns
returns c =
    let program = program_of c.args.typed.now in
    let run = c.args.run.now in
    subst (λ (claims : List (NotedTree Variable)). Gives Holds (tested c.args.limit program kinds.Ensures claims (values_in run.env)) c.tested.result)
    (ap (λ (claims : List Noted). noted_in run.env claims) c.as_slice-2.ensures
    ∙ ensures_are program run.method c.method_at-method.result.now run.env c.requires c.method_at-method.ensures)
    (c.tested.ensures program (ap record_types (sym c.as_slice.ensures)))
