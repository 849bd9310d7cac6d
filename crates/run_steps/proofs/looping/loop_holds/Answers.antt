use Rattle.std.proofs.Common.{◌≡◌, ℕ, ap, sym, subst, ◌∙◌}
use Rattle.program_trees.specs.Programs.{CodeTree, renamed_code, claim_of}
use Rattle.lk_programs.specs.Program.{code_tree}
use Rattle.lk_programs.proofs.Codes.{code_tree-While}
use Rattle.run_rules.specs.Values.{is_true}
use Rattle.run_stops.specs.ExpressionStops.{stopping}
use Rattle.expression_values.specs.Environment.{values_in, variable_in}
use Rattle.stopped_runs.specs.Runs.{on_stop}
use Rattle.run_frames.specs.Frames.{loop_of}
use Rattle.run_steps.specs.Ends.{Gives}
use Rattle.run_steps.proofs.looping.loop_holds.Goals as goal

pub returns-in-While : goal.returns-in-While
returns-in-While c program =
    let env = c.args.env.now in
    subst (λ (t : CodeTree ℕ). Gives (λ b. b ≡ is_true program.records (values_in env) (claim_of (loop_of (renamed_code (variable_in env) t)).test))
    (on_stop (stopping program.records (values_in env) (loop_of (renamed_code (variable_in env) t)).test)) c.truth_of.result)
    (sym (ap code_tree c.in-While.is ∙ code_tree-While _ _ _ _ _)) (c.truth_of.ensures program)
