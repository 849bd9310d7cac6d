use Rattle.std.proofs.Common.{◌≡◌, ℕ, ◌+◌, List, ap, sym, subst, ◌∙◌}
use Rattle.expression_values.specs.Environment.{values_in}
use Rattle.run_rules.specs.Runs.{Stack, last}
use Rattle.run_steps.specs.Ends.{Tells}
use Rattle.run_steps.specs.Steps.{program_of}
use Rattle.run_frames.specs.Frames.{stack_of}
use Rattle.frame_steps.specs.declared.frame.Frame.{Frame}
use Rattle.frame_steps.specs.Runs.{with_turns, frames_of}
use Rattle.frame_steps.proofs.returning.last.Goals as goal

pub returns-in-Err-clause-turned : goal.returns-in-Err-clause-turned
returns-in-Err-clause-turned c m =
    let program = program_of c.args.typed.now in
    let run = c.args.run.now in
    subst (λ (frames : List Frame). Tells c.in-Err.end (with_turns c.args.limit program (stack_of program run.method (frames_of frames)) (values_in run.env)
    (c.args.left + m))) (sym c.requires.none) (c.in-Err.ensures _)

pub returns-in-Ok-clause-turned : goal.returns-in-Ok-clause-turned
returns-in-Ok-clause-turned c m =
    let program = program_of c.args.typed.now in
    let run = c.args.run.now in
    ap (λ (frames : List Frame). with_turns c.args.limit program (stack_of program run.method (frames_of frames)) (values_in run.env) (c.args.left + m))
    c.requires.none
    ∙ c.in-Ok.ensures.0 _
