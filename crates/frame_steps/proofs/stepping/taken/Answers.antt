use Rattle.std.proofs.Common.{sym, subst}
use Rattle.expression_values.specs.Environment.{values_in}
use Rattle.run_steps.specs.Steps.{program_of}
use Rattle.frame_steps.specs.declared.frame.Frame.{Frame}
use Rattle.frame_steps.specs.Runs.{with_turns, stack_with, FrameFits}
use Rattle.frame_steps.specs.Turns.{Turned}
use Rattle.frame_steps.proofs.stepping.taken.Goals as goal

pub back-requires-clause-caller_fits : goal.back-requires-clause-caller_fits
back-requires-clause-caller_fits c = subst (FrameFits (program_of c.args.typed.now)) c.in-Back.is c.requires.frame_fits

pub returns-in-Block-clause-turned : goal.returns-in-Block-clause-turned
returns-in-Block-clause-turned c =
    let program = program_of c.args.typed.now in
    subst (λ (fr : Frame). Turned c.args.limit program c.block.new.run (with_turns c.args.limit program (stack_with program c.args.run.now fr)
    (values_in c.args.run.now.env)) c.args.left.now c.block.new.left c.block.result) (sym c.in-Block.is) c.block.ensures.turned

pub returns-in-Again-clause-turned : goal.returns-in-Again-clause-turned
returns-in-Again-clause-turned c =
    let program = program_of c.args.typed.now in
    subst (λ (fr : Frame). Turned c.args.limit program c.again.new.run (with_turns c.args.limit program (stack_with program c.args.run.now fr)
    (values_in c.args.run.now.env)) c.args.left.now c.again.new.left c.again.result) (sym c.in-Again.is) c.again.ensures.turned

pub returns-in-AtTest-clause-turned : goal.returns-in-AtTest-clause-turned
returns-in-AtTest-clause-turned c =
    let program = program_of c.args.typed.now in
    subst (λ (fr : Frame). Turned c.args.limit program c.at_test.new.run (with_turns c.args.limit program (stack_with program c.args.run.now fr)
    (values_in c.args.run.now.env)) c.args.left.now c.at_test.new.left c.at_test.result) (sym c.in-AtTest.is) c.at_test.ensures.turned

pub returns-in-Back-clause-turned : goal.returns-in-Back-clause-turned
returns-in-Back-clause-turned c =
    let program = program_of c.args.typed.now in
    subst (λ (fr : Frame). Turned c.args.limit program c.back.new.run (with_turns c.args.limit program (stack_with program c.args.run.now fr)
    (values_in c.args.run.now.env)) c.args.left.now c.args.left.now c.back.result) (sym c.in-Back.is) c.back.ensures.turned
