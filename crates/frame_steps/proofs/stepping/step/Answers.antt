use Rattle.std.proofs.Common.{◌≡◌, ℕ, List, sym, ap, subst, ◌∙◌, refl}
use Rattle.expression_values.specs.Environment.{values_in}
use Rattle.run_rules.specs.Runs.{Stack}
use Rattle.run_steps.specs.Steps.{program_of}
use Rattle.run_frames.specs.Frames.{stack_of}
use Rattle.frame_steps.specs.declared.frame.Frame.{Frame}
use Rattle.frame_steps.specs.declared.frame.Run.{Run}
use Rattle.frame_steps.specs.Runs.{with_turns, frames_of}
use Rattle.frame_steps.specs.Turns.{Turned, Falls, work}
use Rattle.frame_steps.proofs.Stacks.{stack_popped, fits_popped, frame_fits, count_popped, fits_empty, if_ok_any, falls_more}
use Rattle.frame_steps.proofs.stepping.step.Goals as goal

pub last-requires-clause-fits : goal.last-requires-clause-fits
last-requires-clause-fits c =
    fits_empty (program_of c.args.typed.now) c.args.run.now.method c.args.run.now.env c.pop.new.self c.requires.env c.in-None.ensures.1

pub last-requires-clause-none : goal.last-requires-clause-none
last-requires-clause-none c = c.in-None.ensures.1

pub returns-in-None-clause-turned : goal.returns-in-None-clause-turned
returns-in-None-clause-turned c =
    let program = program_of c.args.typed.now in
    let old = c.args.run.now in
    let new : Run = record { method = old.method; env = old.env; frames = c.pop.new.self } in
    subst (λ (frames : List Frame). Turned c.args.limit program new (with_turns c.args.limit program (stack_of program old.method (frames_of frames))
    (values_in old.env)) c.args.left.now c.args.left.now c.last.result) (c.in-None.ensures.1 ∙ sym c.in-None.ensures.0) c.last.ensures.turned

pub returns-in-None-clause-fits : goal.returns-in-None-clause-fits
returns-in-None-clause-fits c =
    if_ok_any c.last.result _ (fits_empty
    (program_of c.args.typed.now) c.args.run.now.method c.args.run.now.env c.pop.new.self c.requires.env c.in-None.ensures.1)

pub returns-in-None-clause-falls : goal.returns-in-None-clause-falls
returns-in-None-clause-falls c = falls_more _ c.args.left.now
    (record { method = c.args.run.now.method; env = c.args.run.now.env; frames = c.pop.new.self }) c.last.result c.last.ensures.falls

pub taken-requires-clause-fits : goal.taken-requires-clause-fits
taken-requires-clause-fits c =
    let old = c.args.run.now in
    let new : Run = record { method = old.method; env = old.env; frames = c.pop.new.self } in
    fits_popped (program_of c.args.typed.now) old new c.in-Some.frame c.in-Some.ensures refl refl c.requires

pub taken-requires-clause-frame_fits : goal.taken-requires-clause-frame_fits
taken-requires-clause-frame_fits c =
    let old = c.args.run.now in
    let new : Run = record { method = old.method; env = old.env; frames = c.pop.new.self } in
    frame_fits (program_of c.args.typed.now) old new c.in-Some.frame c.in-Some.ensures refl refl c.requires

pub returns-in-Some-clause-turned : goal.returns-in-Some-clause-turned
returns-in-Some-clause-turned c =
    let program = program_of c.args.typed.now in
    let old = c.args.run.now in
    let new : Run = record { method = old.method; env = old.env; frames = c.pop.new.self } in
    subst (λ (st : Stack). Turned c.args.limit program c.taken.new.run (with_turns c.args.limit program st
    (values_in old.env)) c.args.left.now c.taken.new.left
    c.taken.result) (sym (stack_popped program old new c.in-Some.frame c.in-Some.ensures refl refl)) c.taken.ensures.turned

pub returns-in-Some-clause-falls : goal.returns-in-Some-clause-falls
returns-in-Some-clause-falls c =
    let old = c.args.run.now in
    let new : Run = record { method = old.method; env = old.env; frames = c.pop.new.self } in
    subst (λ (n : ℕ). Falls (work c.args.left.now n) c.taken.new.left c.taken.new.run c.taken.result)
    (sym (count_popped (program_of c.args.typed.now) old new c.in-Some.frame c.in-Some.ensures refl refl)) c.taken.ensures.falls
