use Rattle.std.proofs.Common.{◌≡◌, ℕ, suc, ◌+◌, ◌-◌, ◌≤◌, ◌∷◌, List, length, Some, None, refl, sym, ap, ◌∙◌, subst, arith}
use Rattle.expression_values.specs.Environment.{values_in}
use Rattle.stopped_runs.specs.Runs.{turns, going_on}
use Rattle.code_paths.specs.declared.inside.Inside.{Inside}
use Rattle.code_paths.specs.Places.{nth_statement}
use Rattle.run_frames.specs.Frames.{block, block_of, stack_of}
use Rattle.run_steps.specs.Ends.{Tells}
use Rattle.run_steps.specs.Steps.{program_of, IsOf, code_in}
use Rattle.frame_steps.specs.declared.frame.Run.{Run}
use Rattle.frame_steps.specs.declared.frame.Frame.TheVariants as f
use Rattle.frame_steps.specs.Runs.{frames_of, Fits}
use Rattle.frame_steps.proofs.Stacks.{fits_pushed, entries_of, of_same}
use Rattle.frame_steps.proofs.Turning.{none_there, waits_there, begins_there, waits_with}
use Rattle.frame_steps.proofs.starting.block.Goals as goal

pub returns-in-None-clause-turned : goal.returns-in-None-clause-turned
returns-in-None-clause-turned c m =
    let program = program_of c.args.typed.now in
    let run = c.args.run.now in
    none_there c.args.limit program run.method c.args.path c.args.next (frames_of run.frames) (values_in run.env) (c.args.left.now + m)
    (subst (λ (p : List Inside). nth_statement (block_of program run.method p) c.args.next ≡ None) c.as_slice.ensures c.in-None.ensures.there)

-- the run waits at the statement
pub returns-in-Ok-clause-turned : goal.returns-in-Ok-clause-turned
returns-in-Ok-clause-turned c =
    let program = program_of c.args.typed.now in
    let run = c.args.run.now in
    let code = code_in run.env c.in-Some.code.now in
    waits_with c.args.limit program run c.push.new.run (f.Block c.args.path c.args.next) c.args.left.now c.if-left-eq0.true c.in-Ok.ensures
    (waits_there c.args.limit program run.method c.args.path c.args.next (frames_of run.frames) (values_in run.env) code
    (subst (λ (p : List Inside). nth_statement (block_of program run.method p) c.args.next ≡ Some code) c.as_slice.ensures c.in-Some.ensures.there))

pub returns-in-Ok-clause-fits : goal.returns-in-Ok-clause-fits
returns-in-Ok-clause-fits c =
    let program = program_of c.args.typed.now in
    subst (Fits program) (sym c.in-Ok.ensures) (fits_pushed program c.args.run.now (f.Block c.args.path c.args.next) c.requires tt)

pub begin-requires-clause-entries : goal.begin-requires-clause-entries
begin-requires-clause-entries c = entries_of (program_of c.args.typed.now) c.args.run.now.method c.args.run.now.env c.requires.env

-- the statement takes a turn and stops the run
pub returns-in-Err-begin-clause-turned : goal.returns-in-Err-begin-clause-turned
returns-in-Err-begin-clause-turned c m =
    let program = program_of c.args.typed.now in
    let run = c.args.run.now in
    let code = code_in run.env c.in-Some.code.now in
    let left : c.args.left.now ≡ c.args.left.now - 1 + 1 = omega (arith, c.if-left-eq0.false) in
    subst (Tells c.in-Err-begin.end)
    (sym (begins_there c.args.limit program run.method c.args.path c.args.next (frames_of run.frames) (values_in run.env) c.args.left.now
    (c.args.left.now - 1) m code left
    (subst (λ (p : List Inside). nth_statement (block_of program run.method p) c.args.next ≡ Some code) c.as_slice.ensures c.in-Some.ensures.there)))
    (c.in-Err-begin.ensures.does _ _)

-- the statement takes a turn, and the run goes on behind it
pub returns-in-Ok-enter-clause-turned : goal.returns-in-Ok-enter-clause-turned
returns-in-Ok-enter-clause-turned c m =
    let program = program_of c.args.typed.now in
    let run = c.args.run.now in
    let code = code_in run.env c.in-Some.code.now in
    let left : c.args.left.now ≡ c.args.left.now - 1 + 1 = omega (arith, c.if-left-eq0.false) in
    let there = subst (λ (p : List Inside). nth_statement
    (block_of program run.method p) c.args.next ≡ Some code) c.as_slice.ensures c.in-Some.ensures.there in
    begins_there c.args.limit program run.method c.args.path c.args.next (frames_of run.frames) (values_in run.env) c.args.left.now
    (c.args.left.now - 1) m code left there
    ∙ c.in-Ok-begin.ensures.does _ _
    ∙ c.in-Ok-enter.ensures.entered program code (going_on c.args.limit program (turns c.args.limit program (c.args.left.now - 1 + m))) there

pub returns-in-Ok-enter-clause-fits : goal.returns-in-Ok-enter-clause-fits
returns-in-Ok-enter-clause-fits c =
    let program = program_of c.args.typed.now in
    let run = c.args.run.now in
    c.in-Ok-enter.ensures.fits program (record {
      env = of_same program run.method run.env c.begin.new.env c.requires.env c.begin.ensures.counts;
      frames = c.requires.frames;
    }) c.in-Ok-begin.ensures.begins

pub returns-in-Ok-enter-clause-falls : goal.returns-in-Ok-enter-clause-falls
returns-in-Ok-enter-clause-falls c = omega (arith, c.in-Ok-enter.ensures.few)
