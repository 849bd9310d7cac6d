use Rattle.std.proofs.Common.{◌≡◌, ℕ, ◌+◌, ◌-◌, refl, sym, ap, ◌∙◌, subst, arith}
use Rattle.run_rules.specs.Runs.{Stack}
use Rattle.run_rules.specs.Values.{Values}
use Rattle.expression_values.specs.declared.environment.Env.{Env}
use Rattle.expression_values.specs.Environment.{values_in}
use Rattle.run_frames.specs.Frames.{loop_at}
use Rattle.run_steps.specs.Ends.{Tells}
use Rattle.run_steps.specs.Steps.{program_of}
use Rattle.frame_steps.specs.declared.frame.Frame.TheVariants as f
use Rattle.frame_steps.specs.Runs.{with_turns, stack_in, Fits}
use Rattle.frame_steps.proofs.Stacks.{fits_pushed}
use Rattle.frame_steps.proofs.Turning.{test_turn, waits_with}
use Rattle.frame_steps.proofs.looping.test_due.Goals as goal

pub returns-in-Ok-clause-turned : goal.returns-in-Ok-clause-turned
returns-in-Ok-clause-turned c =
    waits_with c.args.limit (program_of c.args.typed.now) c.args.run.now c.push.new.run (f.AtTest c.args.path c.args.statement) c.args.left.now
    c.if-left-eq0.true c.in-Ok.ensures refl

pub returns-in-Ok-clause-fits : goal.returns-in-Ok-clause-fits
returns-in-Ok-clause-fits c =
    let program = program_of c.args.typed.now in
    subst (Fits program) (sym c.in-Ok.ensures) (fits_pushed program c.args.run.now (f.AtTest c.args.path c.args.statement) c.requires.fits tt)

pub returns-in-Err-holds_at-clause-turned : goal.returns-in-Err-holds_at-clause-turned
returns-in-Err-holds_at-clause-turned c m =
    let program = program_of c.args.typed.now in
    let run = c.args.run.now in
    let left : c.args.left.now ≡ c.args.left.now - 1 + 1 = omega (arith, c.if-left-eq0.false) in
    subst (Tells c.in-Err-holds_at.end)
    (sym (test_turn c.args.limit program (loop_at program run.method c.args.path c.args.statement) (stack_in program run)
    (values_in run.env) c.args.left.now (c.args.left.now - 1) m left))
    (c.in-Err-holds_at.ensures program run.method c.args.path c.args.statement c.requires.there _)

pub returns-in-Ok-go_beyond-clause-turned : goal.returns-in-Ok-go_beyond-clause-turned
returns-in-Ok-go_beyond-clause-turned c m =
    let program = program_of c.args.typed.now in
    let run = c.args.run.now in
    let left : c.args.left.now ≡ c.args.left.now - 1 + 1 = omega (arith, c.if-left-eq0.false) in
    let found = c.in-Ok-holds_at.ensures program run.method c.args.path c.args.statement c.requires.there in
    test_turn c.args.limit program (loop_at program run.method c.args.path c.args.statement) (stack_in program run) (values_in run.env) c.args.left.now
    (c.args.left.now - 1) m left
    ∙ found.0 _
    ∙ ap (λ (st : Stack). with_turns c.args.limit program st (values_in run.env) (c.args.left.now - 1 + m)) (c.in-Ok-go_beyond.ensures.beyond program found.1)
    ∙ ap (λ (env : Env). with_turns c.args.limit program (stack_in program c.go_beyond.new.run) (values_in env) (c.args.left.now - 1 + m))
    (sym c.in-Ok-go_beyond.ensures.kept.1)

pub returns-in-Ok-go_beyond-clause-fits : goal.returns-in-Ok-go_beyond-clause-fits
returns-in-Ok-go_beyond-clause-fits c = c.in-Ok-go_beyond.ensures.fits (program_of c.args.typed.now) c.requires.fits

pub returns-in-Ok-go_beyond-clause-falls : goal.returns-in-Ok-go_beyond-clause-falls
returns-in-Ok-go_beyond-clause-falls c = omega (arith, c.in-Ok-go_beyond.ensures.few)
