use Rattle.std.proofs.Common.{◌≡◌, ℕ, ◌+◌, List, length, ap, sym, subst, ◌∙◌}
use Rattle.std.specs.Option.{option_map}
use Rattle.run_rules.specs.Values.{Values}
use Rattle.run_rules.specs.Runs.{returned}
use Rattle.expression_values.specs.declared.environment.Env.{Env}
use Rattle.expression_values.specs.Environment.{values_in, variable_in}
use Rattle.run_variables.specs.Counts.{HasEntries}
use Rattle.run_steps.specs.Steps.{program_of, IsOf}
use Rattle.run_frames.specs.Frames.{stack_of}
use Rattle.frame_steps.specs.Runs.{with_turns, frames_of}
use Rattle.frame_steps.proofs.Stacks.{entries_of, of_same}
use Rattle.frame_steps.proofs.returning.back.Goals as goal

pub returns-in-Err-clause-turned : goal.returns-in-Err-clause-turned
returns-in-Err-clause-turned c m = c.in-Err.ensures _

pub returned-requires-clause-entries : goal.returned-requires-clause-entries
returned-requires-clause-entries c =
    subst HasEntries (sym c.replace-callee.ensures.after)
    (entries_of (program_of c.args.typed.now) c.args.number c.args.caller c.requires.caller_fits)

pub returned-requires-clause-globals : goal.returned-requires-clause-globals
returned-requires-clause-globals c =
    ap (λ (env : Env). length env.globals) c.replace-callee.ensures.value ∙ c.requires.fits.env.globals ∙ sym c.requires.caller_fits.globals
    ∙ sym (ap (λ (env : Env). length env.globals) c.replace-callee.ensures.after)

pub returns-in-Ok-clause-turned : goal.returns-in-Ok-clause-turned
returns-in-Ok-clause-turned c m =
    let program = program_of c.args.typed.now in
    let run = c.args.run.now in
    c.in-Ok.ensures.0 _
    ∙ ap (λ (values : Values). with_turns c.args.limit program (stack_of program c.args.number (frames_of run.frames)) values (c.args.left + m))
    (sym (c.returned.ensures.values
    ∙ ap (λ (env : Env). returned (values_in env) (option_map (variable_in env) c.args.target)
    (values_in c.replace-callee.result)) c.replace-callee.ensures.after
    ∙ ap (λ (env : Env). returned (values_in c.args.caller) (option_map (variable_in c.args.caller) c.args.target)
    (values_in env)) c.replace-callee.ensures.value))

pub returns-in-Ok-clause-fits : goal.returns-in-Ok-clause-fits
returns-in-Ok-clause-fits c = record {
  env = of_same (program_of c.args.typed.now) c.args.number c.replace-callee.new.dest c.returned.new.env
      (subst (IsOf (program_of c.args.typed.now) c.args.number) (sym c.replace-callee.ensures.after) c.requires.caller_fits) c.returned.ensures.counts;
  frames = c.requires.fits.frames;
}
