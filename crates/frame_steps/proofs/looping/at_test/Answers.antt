use Rattle.std.proofs.Common.{List, subst}
use Rattle.code_paths.specs.declared.inside.Inside.{Inside}
use Rattle.run_steps.specs.Steps.{program_of}
use Rattle.frame_steps.specs.Places.{IsThere}
use Rattle.frame_steps.proofs.looping.at_test.Goals as goal

pub test_due-requires-clause-there : goal.test_due-requires-clause-there
test_due-requires-clause-there c =
    let run = c.args.run.now in
    subst (λ (p : List Inside). IsThere (program_of c.args.typed.now) run.method run.env p c.args.statement c.code_at-code.result) c.as_slice.ensures
    c.code_at-code.ensures.there

pub returns-clause-turned : goal.returns-clause-turned
returns-clause-turned c = c.test_due.ensures.turned
