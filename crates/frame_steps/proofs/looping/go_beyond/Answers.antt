use Rattle.std.proofs.Common.{◌≡◌, ℕ, true, false, List, [], ◌∷◌, ◌++◌, refl, sym, ap, ◌∙◌, subst}
use Rattle.std.proofs.lemmas.Result.{on_ok_weaker}
use Rattle.code_paths.specs.declared.inside.Inside.{Inside}
use Rattle.code_paths.specs.Places.{nth_statement}
use Rattle.expression_values.specs.Environment.{values_in}
use Rattle.run_frames.specs.Frames.{block_of, stack_of}
use Rattle.run_frames.specs.Laws.{step_to}
use Rattle.run_rules.specs.Values.{is_true}
use Rattle.frame_steps.specs.declared.frame.Run.{Run}
use Rattle.frame_steps.specs.declared.frame.Frame.TheVariants as f
use Rattle.frame_steps.specs.Runs.{frames_of, pushed, stack_in, Fits}
use Rattle.frame_steps.proofs.Stacks.{stack_both, fits_pushed, two_more}
use Rattle.frame_steps.proofs.Beyond.{goes_beyond}
use Rattle.frame_steps.proofs.looping.go_beyond.Goals as goal

pub returns-in-Ok-clause-beyond : goal.returns-in-Ok-clause-beyond
returns-in-Ok-clause-beyond c =
    let run = c.args.run.now in
    let path = c.args.path in
    on_ok_weaker c.push_both.result
    (λ is program holds.
    let inner = c.in-Ok.ensures ∙ ap (λ (p : List Inside). p ++ step_to c.args.statement false ∷ []) c.as_slice.ensures in
    goes_beyond program run.method path c.args.statement (frames_of run.frames) (values_in run.env) (nth_statement
    (block_of program run.method path) c.args.statement)
    refl true (sym c.if-holds.true ∙ holds)
    ∙ sym (ap (stack_in program) (is ∙ ap (λ (p : List Inside). pushed (pushed run (f.Again false path c.args.statement)) (f.Block p 0)) inner)
    ∙ stack_both program run (f.Again false path c.args.statement) (f.Block (path ++ step_to c.args.statement false ∷ []) 0)))
    c.push_both.ensures

pub returns-in-Ok-clause-kept : goal.returns-in-Ok-clause-kept
returns-in-Ok-clause-kept c =
    on_ok_weaker c.push_both.result (λ is. (ap (λ (r : Run). r.method) is, ap (λ (r : Run). r.env) is)) c.push_both.ensures

pub returns-in-Ok-clause-fits : goal.returns-in-Ok-clause-fits
returns-in-Ok-clause-fits c =
    let run = c.args.run.now in
    on_ok_weaker c.push_both.result
    (λ is program fits. subst (Fits program) (sym is)
    (fits_pushed program (pushed run (f.Again false c.args.path c.args.statement)) (f.Block c.in-Ok.body 0)
    (fits_pushed program run (f.Again false c.args.path c.args.statement) fits tt) tt))
    c.push_both.ensures

pub returns-in-Ok-clause-few : goal.returns-in-Ok-clause-few
returns-in-Ok-clause-few c =
    on_ok_weaker c.push_both.result
    (λ is. two_more c.args.run.now c.push_both.new.run (f.Again false c.args.path c.args.statement) (f.Block c.in-Ok.body 0) is) c.push_both.ensures

pub returns-else-holds-clause-beyond : goal.returns-else-holds-clause-beyond
returns-else-holds-clause-beyond c program holds =
    let run = c.args.run.now in
    goes_beyond program run.method c.args.path c.args.statement (frames_of run.frames) (values_in run.env)
    (nth_statement (block_of program run.method c.args.path) c.args.statement) refl false (sym c.if-holds.false ∙ holds)
