use Rattle.std.proofs.Common.{◌≡◌, ℕ, suc, ◌+◌, true, List, [], ◌∷◌, ◌++◌, not, refl, sym, ap, ap₂, ◌∙◌, subst, arith}
use Rattle.std.proofs.Math.Numerals.{add-one}
use Rattle.std.proofs.lemmas.Result.{on_ok_weaker}
use Rattle.code_paths.specs.declared.inside.Inside.{Inside}
use Rattle.run_frames.specs.Laws.{step_to}
use Rattle.run_frames.specs.Frames.{block, stack_of}
use Rattle.run_steps.specs.declared.ending.Next.{Next}
use Rattle.run_steps.specs.Steps.{comes, BeginsOf}
use Rattle.frame_steps.specs.declared.frame.Run.{Run}
use Rattle.frame_steps.specs.declared.frame.Frame.TheVariants as f
use Rattle.frame_steps.specs.Runs.{frames_of, pushed, begun, Fits}
use Rattle.frame_steps.proofs.Stacks.{fits_pushed, one_more, two_more, three_more}
use Rattle.frame_steps.proofs.Enters.{rest_next, part_next, loop_next, method_next, fits_begun}
use Rattle.frame_steps.proofs.entering.enter.Goals as goal

pub returns-in-Rest-clause-entered : goal.returns-in-Rest-clause-entered
returns-in-Rest-clause-entered c =
    let run = c.args.run.now in
    let behind = c.in-Some.ensures.1 ∙ add-one c.args.statement in
    on_ok_weaker c.push.result
    (λ is program code more h. ap (λ (what : Next). comes program code run.env more (stack_of program run.method (block c.args.path
    (suc c.args.statement) ∷ frames_of run.frames)) what)
    c.in-Rest.is
    ∙ rest_next program run c.push.new.run c.args.path c.args.statement code more
    (is ∙ ap (λ (n : ℕ). pushed run (f.Block c.args.path n)) behind))
    c.push.ensures

pub returns-in-Rest-clause-fits : goal.returns-in-Rest-clause-fits
returns-in-Rest-clause-fits c =
    on_ok_weaker c.push.result
    (λ is program fits begins. subst (Fits program) (sym is) (fits_pushed program c.args.run.now
    (f.Block c.args.path c.in-Some.behind) fits tt)) c.push.ensures

pub returns-in-Rest-clause-few : goal.returns-in-Rest-clause-few
returns-in-Rest-clause-few c = on_ok_weaker c.push.result (λ is. one_more c.args.run.now c.push.new.run
    (f.Block c.args.path c.in-Some.behind) is) c.push.ensures

pub returns-in-Ok-clause-entered : goal.returns-in-Ok-clause-entered
returns-in-Ok-clause-entered c =
    let run = c.args.run.now in
    let behind = c.in-Some.ensures.1 ∙ add-one c.args.statement in
    let inner = c.in-Ok.ensures ∙ ap (λ (p : List Inside). p ++ step_to c.args.statement (not c.in-Part.holds) ∷ []) c.as_slice.ensures in
    on_ok_weaker c.push_both.result
    (λ is program code more h. ap (λ (what : Next). comes program code run.env more (stack_of program run.method (block c.args.path
    (suc c.args.statement) ∷ frames_of run.frames)) what)
    c.in-Part.is
    ∙ part_next program run c.push_both.new.run c.args.path c.args.statement code more c.in-Part.holds h
    (is ∙ ap₂ (λ (n : ℕ) (p : List Inside). pushed (pushed run (f.Block c.args.path n)) (f.Block p 0)) behind inner))
    c.push_both.ensures

pub returns-in-Ok-clause-fits : goal.returns-in-Ok-clause-fits
returns-in-Ok-clause-fits c =
    let run = c.args.run.now in
    on_ok_weaker c.push_both.result
    (λ is program fits begins. subst (Fits program) (sym is)
    (fits_pushed program (pushed run (f.Block c.args.path c.in-Some.behind)) (f.Block c.in-Ok.inner 0)
    (fits_pushed program run (f.Block c.args.path c.in-Some.behind) fits tt) tt))
    c.push_both.ensures

pub returns-in-Ok-clause-few : goal.returns-in-Ok-clause-few
returns-in-Ok-clause-few c =
    on_ok_weaker c.push_both.result
    (λ is. omega (arith, two_more c.args.run.now c.push_both.new.run (f.Block c.args.path c.in-Some.behind) (f.Block c.in-Ok.inner 0) is)) c.push_both.ensures

pub returns-in-Ok-from_slice-clause-entered : goal.returns-in-Ok-from_slice-clause-entered
returns-in-Ok-from_slice-clause-entered c =
    let run = c.args.run.now in
    let behind = c.in-Some.ensures.1 ∙ add-one c.args.statement in
    let same = c.in-Ok-from_slice.ensures ∙ c.as_slice-in-Loop.ensures in
    on_ok_weaker c.push_both-in-Ok-from_slice.result
    (λ is program code more h. ap (λ (what : Next). comes program code run.env more (stack_of program run.method (block c.args.path
    (suc c.args.statement) ∷ frames_of run.frames)) what)
    c.in-Loop.is
    ∙ loop_next program run c.push_both-in-Ok-from_slice.new.run c.args.path c.args.statement code more h
    (is ∙ ap₂ (λ (n : ℕ) (p : List Inside). pushed (pushed run (f.Block c.args.path n)) (f.Again true p c.args.statement)) behind same))
    c.push_both-in-Ok-from_slice.ensures

pub returns-in-Ok-from_slice-clause-fits : goal.returns-in-Ok-from_slice-clause-fits
returns-in-Ok-from_slice-clause-fits c =
    let run = c.args.run.now in
    on_ok_weaker c.push_both-in-Ok-from_slice.result
    (λ is program fits begins. subst (Fits program) (sym is)
    (fits_pushed program (pushed run (f.Block c.args.path c.in-Some.behind)) (f.Again true c.in-Ok-from_slice.copy c.args.statement)
    (fits_pushed program run (f.Block c.args.path c.in-Some.behind) fits tt) tt))
    c.push_both-in-Ok-from_slice.ensures

pub returns-in-Ok-from_slice-clause-few : goal.returns-in-Ok-from_slice-clause-few
returns-in-Ok-from_slice-clause-few c =
    on_ok_weaker c.push_both-in-Ok-from_slice.result
    (λ is. omega (
      arith,
      two_more c.args.run.now c.push_both-in-Ok-from_slice.new.run (f.Block c.args.path c.in-Some.behind)
          (f.Again true c.in-Ok-from_slice.copy c.args.statement) is,
    )) c.push_both-in-Ok-from_slice.ensures

pub returns-in-Method-clause-entered : goal.returns-in-Method-clause-entered
returns-in-Method-clause-entered c =
    let run = c.args.run.now in
    let number = c.in-Method.number in
    let target = c.in-Method.target in
    let callee = c.in-Method.callee in
    let behind = c.in-Some.ensures.1 ∙ add-one c.args.statement in
    on_ok_weaker c.enter_method.result
    (λ is program code more h. ap (λ (what : Next). comes program code run.env more (stack_of program run.method (block c.args.path
    (suc c.args.statement) ∷ frames_of run.frames)) what)
    c.in-Method.is
    ∙ method_next program run c.enter_method.new.run c.args.path c.args.statement code more number target callee
    (is ∙ ap (λ (n : ℕ). pushed (pushed (pushed (begun run number callee) (f.Block c.args.path n)) (f.Back run.method run.env target))
    (f.Block [] 0)) behind))
    c.enter_method.ensures

pub returns-in-Method-clause-fits : goal.returns-in-Method-clause-fits
returns-in-Method-clause-fits c =
    on_ok_weaker c.enter_method.result
    (λ is program fits begins. subst (Fits program) (sym is)
    (fits_begun program c.args.run.now c.in-Method.number c.in-Method.target c.in-Method.callee (f.Block c.args.path c.in-Some.behind) fits
    (subst (BeginsOf program) c.in-Method.is begins) tt))
    c.enter_method.ensures

pub returns-in-Method-clause-few : goal.returns-in-Method-clause-few
returns-in-Method-clause-few c =
    let run = c.args.run.now in
    on_ok_weaker c.enter_method.result
    (λ is. three_more (begun run c.in-Method.number c.in-Method.callee) c.enter_method.new.run (f.Block c.args.path c.in-Some.behind)
    (f.Back run.method run.env c.in-Method.target) (f.Block [] 0) is) c.enter_method.ensures
