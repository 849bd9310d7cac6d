-- What comes next behind a statement, as frames.
use Rattle.std.proofs.Common.{◌≡◌, ℕ, suc, Bool, true, not, List, [], ◌∷◌, ◌++◌, map, Option, Some, None, refl, sym, ap, ◌∙◌, subst}
use Rattle.std.specs.Option.{option_map}
use Rattle.program_trees.specs.Programs.{ProgramTree, CodeTree, CodeTrees, no_code, code_then}
use Rattle.program_trees.specs.Variables.{Variable}
use Rattle.run_rules.specs.Values.{Values}
use Rattle.run_rules.specs.Runs.{method_at, Stack, begin, Loop}
use Rattle.run_rules.specs.Runs as stack
use Rattle.stopped_runs.specs.Runs.{Stopped, Continuation}
use Rattle.expression_values.specs.declared.environment.Env.{Env}
use Rattle.expression_values.specs.Environment.{values_in, variable_in}
use Rattle.code_paths.specs.declared.inside.Inside.{Inside}
use Rattle.code_paths.specs.Places.{nth_statement, from_statement, part_of, part_where, block_in}
use Rattle.code_paths.proofs.Paths.{path_on}
use Rattle.run_frames.specs.Frames as plain
use Rattle.run_frames.specs.Frames.{block, again, loop_of, loop_where, loop_at, block_of, stack_of}
use Rattle.run_frames.specs.Laws.{step_to}
use Rattle.run_frames.proofs.Steps.{call_begins}
use Rattle.run_steps.specs.Steps.{comes}
use Rattle.run_steps.specs.declared.ending.Next.TheVariants as n
use Rattle.frame_steps.specs.declared.frame.Frame.{Frame}
use Rattle.frame_steps.specs.declared.frame.Frame.TheVariants as f
use Rattle.frame_steps.specs.declared.frame.Run.{Run}
use Rattle.frame_steps.specs.Runs.{frame_of, frames_of, stack_in, stack_with, pushed, begun, FrameFits, Fits}
use Rattle.run_steps.specs.Steps.{IsOf}
use Rattle.frame_steps.proofs.Stacks.{stack_pushed, stack_both, frames_more, fits_pushed}

from_start : {A : Type 0} (codes : CodeTrees A) → from_statement codes 0 ≡ codes
from_start no_code = refl
from_start (code_then code codes) = refl

-- the block inside the statement
pub part_begins : (program : ProgramTree Variable) (method : ℕ) (path : List Inside) (s : ℕ) (frames : List plain.Frame) (code : CodeTree Variable)
    (otherwise : Bool)
    → nth_statement (block_of program method path) s ≡ Some code
    → begin (part_of code otherwise) (stack_of program method frames) ≡ stack_of program method (block (path ++ step_to s otherwise ∷ []) 0 ∷ frames)
part_begins program method path s frames code otherwise h =
    ap (λ (codes : CodeTrees Variable). begin codes (stack_of program method frames))
    (sym (from_start (block_in (method_at program method).body (path ++ step_to s otherwise ∷ []))
    ∙ path_on (method_at program method).body path (step_to s otherwise)
    ∙ ap (λ (found : Option (CodeTree Variable)). part_where found otherwise) h))

module _ (program : ProgramTree Variable) (run new : Run) (path : List Inside) (s : ℕ) (code : CodeTree Variable) (more : Continuation) where
  abbrev behind : plain.Frame
  behind = block path (suc s)

  abbrev rest : Stack
  rest = stack_of program run.method (behind ∷ frames_of run.frames)

  -- the run goes on from there
  on : Run → Stopped
  on r = more (stack_in program r) (values_in r.env)

  pub rest_next : new ≡ pushed run (f.Block path (suc s)) → comes program code run.env more rest n.Rest ≡ more (stack_in program new) (values_in new.env)
  unfolding on
  rest_next is = ap (λ (st : Stack). more st (values_in run.env)) (sym (stack_pushed program run (f.Block path (suc s)))) ∙ sym (ap on is)

  pub part_next : (holds : Bool) → nth_statement (block_of program run.method path) s ≡ Some code
      → new ≡ pushed (pushed run (f.Block path (suc s))) (f.Block (path ++ step_to s (not holds) ∷ []) 0)
      → comes program code run.env more rest (n.Part holds) ≡ more (stack_in program new) (values_in new.env)
  unfolding on
  part_next holds h is =
      ap (λ (st : Stack). more st (values_in run.env))
      (part_begins program run.method path s (behind ∷ frames_of run.frames) code (not holds) h
      ∙ sym (stack_both program run (f.Block path (suc s)) (f.Block (path ++ step_to s (not holds) ∷ []) 0)))
      ∙ sym (ap on is)

  pub loop_next : nth_statement (block_of program run.method path) s ≡ Some code
      → new ≡ pushed (pushed run (f.Block path (suc s))) (f.Again true path s)
      → comes program code run.env more rest n.Loop ≡ more (stack_in program new) (values_in new.env)
  unfolding on
  loop_next h is =
      ap (λ (st : Stack). more st (values_in run.env))
      (ap (λ (l : Loop). stack.again true l rest) (sym (ap loop_where h))
      ∙ sym (stack_both program run (f.Block path (suc s)) (f.Again true path s)))
      ∙ sym (ap on is)

  pub method_next : (number : ℕ) (target : Option ℕ) (callee : Env)
      → new ≡ pushed (pushed (pushed (begun run number callee) (f.Block path (suc s))) (f.Back run.method run.env target)) (f.Block [] 0)
      → comes program code run.env more rest (n.Method number target callee) ≡ more (stack_in program new) (values_in new.env)
  unfolding on
  method_next number target callee is =
      ap (λ (st : Stack). more st (values_in callee))
      (call_begins program run.method number (values_in run.env) (option_map (variable_in run.env) target) (behind ∷ frames_of run.frames)
      ∙ sym (stack_both program (pushed (begun run number callee) (f.Block path (suc s))) (f.Back run.method run.env target) (f.Block [] 0)
      ∙ ap (λ (frames : List plain.Frame). stack_of program number (block [] 0 ∷ frame_of (f.Back run.method run.env target) ∷ frames))
      (frames_more run.frames (f.Block path (suc s)))))
      ∙ sym (ap on is)

-- the method has begun, and its caller is behind it
pub method_entered : (run first new : Run) (number : ℕ) (target : Option ℕ) (frame : Frame) (callee now caller : Env) (path : List Inside)
    → first ≡ pushed (record { method = number; env = now; frames = run.frames }) frame → now ≡ callee → caller ≡ run.env → path ≡ []
    → new ≡ pushed (pushed first (f.Back run.method caller target)) (f.Block path 0)
    → new ≡ pushed (pushed (pushed (begun run number callee) frame) (f.Back run.method run.env target)) (f.Block [] 0)
method_entered run first new number target frame callee now caller path begins same before empty is =
    is
    ∙ ap (λ (r : Run). pushed (pushed r (f.Back run.method caller target)) (f.Block path 0)) begins
    ∙ ap (λ (e : Env). pushed (pushed (pushed (begun run number e) frame) (f.Back run.method caller target)) (f.Block path 0)) same
    ∙ ap (λ (e : Env). pushed (pushed (pushed (begun run number callee) frame) (f.Back run.method e target)) (f.Block path 0)) before
    ∙ ap (λ (p : List Inside). pushed (pushed (pushed (begun run number callee) frame) (f.Back run.method run.env target)) (f.Block p 0)) empty

-- a callee's own environment, and its caller's
pub fits_begun : (program : ProgramTree Variable) (run : Run) (number : ℕ) (target : Option ℕ) (callee : Env) (frame : Frame) → Fits program run
    → IsOf program number callee → FrameFits program frame
    → Fits program (pushed (pushed (pushed (begun run number callee) frame) (f.Back run.method run.env target)) (f.Block [] 0))
fits_begun program run number target callee frame fits of here =
    let begins : Fits program (begun run number callee) = record { env = of; frames = fits.frames } in
    let first = fits_pushed program (begun run number callee) frame begins here in
    let second = fits_pushed program (pushed (begun run number callee) frame) (f.Back run.method run.env target) first fits.env in
    fits_pushed program (pushed (pushed (begun run number callee) frame) (f.Back run.method run.env target)) (f.Block [] 0) second tt
