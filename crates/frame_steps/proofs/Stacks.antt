-- The stack of a run with more frames.
use Rattle.std.proofs.Common.{◌≡◌, ℕ, suc, ◌+◌, ◌<◌, ◌≤◌, List, [], ◌∷◌, ◌++◌, map, length, reverse, Option, Some, None, refl, sym, ap, ap₂, ◌∙◌}
use Rattle.std.proofs.Common.{subst, arith, length-append}
use Rattle.run_variables.specs.Counts.{HasEntries, SameCounts}
use Rattle.std.specs.List.{All}
use Rattle.std.proofs.lemmas.List.{reverse-append}
use Rattle.std.specs.Prelude.{Result, Ok, Err, IfOk}
use Rattle.std.proofs.lemmas.List.Elements.{All-push, All-pop, All-nil}
use Rattle.run_steps.specs.declared.ending.RunEnd.{RunEnd}
use Rattle.frame_steps.specs.declared.frame.Turn.{Turn}
use Rattle.frame_steps.specs.declared.frame.Turn.TheVariants as t
use Rattle.frame_steps.specs.Turns.{Falls}
use Rattle.program_trees.specs.Programs.{ProgramTree}
use Rattle.program_trees.specs.Variables.{Variable}
use Rattle.run_rules.specs.Runs.{Stack}
use Rattle.run_frames.specs.Frames as plain
use Rattle.run_frames.specs.Frames.{stack_of}
use Rattle.run_steps.specs.Steps.{IsOf}
use Rattle.expression_values.specs.declared.environment.Env.{Env}
use Rattle.frame_steps.specs.declared.frame.Frame.{Frame}
use Rattle.frame_steps.specs.declared.frame.Run.{Run}
use Rattle.frame_steps.specs.Runs.{frame_of, frames_of, stack_in, stack_with, pushed, FrameFits, Fits}

pub frames_more : (frames : List Frame) (frame : Frame) → frames_of (frames ++ frame ∷ []) ≡ frame_of frame ∷ frames_of frames
frames_more frames frame = ap (map frame_of) (reverse-append frames (frame ∷ []))

module _ (program : ProgramTree Variable) where
  pub stack_pushed : (run : Run) (frame : Frame) → stack_in program (pushed run frame) ≡ stack_with program run frame
  stack_pushed run frame = ap (stack_of program run.method) (frames_more run.frames frame)

  -- two frames, of which the second comes next
  pub stack_both : (run : Run) (behind next : Frame)
      → stack_in program (pushed (pushed run behind) next) ≡ stack_of program run.method (frame_of next ∷ frame_of behind ∷ frames_of run.frames)
  stack_both run behind next =
      stack_pushed (pushed run behind) next
      ∙ ap (λ (frames : List plain.Frame). stack_of program run.method (frame_of next ∷ frames)) (frames_more run.frames behind)

  pub fits_pushed : (run : Run) (frame : Frame) → Fits program run → FrameFits program frame → Fits program (pushed run frame)
  fits_pushed run frame fits here = record { env = fits.env; frames = All-push (FrameFits program) run.frames frame fits.frames here }

pub count_pushed : (run : Run) (frame : Frame) → length (pushed run frame).frames ≡ suc (length run.frames)
count_pushed run frame = omega (arith, length-append run.frames (frame ∷ []))

-- the run whose last frame was taken
module _ (program : ProgramTree Variable) (old new : Run) (frame : Frame) (is : old.frames ≡ new.frames ++ frame ∷ []) (method : new.method ≡ old.method)
    (env : new.env ≡ old.env) where
  pub stack_popped : stack_in program old ≡ stack_with program new frame
  stack_popped =
      ap₂ (λ (m : ℕ) (frames : List Frame). stack_of program m (frames_of frames)) (sym method) is
      ∙ ap (stack_of program new.method) (frames_more new.frames frame)

  frames_fit : Fits program old → All (FrameFits program) new.frames × FrameFits program frame
  frames_fit fits = All-pop (FrameFits program) old.frames new.frames (Some frame) is fits.frames

  pub fits_popped : Fits program old → Fits program new
  fits_popped fits = record {
    env = subst (λ (e : Env). IsOf program new.method e) (sym env) (subst (λ (m : ℕ). IsOf program m old.env) (sym method) fits.env);
    frames = (frames_fit fits).0;
  }

  pub frame_fits : Fits program old → FrameFits program frame
  frame_fits fits = (frames_fit fits).1

  pub count_popped : length old.frames ≡ suc (length new.frames)
  count_popped = omega (arith, ap (λ (frames : List Frame). length frames) is, length-append new.frames (frame ∷ []))

-- ---- how many frames there are

few_more : (run new : Run) (frame : Frame) → new ≡ pushed run frame → length new.frames ≡ suc (length run.frames)
few_more run new frame is = ap (λ (r : Run). length r.frames) is ∙ count_pushed run frame

pub one_more : (run new : Run) (frame : Frame) → new ≡ pushed run frame → length new.frames ≤ 3 + length run.frames
one_more run new frame is = omega (arith, few_more run new frame is)

pub two_more : (run new : Run) (behind next : Frame) → new ≡ pushed (pushed run behind) next → length new.frames ≤ 2 + length run.frames
two_more run new behind next is = omega (arith, few_more (pushed run behind) new next is, count_pushed run behind)

pub three_more : (run new : Run) (first second third : Frame) → new ≡ pushed (pushed (pushed run first) second) third
    → length new.frames ≤ 3 + length run.frames
three_more run new first second third is =
    omega (arith, few_more (pushed (pushed run first) second) new third is, count_pushed (pushed run first) second, count_pushed run first)

-- ---- no frame

pub fits_empty : (program : ProgramTree Variable) (method : ℕ) (env : Env) (frames : List Frame) → IsOf program method env → frames ≡ []
    → Fits program (record { method = method; env = env; frames = frames })
fits_empty program method env frames of none = record { env = of; frames = subst (All (FrameFits program)) (sym none) (All-nil (FrameFits program)) }

pub if_ok_any : {T E : Type 0} (answer : Result T E) (Q : Type 0) → Q → IfOk answer (λ t. Q)
if_ok_any (Ok t) Q q = q
if_ok_any (Err e) Q q = tt

pub falls_more : (before left : ℕ) (run : Run) (answer : Result Turn RunEnd) → Falls 0 left run answer → Falls before left run answer
falls_more before left run (Ok t.GoesOn) h = absurd (omega (arith, h))
falls_more before left run (Ok t.Waits) h = tt
falls_more before left run (Ok t.Ended) h = tt
falls_more before left run (Err end) h = tt

-- ---- environments

pub entries_of : (program : ProgramTree Variable) (method : ℕ) (env : Env) → IsOf program method env → HasEntries env
entries_of program method env of = record { entries = of.entry ∙ sym of.globals }

pub of_same : (program : ProgramTree Variable) (method : ℕ) (old new : Env) → IsOf program method old → SameCounts old new → IsOf program method new
of_same program method old new of same = record {
  there = of.there;
  locals = same.locals ∙ of.locals;
  globals = same.globals ∙ of.globals;
  entry = same.entry ∙ of.entry;
}
