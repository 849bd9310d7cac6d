-- One step of a run, by the law of its frame.
use Rattle.std.proofs.Common.{◌≡◌, ℕ, suc, ◌+◌, List, ◌∷◌, Option, Some, None, refl, sym, ap, ap₂, ◌∙◌, subst, arith}
use Rattle.std.specs.Prelude.{Result, Ok}
use Rattle.program_trees.specs.Programs.{ProgramTree, CodeTree}
use Rattle.program_trees.specs.Variables.{Variable}
use Rattle.run_rules.specs.Values.{Values}
use Rattle.run_rules.specs.Runs.{Stack, going}
use Rattle.stopped_runs.specs.Runs.{Stopped, reached, Continuation, after, going_on, turns}
use Rattle.expression_values.specs.Environment.{values_in}
use Rattle.code_paths.specs.declared.inside.Inside.{Inside}
use Rattle.code_paths.specs.Places.{nth_statement}
use Rattle.run_frames.specs.Frames as plain
use Rattle.run_frames.specs.Frames.{block, block_of, stack_of}
use Rattle.run_frames.proofs.Steps.{block_ends, takes_turn, run_waits}
use Rattle.run_rules.specs.Runs.{Loop, beyond_test}
use Rattle.run_stops.specs.ExpressionStops.{stopping}
use Rattle.stopped_runs.specs.Runs.{test_loop, on_stop}
use Rattle.run_steps.specs.declared.ending.RunEnd.{RunEnd}
use Rattle.frame_steps.specs.declared.frame.Frame.{Frame}
use Rattle.frame_steps.specs.declared.frame.Run.{Run}
use Rattle.frame_steps.specs.declared.frame.Turn.{Turn}
use Rattle.frame_steps.specs.declared.frame.Turn.TheVariants as t
use Rattle.frame_steps.specs.Runs.{frames_of, with_turns, run_on, stack_in, stack_with, pushed}
use Rattle.frame_steps.specs.Turns.{Turned}
use Rattle.frame_steps.proofs.Stacks.{stack_pushed}

module _ (limit : ℕ) (program : ProgramTree Variable) where
  -- one turn more than those that are left behind it
  pub turn_taken : (before left m : ℕ) → before ≡ left + 1 → turns limit program (before + m) ≡ Some (going_on limit program (turns limit program (left + m)))
  turn_taken before left m is =
      ap (turns limit program) (let same : before + m ≡ suc (left + m) = omega (arith, is) in same)

  module _ (method : ℕ) (path : List Inside) (n : ℕ) (frames : List plain.Frame) (values : Values) where
    abbrev here : Stack
    here = stack_of program method (block path n ∷ frames)

    pub none_there : (k : ℕ) → nth_statement (block_of program method path) n ≡ None
        → with_turns limit program here values k ≡ with_turns limit program (stack_of program method frames) values k
    none_there k h = block_ends program method path n frames limit (turns limit program k) values h

    pub waits_there : (code : CodeTree Variable) → nth_statement (block_of program method path) n ≡ Some code
        → with_turns limit program here values 0 ≡ reached (going here values)
    waits_there code h = run_waits program method path n frames limit values code h

    pub begins_there : (before left m : ℕ) (code : CodeTree Variable) → before ≡ left + 1 → nth_statement (block_of program method path) n ≡ Some code
        → with_turns limit program here values (before + m)
        ≡ after limit program code values (going_on limit program (turns limit program (left + m))) (stack_of program method (block path (suc n) ∷ frames))
    begins_there before left m code is h =
        ap (λ (next : Option Continuation). going_on limit program next here values) (turn_taken before left m is)
        ∙ takes_turn program method path n frames limit (going_on limit program (turns limit program (left + m))) values code h

  -- the test of a loop takes a turn
  pub test_turn : (the_loop : Loop) (rest : Stack) (values : Values) (before left m : ℕ) → before ≡ left + 1
      → test_loop limit program (turns limit program (before + m)) the_loop rest values
      ≡ on_stop (stopping program.records values the_loop.test) (with_turns limit program (beyond_test program the_loop rest values) values (left + m))
  test_turn the_loop rest values before left m is =
      ap (λ (next : Option Continuation). test_loop limit program next the_loop rest values) (turn_taken before left m is)

  -- what was to be done is told by what is the same
  pub turned_over : (new : Run) (was other : ℕ → Stopped) (before left : ℕ) (answer : Result Turn RunEnd) → ((n : ℕ) → was n ≡ other n)
      → Turned limit program new other before left answer → Turned limit program new was before left answer
  turned_over new was other before left answer same h =
      subst (λ (w : ℕ → Stopped). Turned limit program new w before left answer) (λ i n. sym (same n) i) h

  -- a run waits with one more frame
  pub waits_with : (run new : Run) (frame : Frame) (left : ℕ) → left ≡ 0 → new ≡ pushed run frame
      → with_turns limit program (stack_with program run frame) (values_in run.env) 0 ≡ reached (going (stack_with program run frame) (values_in run.env))
      → Turned limit program new (with_turns limit program (stack_with program run frame) (values_in run.env)) left left (Ok t.Waits)
  waits_with run new frame left none is waits =
      let stacks = sym (ap (stack_in program) is ∙ stack_pushed program run frame) in
      let values = sym (ap (λ (r : Run). values_in r.env) is) in (
        record {
          none = none;
          going = ap₂ (λ (st : Stack) (vs : Values). with_turns limit program st vs 0) (sym stacks) (sym values)
              ∙ waits ∙ ap₂ (λ (st : Stack) (vs : Values). reached (going st vs)) stacks values;
        },
        λ m. ap₂ (λ (st : Stack) (vs : Values). with_turns limit program st vs (left + m)) stacks values,
      )
