-- Where a run is, and how it goes on from there.
use Rattle.std.specs.Prelude.{ℕ, ⊤, List, [], ◌∷◌, ◌++◌, map, reverse}
use Rattle.std.specs.List.{All}
use Rattle.std.specs.Option.{option_map}
use Rattle.program_trees.specs.Programs.{ProgramTree}
use Rattle.program_trees.specs.Variables.{Variable}
use Rattle.run_rules.specs.Values.{Values}
use Rattle.run_rules.specs.Runs.{Stack}
use Rattle.expression_values.specs.Environment.{values_in, variable_in}
use Rattle.stopped_runs.specs.Runs.{Stopped, going_on, turns}
use Rattle.run_frames.specs.Frames as plain
use Rattle.run_frames.specs.Frames.{stack_of}
use Rattle.run_steps.specs.Steps.{IsOf}
use Rattle.frame_steps.specs.declared.frame.Frame.{Frame}
use Rattle.frame_steps.specs.declared.frame.Frame.TheVariants as f
use Rattle.frame_steps.specs.declared.frame.Run.{Run}
use Rattle.expression_values.specs.declared.environment.Env.{Env}

abbrev pub frame_of : Frame → plain.Frame
frame_of (f.Block path next) = plain.block path next
frame_of (f.Again first path statement) = plain.again first path statement
frame_of (f.AtTest path statement) = plain.at_test path statement
frame_of (f.Back method caller target) = plain.back method (values_in caller) (option_map (variable_in caller) target)

-- the frames, from the one on that comes next
abbrev pub frames_of : List Frame → List plain.Frame
frames_of frames = map frame_of (reverse frames)

-- the run with one more frame, which comes next
abbrev pub pushed : Run → Frame → Run
pushed run frame = record { method = run.method; env = run.env; frames = run.frames ++ frame ∷ [] }

-- the run where the method of that number has begun with these values
abbrev pub begun : Run → ℕ → Env → Run
begun run method env = record { method = method; env = env; frames = run.frames }

-- what is left to do
abbrev pub stack_in : ProgramTree Variable → Run → Stack
stack_in program run = stack_of program run.method (frames_of run.frames)

-- with one more frame, which comes next
abbrev pub stack_with : ProgramTree Variable → Run → Frame → Stack
stack_with program run frame = stack_of program run.method (frame_of frame ∷ frames_of run.frames)

-- how the run goes on with so many turns
abbrev pub with_turns : (limit : ℕ) → ProgramTree Variable → Stack → Values → ℕ → Stopped
with_turns limit program stack values n = going_on limit program (turns limit program n) stack values

abbrev pub run_on : (limit : ℕ) → ProgramTree Variable → Run → ℕ → Stopped
run_on limit program run n = with_turns limit program (stack_in program run) (values_in run.env) n

abbrev pub FrameFits : ProgramTree Variable → Frame → Type 0
FrameFits program (f.Block path next) = ⊤
FrameFits program (f.Again first path statement) = ⊤
FrameFits program (f.AtTest path statement) = ⊤
FrameFits program (f.Back method caller target) = IsOf program method caller

-- Each environment has the variables of its method.
pub record Fits (program : ProgramTree Variable) (run : Run) : Type 0 where
  pub env : IsOf program run.method run.env
  pub frames : All (FrameFits program) run.frames
