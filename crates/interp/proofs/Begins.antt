-- How a machine's run begins, and how it ends.
use Rattle.std.proofs.Common.{◌≡◌, ℕ, ◌+◌, true, false, List, [], ◌∷◌, refl, sym, ap, ap₂, ◌∙◌, subst, arith}
use Rattle.program_trees.specs.Programs.{CodeTrees, no_code, code_then, ProgramTree}
use Rattle.program_trees.specs.Variables.{Variable}
use Rattle.run_rules.specs.Values.{Values}
use Rattle.slang_values.specs.Value as plain
use Rattle.program_trees.specs.Programs.{MethodTree}
use Rattle.program_trees.specs.declared.answer.Kind.TheVariants as kinds
use Rattle.run_rules.specs.Runs.{method_at, entered, Stack, begin, last, going, ended, fails}
use Rattle.run_stops.specs.ClaimStops.{visit_limit}
use Rattle.run_values.specs.Value.{plain_value}
use Rattle.run_values.specs.declared.value.Value.{Value}
use Rattle.expression_values.specs.declared.environment.Env.{Env}
use Rattle.expression_values.specs.Environment.{value_in, values_in}
use Rattle.stopped_runs.specs.Runs.{Stopped, reached, on_test, going_on, turns, run}
use Rattle.stopped_runs.specs.Tests.{test}
use Rattle.code_paths.specs.Places.{from_statement}
use Rattle.run_steps.specs.declared.ending.RunEnd.{RunEnd}
use Rattle.run_steps.specs.declared.ending.RunEnd.TheVariants as e
use Rattle.run_steps.specs.Ends.{Tells}
use Rattle.frame_steps.specs.declared.frame.Frame.TheVariants as f
use Rattle.frame_steps.specs.declared.frame.Run.{Run}
use Rattle.frame_steps.specs.Runs.{run_on, stack_in}
use Rattle.interp.specs.declared.turned.Turned.{Turned}
use Rattle.interp.specs.declared.turned.Turned.TheVariants as t
use Rattle.interp.specs.Ends.{told_of, is_going}
use Rattle.interp.specs.Machines.{IsKnown, with_told, FitsWhere, WaitsWhere}
use Rattle.interp.specs.declared.machine.Machine.{Machine}
use Rattle.interp.specs.Machines.{run_of, IsMachineOf}
use Rattle.run_steps.specs.Steps.{IsOf}
use Rattle.frame_steps.specs.Runs.{Fits, FrameFits}
use Rattle.std.proofs.lemmas.List.Elements.{All-cons, All-nil}
use Rattle.interp.specs.Advances.{IsTold, HasEnded, IsGoing, IsLast, Advances}

-- the run of a method that has begun
abbrev pub at_start : ℕ → Env → Run
at_start method env = record { method = method; env = env; frames = f.Block [] 0 ∷ [] }

from_start : {A : Type 0} (codes : CodeTrees A) → from_statement codes 0 ≡ codes
from_start no_code = refl
from_start (code_then code codes) = refl

pub begins : (program : ProgramTree Variable) (method : ℕ) (env : Env) (n : ℕ)
    → run_on visit_limit program (at_start method env) n
    ≡ going_on visit_limit program (turns visit_limit program n) (begin (method_at program method).body (last (method_at program method))) (values_in env)
begins program method env n =
    ap (λ (codes : CodeTrees Variable). going_on visit_limit program (turns visit_limit program n) (begin codes (last (method_at program method)))
    (values_in env))
    (from_start (method_at program method).body)

-- what is told of a run that has stopped
pub told_is : (program : ProgramTree Variable) (end : RunEnd) (run : Run) (stopped : Stopped) (n : ℕ) → IsKnown (told_of end) → Tells end stopped
    → stopped ≡ with_told program (told_of end) run n
told_is program (e.Fails kind node) run stopped n known h = h
told_is program (e.Wide node) run stopped n known h = h
told_is program (e.Visits node) run stopped n known h = h
told_is program e.NoMemory run stopped n known h = absurd known

pub nothing_waits : (program : ProgramTree Variable) (end : RunEnd) (run : Run) → WaitsWhere program (told_of end) run
nothing_waits program (e.Fails kind node) run = tt
nothing_waits program (e.Wide node) run = tt
nothing_waits program (e.Visits node) run = tt
nothing_waits program e.NoMemory run = tt

pub nothing_fits : (program : ProgramTree Variable) (end : RunEnd) (run : Run) → FitsWhere program (told_of end) run
nothing_fits program (e.Fails kind node) run = tt
nothing_fits program (e.Wide node) run = tt
nothing_fits program (e.Visits node) run = tt
nothing_fits program e.NoMemory run = tt

-- the answer tells what became of the run
pub tells : (program : ProgramTree Variable) (told : Turned) (run : Run) (stopped : Stopped)
    → (IsKnown told → stopped ≡ with_told program told run 0) → WaitsWhere program told run
    → IsTold told (plain_value run.env.result) stopped
tells program t.Ended run stopped same waits = record { values = values_in run.env; is = same tt; gives = refl }
tells program t.Going run stopped same waits = record { stack = stack_in program run; values = values_in run.env; is = same tt ∙ waits }
tells program (t.Fails kind node) run stopped same waits = same tt
tells program (t.Wide node) run stopped same waits = same tt
tells program (t.Visits node) run stopped same waits = same tt
tells program t.NoMemory run stopped same waits = tt

-- a machine whose run went on
pub advanced : (program : ProgramTree Variable) (old : Machine) (turns : ℕ) (told : Turned) (run : Run) → old.told ≡ t.Going
    → (IsKnown told → (n : ℕ) → run_on visit_limit program old.run (turns + n) ≡ with_told program told run n) → WaitsWhere program told run
    → Advances program turns old (record { run = run; told = told }) told
advanced program old turns told run is goes waits =
    let same : (n : ℕ) → run_of program old n ≡ run_on visit_limit program old.run n = λ n. ap (λ (u : Turned). with_told program u old.run n) is in
    let whole : turns + 0 ≡ turns = omega arith in
    record {
      tells = tells program told run (run_of program old turns) (λ known. same turns ∙ ap (run_on visit_limit program old.run) (sym whole)
          ∙ goes known 0) waits;
      goes_on = λ known n. same (turns + n) ∙ goes known n;
      told = refl;
      stays = λ final. absurd (subst IsLast is final);
    }

-- a machine that has given a last answer
pub stays_put : (program : ProgramTree Variable) (turns : ℕ) (run : Run) (told : Turned) → IsLast told
    → Advances program turns (record { run = run; told = told }) (record { run = run; told = told }) told
stays_put program turns run t.Ended final = record {
  tells = record { values = values_in run.env; is = refl; gives = refl };
  goes_on = λ known n. refl;
  told = refl;
  stays = λ l. refl;
}
stays_put program turns run t.Going final = absurd final
stays_put program turns run (t.Fails kind node) final = record { tells = refl; goes_on = λ known n. refl; told = refl; stays = λ l. refl }
stays_put program turns run (t.Wide node) final = record { tells = refl; goes_on = λ known n. refl; told = refl; stays = λ l. refl }
stays_put program turns run (t.Visits node) final = record { tells = refl; goes_on = λ known n. refl; told = refl; stays = λ l. refl }
stays_put program turns run t.NoMemory final = record { tells = tt; goes_on = λ known n. absurd known; told = refl; stays = λ l. refl }

-- ---- the beginning

module _ (program : ProgramTree Variable) (number : ℕ) (arguments : List plain.Value) (globals : List Value) (node : ℕ)
    (same_node : (method_at program number).node ≡ node) where
  abbrev method : MethodTree Variable
  method = method_at program number

  abbrev values : Values
  values = entered program.records method arguments (value_in globals)

  abbrev the_run : ℕ → Stopped
  the_run n = run visit_limit program method arguments (value_in globals) n

  abbrev with_node : ℕ → Stopped → Stopped
  with_node at next = on_test (test visit_limit program.records values method.requires_) (λ claim. reached (fails kinds.Requires at)) next

  abbrev from_body : ℕ → Stopped
  from_body n = going_on visit_limit program (turns visit_limit program n) (begin method.body (last method)) values

  -- a run that has not stopped at its Requires
  pub has_begun : (env : Env) (n : ℕ) → ((next : Stopped) → with_node node next ≡ next) → values_in env ≡ values
      → run_on visit_limit program (at_start number env) n ≡ the_run n
  has_begun env n goes same =
      begins program number env n
      ∙ ap (going_on visit_limit program (turns visit_limit program n) (begin method.body (last method))) same
      ∙ sym (ap (λ (at : ℕ). with_node at (from_body n)) same_node ∙ goes (from_body n))

  -- one that has
  pub has_stopped : (end : RunEnd) (machine : Machine) (n : ℕ) → ((next : Stopped) → Tells end (with_node node next)) → machine.told ≡ told_of end
      → IsKnown machine.told → run_of program machine n ≡ the_run n
  has_stopped end machine n tells_it told known =
      ap (λ (u : Turned). with_told program u machine.run n) told
      ∙ sym (told_is program end machine.run (the_run n) n (subst IsKnown told known)
      (subst (Tells end) (sym (ap (λ (at : ℕ). with_node at (from_body n)) same_node)) (tells_it (from_body n))))

-- a machine that has stopped
pub last_fits : (program : ProgramTree Variable) (end : RunEnd) (machine : Machine) → machine.told ≡ told_of end → IsMachineOf program machine
last_fits program end machine told = subst (λ (u : Turned). FitsWhere program u machine.run) (sym told) (nothing_fits program end machine.run)

-- one that has begun
pub start_fits : (program : ProgramTree Variable) (number : ℕ) (env : Env) → IsOf program number env → Fits program (at_start number env)
start_fits program number env of = record { env = of; frames = All-cons (FrameFits program) (f.Block [] 0) [] tt (All-nil (FrameFits program)) }

pub goes_there : (told : Turned) → is_going told ≡ true → told ≡ t.Going
goes_there t.Ended h = absurd (cc)
goes_there t.Going h = refl
goes_there (t.Fails kind node) h = absurd (cc)
goes_there (t.Wide node) h = absurd (cc)
goes_there (t.Visits node) h = absurd (cc)
goes_there t.NoMemory h = absurd (cc)

pub last_there : (told : Turned) → is_going told ≡ false → IsLast told
last_there t.Ended h = tt
last_there t.Going h = absurd (cc)
last_there (t.Fails kind node) h = tt
last_there (t.Wide node) h = tt
last_there (t.Visits node) h = tt
last_there t.NoMemory h = tt
