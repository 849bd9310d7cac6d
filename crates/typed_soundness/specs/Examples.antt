-- The law, tried on a method that calls itself, and on one that breaks its own Requires.
use Rattle.std.specs.Prelude.{◌≡◌, ℕ, true, false, [], ◌∷◌, Some}
use Rattle.slang_values.specs.Value.{truth_type, Value, unit, truth}
use Rattle.program_trees.specs.declared.answer.Kind.TheVariants as kinds
use Rattle.program_trees.specs.Claims.{variable_claim}
use Rattle.program_trees.specs.Programs as e
use Rattle.program_trees.specs.Programs.{TypedExpr, set, give, branch, call, no_code, code_then, MethodTree, ProgramTree}
use Rattle.program_trees.specs.Variables.{Variable, local, result}
use Rattle.run_rules.specs.Runs.{run, fails, IsSafe}
use Rattle.typed_programs.specs.WellTyped.{IsTypedProgram}
use Rattle.leg_soundness.specs.Passing.{LegsPass, ReachedLegsPass}

-- A method of a truth value that requires it and ensures its result. It sets `r` to its parameter, calls itself with this argument for `r` where that is
-- true, and returns `r`.
abbrev pub calling_itself : TypedExpr Variable → MethodTree Variable
calling_itself argument = record {
  name = [];
  node = 0;
  params = truth_type ∷ [];
  result = truth_type;
  requires_ = record { claim = variable_claim (local 0); node = 0 } ∷ [];
  modifies = [];
  ensures_ = record { claim = variable_claim result; node = 0 } ∷ [];
  locals = truth_type ∷ truth_type ∷ [];
  body =
      code_then (set 0 (local 1) (e.variable 0 (local 0)))
      (code_then (branch 0 (e.variable 0 (local 1)) (code_then (call 0 (Some (local 1)) 0 0 (argument ∷ [])) no_code) no_code)
      (code_then (give 0 (e.variable 0 (local 1))) no_code));
}

abbrev pub alone : MethodTree Variable → ProgramTree Variable
alone method = record { records = []; globals = []; methods = method ∷ [] }

-- It calls itself with its parameter, or with F.
abbrev pub careful : MethodTree Variable
careful = calling_itself (e.variable 0 (local 0))

abbrev pub careless : MethodTree Variable
careless = calling_itself (e.truth 0 false)

abbrev pub no_globals : ℕ → Value
no_globals n = unit

pub record SoundnessExamples : Type 0 where
  pub careful_typed : IsTypedProgram (alone careful) (0 ∷ []) 1
  pub careful_passes : ReachedLegsPass (alone careful) 0
  pub careful_safe : IsSafe (alone careful) careful
  -- well typed too, but its legs do not pass, and its run fails at its third turn
  pub careless_typed : IsTypedProgram (alone careless) (0 ∷ []) 1
  pub careless_passes_not : LegsPass (alone careless) careless → ⊥
  pub careless_fails : run (alone careless) careless (truth true ∷ []) no_globals 3 ≡ fails kinds.Requires 0
