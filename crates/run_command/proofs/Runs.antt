-- Runs from arguments that were read, with the initial values of the globals.
use Rattle.std.proofs.Common.{◌≡◌, ℕ, suc, List, [], ◌∷◌, map, length, get_or, refl, sym, ap, ◌∙◌, subst}
use Rattle.std.specs.Prelude.{Result, Ok, Err, IfOk}
use Rattle.std.proofs.lemmas.List.{length-map}
use Rattle.slang_values.specs.Value.{ValueType, Records, Value, unit}
use Rattle.program_trees.specs.Programs.{ProgramTree, MethodTree}
use Rattle.program_trees.specs.Variables.{Variable}
use Rattle.run_rules.specs.Runs.{initial_value}
use Rattle.run_stops.specs.ClaimStops.{visit_limit}
use Rattle.run_values.specs.declared.value.Value.{Value as RunValue}
use Rattle.run_values.specs.Value.{plain_value}
use Rattle.expression_values.specs.Environment.{value_in}
use Rattle.stopped_runs.specs.Runs.{run, command_run}
use Rattle.std.specs.Prelude.{Option}
use Rattle.lk_programs.specs.Program.{record_types}
use Rattle.lk_programs.specs.declared.program.RecordTy.{RecordTy}
use Rattle.argument_fronts.specs.Only.{IsOnly}
use Rattle.argument_fronts.specs.Types.{names_of}
use Rattle.call_arguments.specs.Arguments.{AreArgumentsOf}
use Rattle.call_arguments.specs.Next.{plain_items}

pub if_ok_map : {X E : Type 0} (r : Result X E) (P Q : X → Type 0) → ((x : X) → P x → Q x) → IfOk r P → IfOk r Q
if_ok_map (Ok x) P Q f h = f x h
if_ok_map (Err e) P Q f h = tt

-- there are as many arguments as parameters
pub as_many : (names : List (List ℕ)) (records : Records) (words : List (List ℕ)) (types : List ValueType) (values : List Value)
    → AreArgumentsOf names records words types values → length values ≡ length types
as_many names records [] [] [] h = refl
as_many names records (word ∷ words) (t ∷ types) (v ∷ values) h = ap suc (as_many names records words types values h.1)
as_many names records [] [] (v ∷ values) h = absurd h
as_many names records [] (t ∷ types) values h = absurd h
as_many names records (word ∷ words) [] values h = absurd h
as_many names records (word ∷ words) (t ∷ types) [] h = absurd h

module _ (program : ProgramTree Variable) (globals : List RunValue) (is : map plain_value globals ≡ map (initial_value program) program.globals) where
  pub as_many_globals : length globals ≡ length program.globals
  as_many_globals = sym (length-map globals plain_value) ∙ ap length is ∙ length-map program.globals (initial_value program)

  -- a run with these globals is that of the command
  pub is_command_run : (method : MethodTree Variable) (arguments : List Value) (turns : ℕ)
      → run visit_limit program method arguments (value_in globals) turns ≡ command_run program method arguments turns
  is_command_run method arguments turns =
      ap (λ (values : List Value). run visit_limit program method arguments (λ n. get_or values n unit) turns) is

-- what was read by the slices is read by what they are of
pub read_as : (words : List (List ℕ)) (found : Option (List RunValue)) (slice records : List RecordTy) → slice ≡ records → (types params : List ValueType)
    → types ≡ params → IsOnly plain_items (AreArgumentsOf (names_of slice) (record_types slice) words types) found
    → IsOnly plain_items (AreArgumentsOf (names_of records) (record_types records) words params) found
read_as words found slice records r types params t h =
    subst (λ (ts : List ValueType). IsOnly plain_items (AreArgumentsOf (names_of records) (record_types records) words ts) found) t
    (subst (λ (rs : List RecordTy). IsOnly plain_items (AreArgumentsOf (names_of rs) (record_types rs) words types) found) r h)

pub both_ok : {X E : Type 0} (r : Result X E) (P Q R : X → Type 0) → ((x : X) → P x → Q x → R x) → IfOk r P → IfOk r Q → IfOk r R
both_ok (Ok x) P Q R f p q = f x p q
both_ok (Err e) P Q R f p q = tt
