-- The examples, computed.
use Rattle.std.proofs.Common.{◌≡◌, ℕ, zero, suc, nat_eq, true, false, [], ◌∷◌, Some, refl, sym, arith}
use Rattle.std.specs.Prelude.{slice_get}
use Rattle.std.specs.List.{IsDistinct}
use Rattle.std.proofs.lemmas.Bool.{false≢true}
use Rattle.std.proofs.lemmas.Cmp.{nat_eq_equiv}
use Rattle.std.proofs.lemmas.Map.Made.{IsDistinct-from_count}
use Rattle.slang_values.specs.Value.{ValueType, truth_type, AreWellFormed, truth}
use Rattle.slang_values.specs.Typing.{FitNames}
use Rattle.program_trees.specs.Programs as e
use Rattle.program_trees.specs.Programs.{TypedExpr}
use Rattle.program_trees.specs.Variables.{Variable, local, global, entry, result}
use Rattle.leg_rules.specs.LegNames.{own, of_call}
use Rattle.typed_programs.specs.Scopes.{Scope, IsValueIn}
use Rattle.typed_programs.specs.WellTyped.{with_variable, around_body, IsTypedMethod, IsTypedProgram}
use Rattle.leg_soundness.specs.Passing.{leg_types, LegsPass, ReachedLegsPass}
use Rattle.leg_soundness.proofs.Names.{none≢some, some_same}
use Rattle.typed_soundness.proofs.Methods.{typed_safe}
use Rattle.typed_soundness.specs.Examples.{calling_itself, alone, careful, careless, SoundnessExamples}

no_records : AreWellFormed []
no_records = record { known = λ n h. absurd (omega (arith, h)); finite = λ n h. absurd (omega (arith, h)); small = λ n h. absurd (omega (arith, h)) }

none_twice : IsDistinct nat_eq []
none_twice = IsDistinct-from_count nat_eq_equiv [] refl

-- the place of the inner call
abbrev inner : TypedExpr Variable → Scope
inner argument = (with_variable (around_body (alone (calling_itself argument)) 1 (calling_itself argument)) (local 1)).scope

method_typed : (argument : TypedExpr Variable) → IsValueIn (inner argument) truth_type argument
    → IsTypedMethod (alone (calling_itself argument)) 1 (calling_itself argument)
method_typed argument typed = record {
  node = omega arith;
  params = refl;
  locals = refl;
  result_type = refl;
  modifies = refl;
  once = none_twice;
  requires_ = (record { claim = record { typed = refl; closed = tt; elements = refl; low = omega arith }; node = omega arith }, tt);
  ensures_ = (record { claim = record { typed = refl; closed = tt; elements = refl; low = omega arith }; node = omega arith }, tt);
  body = (
    (omega arith, (refl, refl), record { typed = refl; elements = refl; low = omega arith; nodes = (omega arith, tt) }),
    (
      (
        omega arith,
        record { typed = refl; elements = refl; low = omega arith; nodes = (omega arith, tt) },
        (
          (omega arith, omega arith, record { there = omega arith; arguments_typed = (typed, tt); covered = refl; target_typed = (refl, refl) }),
          tt,
        ),
        tt,
      ),
      ((omega arith, record { typed = refl; elements = refl; low = omega arith; nodes = (omega arith, tt) }), tt),
    ),
  );
}

program_typed : (argument : TypedExpr Variable) → IsValueIn (inner argument) truth_type argument
    → IsTypedProgram (alone (calling_itself argument)) (0 ∷ []) 1
program_typed argument typed = record {
  records = no_records;
  fields = tt;
  globals = tt;
  methods = (method_typed argument typed, tt);
  sorted = tt;
  node_files_there = (omega arith, tt);
}

careful_program : IsTypedProgram (alone careful) (0 ∷ []) 1
careful_program = program_typed (e.variable 0 (local 0)) (record { typed = refl; elements = refl; low = omega arith; nodes = (omega arith, tt) })

-- What each leg assumes is what it checks.
careful_legs : LegsPass (alone careful) careful
careful_legs names fit = ((λ required is. (required, λ new fits ensured. (ensured, tt))), ((λ required is_not. (required, tt)), tt))

careful_reached : ReachedLegsPass (alone careful) 0
careful_reached zero reach = careful_legs
careful_reached (suc n) reach = λ names fit. (tt, tt)

local_fits : (n : ℕ) (t : ValueType) → slice_get (truth_type ∷ truth_type ∷ []) n ≡ Some t → t ≡ truth_type
local_fits zero t at = sym (some_same at)
local_fits (suc zero) t at = sym (some_same at)
local_fits (suc (suc n)) t at = absurd (none≢some at)

own_fits : (x : Variable) (t : ValueType) → leg_types (alone careless) careless (own x) ≡ Some t → t ≡ truth_type
own_fits (local n) t at = local_fits n t at
own_fits (global n) t at = absurd (none≢some at)
own_fits (entry n) t at = absurd (none≢some at)
own_fits result t at = sym (some_same at)

-- a value that every name may have
all_true_fits : FitNames [] (leg_types (alone careless) careless) (λ x. truth true)
all_true_fits (own x) t at = own_fits x t at
all_true_fits (of_call node zero x) t at = own_fits x t at
all_true_fits (of_call node (suc n) (local m)) t at = absurd (none≢some at)
all_true_fits (of_call node (suc n) (global m)) t at = absurd (none≢some at)
all_true_fits (of_call node (suc n) (entry m)) t at = absurd (none≢some at)
all_true_fits (of_call node (suc n) result) t at = absurd (none≢some at)

careless_legs : LegsPass (alone careless) careless → ⊥
careless_legs pass = false≢true ((pass (λ x. truth true) all_true_fits).0 refl refl).0

pub soundness_examples : SoundnessExamples
soundness_examples = record {
  careful_typed = careful_program;
  careful_passes = careful_reached;
  careful_safe = typed_safe (alone careful) (0 ∷ []) 1 0 careful_program careful_reached;
  careless_typed = program_typed (e.truth 0 false) (record { typed = refl; elements = refl; low = omega arith; nodes = (omega arith, tt) });
  careless_passes_not = careless_legs;
  careless_fails = refl;
}
