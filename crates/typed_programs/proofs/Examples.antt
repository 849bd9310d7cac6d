-- The examples of well-typed programs, computed.
use Rattle.std.proofs.Common.{◌≡◌, nat_eq, List, [], ◌∷◌, Some, None, refl, arith, true, false}
use Rattle.std.specs.declared.cmp.Ordering.TheVariants.{Less, Greater}
use Rattle.std.proofs.lemmas.Cmp.{nat_eq_equiv}
use Rattle.std.proofs.lemmas.Map.Made.{IsDistinct-from_count}
use Rattle.std.specs.List.{IsDistinct}
use Rattle.slang_values.specs.Value.{AreWellFormed, number_type}
use Rattle.program_trees.specs.Programs.{MethodTree}
use Rattle.program_trees.specs.Variables.{Variable}
use Rattle.typed_programs.specs.WellTyped.{IsTypedMethod, IsTypedGlobal}
use Rattle.typed_programs.specs.Examples.{program_of, counter, declares, counts, calls, ProgramExamples}

no_records : AreWellFormed []
no_records = record { known = λ n h. absurd (omega (arith, h)); finite = λ n h. absurd (omega (arith, h)); small = λ n h. absurd (omega (arith, h)) }

counter_typed : (methods : List (MethodTree Variable)) → IsTypedGlobal (program_of methods) 1 counter
counter_typed methods = record {
  type = refl;
  constant = refl;
  initial = record { typed = refl; elements = refl; low = omega arith; nodes = (omega arith, tt) };
}

none_twice : IsDistinct nat_eq []
none_twice = IsDistinct-from_count nat_eq_equiv [] refl

one_once : IsDistinct nat_eq (0 ∷ [])
one_once = IsDistinct-from_count nat_eq_equiv (0 ∷ []) refl

declares_typed : IsTypedMethod (program_of (declares ∷ [])) 1 declares
declares_typed = record {
  node = omega arith;
  params = refl;
  locals = refl;
  result_type = refl;
  modifies = refl;
  once = none_twice;
  requires_ = tt;
  ensures_ = tt;
  body = (
    (omega arith, (refl, refl), record { typed = (refl, refl, refl); elements = refl; low = omega arith; nodes = (omega arith, (omega arith, (omega arith, tt))) }),
    ((omega arith, record { typed = refl; elements = refl; low = omega arith; nodes = (omega arith, tt) }), tt),
  );
}

counts_typed : IsTypedMethod (program_of (counts (0 ∷ []) ∷ calls (0 ∷ []) ∷ [])) 1 (counts (0 ∷ []))
counts_typed = record {
  node = omega arith;
  params = refl;
  locals = refl;
  result_type = refl;
  modifies = refl;
  once = one_once;
  requires_ = tt;
  ensures_ = tt;
  body = (
    (omega arith, (refl, refl), record { typed = (refl, refl, refl); elements = refl; low = omega arith; nodes = (omega arith, (omega arith, (omega arith, tt))) }),
    tt,
  );
}

calls_typed : IsTypedMethod (program_of (counts (0 ∷ []) ∷ calls (0 ∷ []) ∷ [])) 1 (calls (0 ∷ []))
calls_typed = record {
  node = omega arith;
  params = refl;
  locals = refl;
  result_type = refl;
  modifies = refl;
  once = one_once;
  requires_ = tt;
  ensures_ = tt;
  body = (
    (
      omega arith,
      omega arith,
      record {
        there = omega arith;
        arguments_typed = (record { typed = refl; elements = refl; low = omega arith; nodes = (omega arith, tt) }, tt);
        covered = refl;
        target_typed = tt;
      },
    ),
    tt,
  );
}

pub program_examples : ProgramExamples
program_examples = record {
  declares_is = record {
    records = no_records;
    fields = tt;
    globals = (counter_typed (declares ∷ []), tt);
    methods = (declares_typed, tt);
    sorted = tt;
    node_files_there = (omega arith, tt);
  };
  counts_is = record {
    records = no_records;
    fields = tt;
    globals = (counter_typed (counts (0 ∷ []) ∷ calls (0 ∷ []) ∷ []), tt);
    methods = (counts_typed, (calls_typed, tt));
    sorted = (refl, tt);
    node_files_there = (omega arith, tt);
  };
  assigned_outside = λ h. absurd (let e : false ≡ true = h.methods.0.body.0.1.0 in cc);
  called_outside = λ h. absurd (let e : false ≡ true = h.methods.1.0.body.0.2.covered in cc);
  parameter_assigned = λ h. absurd (let e : false ≡ true = h.methods.0.body.0.1.0 in cc);
  named_too_early = λ h. absurd (let e : None ≡ Some number_type = h.methods.0.body.0.1.typed in cc);
  without_return = λ h. absurd h.methods.0.body;
  behind_return = λ h. absurd h.methods.0.body.1;
  out_of_order = λ h. absurd (let e : Greater ≡ Less = h.sorted.0 in cc);
}
