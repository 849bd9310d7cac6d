-- Runs that stop, tried on small programs: each statement is computed.
use Rattle.std.specs.Prelude.{◌≡◌, ℕ, ℤ, pos, negsuc, ◌^◌, ◌-◌, Bool, true, false, List, [], ◌∷◌, Option, Some, None}
use Rattle.slang_values.specs.Value.{number_type, Value, number}
use Rattle.slang_values.specs.Tree.{bound, binary as binary_tree, quantified}
use Rattle.slang_values.specs.declared.operators.Binary.{Binary}
use Rattle.slang_values.specs.declared.operators.Quantifier.{Quantifier}
use Rattle.slang_tree.specs.declared.expression.Operator.{Operator}
use Rattle.slang_tree.specs.declared.expression.Operator.TheVariants as o
use Rattle.program_trees.specs.declared.answer.Kind.TheVariants as kinds
use Rattle.program_trees.specs.Claims.{ClaimTree, variable_claim}
use Rattle.program_trees.specs.Programs.{TypedExpr, binary, set, give, assert, loop, call, MethodTree, ProgramTree}
use Rattle.program_trees.specs.Variables.{Variable, local, global, result}
use Rattle.run_rules.specs.Runs.{fails}
use Rattle.run_rules.specs.Examples.{sequence_of_code, claim_number, noted, z, v, method_of, no_globals, is_going, answer, counting, count, spinning, spin}
use Rattle.stopped_runs.specs.Runs.{Stopped, reached, wide, out_of_visits, run, command_run}

-- ---- how the programs are written

-- the result of a run that ended
abbrev pub result_of : Stopped → Option Value
result_of (reached outcome) = answer outcome
result_of (wide node) = None
result_of (out_of_visits node) = None

abbrev pub goes : Stopped → Bool
goes (reached outcome) = is_going outcome
goes (wide node) = false
goes (out_of_visits node) = false

abbrev pub program_of : List (MethodTree Variable) → ProgramTree Variable
program_of methods = record { records = []; globals = []; methods = methods }

abbrev pub greatest : ℤ
greatest = pos (2 ^ 127 - 1)

abbrev pub lowest : ℤ
lowest = negsuc (2 ^ 127 - 1)

-- Each claim has three visits.
abbrev pub run_of : MethodTree Variable → MethodTree Variable → List Value → ℕ → Stopped
run_of called method arguments n = run 3 (program_of (called ∷ method ∷ [])) method arguments no_globals n

abbrev pub run_alone : MethodTree Variable → List Value → ℕ → Stopped
run_alone method arguments n = run_of method method arguments n

-- ---- values that do not fit

-- def inc(x: Z): Z: Requires(0 <= x), Ensures(Res == x + 1); return x + 1
abbrev pub inc : MethodTree Variable
inc = method_of 1 (number_type ∷ []) (number_type ∷ [])
    (noted 2 (binary_tree Binary.Le (claim_number (pos 0)) (variable_claim (local 0))) ∷ [])
    (noted 3 (binary_tree Binary.Eq (variable_claim result) (binary_tree Binary.Add (variable_claim (local 0)) (claim_number (pos 1)))) ∷ [])
    (give 4 (binary 5 o.Add (v (local 0)) (z (pos 1))) ∷ [])

-- the square of a number is not negative
abbrev pub square_claim : Variable → ClaimTree Variable
square_claim x = binary_tree Binary.Le (claim_number (pos 0)) (binary_tree Binary.Mul (variable_claim x) (variable_claim x))

-- def same(x: Z): Z: Ensures(0 <= Res * Res); return x
abbrev pub same : MethodTree Variable
same = method_of 1 (number_type ∷ []) (number_type ∷ []) [] (noted 2 (square_claim result) ∷ []) (give 3 (v (local 0)) ∷ [])

-- def far(i: Z, n: Z): Z: while (i + (2^127 - 1) <= n) { Invariant(Modifies(i)); i = i + 1 }; return i
abbrev pub far : MethodTree Variable
far = method_of 1 (number_type ∷ number_type ∷ []) (number_type ∷ number_type ∷ []) [] []
    (loop 2 (binary 3 o.Le (binary 4 o.Add (v (local 0)) (z greatest)) (v (local 1))) (local 0 ∷ []) []
    (sequence_of_code (set 5 (local 0) (binary 6 o.Add (v (local 0)) (z (pos 1))) ∷ []))
    ∷ give 7 (v (local 0)) ∷ [])

-- def divided(a: Z, b: Z): Z: return a / b, or a % b
abbrev pub divided : Operator → MethodTree Variable
divided operator = method_of 1 (number_type ∷ number_type ∷ []) (number_type ∷ number_type ∷ []) [] []
    (give 2 (binary 3 operator (v (local 0)) (v (local 1))) ∷ [])

-- ---- calls

-- def wrong(x: Z): Z: Requires(0 <= x * x), Ensures(Res == x + 1); return x
abbrev pub wrong : MethodTree Variable
wrong = method_of 1 (number_type ∷ []) (number_type ∷ [])
    (noted 2 (square_claim (local 0)) ∷ [])
    (noted 3 (binary_tree Binary.Eq (variable_claim result) (binary_tree Binary.Add (variable_claim (local 0)) (claim_number (pos 1)))) ∷ [])
    (give 4 (v (local 0)) ∷ [])

-- def caller(x: Z): Z: val y: Z = f(x), where f is the first method; return y
abbrev pub caller : MethodTree Variable
caller = method_of 10 (number_type ∷ []) (number_type ∷ number_type ∷ []) [] []
    (call 11 (Some (local 1)) 12 0 (v (local 0) ∷ []) ∷ give 13 (v (local 1)) ∷ [])

-- ---- visits

-- All(0 until n)(i => 0 <= i)
abbrev pub range_claim : ClaimTree Variable
range_claim = quantified Quantifier.All (claim_number (pos 0)) (variable_claim (local 0)) (binary_tree Binary.Le (claim_number (pos 0)) (bound 0))

-- def twice(n: Z): Z: assert of the claim, twice
abbrev pub twice : MethodTree Variable
twice = method_of 1 (number_type ∷ []) (number_type ∷ []) [] [] (assert (noted 2 range_claim) ∷ assert (noted 3 range_claim) ∷ [])

-- ---- globals

-- var g: Z = 5, and def told(): Z: return g
abbrev pub told : MethodTree Variable
told = method_of 1 [] [] [] [] (give 2 (v (global 0)) ∷ [])

abbrev pub telling : ProgramTree Variable
telling = record { records = []; globals = record { fixed = false; type = number_type; initial = z (pos 5) } ∷ []; methods = told ∷ [] }

pub record StoppedRunExamples : Type 0 where
  -- what the run that never stops does, in as many turns
  pub loop_going : goes (run 3 counting count (number (pos 0) ∷ number (pos 1) ∷ []) no_globals 4) ≡ true
  pub loop_ended : result_of (run 3 counting count (number (pos 0) ∷ number (pos 1) ∷ []) no_globals 5) ≡ Some (number (pos 1))
  pub invariant_fails_first : run 3 counting count (number (pos 2) ∷ number (pos 3) ∷ []) no_globals 1 ≡ reached (fails kinds.InvStart 4)
  pub invariant_fails_later : run 3 counting count (number (pos 0) ∷ number (pos 3) ∷ []) no_globals 5 ≡ reached (fails kinds.InvKept 4)
  pub recursion_out_of_turns : goes (run 3 spinning spin (number (pos 0) ∷ []) no_globals 100) ≡ true
  pub no_turn_spent : goes (run_alone inc (number (pos 1) ∷ []) 0) ≡ true
  pub one_turn_spent : result_of (run_alone inc (number (pos 1) ∷ []) 1) ≡ Some (number (pos 2))
  pub requires_fails : run_alone inc (number (negsuc 0) ∷ []) 0 ≡ reached (fails kinds.Requires 1)
  -- a value that does not fit, at its node, or at that of the claim
  pub sum_is_wide : run_alone inc (number greatest ∷ []) 1 ≡ wide 5
  pub claim_is_wide : run_alone same (number greatest ∷ []) 1 ≡ wide 2
  pub claim_fits : result_of (run_alone same (number (pos 7) ∷ []) 1) ≡ Some (number (pos 7))
  -- at the second test of the loop, which takes the fourth turn, and however many more there are
  pub test_not_yet : goes (run_alone far (number (pos 0) ∷ number greatest ∷ []) 3) ≡ true
  pub test_is_wide : run_alone far (number (pos 0) ∷ number greatest ∷ []) 4 ≡ wide 4
  pub stays_wide : run_alone far (number (pos 0) ∷ number greatest ∷ []) 40 ≡ wide 4
  pub lowest_rem : result_of (run_alone (divided o.Rem) (number lowest ∷ number (negsuc 0) ∷ []) 1) ≡ Some (number (pos 0))
  pub lowest_div : run_alone (divided o.Div) (number lowest ∷ number (negsuc 0) ∷ []) 1 ≡ wide 3
  pub by_zero : run_alone (divided o.Div) (number lowest ∷ number (pos 0) ∷ []) 1 ≡ reached (fails kinds.Division 3)
  -- the Ensures of a call, and Requires, which are told of at the called name where they are false, and at their own node where they are wide
  pub ensures_not_yet : goes (run_of wrong caller (number (pos 1) ∷ []) 1) ≡ true
  pub ensures_fails : run_of wrong caller (number (pos 1) ∷ []) 2 ≡ reached (fails kinds.Ensures 3)
  pub requires_fails_at_call : run_of inc caller (number (negsuc 0) ∷ []) 1 ≡ reached (fails kinds.Requires 12)
  pub requires_is_wide : run_of wrong caller (number greatest ∷ []) 1 ≡ wide 2
  -- one visit for each body of a quantifier, and as many for the next claim
  pub visits_suffice : result_of (run_alone twice (number (pos 3) ∷ []) 2) ≡ Some (number (pos 0))
  pub no_visit_left : run_alone twice (number (pos 4) ∷ []) 2 ≡ out_of_visits 2
  pub initial_value : result_of (command_run telling told [] 1) ≡ Some (number (pos 5))
