-- The definitions of runs, tried on small programs: each statement is computed.
use Rattle.std.specs.Prelude.{◌≡◌, ℕ, zero, suc, ℤ, pos, negsuc, Bool, true, false, List, [], ◌∷◌, Option, Some, None}
use Rattle.slang_values.specs.Value.{ValueType, number_type, Value, unit, number, sequence, value_then, no_values}
use Rattle.slang_values.specs.Tree.{literal, truth_literal, binary as binary_tree}
use Rattle.slang_values.specs.declared.operators.Unary.{Unary}
use Rattle.slang_values.specs.declared.operators.Binary.{Binary}
use Rattle.slang_tree.specs.declared.expression.Operator.TheVariants as o
use Rattle.program_trees.specs.declared.answer.Kind.{Kind}
use Rattle.program_trees.specs.declared.answer.Kind.TheVariants as kinds
use Rattle.program_trees.specs.Claims.{ClaimTree, variable_claim, NotedTree}
use Rattle.program_trees.specs.Programs.{TypedExpr, number as number_expr, variable, unary, binary, read, update, CodeTree, set, give, loop, call, CodeTrees, no_code, code_then, MethodTree, ProgramTree}
use Rattle.program_trees.specs.Variables.{Variable, local, global, entry, result}
use Rattle.run_rules.specs.Values.{Values}
use Rattle.run_rules.specs.Evaluation.{Failure, failing}
use Rattle.run_rules.specs.Runs.{Outcome, ended, going, fails, run}
use Rattle.run_rules.specs.Reach.{leads}

-- ---- how the programs are written

abbrev pub sequence_of_code : List (CodeTree Variable) → CodeTrees Variable
sequence_of_code [] = no_code
sequence_of_code (code ∷ codes) = code_then code (sequence_of_code codes)

-- the number as a claim
abbrev pub claim_number : ℤ → ClaimTree Variable
claim_number z = literal z

abbrev pub noted : ℕ → ClaimTree Variable → NotedTree Variable
noted node claim = record { claim = claim; node = node }

-- An expression whose parts have no nodes of their own that are looked at.
abbrev pub z : ℤ → TypedExpr Variable
z n = number_expr 0 n

abbrev pub v : Variable → TypedExpr Variable
v x = variable 0 x

-- a method of numbers
abbrev pub method_of : ℕ → List ValueType → List ValueType → List (NotedTree Variable) → List (NotedTree Variable) → List (CodeTree Variable)
    → MethodTree Variable
method_of node params locals requires_ ensures_ body = record {
  name = [];
  node = node;
  params = params;
  result = number_type;
  requires_ = requires_;
  modifies = [];
  ensures_ = ensures_;
  locals = locals;
  body = sequence_of_code body;
}

abbrev pub no_globals : ℕ → Value
no_globals n = unit

abbrev pub is_going : Outcome → Bool
is_going (ended values) = false
is_going (going stack values) = true
is_going (fails kind node) = false

-- the result of a run that ended, and a global
abbrev pub answer : Outcome → Option Value
answer (ended values) = Some (values result)
answer (going stack values) = None
answer (fails kind node) = None

abbrev pub global_after : ℕ → Outcome → Option Value
global_after n (ended values) = Some (values (global n))
global_after n (going stack values) = None
global_after n (fails kind node) = None

-- ---- a loop

-- def count(i: Z, n: Z): Z: while (i < n) { Invariant(Modifies(i), i <= 1); i = i + 1 }; return i
abbrev pub count : MethodTree Variable
count = method_of 1 (number_type ∷ number_type ∷ []) (number_type ∷ number_type ∷ []) [] []
    (loop 2 (binary 3 o.Lt (v (local 0)) (v (local 1))) (local 0 ∷ [])
    (noted 4 (binary_tree Binary.Le (variable_claim (local 0)) (claim_number (pos 1))) ∷ [])
    (sequence_of_code (set 5 (local 0) (binary 6 o.Add (v (local 0)) (z (pos 1))) ∷ []))
    ∷ give 7 (v (local 0)) ∷ [])

abbrev pub counting : ProgramTree Variable
counting = record { records = []; globals = []; methods = count ∷ [] }

abbrev pub count_from : ℤ → ℤ → ℕ → Outcome
count_from i n turns = run counting count (number i ∷ number n ∷ []) no_globals turns

-- ---- a recursive call

-- def spin(x: Z): Z: Ensures(F); val y: Z = spin(x); return y
abbrev pub spin : MethodTree Variable
spin = method_of 1 (number_type ∷ []) (number_type ∷ number_type ∷ []) [] (noted 2 (truth_literal false) ∷ [])
    (call 3 (Some (local 1)) 4 0 (v (local 0) ∷ []) ∷ give 5 (v (local 1)) ∷ [])

abbrev pub spinning : ProgramTree Variable
spinning = record { records = []; globals = []; methods = spin ∷ [] }

-- ---- a call that changes a global

-- def add(x: Z): Z: Requires(x >= 0), Modifies(g), Ensures(g == In(g) + x); g = g + x; return g
abbrev pub add : MethodTree Variable
add = method_of 1 (number_type ∷ []) (number_type ∷ [])
    (noted 2 (binary_tree Binary.Le (claim_number (pos 0)) (variable_claim (local 0))) ∷ [])
    (noted 3 (binary_tree Binary.Eq (variable_claim (global 0)) (binary_tree Binary.Add (variable_claim (entry 0)) (variable_claim (local 0)))) ∷ [])
    (set 4 (global 0) (binary 5 o.Add (v (global 0)) (v (local 0))) ∷ give 6 (v (global 0)) ∷ [])

-- def top(x: Z): Z: val y: Z = add(x); return y + In(g), where In stands for what no text may write there
abbrev pub top : MethodTree Variable
top = method_of 7 (number_type ∷ []) (number_type ∷ number_type ∷ []) [] []
    (call 8 (Some (local 1)) 9 0 (v (local 0) ∷ []) ∷ give 10 (binary 11 o.Add (v (local 1)) (v (entry 0))) ∷ [])

abbrev pub adding : ProgramTree Variable
adding = record { records = []; globals = record { fixed = false; type = number_type; initial = z (pos 5) } ∷ []; methods = add ∷ top ∷ [] }

abbrev pub top_of : ℤ → ℕ → Outcome
top_of x turns = run adding top (number x ∷ []) (λ n. number (pos 5)) turns

-- ---- expressions

-- a sequence of the one number 7 as variable 0, and i as variable 1
abbrev pub row_and : ℤ → Values
row_and i (local zero) = sequence number_type (value_then (number (pos 7)) no_values)
row_and i (local (suc n)) = number i
row_and i (global n) = unit
row_and i (entry n) = unit
row_and i result = unit

-- a(i)
abbrev pub element : TypedExpr Variable
element = read 1 (v (local 0)) (v (local 1))

-- i < a.size
abbrev pub below_size : TypedExpr Variable
below_size = binary 2 o.Lt (v (local 1)) (unary 3 Unary.Size (v (local 0)))

-- what stands there is a failure of the first node, and the rest is passed over
abbrev pub fails_at : Kind → ℕ → Option Failure
fails_at kind node = Some (record { kind = kind; node = node })

pub record RunExamples : Type 0 where
  -- five turns: the loop, two tests, the body once, and the return
  pub loop_going : is_going (count_from (pos 0) (pos 1) 4) ≡ true
  pub loop_ended : answer (count_from (pos 0) (pos 1) 5) ≡ Some (number (pos 1))
  pub invariant_fails_first : count_from (pos 2) (pos 3) 1 ≡ fails kinds.InvStart 4
  -- before the turn of the third test
  pub invariant_fails_later : count_from (pos 0) (pos 3) 5 ≡ fails kinds.InvKept 4
  pub invariant_not_yet : is_going (count_from (pos 0) (pos 3) 4) ≡ true
  pub recursion_out_of_turns : is_going (run spinning spin (number (pos 0) ∷ []) no_globals 100) ≡ true
  pub call_ends : answer (top_of (pos 2) 4) ≡ Some (number (pos 12))
  pub global_is_changed : global_after 0 (top_of (pos 2) 4) ≡ Some (number (pos 7))
  pub call_not_yet : is_going (top_of (pos 2) 3) ≡ true
  pub requires_fails_at_call : top_of (negsuc 0) 1 ≡ fails kinds.Requires 9
  pub requires_fails_at_entry : run adding add (number (negsuc 0) ∷ []) no_globals 0 ≡ fails kinds.Requires 1
  pub index_fails : failing [] (row_and (pos 1)) element ≡ fails_at kinds.Index 1
  pub index_in_range : failing [] (row_and (pos 0)) element ≡ None
  -- the right operand is evaluated where the left one is true, where it is false, and always
  pub and_leaves_out : failing [] (row_and (pos 1)) (binary 4 o.CondAnd below_size (binary 5 o.Gt element (z (pos 0)))) ≡ None
  pub or_leaves_not_out : failing [] (row_and (pos 1)) (binary 4 o.CondOr below_size (binary 5 o.Gt element (z (pos 0)))) ≡ fails_at kinds.Index 1
  pub plain_and : failing [] (row_and (pos 1)) (binary 4 o.And below_size (binary 5 o.Gt element (z (pos 0)))) ≡ fails_at kinds.Index 1
  -- the left operand first, and the operands before their operator
  pub left_first : failing [] (row_and (pos 1)) (binary 4 o.Div element (z (pos 0))) ≡ fails_at kinds.Index 1
  pub division_fails : failing [] (row_and (pos 0)) (binary 4 o.Div element (z (pos 0))) ≡ fails_at kinds.Division 4
  pub update_fails_last : failing [] (row_and (pos 1)) (update 6 (v (local 0)) (v (local 1)) (binary 4 o.Rem (z (pos 1)) (z (pos 0))))
      ≡ fails_at kinds.Division 4
  pub top_reaches_add : leads adding 1 (0 ∷ []) 0 ≡ true
  pub add_reaches_not_top : leads adding 0 (1 ∷ []) 1 ≡ false
