-- The definition of legs, tried on small methods: each statement is computed.
use Rattle.std.specs.Prelude.{◌≡◌, ℕ, ℤ, pos, true, false, List, [], ◌∷◌, Some}
use Rattle.slang_values.specs.Value.{ValueType, unit_type, number_type, truth_type}
use Rattle.slang_values.specs.Tree.{Tree, literal, unary as unary_tree, binary as binary_tree}
use Rattle.slang_values.specs.declared.operators.Unary.{Unary}
use Rattle.slang_values.specs.declared.operators.Binary.{Binary}
use Rattle.slang_tree.specs.declared.expression.Operator.TheVariants as o
use Rattle.program_trees.specs.declared.answer.Kind.TheVariants as kinds
use Rattle.program_trees.specs.Claims.{ClaimTree, variable_claim, NotedTree}
use Rattle.program_trees.specs.Programs.{TypedExpr, number, variable, binary, CodeTree, set as set_code, give, branch, loop, call, CodeTrees, no_code, code_then, MethodTree, GlobalTree, ProgramTree}
use Rattle.program_trees.specs.Variables.{Variable, local, global, entry, result}
use Rattle.program_trees.specs.Legs.{assume, check, set, fresh}
use Rattle.leg_rules.specs.LegNames.{LegName, own, of_call}
use Rattle.leg_rules.specs.Legs.{Items, at_node, legs, leg_count}

-- ---- how they are written

abbrev pub code_of : List (CodeTree Variable) → CodeTrees Variable
code_of [] = no_code
code_of (code ∷ codes) = code_then code (code_of codes)

abbrev pub noted : ℕ → ClaimTree Variable → NotedTree Variable
noted node claim = record { claim = claim; node = node }

abbrev pub method_of : ValueType → List ValueType → List ℕ → List (NotedTree Variable) → List (NotedTree Variable) → List (CodeTree Variable)
    → MethodTree Variable
method_of type locals modifies requires_ ensures_ body = record {
  name = [];
  node = 99;
  params = [];
  result = type;
  requires_ = requires_;
  modifies = modifies;
  ensures_ = ensures_;
  locals = locals;
  body = code_of body;
}

abbrev pub z : ℤ → TypedExpr Variable
z n = number 0 n

abbrev pub v : Variable → TypedExpr Variable
v x = variable 0 x

abbrev pub le : {A : Type 0} → Tree A → Tree A → Tree A
le a b = binary_tree Binary.Le a b

abbrev pub lt : {A : Type 0} → Tree A → Tree A → Tree A
lt a b = binary_tree Binary.Lt a b

abbrev pub eq : {A : Type 0} → Tree A → Tree A → Tree A
eq a b = binary_tree Binary.Eq a b

abbrev pub no : {A : Type 0} → Tree A → Tree A
no a = unary_tree Unary.Not a

abbrev pub num : {A : Type 0} → ℤ → Tree A
num n = literal n

-- a variable of a contract, and one of a leg
abbrev pub c : Variable → ClaimTree Variable
c x = variable_claim x

abbrev pub l : LegName → ClaimTree LegName
l x = variable_claim x

-- ---- an `if` in a `while`

abbrev pub i : Variable
i = local 0

abbrev pub n : Variable
n = local 1

-- while (i < n) { Invariant(Modifies(i), i <= n); if (i == 0) { i = 1 } }, with Ensures(0 <= n)
abbrev pub looping : MethodTree Variable
looping = method_of unit_type (number_type ∷ number_type ∷ []) [] [] (noted 1 (le (num (pos 0)) (c n)) ∷ [])
    (loop 2 (binary 3 o.Lt (v i) (v n)) (i ∷ []) (noted 4 (le (c i) (c n)) ∷ [])
    (code_of (branch 5 (binary 6 o.Eq (v i) (z (pos 0))) (code_of (set_code 7 i (z (pos 1)) ∷ [])) no_code ∷ [])) ∷ [])

-- what each leg begins with
abbrev pub past_start : Items → Items
past_start items =
    at_node 4 (check kinds.InvStart (le (l (own i)) (l (own n)))) ∷ at_node 2 (fresh (own i ∷ [])) ∷ at_node 4 (assume (le (l (own i)) (l (own n)))) ∷ items

abbrev pub kept : Items
kept = at_node 4 (check kinds.InvKept (le (l (own i)) (l (own n)))) ∷ []

abbrev pub below : Items → Items
below items = at_node 2 (assume (lt (l (own i)) (l (own n)))) ∷ items

-- ---- calls and globals

-- val k: Z = 3; var g: Z = 0; var h: Z = 0
abbrev pub globals : List (GlobalTree Variable)
globals =
    record { fixed = true; type = number_type; initial = z (pos 3) } ∷ record { fixed = false; type = number_type; initial = z (pos 0) }
    ∷ record { fixed = false; type = number_type; initial = z (pos 0) } ∷ []

-- def bump(x: Z): Z, with Requires(x <= k), Modifies(g), Ensures(g == In(g), Res == x)
abbrev pub bump : MethodTree Variable
bump = method_of number_type (number_type ∷ []) (1 ∷ []) (noted 11 (le (c (local 0)) (c (global 0))) ∷ [])
    (noted 12 (eq (c (global 1)) (c (entry 1))) ∷ noted 13 (eq (c result) (c (local 0))) ∷ []) []

-- def use(y: Z): Z, with Requires(0 <= y), Modifies(g), Ensures(In(g) == g): y = bump(y / 2); return y
abbrev pub use_bump : MethodTree Variable
use_bump = method_of number_type (number_type ∷ []) (1 ∷ []) (noted 20 (le (num (pos 0)) (c (local 0))) ∷ []) (noted 21 (eq (c (entry 1)) (c (global 1))) ∷ [])
    (call 22 (Some (local 0)) 23 0 (binary 24 o.Div (v (local 0)) (z (pos 2)) ∷ []) ∷ give 25 (v (local 0)) ∷ [])

abbrev pub half : ClaimTree LegName
half = binary_tree Binary.Div (l (own (local 0))) (num (pos 2))

-- ---- nine branches

-- if (b) { }
abbrev pub empty_branch : CodeTree Variable
empty_branch = branch 1 (v (local 0)) no_code no_code

abbrev pub nine : MethodTree Variable
nine = method_of unit_type (truth_type ∷ []) [] [] []
    (empty_branch ∷ empty_branch ∷ empty_branch ∷ empty_branch ∷ empty_branch ∷ empty_branch ∷ empty_branch ∷ empty_branch ∷ empty_branch ∷ [])

abbrev pub program_of : List (MethodTree Variable) → ProgramTree Variable
program_of methods = record { records = []; globals = globals; methods = methods }

pub record LegExamples : Type 0 where
  -- First the legs through the body, the one of a true test before that of a false one, and then the leg behind the loop.
  pub branch_in_loop : legs (program_of []) looping ≡
      past_start (below (at_node 5 (assume (eq (l (own i)) (num (pos 0)))) ∷ at_node 7 (set (own i) (num (pos 1))) ∷ kept))
      ∷ past_start (below (at_node 5 (assume (no (eq (l (own i)) (num (pos 0))))) ∷ kept))
      ∷ past_start (at_node 2 (assume (no (lt (l (own i)) (l (own n))))) ∷ at_node 1 (check kinds.Ensures (le (num (pos 0)) (l (own n)))) ∷ [])
      ∷ []
  -- The `val` k stands in front, since the Requires of the call names it. The other globals stand there only where entry values are named.
  pub call_and_globals : legs (program_of (bump ∷ [])) use_bump ≡
      (at_node 99 (set (own (global 0)) (num (pos 3)))
      ∷ at_node 99 (set (own (entry 1)) (l (own (global 1))))
      ∷ at_node 20 (assume (le (num (pos 0)) (l (own (local 0)))))
      ∷ at_node 24 (check kinds.Division (no (eq (num (pos 2)) (num (pos 0)))))
      ∷ at_node 22 (set (of_call 22 0 (local 0)) half)
      ∷ at_node 23 (check kinds.Requires (le (l (of_call 22 0 (local 0))) (l (own (global 0)))))
      ∷ at_node 22 (set (of_call 22 0 (entry 1)) (l (own (global 1))))
      ∷ at_node 22 (fresh (own (global 1) ∷ of_call 22 0 result ∷ []))
      ∷ at_node 12 (assume (eq (l (own (global 1))) (l (of_call 22 0 (entry 1)))))
      ∷ at_node 13 (assume (eq (l (of_call 22 0 result)) (l (of_call 22 0 (local 0)))))
      ∷ at_node 22 (set (own (local 0)) (l (of_call 22 0 result)))
      ∷ at_node 25 (set (own result) (l (own (local 0))))
      ∷ at_node 21 (check kinds.Ensures (eq (l (own (entry 1))) (l (own (global 1)))))
      ∷ []) ∷ []
  pub nine_branches : leg_count nine ≡ 512
