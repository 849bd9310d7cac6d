-- The legs of a method: the straight paths through it, each with all that it assumes, sets and checks.
use Rattle.std.specs.Prelude.{ℕ, ◌+◌, suc, ◌&&◌, List, [], ◌∷◌, ◌++◌, map, length, if◌then◌else◌, Option, Some, None}
use Rattle.std.specs.List.{flat_map, range_with_len}
use Rattle.slang_values.specs.Value.{ValueType, unit_type, number_type, truth_type, sequence_type, record_type}
use Rattle.slang_values.specs.Tree.{unary as unary_tree}
use Rattle.slang_values.specs.declared.operators.Unary.{Unary}
use Rattle.program_trees.specs.declared.answer.Kind.{Kind}
use Rattle.program_trees.specs.declared.answer.Kind.TheVariants as kinds
use Rattle.program_trees.specs.Claims.{ClaimTree, variable_claim, NotedTree, ProofStepTrees, renamed_claim, renamed_noted, renamed_steps}
use Rattle.program_trees.specs.Programs.{TypedExpr, claim_of, CodeTree, set as set_code, give, assert, deduce, branch, loop, call, CodeTrees, no_code, code_then, MethodTree, GlobalTree, ProgramTree}
use Rattle.program_trees.specs.Variables.{Variable, local, global, entry, result, same_variable}
use Rattle.program_trees.specs.Legs.{ItemTree, assume, check, set, fresh, proof, NotedItem}
use Rattle.run_rules.specs.Runs.{method_at}
use Rattle.leg_rules.specs.LegNames.{LegName, own, of_call, same_name, callee_name}
use Rattle.leg_rules.specs.Mentions.{some_mention, leg_mentions}
use Rattle.leg_rules.specs.Checks.{Demand, demands, argument_demands}

-- the items of a leg, each with its node
abbrev pub Items : Type 0
Items = List (NotedItem LegName)

abbrev pub at_node : ℕ → ItemTree LegName → NotedItem LegName
at_node node item = record { item = item; node = node }

-- a claim over the variables of the method itself
abbrev pub own_claim : ClaimTree Variable → ClaimTree LegName
own_claim claim = renamed_claim own claim

-- The node beside an assumption, or a check, is that of its claim.
abbrev pub assumed : List (NotedTree LegName) → Items
assumed claims = map (λ noted. at_node noted.node (assume noted.claim)) claims

abbrev pub checked : Kind → List (NotedTree LegName) → Items
checked kind claims = map (λ noted. at_node noted.node (check kind noted.claim)) claims

abbrev pub own_claims : List (NotedTree Variable) → List (NotedTree LegName)
own_claims claims = map (renamed_noted own) claims

abbrev pub demanded : List (Demand Variable) → Items
demanded ds = map (λ d. at_node d.node (check d.kind (own_claim d.claim))) ds

-- ---- what stands in front of the legs of what follows a statement

abbrev pub set_items : ℕ → Variable → TypedExpr Variable → Items
set_items node target value = demanded (demands value) ++ at_node node (set (own target) (own_claim (claim_of value))) ∷ []

abbrev pub assert_items : NotedTree Variable → Items
assert_items noted = checked kinds.Assert (own_claims (noted ∷ []))

abbrev pub deduce_items : ℕ → ProofStepTrees Variable → Items
deduce_items node steps = at_node node (proof (renamed_steps own steps)) ∷ []

abbrev pub test_items : TypedExpr Variable → Items
test_items test = demanded (demands test)

-- the test is true, or it is false
abbrev pub on_true_items : ℕ → TypedExpr Variable → Items
on_true_items node test = at_node node (assume (own_claim (claim_of test))) ∷ []

abbrev pub on_false_items : ℕ → TypedExpr Variable → Items
on_false_items node test = at_node node (assume (unary_tree Unary.Not (own_claim (claim_of test)))) ∷ []

-- A loop is cut at its invariant: what it modifies has any values that meet it.
abbrev pub loop_items : ℕ → TypedExpr Variable → List Variable → List (NotedTree Variable) → Items
loop_items node test modifies invariants =
    checked kinds.InvStart (own_claims invariants) ++ (at_node node (fresh (map own modifies)) ∷ (assumed (own_claims invariants) ++ test_items test))

-- ---- calls

-- the parameters, from that place on, have the values of the arguments
abbrev pub parameter_items : (node method place : ℕ) → List (TypedExpr Variable) → Items
parameter_items node method place [] = []
parameter_items node method place (argument ∷ arguments) =
    at_node node (set (of_call node method (local place)) (own_claim (claim_of argument))) ∷ parameter_items node method (suc place) arguments

-- The Requires of a call are told of at the called name.
abbrev pub requires_items : (node method name_node : ℕ) → List (NotedTree Variable) → Items
requires_items node method name_node claims =
    map (λ noted. at_node name_node (check kinds.Requires (renamed_claim (callee_name node method) noted.claim))) claims

-- the globals whose entry values the claims name, in the order of declaration
abbrev pub entries_named : ProgramTree Variable → List (NotedTree Variable) → List ℕ
entries_named program claims = flat_map (λ g. if some_mention (same_variable (entry g)) claims then g ∷ [] else []) (range_with_len 0 (length program.globals))

-- each entry value is what its global is now
abbrev pub entry_items : ℕ → (ℕ → LegName) → List ℕ → Items
entry_items node entry_name globals = map (λ g. at_node node (set (entry_name g) (variable_claim (own (global g))))) globals

-- a method of type `Unit` has no result
abbrev pub result_names : (node method : ℕ) → ValueType → List LegName
result_names node method unit_type = []
result_names node method number_type = of_call node method result ∷ []
result_names node method truth_type = of_call node method result ∷ []
result_names node method (sequence_type t) = of_call node method result ∷ []
result_names node method (record_type n) = of_call node method result ∷ []

-- what the called method changes, and then its result, have any values that meet its Ensures
abbrev pub ensures_items : ProgramTree Variable → (node method : ℕ) → Items
ensures_items program node method =
    at_node node (fresh (map (λ g. own (global g)) (method_at program method).modifies ++ result_names node method (method_at program method).result))
    ∷ assumed (map (renamed_noted (callee_name node method)) (method_at program method).ensures_)

abbrev pub target_items : (node method : ℕ) → Option Variable → Items
target_items node method None = []
target_items node method (Some target) = at_node node (set (own target) (variable_claim (of_call node method result))) ∷ []

abbrev pub call_items : ProgramTree Variable → ℕ → Option Variable → (name_node method : ℕ) → List (TypedExpr Variable) → Items
call_items program node target name_node method arguments =
    demanded (argument_demands arguments)
    ++ (parameter_items node method 0 arguments
    ++ (requires_items node method name_node (method_at program method).requires_
    ++ (entry_items node (λ g. of_call node method (entry g)) (entries_named program (method_at program method).ensures_)
    ++ (ensures_items program node method
    ++ target_items node method target))))

-- ---- the legs of statements

-- these items in front of each leg
abbrev pub in_front : Items → List Items → List Items
in_front items legs = map (λ leg. items ++ leg) legs

abbrev mutual
  -- the legs of a statement, before the legs of what follows it
  pub legs_of : ProgramTree Variable → CodeTree Variable → List Items → List Items
  legs_of program (set_code node target value) following = in_front (set_items node target value) following
  legs_of program (give node value) following = in_front (set_items node result value) following
  legs_of program (assert noted) following = in_front (assert_items noted) following
  legs_of program (deduce node steps) following = in_front (deduce_items node steps) following
  legs_of program (branch node test on_true on_false) following =
      in_front (test_items test)
      (in_front (on_true_items node test) (legs_of_code program on_true following) ++ in_front (on_false_items node test)
      (legs_of_code program on_false following))
  -- The body's legs end with its invariants, and the loop's others go on behind it.
  legs_of program (loop node test modifies invariants body) following =
      in_front (loop_items node test modifies invariants)
      (in_front (on_true_items node test) (legs_of_code program body (checked kinds.InvKept (own_claims invariants) ∷ [])) ++ in_front
      (on_false_items node test) following)
  legs_of program (call node target name_node number arguments) following =
      in_front (call_items program node target name_node number arguments) following

  pub legs_of_code : ProgramTree Variable → CodeTrees Variable → List Items → List Items
  legs_of_code program no_code following = following
  legs_of_code program (code_then statement code) following = legs_of program statement (legs_of_code program code following)

-- ---- the legs of a method

-- each global `val` that the items mention has its initial value, in the order of declaration
abbrev pub fixed_items : ProgramTree Variable → MethodTree Variable → Items → ℕ → List (GlobalTree Variable) → Items
fixed_items program method items number [] = []
fixed_items program method items number (g ∷ globals) =
    (if g.fixed && leg_mentions (same_name (own (global number))) items
    then at_node method.node (set (own (global number)) (own_claim (claim_of g.initial))) ∷ [] else [])
    ++ fixed_items program method items (suc number) globals

-- before the body: the entry values that the Ensures name, and the Requires
abbrev pub entry_and_requires : ProgramTree Variable → MethodTree Variable → Items
entry_and_requires program method =
    entry_items method.node (λ g. own (entry g)) (entries_named program method.ensures_) ++ assumed (own_claims method.requires_)

abbrev pub with_fixed : ProgramTree Variable → MethodTree Variable → Items → Items
with_fixed program method items = fixed_items program method items 0 program.globals ++ items

abbrev pub ensures_at_end : MethodTree Variable → Items
ensures_at_end method = checked kinds.Ensures (own_claims method.ensures_)

-- Each leg begins with the global `val`s that it mentions, the entry values and the Requires. One that reaches the end of the method checks the Ensures.
abbrev pub legs : ProgramTree Variable → MethodTree Variable → List Items
legs program method =
    map (λ leg. with_fixed program method (entry_and_requires program method ++ leg)) (legs_of_code program method.body (ensures_at_end method ∷ []))

-- ---- how many

abbrev mutual
  -- how many legs a statement has, before that many of what follows it
  pub leg_count_of : {A : Type 0} → CodeTree A → ℕ → ℕ
  leg_count_of (set_code node target value) following = following
  leg_count_of (give node value) following = following
  leg_count_of (assert noted) following = following
  leg_count_of (deduce node steps) following = following
  leg_count_of (branch node test on_true on_false) following = leg_count_of_code on_true following + leg_count_of_code on_false following
  leg_count_of (loop node test modifies invariants body) following = leg_count_of_code body 1 + following
  leg_count_of (call node target name_node method arguments) following = following

  pub leg_count_of_code : {A : Type 0} → CodeTrees A → ℕ → ℕ
  leg_count_of_code no_code following = following
  leg_count_of_code (code_then statement code) following = leg_count_of statement (leg_count_of_code code following)

abbrev pub leg_count : {A : Type 0} → MethodTree A → ℕ
leg_count method = leg_count_of_code method.body 1
