-- The items that expressions, contracts and calls give are fit.
use Rattle.std.proofs.Common.{◌≡◌, ℕ, zero, suc, ◌+◌, ◌*◌, ◌≤◌, Bool, true, false, cond, List, [], ◌∷◌, ◌++◌, map, Option, Some, None, refl, arith}
use Rattle.std.specs.Prelude.{◌&&◌}
use Rattle.std.specs.List.{AllByRecursion}
use Rattle.numbering_laws.proofs.Places.{all_append}
use Rattle.slang_values.specs.Value.{ValueType}
use Rattle.slang_values.specs.Measure.{height}
use Rattle.program_trees.specs.declared.answer.Kind.{Kind}
use Rattle.program_trees.specs.Claims.{ClaimTree, variable_claim, NotedTree, ProofStepTree, line, block, ProofStepTrees, no_steps, step_then, renamed_name, renamed_noted}
use Rattle.program_trees.specs.Programs.{TypedExpr, claim_of, MethodTree, GlobalTree, ProgramTree}
use Rattle.program_trees.specs.Variables.{Variable, entry, global, result}
use Rattle.program_trees.specs.Legs.{set}
use Rattle.run_rules.specs.Runs.{no_method, method_at}
use Rattle.leg_forms.specs.WellFormed.{is_checked}
use Rattle.leg_rules.specs.LegNames.{LegName, own, of_call, same_name, callee_name}
use Rattle.leg_rules.specs.Mentions.{leg_mentions}
use Rattle.leg_rules.specs.Checks.{Demand, demands, argument_demands}
use Rattle.leg_rules.specs.Legs.{Items, at_node, own_claim, assumed, checked, demanded, set_items, test_items, on_true_items, on_false_items, parameter_items, requires_items, entry_items, entries_named, ensures_items, target_items, call_items, fixed_items}
use Rattle.typed_programs.specs.Parts.{expr_height}
use Rattle.typed_programs.specs.Scopes.{Scope, IsClaimOver, IsNotedIn, IsValueIn, AreValuesIn, IsStepIn, AreStepsIn}
use Rattle.typed_programs.specs.WellTyped.{nothing_named, scope_before, scope_behind, IsTypedMethod, IsTypedGlobal}
use Rattle.slang_values.specs.Typing.{NameTypes}
use Rattle.well_formed_legs.specs.Fit.{IsFitClaim, IsFitStep, AreFitSteps, IsFitItem, AreFit}
use Rattle.well_formed_legs.proofs.Expressions.{claim_low, demands_fit, AreFitDemands, demands_append, wider}
use Rattle.well_formed_legs.proofs.Items.{fit_renamed, same_height}

pub fit_append : (items more : Items) → AreFit items → AreFit more → AreFit (items ++ more)
fit_append items more h k = all_append (λ noted. IsFitItem noted.item) items more h k

-- ---- claims of contracts, invariants and assertions

module _ (scope : Scope) where
  claim_fit : (names : NameTypes _) (claim : ClaimTree Variable) → IsClaimOver scope names claim → IsFitClaim claim
  claim_fit names claim h = record { elements = h.elements; low = h.low }

  pub assumed_fit : (f : Variable → LegName) (claims : List (NotedTree Variable)) → AllByRecursion (IsNotedIn scope) claims →
      AreFit (assumed (map (renamed_noted f) claims))
  assumed_fit f [] h = tt
  assumed_fit f (noted ∷ claims) h = (fit_renamed f noted.claim (claim_fit _ noted.claim h.0.claim), assumed_fit f claims h.1)

  pub checked_fit : (kind : Kind) → is_checked kind ≡ true → (claims : List (NotedTree Variable)) → AllByRecursion (IsNotedIn scope) claims →
      AreFit (checked kind (map (renamed_noted own) claims))
  checked_fit kind is [] h = tt
  checked_fit kind is (noted ∷ claims) h = ((is, fit_renamed own noted.claim (claim_fit _ noted.claim h.0.claim)), checked_fit kind is claims h.1)

  pub requires_fit : (node number name_node : ℕ) (claims : List (NotedTree Variable)) → AllByRecursion (IsNotedIn scope) claims →
      AreFit (requires_items node number name_node claims)
  requires_fit node number name_node [] h = tt
  requires_fit node number name_node (noted ∷ claims) h =
      ((refl, fit_renamed (callee_name node number) noted.claim (claim_fit _ noted.claim h.0.claim)), requires_fit node number name_node claims h.1)

  -- ---- steps of proofs

  mutual
    step_fit : (step : ProofStepTree Variable) (depth : ℕ) (lets : ℕ → Bool) → IsStepIn scope depth lets step → IsFitStep depth step
    step_fit (line label claim rule cites) zero lets h = (claim_fit _ claim h.0, h.1)
    step_fit (line label claim rule cites) (suc depth) lets h = (claim_fit _ claim h.0, h.1)
    step_fit (block label has_symbol assumed given steps) zero lets h = (claim_fit _ given h.0, h.1)
    step_fit (block label has_symbol assumed given steps) (suc depth) lets h = (claim_fit _ given h.0, steps_fit steps depth _ h.1)

    pub steps_fit : (steps : ProofStepTrees Variable) (depth : ℕ) (lets : ℕ → Bool) → AreStepsIn scope depth lets steps → AreFitSteps depth steps
    steps_fit no_steps depth lets h = tt
    steps_fit (step_then step steps) depth lets h = (step_fit step depth lets h.0, steps_fit steps depth lets h.1)

  -- ---- expressions

  twice_low : (e : TypedExpr Variable) → expr_height e ≤ 1000 → 2 * expr_height e ≤ 2000
  twice_low e h = omega (arith, h)

  pub value_demands : (t : ValueType) (e : TypedExpr Variable) → IsValueIn scope t e → AreFitDemands 2000 (demands e)
  value_demands t e h = wider (2 * expr_height e) 2000 (twice_low e h.low) (demands e) (demands_fit e h.elements)

  pub demanded_fit : (ds : List (Demand Variable)) → AreFitDemands 2000 ds → AreFit (demanded ds)
  demanded_fit [] h = tt
  demanded_fit (d ∷ ds) h =
      ((h.0.checked, fit_renamed own d.claim (record { elements = h.0.elements; low = h.0.low })), demanded_fit ds h.1)

  value_fit : (t : ValueType) (e : TypedExpr Variable) → IsValueIn scope t e → IsFitClaim (claim_of e)
  value_fit t e h = record { elements = h.elements; low = omega (arith, claim_low e, h.low) }

  pub own_value : (t : ValueType) (e : TypedExpr Variable) → IsValueIn scope t e → IsFitClaim (own_claim (claim_of e))
  own_value t e h = fit_renamed own (claim_of e) (value_fit t e h)

  pub test_fit : (t : ValueType) (e : TypedExpr Variable) → IsValueIn scope t e → AreFit (test_items e)
  test_fit t e h = demanded_fit (demands e) (value_demands t e h)

  pub set_fit : (node : ℕ) (x : Variable) (t : ValueType) (e : TypedExpr Variable) → IsValueIn scope t e → AreFit (set_items node x e)
  set_fit node x t e h = fit_append (demanded (demands e)) (at_node node (set (own x) (own_claim (claim_of e))) ∷ []) (test_fit t e h) (own_value t e h, tt)

  pub on_true_fit : (node : ℕ) (t : ValueType) (e : TypedExpr Variable) → IsValueIn scope t e → AreFit (on_true_items node e)
  on_true_fit node t e h = (own_value t e h, tt)

  not_value : (t : ValueType) (e : TypedExpr Variable) → IsValueIn scope t e → height (own_claim (claim_of e)) + 1 ≤ 2000
  not_value t e h = omega (arith, claim_low e, h.low, same_height (renamed_name own) (claim_of e))

  pub on_false_fit : (node : ℕ) (t : ValueType) (e : TypedExpr Variable) → IsValueIn scope t e → AreFit (on_false_items node e)
  on_false_fit node t e h = (record { elements = (own_value t e h).elements; low = not_value t e h }, tt)

  arguments_fit : (ts : List ValueType) (arguments : List (TypedExpr Variable)) → AreValuesIn scope ts arguments →
      AreFitDemands 2000 (argument_demands arguments)
  arguments_fit [] [] h = tt
  arguments_fit [] (a ∷ arguments) h = absurd h
  arguments_fit (t ∷ ts) [] h = absurd h
  arguments_fit (t ∷ ts) (a ∷ arguments) h = demands_append 2000 (demands a) (argument_demands arguments) (value_demands t a h.0)
      (arguments_fit ts arguments h.1)

  parameters_fit : (node number place : ℕ) (ts : List ValueType) (arguments : List (TypedExpr Variable)) → AreValuesIn scope ts arguments →
      AreFit (parameter_items node number place arguments)
  parameters_fit node number place [] [] h = tt
  parameters_fit node number place [] (a ∷ arguments) h = absurd h
  parameters_fit node number place (t ∷ ts) [] h = absurd h
  parameters_fit node number place (t ∷ ts) (a ∷ arguments) h = (own_value t a h.0, parameters_fit node number (suc place) ts arguments h.1)

-- ---- variables alone

variable_fit : (x : LegName) → IsFitClaim (variable_claim x)
variable_fit x = record { elements = refl; low = omega arith }

pub entries_fit : (node : ℕ) (entry_name : ℕ → LegName) (gs : List ℕ) → AreFit (entry_items node entry_name gs)
entries_fit node entry_name [] = tt
entries_fit node entry_name (g ∷ gs) = (variable_fit (own (global g)), entries_fit node entry_name gs)

target_fit : (node number : ℕ) (target : Option Variable) → AreFit (target_items node number target)
target_fit node number None = tt
target_fit node number (Some x) = (variable_fit (of_call node number result), tt)

module _ (program : ProgramTree Variable) (nodes : ℕ) where
  -- ---- globals that are `val`s

  fixed_set : (b : Bool) (node number : ℕ) (g : GlobalTree Variable) → IsTypedGlobal program nodes g →
      AreFit (cond b (at_node node (set (own (global number)) (own_claim (claim_of g.initial))) ∷ []) [])
  fixed_set true node number g h = (
    own_value
        (record { program = program; method = no_method; named = nothing_named; nodes = nodes }) g.type g.initial h.initial,
    tt,
  )
  fixed_set false node number g h = tt

  pub fixed_fit : (method : MethodTree Variable) (items : Items) (number : ℕ) (globals : List (GlobalTree Variable)) →
      AllByRecursion (IsTypedGlobal program nodes) globals →
      AreFit (fixed_items program method items number globals)
  fixed_fit method items number [] h = tt
  fixed_fit method items number (g ∷ globals) h =
      let mentioned = g.fixed && leg_mentions (same_name (own (global number))) items in
      fit_append (cond mentioned (at_node method.node (set (own (global number)) (own_claim (claim_of g.initial))) ∷ []) [])
      (fixed_items program method items (suc number) globals) (fixed_set mentioned method.node number g h.0) (fixed_fit method items (suc number) globals h.1)

  -- ---- calls

  pub call_fit : (scope : Scope) (node number : ℕ) → IsTypedMethod program nodes (method_at program number) → (name_node : ℕ) (target : Option Variable) →
      (ts : List ValueType) (arguments : List (TypedExpr Variable)) → AreValuesIn scope ts arguments →
      AreFit (call_items program node target name_node number arguments)
  call_fit scope node number callee name_node target ts arguments h =
      fit_append (demanded (argument_demands arguments)) _ (demanded_fit scope (argument_demands arguments) (arguments_fit scope ts arguments h))
      (fit_append (parameter_items node number 0 arguments) _ (parameters_fit scope node number 0 ts arguments h)
      (fit_append (requires_items node number name_node (method_at program number).requires_) _
      (requires_fit (scope_before program nodes (method_at program number)) node number name_node (method_at program number).requires_ callee.requires_)
      (fit_append (entry_items node (λ g. of_call node number (entry g)) (entries_named program (method_at program number).ensures_)) _
      (entries_fit node (λ g. of_call node number (entry g)) (entries_named program (method_at program number).ensures_))
      (fit_append (ensures_items program node number) _
      (tt, assumed_fit (scope_behind program nodes (method_at program number)) (callee_name node number) (method_at program number).ensures_ callee.ensures_)
      (target_fit node number target)))))
