-- What is shown of pieces of code, by induction on turns.
use Rattle.std.proofs.Common.{ℕ, ◌≤◌, Bool, List, [], ◌∷◌, ◌++◌, map}
use Rattle.std.specs.List.{AllByRecursion}
use Rattle.std.proofs.lemmas.Bool.{or_left}
use Rattle.slang_values.specs.Value.{truth_type, AreWellFormed}
use Rattle.slang_values.specs.Typing.{FitNames}
use Rattle.program_trees.specs.declared.answer.Kind.TheVariants as kinds
use Rattle.program_trees.specs.Claims.{NotedTree}
use Rattle.program_trees.specs.Programs.{TypedExpr, CodeTree, branch, loop, CodeTrees, code_then, MethodTree, ProgramTree}
use Rattle.program_trees.specs.Variables.{Variable, global, variable_types}
use Rattle.program_trees.specs.Legs.{fresh}
use Rattle.run_rules.specs.Values.{Values}
use Rattle.run_rules.specs.Runs.{method_at, Stack, begin, again}
use Rattle.run_rules.specs.Reach.{calls, calls_of_all}
use Rattle.leg_rules.specs.LegNames.{own}
use Rattle.leg_rules.specs.Legs.{Items, at_node, own_claims, assumed, checked, test_items, on_true_items, on_false_items, in_front, legs_of_code}
use Rattle.leg_soundness.specs.Passing.{LegValues, Passes, leg_types, AllPass, LegsPass}
use Rattle.leg_soundness.specs.Scopes.{Scope, scope_behind, scope_at_end, loop_keeps, AreClaims, IsExpr, AreInOrder, IsInOrderMethod}
use Rattle.leg_soundness.proofs.Demands.{all_left, all_right}
use Rattle.leg_soundness.proofs.Items.{IsSome}
use Rattle.leg_soundness.proofs.Ready.{Keeps, within_behind, AllTrue, Safe, KeepsVals, HasGlobals, Ready}

-- `Good` are the methods whose legs pass.
module _ (program : ProgramTree Variable) (formed : AreWellFormed program.records) (Good : ℕ → Type 0) (method : MethodTree Variable) where
  -- Code in order that calls good methods, where `val`s are kept and the globals are in scope.
  pub record IsFine (keeps : Variable → Bool) (scope : Scope) (code : CodeTrees Variable) : Type 0 where
    pub order : AreInOrder program method keeps scope code
    pub vals : KeepsVals program keeps
    pub globals : HasGlobals program scope
    pub called : AllByRecursion Good (calls_of_all code)

  pub fine_rest : (keeps : Variable → Bool) (scope : Scope) (statement : CodeTree Variable) (code : CodeTrees Variable)
      → IsFine keeps scope (code_then statement code) → IsFine keeps (scope_behind statement scope) code
  fine_rest keeps scope statement code fine = record {
    order = fine.order.1;
    vals = fine.vals;
    globals = λ n lt. within_behind statement scope (global n) (fine.globals n lt);
    called = all_right Good (calls statement) (calls_of_all code) fine.called;
  }

  pub fine_branches : (keeps : Variable → Bool) (scope : Scope) (node : ℕ) (test : TypedExpr Variable) (on_true on_false code : CodeTrees Variable)
      → IsFine keeps scope (code_then (branch node test on_true on_false) code) → IsFine keeps scope on_true × IsFine keeps scope on_false
  fine_branches keeps scope node test on_true on_false code fine =
      let called = all_left Good (calls_of_all on_true ++ calls_of_all on_false) (calls_of_all code) fine.called in (
        record {
          order = fine.order.0.1;
          vals = fine.vals;
          globals = fine.globals;
          called = all_left Good (calls_of_all on_true) (calls_of_all on_false) called;
        },
        record {
          order = fine.order.0.2;
          vals = fine.vals;
          globals = fine.globals;
          called = all_right Good (calls_of_all on_true) (calls_of_all on_false) called;
        },
      )

  -- a loop in order, whose body is fine
  abbrev pub IsFineLoop : (Variable → Bool) → Scope → TypedExpr Variable → List Variable → List (NotedTree Variable) → CodeTrees Variable → Type 0
  IsFineLoop keeps scope test modifies invariants body =
      IsExpr program method scope truth_type test × AreClaims program method scope invariants × IsFine (loop_keeps keeps scope modifies) scope body

  pub fine_loop : (keeps : Variable → Bool) (scope : Scope) (node : ℕ) (test : TypedExpr Variable) (modifies : List Variable)
      (invariants : List (NotedTree Variable)) (body code : CodeTrees Variable)
      → IsFine keeps scope (code_then (loop node test modifies invariants body) code) → IsFineLoop keeps scope test modifies invariants body
  fine_loop keeps scope node test modifies invariants body code fine = (
    fine.order.0.0,
    fine.order.0.1,
    record {
      order = fine.order.0.2;
      vals = λ n d lt fixed. or_left (keeps (global n)) _ (fine.vals n d lt fixed);
      globals = fine.globals;
      called = all_left Good (calls_of_all body) (calls_of_all code) fine.called;
    },
  )

  -- ---- what is to be shown

  abbrev pub RestSafe : ℕ → (Variable → Bool) → Scope → Values → List Items → Stack → Type 0
  RestSafe n keeps scope before following rest =
      (m : ℕ) → m ≤ n → (s : LegValues) (values : Values) → Ready program method formed scope s values → Keeps keeps before values
      → AllPass program method following s → Safe program m rest values

  -- whatever comes behind a piece of code, if that is safe, so is the code in front of it
  abbrev pub CodeSafe : ℕ → Type 0
  CodeSafe n =
      (keeps : Variable → Bool) (scope : Scope) (code : CodeTrees Variable) (rest : Stack) (following : List Items) (s : LegValues) (values : Values)
      → IsFine keeps scope code → IsSome following → Ready program method formed scope s values
      → AllPass program method (legs_of_code program code following) s
      → RestSafe n keeps (scope_at_end code scope) values following rest → Safe program n (begin code rest) values

  abbrev pub kept_end : List (NotedTree Variable) → List Items
  kept_end invariants = checked kinds.InvKept (own_claims invariants) ∷ []

  abbrev pub beyond_loop : ℕ → TypedExpr Variable → List (NotedTree Variable) → CodeTrees Variable → List Items → List Items
  beyond_loop node test invariants body following =
      in_front (on_true_items node test) (legs_of_code program body (kept_end invariants)) ++ in_front (on_false_items node test) following

  -- the legs pass from where the loop's variables are made fresh
  abbrev pub LoopPasses : ℕ → TypedExpr Variable → List Variable → List (NotedTree Variable) → CodeTrees Variable → List Items → LegValues → Type 0
  LoopPasses node test modifies invariants body following s =
      Passes program.records (leg_types program method) (at_node node (fresh (map own modifies)) ∷ (assumed (own_claims invariants) ++ test_items test))
      (AllPass program method (beyond_loop node test invariants body following)) s

  abbrev pub LoopSafe : ℕ → Type 0
  LoopSafe n =
      (keeps : Variable → Bool) (scope : Scope) (node : ℕ) (test : TypedExpr Variable) (modifies : List Variable) (invariants : List
      (NotedTree Variable)) (body : CodeTrees Variable)
      (rest : Stack) (following : List Items) (s : LegValues) (before : Values)
      → IsFineLoop keeps scope test modifies invariants body → IsSome following → Ready program method formed scope s before
      → LoopPasses node test modifies invariants body following s → RestSafe n keeps scope before following rest
      → (first : Bool) (values : Values) → FitNames program.records (variable_types program method) values → Keeps
      (loop_keeps keeps scope modifies) before values
      → AllTrue program values invariants → Safe program n (again first (record { test = test; invariants = invariants; body = body }) rest) values

  pub record Both (n : ℕ) : Type 0 where
    pub code : CodeSafe n
    pub loop : LoopSafe n

-- A good method is in order, its legs pass, and it calls good methods.
pub record IsGood (program : ProgramTree Variable) (Good : ℕ → Type 0) (number : ℕ) : Type 0 where
  pub order : IsInOrderMethod program (method_at program number)
  pub pass : LegsPass program (method_at program number)
  pub called : AllByRecursion Good (calls_of_all (method_at program number).body)
