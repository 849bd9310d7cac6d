-- What the law rests on: each name is in scope, and what is kept along a piece of code is not assigned there.
use Rattle.std.specs.Prelude.{◌≡◌, ℕ, nat_eq, nat_lt, Bool, true, false, not, ◌&&◌, ◌||◌, List, [], ◌∷◌, ◌++◌, length, if◌then◌else◌, slice_get, Option, Some, None}
use Rattle.std.specs.Option.{option_map_or}
use Rattle.std.specs.List.{AllByRecursion}
use Rattle.std.specs.Set.{is_member}
use Rattle.slang_values.specs.Value.{ValueType, truth_type}
use Rattle.slang_values.specs.Typing.{NameTypes, IsTyped}
use Rattle.validity.specs.Bind.{EachName}
use Rattle.program_trees.specs.Claims.{ClaimName, variable, old_variable, let_symbol, ClaimTree, NotedTree}
use Rattle.program_trees.specs.Programs.{TypedExpr, claim_of, CodeTree, set, give, assert, deduce, branch, loop, call, CodeTrees, no_code, code_then, MethodTree, ProgramTree}
use Rattle.program_trees.specs.Variables.{Variable, local, global, entry, result, same_variable, variable_types}
use Rattle.run_rules.specs.Runs.{method_at}

abbrev pub Scope : Type 0
Scope = Variable → Bool

-- the types of the variables in scope
abbrev pub scope_types : ProgramTree Variable → MethodTree Variable → Scope → NameTypes Variable
scope_types program method scope x = if scope x then variable_types program method x else None

-- Claims outside proofs name variables alone.
abbrev pub claim_types : NameTypes Variable → NameTypes (ClaimName Variable)
claim_types types (variable x) = types x
claim_types types (old_variable x) = None
claim_types types (let_symbol label) = None

abbrev pub with_variable : Variable → Scope → Scope
with_variable x scope y = same_variable y x || scope y

-- A variable is in scope behind the statement that sets it. What is set in a block is in scope to the end of the block.
abbrev pub scope_behind : CodeTree Variable → Scope → Scope
scope_behind (set node x value) scope = with_variable x scope
scope_behind (give node value) scope = with_variable result scope
scope_behind (assert noted) scope = scope
scope_behind (deduce node steps) scope = scope
scope_behind (branch node test on_true on_false) scope = scope
scope_behind (loop node test modifies invariants body) scope = scope
scope_behind (call node None name_node method arguments) scope = scope
scope_behind (call node (Some x) name_node method arguments) scope = with_variable x scope

abbrev pub scope_at_end : CodeTrees Variable → Scope → Scope
scope_at_end no_code scope = scope
scope_at_end (code_then code codes) scope = scope_at_end codes (scope_behind code scope)

-- along a loop everything in scope is kept that it does not modify
abbrev pub loop_keeps : (Variable → Bool) → Scope → List Variable → Variable → Bool
loop_keeps keeps scope modifies x = keeps x || (scope x && not (is_member same_variable modifies x))

-- a method begins with its parameters, the globals, and their entry values
abbrev pub start_scope : ProgramTree Variable → MethodTree Variable → Scope
start_scope program method (local n) = nat_lt n (length method.params)
start_scope program method (global n) = nat_lt n (length program.globals)
start_scope program method (entry n) = nat_lt n (length program.globals)
start_scope program method result = false

-- It keeps its parameters, the entry values, and the globals that it does not modify.
abbrev pub method_keeps : MethodTree Variable → Variable → Bool
method_keeps method (local n) = nat_lt n (length method.params)
method_keeps method (global n) = not (is_member nat_eq method.modifies n)
method_keeps method (entry n) = true
method_keeps method result = false

-- Requires name parameters and globals.
abbrev pub requires_scope : ProgramTree Variable → MethodTree Variable → Scope
requires_scope program method (local n) = nat_lt n (length method.params)
requires_scope program method (global n) = nat_lt n (length program.globals)
requires_scope program method (entry n) = false
requires_scope program method result = false

-- Ensures name entry values besides, and the result where the body ends with one.
abbrev pub ensures_scope : ProgramTree Variable → MethodTree Variable → Scope
ensures_scope program method (local n) = nat_lt n (length method.params)
ensures_scope program method (global n) = nat_lt n (length program.globals)
ensures_scope program method (entry n) = nat_lt n (length program.globals)
ensures_scope program method result = scope_at_end method.body (start_scope program method) result

-- a global of that number that is a `val`
abbrev pub is_val : ProgramTree Variable → ℕ → Bool
is_val program n = option_map_or (λ g. g.fixed) (slice_get program.globals n) false

module _ (program : ProgramTree Variable) (method : MethodTree Variable) where
  -- a claim of that type over the variables in scope
  abbrev pub IsOf : Scope → ValueType → ClaimTree Variable → Type 0
  IsOf scope t claim = IsTyped program.records (claim_types (scope_types program method scope)) claim t

  abbrev pub AreClaims : Scope → List (NotedTree Variable) → Type 0
  AreClaims scope claims = AllByRecursion (λ noted. IsOf scope truth_type noted.claim) claims

  -- an expression of that type over the variables in scope
  abbrev pub IsExpr : Scope → ValueType → TypedExpr Variable → Type 0
  IsExpr scope t expr = IsOf scope t (claim_of expr)

  -- one expression for each type
  abbrev pub AreExprs : Scope → List ValueType → List (TypedExpr Variable) → Type 0
  AreExprs scope [] [] = Unit {0}
  AreExprs scope (t ∷ ts) (expr ∷ exprs) = IsExpr scope t expr × AreExprs scope ts exprs
  AreExprs scope [] (expr ∷ exprs) = ⊥
  AreExprs scope (t ∷ ts) [] = ⊥

  -- a variable that is not kept gets a value of its type
  abbrev pub IsSet : (Variable → Bool) → Scope → Variable → TypedExpr Variable → Type 0
  IsSet keeps scope x value =
      (t : ValueType) × (variable_types program method x ≡ Some t) × (keeps x ≡ false) × IsExpr scope t value

  -- and so does one that gets the result of a call
  abbrev pub GetsResult : (Variable → Bool) → MethodTree Variable → Option Variable → Type 0
  GetsResult keeps callee None = Unit {0}
  GetsResult keeps callee (Some x) =
      (t : ValueType) × (variable_types program method x ≡ Some t) × (keeps x ≡ false) × (variable_types program callee result ≡ Some t)

  -- The method is called with values of its parameters' types, and what it modifies is not kept.
  pub record IsCall (keeps : Variable → Bool) (scope : Scope) (callee : MethodTree Variable) (target : Option Variable)
      (arguments : List (TypedExpr Variable)) : Type 0 where
    pub arguments_typed : AreExprs scope callee.params arguments
    pub modifies : AllByRecursion (λ g. keeps (global g) ≡ false) callee.modifies
    pub target_typed : GetsResult keeps callee target

  abbrev mutual
    -- A statement is in order where these variables are kept and in scope.
    pub IsInOrder : (Variable → Bool) → Scope → CodeTree Variable → Type 0
    IsInOrder keeps scope (set node x value) = IsSet keeps scope x value
    IsInOrder keeps scope (give node value) = IsSet keeps scope result value
    IsInOrder keeps scope (assert noted) = IsOf scope truth_type noted.claim
    IsInOrder keeps scope (deduce node steps) = Unit {0}
    IsInOrder keeps scope (branch node test on_true on_false) =
        IsExpr scope truth_type test × AreInOrder keeps scope on_true × AreInOrder keeps scope on_false
    IsInOrder keeps scope (loop node test modifies invariants body) =
        IsExpr scope truth_type test × AreClaims scope invariants × AreInOrder (loop_keeps keeps scope modifies) scope body
    IsInOrder keeps scope (call node target name_node number arguments) = IsCall keeps scope (method_at program number) target arguments

    pub AreInOrder : (Variable → Bool) → Scope → CodeTrees Variable → Type 0
    AreInOrder keeps scope no_code = Unit {0}
    AreInOrder keeps scope (code_then code codes) = IsInOrder keeps scope code × AreInOrder keeps (scope_behind code scope) codes

  -- A method whose parameters come first among its locals, which modifies no `val`, and whose contract speaks of what its callers know.
  pub record IsInOrderMethod : Type 0 where
    pub others : List ValueType
    pub params : method.locals ≡ method.params ++ others
    pub modifies : AllByRecursion (λ g. is_val program g ≡ false) method.modifies
    pub requires_ : AreClaims (requires_scope program method) method.requires_
    pub ensures_ : AreClaims (ensures_scope program method) method.ensures_
    pub body : AreInOrder (method_keeps method) (start_scope program method) method.body

-- the initial values of the globals name nothing
abbrev pub AreConstants : ProgramTree Variable → Type 0
AreConstants program = AllByRecursion (λ g. EachName (λ a. ⊥) (claim_of g.initial)) program.globals
