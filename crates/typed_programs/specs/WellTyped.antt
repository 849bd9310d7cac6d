-- Which programs are well typed.
use Rattle.std.specs.Prelude.{◌≡◌, ℕ, ◌<◌, nat_eq, nat_lt, Bool, true, false, ◌&&◌, ◌||◌, List, [], ◌∷◌, map, length, take, ⊤, Option, Some, None, if◌then◌else◌}
use Rattle.std.specs.Option.{unwrap_or}
use Rattle.std.specs.List.{AllByRecursion, IsDistinct, list_all}
use Rattle.std.specs.Set.{is_member}
use Rattle.std.specs.Ordering.{nat_cmp}
use Rattle.std.specs.declared.cmp.Ordering.TheVariants.{Less}
use Rattle.std.specs.Cmp.Lexicographic.{slice_cmp}
use Rattle.program_trees.specs.Claims.{labels}
use Rattle.slang_values.specs.Value.{ValueType, unit_type, truth_type, Records, is_known, AreWellFormed, is_value_type}
use Rattle.program_trees.specs.Programs.{TypedExpr, CodeTree, set, give, assert, deduce, branch, loop, call, CodeTrees, no_code, code_then, MethodTree, GlobalTree, ProgramTree}
use Rattle.program_trees.specs.Variables.{Variable, local, global, entry, result, same_variable, variable_types}
use Rattle.run_rules.specs.Runs.{no_method, method_at}
use Rattle.leg_rules.specs.Typed.{no_labels}
use Rattle.typed_programs.specs.Parts.{is_constant}
use Rattle.typed_programs.specs.Scopes.{Scope, is_var, IsNotedIn, IsValueIn, AreValuesIn, AreStepsIn}

-- ---- statements

-- where a statement stands: what may be named there, and what may be assigned
pub record Around : Type 0 where
  pub scope : Scope
  pub assigned : Variable → Bool

-- the variable too may be named and assigned
abbrev pub with_variable : Around → Variable → Around
with_variable around x = record {
  scope = record {
    program = around.scope.program;
    method = around.scope.method;
    named = λ y. same_variable x y || around.scope.named y;
    nodes = around.scope.nodes;
  };
  assigned = λ y. same_variable x y || around.assigned y;
}

-- In a loop only what it modifies is assigned, of what stands outside.
abbrev pub within : Around → List Variable → Around
within around modifies = record { scope = around.scope; assigned = λ x. around.assigned x && is_member same_variable modifies x }

-- A local that may not be named yet is declared by its first value.
abbrev pub is_local : Variable → Bool
is_local (local n) = true
is_local other = false

abbrev pub may_be_set : Around → Variable → Bool
may_be_set around x = if around.scope.named x then around.assigned x else is_local x

-- the type of a variable of the method
abbrev pub target_type : Around → Variable → ValueType
target_type around x = unwrap_or (variable_types around.scope.program around.scope.method x) unit_type

abbrev pub IsTarget : Around → Variable → ValueType → Type 0
IsTarget around x t = (may_be_set around x ≡ true) × (variable_types around.scope.program around.scope.method x ≡ Some t)

abbrev pub IsOptionalTarget : Around → Option Variable → ValueType → Type 0
IsOptionalTarget around None t = ⊤
IsOptionalTarget around (Some x) t = IsTarget around x t

-- what is around the statements behind one
abbrev pub behind : Around → CodeTree Variable → Around
behind around (set node x value) = with_variable around x
behind around (call node (Some x) name_node number arguments) = with_variable around x
behind around other = around

-- how statements end: they go on, they end with a return of a value of that type, or they have ended with one
pub data End : Type 0 where
  goes_on : End
  returns : ValueType → End
  ended : End

abbrev pub end_behind : End → CodeTree Variable → End
end_behind end (give node value) = ended
end_behind end other = end

-- What the loop names stands outside of it and is a `var`, named once.
pub record IsModified (around : Around) (modifies : List Variable) : Type 0 where
  pub vars : list_all (λ x. around.scope.named x && is_var around.scope x) modifies ≡ true
  pub once : IsDistinct same_variable modifies

-- A method that is there is called with values of its parameters' types, and what it modifies may be assigned.
pub record IsCall (around : Around) (target : Option Variable) (number : ℕ) (arguments : List (TypedExpr Variable)) : Type 0 where
  pub there : number < length around.scope.program.methods
  pub arguments_typed : AreValuesIn around.scope (method_at around.scope.program number).params arguments
  pub covered : list_all (λ g. around.assigned (global g)) (method_at around.scope.program number).modifies ≡ true
  pub target_typed : IsOptionalTarget around target (method_at around.scope.program number).result

abbrev mutual
  pub IsTypedCode : End → Around → CodeTree Variable → Type 0
  IsTypedCode end around (set node x value) =
      (node < around.scope.nodes) × IsTarget around x (target_type around x) × IsValueIn around.scope (target_type around x) value
  IsTypedCode (returns t) around (give node value) = (node < around.scope.nodes) × IsValueIn around.scope t value
  IsTypedCode goes_on around (give node value) = ⊥
  IsTypedCode ended around (give node value) = ⊥
  IsTypedCode end around (assert noted) = IsNotedIn around.scope noted
  IsTypedCode end around (deduce node steps) =
      (node < around.scope.nodes) × AreStepsIn around.scope 200 no_labels steps × IsDistinct nat_eq (labels steps)
  IsTypedCode end around (branch node test on_true on_false) =
      (node < around.scope.nodes) × IsValueIn around.scope truth_type test
      × AreTypedCodes goes_on around on_true × AreTypedCodes goes_on around on_false
  IsTypedCode end around (loop node test modifies invariants body) =
      (node < around.scope.nodes) × IsValueIn around.scope truth_type test × IsModified around modifies
      × AllByRecursion (IsNotedIn around.scope) invariants × AreTypedCodes goes_on (within around modifies) body
  IsTypedCode end around (call node target name_node number arguments) =
      (node < around.scope.nodes) × (name_node < around.scope.nodes) × IsCall around target number arguments

  pub AreTypedCodes : End → Around → CodeTrees Variable → Type 0
  AreTypedCodes goes_on around no_code = ⊤
  AreTypedCodes (returns t) around no_code = ⊥
  AreTypedCodes ended around no_code = ⊤
  AreTypedCodes ended around (code_then code codes) = ⊥
  AreTypedCodes goes_on around (code_then code codes) =
      IsTypedCode goes_on around code × AreTypedCodes (end_behind goes_on code) (behind around code) codes
  AreTypedCodes (returns t) around (code_then code codes) =
      IsTypedCode (returns t) around code × AreTypedCodes (end_behind (returns t) code) (behind around code) codes

-- ---- methods

-- a type of variables of the program
abbrev pub is_program_type : Records → ValueType → Bool
is_program_type records t = is_value_type t && is_known records t

abbrev pub is_result_type : Records → ValueType → Bool
is_result_type records unit_type = true
is_result_type records t = is_program_type records t

module _ (program : ProgramTree Variable) (nodes : ℕ) (method : MethodTree Variable) where
  -- parameters and globals
  abbrev pub is_named_before : Variable → Bool
  is_named_before (local n) = nat_lt n (length method.params)
  is_named_before (global n) = nat_lt n (length program.globals)
  is_named_before (entry n) = false
  is_named_before result = false

  abbrev pub scope_before : Scope
  scope_before = record { program = program; method = method; named = is_named_before; nodes = nodes }

  -- and what the `var`s among the globals were, and the result
  abbrev pub is_named_behind : Variable → Bool
  is_named_behind (local n) = nat_lt n (length method.params)
  is_named_behind (global n) = nat_lt n (length program.globals)
  is_named_behind (entry n) = is_var scope_before (global n)
  is_named_behind result = true

  abbrev pub scope_behind : Scope
  scope_behind = record { program = program; method = method; named = is_named_behind; nodes = nodes }

  -- of what stands outside the body, the globals that the method modifies may be assigned
  abbrev pub around_body : Around
  around_body = record { scope = scope_before; assigned = λ x. is_member same_variable (map global method.modifies) x }

  abbrev pub body_end : ValueType → End
  body_end unit_type = goes_on
  body_end t = returns t

  -- The locals begin with the parameters. What is modified are `var`s, each named once.
  pub record IsTypedMethod : Type 0 where
    pub node : method.node < nodes
    pub params : take (length method.params) method.locals ≡ method.params
    pub locals : list_all (is_program_type program.records) method.locals ≡ true
    pub result_type : is_result_type program.records method.result ≡ true
    pub modifies : list_all (λ g. is_var scope_before (global g)) method.modifies ≡ true
    pub once : IsDistinct nat_eq method.modifies
    pub requires_ : AllByRecursion (IsNotedIn scope_before) method.requires_
    pub ensures_ : AllByRecursion (IsNotedIn scope_behind) method.ensures_
    pub body : AreTypedCodes (body_end method.result) around_body method.body

-- ---- programs

abbrev pub nothing_named : Variable → Bool
nothing_named x = false

-- A global begins with a constant of its type.
pub record IsTypedGlobal (program : ProgramTree Variable) (nodes : ℕ) (global : GlobalTree Variable) : Type 0 where
  pub type : is_program_type program.records global.type ≡ true
  pub constant : is_constant global.initial ≡ true
  pub initial : IsValueIn (record { program = program; method = no_method; named = nothing_named; nodes = nodes }) global.type global.initial

-- each name comes before the next
abbrev pub AreAscending : List (List ℕ) → Type 0
AreAscending [] = ⊤
AreAscending (x ∷ []) = ⊤
AreAscending (x ∷ y ∷ names) = (slice_cmp nat_cmp x y ≡ Less) × AreAscending (y ∷ names)

-- What a typed program keeps, whose nodes stand in files of these numbers, of so many files.
pub record IsTypedProgram (program : ProgramTree Variable) (node_files : List ℕ) (files : ℕ) : Type 0 where
  pub records : AreWellFormed program.records
  pub fields : AllByRecursion (λ types. list_all is_value_type types ≡ true) program.records
  pub globals : AllByRecursion (IsTypedGlobal program (length node_files)) program.globals
  pub methods : AllByRecursion (IsTypedMethod program (length node_files)) program.methods
  pub sorted : AreAscending (map (λ method. method.name) program.methods)
  pub node_files_there : AllByRecursion (λ file. file < files) node_files
