-- What is wrong with statements, and what is in scope behind them.
use Rattle.std.specs.Prelude.{ℕ, ◌+◌, Bool, true, false, not, ◌&&◌, if◌then◌else◌, List, [], ◌∷◌, ◌++◌, map, flat_map, Option, Some, None}
use Rattle.std.specs.Set.{is_member}
use Rattle.std.specs.Str.{bytes_eq}
use Rattle.slang_values.specs.Value.{ValueType, unit_type, truth_type}
use Rattle.slang_tree.specs.declared.place.Place.{Place}
use Rattle.slang_tree.specs.declared.place.Fault.{Fault}
use Rattle.slang_tree.specs.declared.expression.Name.{Name}
use Rattle.slang_tree.specs.TypeTree.{TypeTree}
use Rattle.slang_tree.specs.ExprTree.{ExprTree}
use Rattle.slang_tree.specs.StmtTree.{StmtTree, val, var, assignment, call, branch, loop, assertion, deduction, StmtTrees, no_stmts, stmt_then, ElseTree, no_else, else_then}
use Rattle.type_rules.specs.Faults.{unknown_name, duplicate_name, type_differs, constant_assigned, outside_modifies, call_out_of_place, unless}
use Rattle.type_rules.specs.Meanings.{Meaning, method, Scope, meaning_of, is_well_declared, is_var, with_local, within}
use Rattle.type_rules.specs.Judged.{Judged, faults_of, are_typed, faults_against, faults_against_optional}
use Rattle.type_rules.specs.TypeNames.{judged_type}
use Rattle.type_rules.specs.Expressions.{Context, in_program, in_claim, type_meant, judged, judged_each, judged_right, judged_call}
use Rattle.type_rules.specs.Steps.{new_name_faults, proof_faults}

-- ---- declarations with a value

-- A value without a written type has any type but `Unit`.
abbrev pub any_but_unit : Option ValueType → Option ValueType
any_but_unit (Some unit_type) = None
any_but_unit type = type

abbrev pub unit_faults : Option ValueType → Place → List Fault
unit_faults (Some unit_type) place = type_differs place ∷ []
unit_faults type place = []

-- the type of what is declared with this value
abbrev pub declared_type : Scope → Option TypeTree → Judged → Option ValueType
declared_type scope None value = any_but_unit value.type
declared_type scope (Some ty) value = (judged_type scope.names ty).type

abbrev pub value_faults : Scope → Option TypeTree → Judged → List Fault
value_faults scope None value = value.faults ++ unit_faults value.type value.place
value_faults scope (Some ty) value =
    (judged_type scope.names ty).faults ++ faults_against_optional (judged_type scope.names ty).type value

-- ---- assignments and calls

-- The name is that of a `var` that may be changed.
abbrev pub target_faults : Scope → Name → Option Meaning → List Fault
target_faults scope written None = unknown_name written.place ∷ []
target_faults scope written (Some meaning) =
    if is_well_declared scope meaning
    then (if is_var meaning then unless (scope.covers written.text) (outside_modifies written.place) else constant_assigned written.place ∷ [])
    else []

abbrev pub target_type : Option Meaning → Option ValueType
target_type None = None
target_type (Some meaning) = type_meant meaning

-- a call that stands alone
abbrev pub call_faults : Scope → Place → Option Meaning → List Judged → List Fault
call_faults scope place None arguments = unknown_name place ∷ faults_of arguments
call_faults scope place (Some (method number signature modifies)) arguments = (judged_call scope place signature modifies arguments).faults
call_faults scope place (Some other) arguments =
    faults_of arguments ++ (if is_well_declared scope other && are_typed arguments then call_out_of_place place ∷ [] else [])

-- ---- Modifies

abbrev pub modified_faults : (Meaning → Bool) → Scope → Place → Option Meaning → List Fault
modified_faults may_be_named scope place None = unknown_name place ∷ []
modified_faults may_be_named scope place (Some meaning) =
    if is_well_declared scope meaning then unless (may_be_named meaning) (constant_assigned place) else []

-- Each name is that of a variable that may be named there, and it is named once; `before` are the names that stand before.
abbrev pub modifies_faults : (Meaning → Bool) → Scope → (before : List (List ℕ)) → List Name → List Fault
modifies_faults may_be_named scope before [] = []
modifies_faults may_be_named scope before (written ∷ names) =
    modified_faults may_be_named scope written.place (meaning_of scope written.text)
    ++ unless (not (is_member bytes_eq before written.text)) (duplicate_name written.place)
    ++ modifies_faults may_be_named scope (written.text ∷ before) names

abbrev pub texts : List Name → List (List ℕ)
texts names = map (λ written. written.text) names

-- ---- statements

abbrev mutual
  -- how many locals a statement declares
  pub local_count : StmtTree → ℕ
  local_count (val place written ty value) = 1
  local_count (var place written ty value) = 1
  local_count (assignment written value) = 0
  local_count (call written arguments) = 0
  local_count (branch place test on_true otherwise) = local_counts on_true + else_count otherwise
  local_count (loop place test modifies claims body) = local_counts body
  local_count (assertion place claim) = 0
  local_count (deduction place steps) = 0

  pub local_counts : StmtTrees → ℕ
  local_counts no_stmts = 0
  local_counts (stmt_then stmt stmts) = local_count stmt + local_counts stmts

  pub else_count : ElseTree → ℕ
  else_count no_else = 0
  else_count (else_then stmts) = local_counts stmts

-- with the locals of inner blocks counted, which are in scope no more
abbrev pub past_locals : Scope → ℕ → Scope
past_locals scope count = record scope { locals = scope.locals + count }

-- what is in scope behind a statement: a local is in scope behind its own
abbrev pub behind : Scope → StmtTree → Scope
behind scope (val place written ty value) = with_local scope written.text false (declared_type scope ty (judged_right scope value))
behind scope (var place written ty value) = with_local scope written.text true (declared_type scope ty (judged_right scope value))
behind scope (assignment written value) = scope
behind scope (call written arguments) = scope
behind scope (branch place test on_true otherwise) = past_locals scope (local_counts on_true + else_count otherwise)
behind scope (loop place test modifies claims body) = past_locals scope (local_counts body)
behind scope (assertion place claim) = scope
behind scope (deduction place steps) = scope

-- behind all of them
abbrev pub behind_all : Scope → StmtTrees → Scope
behind_all scope no_stmts = scope
behind_all scope (stmt_then stmt stmts) = behind_all (behind scope stmt) stmts

abbrev pub claims_faults : Scope → Context → List ExprTree → List Fault
claims_faults scope context claims = flat_map (λ claim. faults_against truth_type (judged scope context claim)) claims

abbrev mutual
  pub stmt_faults : Scope → StmtTree → List Fault
  stmt_faults scope (val place written ty value) = new_name_faults scope written ++ value_faults scope ty (judged_right scope value)
  stmt_faults scope (var place written ty value) = new_name_faults scope written ++ value_faults scope ty (judged_right scope value)
  stmt_faults scope (assignment written value) =
      target_faults scope written (meaning_of scope written.text)
      ++ faults_against_optional (target_type (meaning_of scope written.text)) (judged_right scope value)
  stmt_faults scope (call written arguments) =
      call_faults scope written.place (meaning_of scope written.text) (judged_each scope in_program arguments)
  stmt_faults scope (branch place test on_true otherwise) =
      faults_against truth_type (judged scope in_program test) ++ stmts_faults scope on_true
      ++ else_faults (past_locals scope (local_counts on_true)) otherwise
  stmt_faults scope (loop place test modifies claims body) =
      faults_against truth_type (judged scope in_program test) ++ modifies_faults is_var scope [] modifies
      ++ claims_faults scope in_claim claims ++ stmts_faults (within scope (texts modifies)) body
  stmt_faults scope (assertion place claim) = faults_against truth_type (judged scope in_claim claim)
  stmt_faults scope (deduction place steps) = proof_faults scope steps

  pub stmts_faults : Scope → StmtTrees → List Fault
  stmts_faults scope no_stmts = []
  stmts_faults scope (stmt_then stmt stmts) = stmt_faults scope stmt ++ stmts_faults (behind scope stmt) stmts

  pub else_faults : Scope → ElseTree → List Fault
  else_faults scope no_else = []
  else_faults scope (else_then stmts) = stmts_faults scope stmts
