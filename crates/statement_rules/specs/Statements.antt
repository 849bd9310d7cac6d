-- Which statements of a text are well typed. Nothing here speaks of faults.
use Rattle.std.specs.Prelude.{◌≡◌, ◌↔◌, ℕ, true, false, nat_eq, List, [], map, length, ⊤, Option, Some, None}
use Rattle.std.specs.List.{AllByRecursion, IsDistinct}
use Rattle.std.specs.Str.{bytes_eq}
use Rattle.slang_values.specs.Value.{ValueType, unit_type, truth_type}
use Rattle.slang_tree.specs.declared.expression.Name.{Name}
use Rattle.slang_tree.specs.declared.statement.Label.{Label}
use Rattle.slang_tree.specs.declared.rules.Rule.{Rule}
use Rattle.slang_tree.specs.Rules.{rule_named}
use Rattle.slang_tree.specs.TypeTree.{TypeTree}
use Rattle.slang_tree.specs.ExprTree.{ExprTree, ExprTrees}
use Rattle.slang_tree.specs.ExprTree as e
use Rattle.slang_tree.specs.StmtTree.{StepTree, line, block, let_block, StepTrees, no_steps, step_then, StmtTree, val, var, assignment, call, branch, loop, assertion, deduction, StmtTrees, no_stmts, stmt_then, ElseTree, no_else, else_then}
use Rattle.program_trees.specs.Variables.{Variable}
use Rattle.type_rules.specs.Meanings.{Signature, Meaning, variable, block_variable, method, Scope, meaning_of, is_known, covers_all, with_name, within}
use Rattle.type_rules.specs.Expressions.{Context, in_program, in_claim, in_proof, Callee, a_method, callee}
use Rattle.type_rules.specs.Steps.{takes, labels_of}
use Rattle.type_rules.specs.Statements.{local_counts, past_locals, behind, texts, stmts_faults}
use Rattle.typing_rules.specs.Expressions.{IsType, HasType, HaveTypes}
use Rattle.value_typing.specs.Faultless.{IsWellDeclared}

-- ---- values

-- A call of a method with arguments of its parameters' types, which changes nothing that may not be changed there.
abbrev pub CallHas : Scope → Option Signature → List (List ℕ) → ExprTrees → ValueType → Type 0
CallHas scope None modifies arguments t = ⊥
CallHas scope (Some signature) modifies arguments t =
    (covers_all scope modifies ≡ true) × HaveTypes scope in_program arguments signature.params × (t ≡ signature.result)

abbrev pub SideHas : Scope → Callee → ExprTree → ExprTrees → ValueType → Type 0
SideHas scope (a_method signature modifies) tree arguments t = CallHas scope signature modifies arguments t
SideHas scope other tree arguments t = HasType scope in_program tree t

-- a right side, which may be a call
abbrev pub RightHas : Scope → ExprTree → ValueType → Type 0
RightHas scope (e.application place head arguments) t = SideHas scope (callee scope head) (e.application place head arguments) arguments t
RightHas scope other t = HasType scope in_program other t

abbrev pub IsNotUnit : ValueType → Type 0
IsNotUnit unit_type = ⊥
IsNotUnit t = ⊤

-- the type of what is declared: it is written, or it is that of the value, which is not `Unit`
abbrev pub DeclaredAs : Scope → Option TypeTree → ValueType → Type 0
DeclaredAs scope None t = IsNotUnit t
DeclaredAs scope (Some ty) t = IsType scope.names ty t

-- ---- names

abbrev pub IsNew : Scope → Name → Type 0
IsNew scope written = is_known scope written.text ≡ false

-- a `var` of that type
abbrev pub IsVar : Scope → Name → ValueType → Type 0
IsVar scope written t = (x : Variable) × (meaning_of scope written.text ≡ Some (variable x true (Some t)))

-- the names of `var`s, each named once
abbrev pub AreVars : Scope → List Name → Type 0
AreVars scope names = AllByRecursion (λ written. (t : ValueType) × IsVar scope written t) names × IsDistinct bytes_eq (texts names)

-- the name of a method that is called so
abbrev pub IsCalled : Scope → Option Meaning → ExprTrees → Type 0
IsCalled scope (Some (method number signature modifies)) arguments = (t : ValueType) × CallHas scope signature modifies arguments t
IsCalled scope other arguments = ⊥

-- ---- proofs

-- the rule cites as many labels
abbrev pub IsRule : Name → List Label → Type 0
IsRule rule cites = (r : Rule) × (rule_named rule.text ≡ Some r) × (takes r.cited (length cites) ≡ true)

abbrev mutual
  pub IsTypedStep : Scope → StepTree → Type 0
  IsTypedStep scope (line label claim rule cites) = HasType scope in_proof claim truth_type × IsRule rule cites
  IsTypedStep scope (block label assumed given steps) = HasType scope in_proof given truth_type × AreTypedSteps scope steps
  IsTypedStep scope (let_block label named assumed given steps) =
      IsNew scope named × HasType (with_name scope named.text (block_variable label.number)) in_proof given truth_type
      × AreTypedSteps (with_name scope named.text (block_variable label.number)) steps

  pub AreTypedSteps : Scope → StepTrees → Type 0
  AreTypedSteps scope no_steps = ⊤
  AreTypedSteps scope (step_then step steps) = IsTypedStep scope step × AreTypedSteps scope steps

-- with distinct labels
abbrev pub IsTypedProof : Scope → StepTrees → Type 0
IsTypedProof scope steps = IsDistinct nat_eq (map (λ label. label.number) (labels_of steps)) × AreTypedSteps scope steps

-- ---- statements

abbrev pub AreClaims : Scope → Context → List ExprTree → Type 0
AreClaims scope context claims = AllByRecursion (λ claim. HasType scope context claim truth_type) claims

-- a new local, with its value
abbrev pub IsDeclared : Scope → Name → Option TypeTree → ExprTree → Type 0
IsDeclared scope written ty value = IsNew scope written × ((t : ValueType) × DeclaredAs scope ty t × RightHas scope value t)

abbrev mutual
  pub IsTypedStmt : Scope → StmtTree → Type 0
  IsTypedStmt scope (val place written ty value) = IsDeclared scope written ty value
  IsTypedStmt scope (var place written ty value) = IsDeclared scope written ty value
  IsTypedStmt scope (assignment written value) =
      (t : ValueType) × IsVar scope written t × (scope.covers written.text ≡ true) × RightHas scope value t
  IsTypedStmt scope (call written arguments) = IsCalled scope (meaning_of scope written.text) arguments
  IsTypedStmt scope (branch place test on_true otherwise) =
      HasType scope in_program test truth_type × AreTypedStmts scope on_true × IsTypedElse (past_locals scope (local_counts on_true)) otherwise
  IsTypedStmt scope (loop place test modifies claims body) =
      HasType scope in_program test truth_type × AreVars scope modifies × AreClaims scope in_claim claims
      × AreTypedStmts (within scope (texts modifies)) body
  IsTypedStmt scope (assertion place claim) = HasType scope in_claim claim truth_type
  IsTypedStmt scope (deduction place steps) = IsTypedProof scope steps

  pub AreTypedStmts : Scope → StmtTrees → Type 0
  AreTypedStmts scope no_stmts = ⊤
  AreTypedStmts scope (stmt_then stmt stmts) = IsTypedStmt scope stmt × AreTypedStmts (behind scope stmt) stmts

  pub IsTypedElse : Scope → ElseTree → Type 0
  IsTypedElse scope no_else = ⊤
  IsTypedElse scope (else_then stmts) = AreTypedStmts scope stmts

-- Where what is written for the types of names has no fault, statements have no fault exactly where they are well typed.
abbrev pub FaultlessWhereTyped : Type 0
FaultlessWhereTyped = (scope : Scope) → IsWellDeclared in_program scope → (stmts : StmtTrees) → (stmts_faults scope stmts ≡ []) ↔ AreTypedStmts scope stmts
