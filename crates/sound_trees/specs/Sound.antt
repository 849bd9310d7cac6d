-- Trees whose names are names of the text, and whose numbers are not too large.
use Rattle.std.specs.Prelude.{◌≡◌, ◌<◌, ◌^◌, ◌⊎◌, ℤ, nat_abs, length, Option, Some, None, codes}
use Rattle.std.specs.List.{AllByRecursion}
use Rattle.slang_lexer.specs.declared.token.TokenKind.TheVariants as kind
use Rattle.slang_lexer.specs.Spelling.{kind_of}
use Rattle.slang_tree.specs.declared.expression.Name.{Name}
use Rattle.slang_tree.specs.declared.statement.Label.{Label}
use Rattle.slang_tree.specs.TypeTree.{TypeTree, z_name, b_name, unit_name, sequence_name, record_name}
use Rattle.slang_tree.specs.ExprTree.{ExprTree, ExprTrees, no_exprs, expr_then}
use Rattle.slang_tree.specs.ExprTree as e
use Rattle.slang_tree.specs.StmtTree.{StepTree, line, block, let_block, StepTrees, no_steps, step_then, StmtTree, val, var, assignment, call, branch, loop, assertion, deduction, StmtTrees, no_stmts, stmt_then, ElseTree, no_else, else_then}
use Rattle.slang_tree.specs.DeclTree.{ConstTree, const_number, const_minus, const_truth, const_falsity, const_sequence, const_record, ConstTrees, no_consts, const_then, TypedName, ReturnTree, MethodDeclTree, DeclTree, import_decl, global_decl, record_decl, method_decl}

-- the text is read as a name
abbrev pub IsNamed : Name → Type 0
IsNamed written = kind_of written.text ≡ Some kind.Name

abbrev pub IsSmall : ℤ → Type 0
IsSmall z = nat_abs z < 2 ^ 127

abbrev pub SoundType : TypeTree → Type 0
SoundType (z_name place) = Unit {0}
SoundType (b_name place) = Unit {0}
SoundType (unit_name place) = Unit {0}
SoundType (sequence_name place element) = SoundType element
SoundType (record_name written) = IsNamed written

abbrev pub IfSound : Option TypeTree → Type 0
IfSound None = Unit {0}
IfSound (Some ty) = SoundType ty

abbrev mutual
  pub SoundExpr : ExprTree → Type 0
  SoundExpr (e.number place z) = IsSmall z
  SoundExpr (e.truth place) = Unit {0}
  SoundExpr (e.falsity place) = Unit {0}
  SoundExpr (e.name text place) = kind_of text ≡ Some kind.Name
  SoundExpr (e.result place ty) = IfSound ty
  SoundExpr (e.entry_value place written) = IsNamed written
  SoundExpr (e.old_value place written) = IsNamed written
  SoundExpr (e.minus place operand) = SoundExpr operand
  SoundExpr (e.negation place operand) = SoundExpr operand
  SoundExpr (e.binary place operator left right) = SoundExpr left × SoundExpr right
  SoundExpr (e.application place head arguments) = SoundExpr head × SoundExprs arguments
  SoundExpr (e.update place head index element) = SoundExpr head × SoundExpr index × SoundExpr element
  SoundExpr (e.field place head written) = SoundExpr head × IsNamed written
  SoundExpr (e.sequence place ty elements) = IfSound ty × SoundExprs elements
  SoundExpr (e.quantified place by low high variable body) = SoundExpr low × SoundExpr high × IsNamed variable × SoundExpr body
  SoundExpr (e.quantified_indices place by head variable body) = SoundExpr head × IsNamed variable × SoundExpr body

  pub SoundExprs : ExprTrees → Type 0
  SoundExprs no_exprs = Unit {0}
  SoundExprs (expr_then tree trees) = SoundExpr tree × SoundExprs trees

abbrev pub SoundLabel : Label → Type 0
SoundLabel label = label.number < 2 ^ 32

-- a rule is a name, or one of the two that are signs
abbrev pub SoundRule : Name → Type 0
SoundRule rule = IsNamed rule ⊎ ((rule.text ≡ codes "Subst_<") ⊎ (rule.text ≡ codes "Subst_>"))

abbrev mutual
  pub SoundStep : StepTree → Type 0
  SoundStep (line label claim rule cites) = SoundLabel label × SoundExpr claim × SoundRule rule × AllByRecursion SoundLabel cites
  SoundStep (block label assumed given steps) = SoundLabel label × SoundLabel assumed × SoundExpr given × SoundSteps steps
  SoundStep (let_block label variable assumed given steps) =
      SoundLabel label × IsNamed variable × SoundLabel assumed × SoundExpr given × SoundSteps steps

  pub SoundSteps : StepTrees → Type 0
  SoundSteps no_steps = Unit {0}
  SoundSteps (step_then step steps) = SoundStep step × SoundSteps steps

abbrev mutual
  pub SoundStmt : StmtTree → Type 0
  SoundStmt (val place written ty value) = IsNamed written × IfSound ty × SoundExpr value
  SoundStmt (var place written ty value) = IsNamed written × IfSound ty × SoundExpr value
  SoundStmt (assignment written value) = IsNamed written × SoundExpr value
  SoundStmt (call written arguments) = IsNamed written × SoundExprs arguments
  SoundStmt (branch place test on_true otherwise) = SoundExpr test × SoundStmts on_true × SoundElse otherwise
  SoundStmt (loop place test modifies claims body) =
      SoundExpr test × AllByRecursion IsNamed modifies × AllByRecursion SoundExpr claims × SoundStmts body
  SoundStmt (assertion place claim) = SoundExpr claim
  SoundStmt (deduction place steps) = SoundSteps steps

  pub SoundStmts : StmtTrees → Type 0
  SoundStmts no_stmts = Unit {0}
  SoundStmts (stmt_then stmt stmts) = SoundStmt stmt × SoundStmts stmts

  pub SoundElse : ElseTree → Type 0
  SoundElse no_else = Unit {0}
  SoundElse (else_then stmts) = SoundStmts stmts

abbrev mutual
  pub SoundConst : ConstTree → Type 0
  SoundConst (const_number place z) = IsSmall z
  SoundConst (const_minus place digits z) = IsSmall z
  SoundConst (const_truth place) = Unit {0}
  SoundConst (const_falsity place) = Unit {0}
  SoundConst (const_sequence place ty elements) = IfSound ty × SoundConsts elements
  SoundConst (const_record written fields) = IsNamed written × SoundConsts fields

  pub SoundConsts : ConstTrees → Type 0
  SoundConsts no_consts = Unit {0}
  SoundConsts (const_then tree trees) = SoundConst tree × SoundConsts trees

abbrev pub SoundTyped : TypedName → Type 0
SoundTyped named = IsNamed named.written × SoundType named.ty

abbrev pub SoundReturn : Option ReturnTree → Type 0
SoundReturn None = Unit {0}
SoundReturn (Some returned) = SoundExpr returned.value

pub record SoundMethod (decl : MethodDeclTree) : Type 0 where
  pub written : IsNamed decl.written
  pub params : AllByRecursion SoundTyped decl.params
  pub result : SoundType decl.result
  pub requires_ : AllByRecursion SoundExpr decl.requires_
  pub modifies : AllByRecursion IsNamed decl.modifies
  pub ensures_ : AllByRecursion SoundExpr decl.ensures_
  pub body : AllByRecursion SoundStmt decl.body
  pub returned : SoundReturn decl.returned

abbrev pub SoundDecl : DeclTree → Type 0
SoundDecl (import_decl place path) = (0 < length path) × AllByRecursion IsNamed path
SoundDecl (global_decl decl) = IsNamed decl.written × IfSound decl.ty × SoundConst decl.init
SoundDecl (record_decl decl) = IsNamed decl.written × AllByRecursion SoundTyped decl.fields
SoundDecl (method_decl decl) = SoundMethod decl
