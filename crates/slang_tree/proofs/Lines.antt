-- The trees of types, expressions, steps, statements and constants, form by form.
use Rattle.std.proofs.Common.{◌≡◌, ℤ, List, map, Option, None, Some, ap, sym, ◌∙◌}
use Rattle.std.specs.Option.{option_map}
use Rattle.slang_values.specs.declared.operators.Quantifier.{Quantifier}
use Rattle.slang_tree.specs.declared.place.Place.{Place}
use Rattle.slang_tree.specs.declared.expression.Name.{Name}
use Rattle.slang_tree.specs.declared.expression.Operator.{Operator}
use Rattle.slang_tree.specs.declared.statement.Label.{Label}
use Rattle.slang_tree.specs.declared.expression.TypeName.{TypeName, fold-roll-TypeName}
use Rattle.slang_tree.specs.declared.expression.TypeName.TheOpen as t
use Rattle.slang_tree.specs.declared.expression.TypeName.TheVariants as type_names
use Rattle.slang_tree.specs.declared.expression.Expr.{Expr, fold-roll-Expr}
use Rattle.slang_tree.specs.declared.expression.Expr.TheOpen as e
use Rattle.slang_tree.specs.declared.expression.Expr.TheVariants as exprs
use Rattle.slang_tree.specs.declared.statement.Step.{Step, fold-roll-Step}
use Rattle.slang_tree.specs.declared.statement.Step.TheOpen as p
use Rattle.slang_tree.specs.declared.statement.Step.TheVariants as step_names
use Rattle.slang_tree.specs.declared.statement.Stmt.{Stmt, fold-roll-Stmt}
use Rattle.slang_tree.specs.declared.statement.Stmt.TheOpen as s
use Rattle.slang_tree.specs.declared.statement.Stmt.TheVariants as stmts
use Rattle.slang_tree.specs.declared.declaration.Const.{Const, fold-roll-Const}
use Rattle.slang_tree.specs.declared.declaration.Const.TheOpen as c
use Rattle.slang_tree.specs.declared.declaration.Const.TheVariants as consts
use Rattle.slang_tree.specs.TypeTree.{TypeTree, type_tree, type_level, z_name, b_name, unit_name, sequence_name, record_name}
use Rattle.slang_tree.specs.ExprTree.{ExprTree, expr_tree, expr_level, exprs_of, number, truth, falsity, name, result, entry_value, old_value, minus, negation, binary, application, update, field, sequence, quantified, quantified_indices}
use Rattle.slang_tree.specs.StmtTree.{StepTree, step_tree, step_level, steps_of, line, block, let_block, StmtTree, stmt_tree, stmt_level, stmts_of, else_of, val, var, assignment, call, branch, loop, assertion, deduction}
use Rattle.slang_tree.specs.DeclTree.{ConstTree, const_tree, const_level, consts_of, const_number, const_minus, const_truth, const_falsity, const_sequence, const_record}

pub type_tree-Z : (place : Place) → type_tree (type_names.Z place) ≡ z_name place
type_tree-Z place =
    ap type_tree (sym (type_names.rolls-Z place)) ∙
    fold-roll-TypeName TypeTree type_level (t.Z place)

pub type_tree-B : (place : Place) → type_tree (type_names.B place) ≡ b_name place
type_tree-B place =
    ap type_tree (sym (type_names.rolls-B place)) ∙
    fold-roll-TypeName TypeTree type_level (t.B place)

pub type_tree-Unit : (place : Place) → type_tree (type_names.Unit place) ≡ unit_name place
type_tree-Unit place =
    ap type_tree (sym (type_names.rolls-Unit place)) ∙
    fold-roll-TypeName TypeTree type_level (t.Unit place)

pub type_tree-Seq :
    (place : Place) (element : TypeName) →
    type_tree (type_names.Seq place element) ≡ sequence_name place (type_tree element)
type_tree-Seq place element =
    ap type_tree (sym (type_names.rolls-Seq place element)) ∙
    fold-roll-TypeName TypeTree type_level (t.Seq place element)

pub type_tree-Named : (written : Name) → type_tree (type_names.Named written) ≡ record_name written
type_tree-Named written =
    ap type_tree (sym (type_names.rolls-Named written)) ∙
    fold-roll-TypeName TypeTree type_level (t.Named written)

pub expr_tree-Number : (place : Place) (z : ℤ) → expr_tree (exprs.Number place z) ≡ number place z
expr_tree-Number place z =
    ap expr_tree (sym (exprs.rolls-Number place z)) ∙
    fold-roll-Expr ExprTree expr_level (e.Number place z)

pub expr_tree-True : (place : Place) → expr_tree (exprs.True place) ≡ truth place
expr_tree-True place =
    ap expr_tree (sym (exprs.rolls-True place)) ∙
    fold-roll-Expr ExprTree expr_level (e.True place)

pub expr_tree-False : (place : Place) → expr_tree (exprs.False place) ≡ falsity place
expr_tree-False place =
    ap expr_tree (sym (exprs.rolls-False place)) ∙
    fold-roll-Expr ExprTree expr_level (e.False place)

pub expr_tree-Name : (written : Name) → expr_tree (exprs.Name written) ≡ name written.text written.place
expr_tree-Name written =
    ap expr_tree (sym (exprs.rolls-Name written)) ∙
    fold-roll-Expr ExprTree expr_level (e.Name written)

pub expr_tree-Res : (place : Place) (ty : Option TypeName) → expr_tree (exprs.Res place ty) ≡ result place (option_map type_tree ty)
expr_tree-Res place ty =
    ap expr_tree (sym (exprs.rolls-Res place ty)) ∙
    fold-roll-Expr ExprTree expr_level (e.Res place ty)

pub expr_tree-In : (place : Place) (written : Name) → expr_tree (exprs.In place written) ≡ entry_value place written
expr_tree-In place written =
    ap expr_tree (sym (exprs.rolls-In place written)) ∙
    fold-roll-Expr ExprTree expr_level (e.In place written)

pub expr_tree-Old : (place : Place) (written : Name) → expr_tree (exprs.Old place written) ≡ old_value place written
expr_tree-Old place written =
    ap expr_tree (sym (exprs.rolls-Old place written)) ∙
    fold-roll-Expr ExprTree expr_level (e.Old place written)

pub expr_tree-Minus : (place : Place) (operand : Expr) → expr_tree (exprs.Minus place operand) ≡ minus place (expr_tree operand)
expr_tree-Minus place operand =
    ap expr_tree (sym (exprs.rolls-Minus place operand)) ∙
    fold-roll-Expr ExprTree expr_level (e.Minus place operand)

pub expr_tree-Not : (place : Place) (operand : Expr) → expr_tree (exprs.Not place operand) ≡ negation place (expr_tree operand)
expr_tree-Not place operand =
    ap expr_tree (sym (exprs.rolls-Not place operand)) ∙
    fold-roll-Expr ExprTree expr_level (e.Not place operand)

pub expr_tree-Binary :
    (place : Place) (operator : Operator) (left : Expr) (right : Expr) →
    expr_tree (exprs.Binary place operator left right) ≡ binary place operator (expr_tree left) (expr_tree right)
expr_tree-Binary place operator left right =
    ap expr_tree (sym (exprs.rolls-Binary place operator left right)) ∙
    fold-roll-Expr ExprTree expr_level (e.Binary place operator left right)

pub expr_tree-Apply :
    (place : Place) (head : Expr) (arguments : List Expr) →
    expr_tree (exprs.Apply place head arguments) ≡ application place (expr_tree head) (exprs_of (map expr_tree arguments))
expr_tree-Apply place head arguments =
    ap expr_tree (sym (exprs.rolls-Apply place head arguments)) ∙
    fold-roll-Expr ExprTree expr_level (e.Apply place head arguments)

pub expr_tree-Update :
    (place : Place) (head : Expr) (index : Expr) (element : Expr) →
    expr_tree (exprs.Update place head index element) ≡ update place (expr_tree head) (expr_tree index) (expr_tree element)
expr_tree-Update place head index element =
    ap expr_tree (sym (exprs.rolls-Update place head index element)) ∙
    fold-roll-Expr ExprTree expr_level (e.Update place head index element)

pub expr_tree-Field :
    (place : Place) (head : Expr) (written : Name) →
    expr_tree (exprs.Field place head written) ≡ field place (expr_tree head) written
expr_tree-Field place head written =
    ap expr_tree (sym (exprs.rolls-Field place head written)) ∙
    fold-roll-Expr ExprTree expr_level (e.Field place head written)

pub expr_tree-Sequence :
    (place : Place) (ty : Option TypeName) (elements : List Expr) →
    expr_tree (exprs.Sequence place ty elements) ≡ sequence place (option_map type_tree ty) (exprs_of (map expr_tree elements))
expr_tree-Sequence place ty elements =
    ap expr_tree (sym (exprs.rolls-Sequence place ty elements)) ∙
    fold-roll-Expr ExprTree expr_level (e.Sequence place ty elements)

pub expr_tree-Quantified :
    (place : Place) (quantifier : Quantifier) (low : Expr) (high : Expr) (variable : Name) (body : Expr) →
    expr_tree (exprs.Quantified place quantifier low high variable body) ≡
    quantified place quantifier (expr_tree low) (expr_tree high) variable (expr_tree body)
expr_tree-Quantified place quantifier low high variable body =
    ap expr_tree (sym (exprs.rolls-Quantified place quantifier low high variable body)) ∙
    fold-roll-Expr ExprTree expr_level (e.Quantified place quantifier low high variable body)

pub expr_tree-QuantifiedIndices :
    (place : Place) (quantifier : Quantifier) (head : Expr) (variable : Name) (body : Expr) →
    expr_tree (exprs.QuantifiedIndices place quantifier head variable body) ≡
    quantified_indices place quantifier (expr_tree head) variable (expr_tree body)
expr_tree-QuantifiedIndices place quantifier head variable body =
    ap expr_tree (sym (exprs.rolls-QuantifiedIndices place quantifier head variable body)) ∙
    fold-roll-Expr ExprTree expr_level (e.QuantifiedIndices place quantifier head variable body)

pub step_tree-Line :
    (label : Label) (claim : Expr) (rule : Name) (cites : List Label) →
    step_tree (step_names.Line label claim rule cites) ≡ line label (expr_tree claim) rule cites
step_tree-Line label claim rule cites =
    ap step_tree (sym (step_names.rolls-Line label claim rule cites)) ∙
    fold-roll-Step StepTree step_level (p.Line label claim rule cites)

pub step_tree-Sub :
    (label : Label) (assumed : Label) (assumption : Expr) (steps : List Step) →
    step_tree (step_names.Sub label assumed assumption steps) ≡ block label assumed (expr_tree assumption) (steps_of (map step_tree steps))
step_tree-Sub label assumed assumption steps =
    ap step_tree (sym (step_names.rolls-Sub label assumed assumption steps)) ∙
    fold-roll-Step StepTree step_level (p.Sub label assumed assumption steps)

pub step_tree-Let :
    (label : Label) (variable : Name) (assumed : Label) (assumption : Expr) (steps : List Step) →
    step_tree (step_names.Let label variable assumed assumption steps) ≡
    let_block label variable assumed (expr_tree assumption) (steps_of (map step_tree steps))
step_tree-Let label variable assumed assumption steps =
    ap step_tree (sym (step_names.rolls-Let label variable assumed assumption steps)) ∙
    fold-roll-Step StepTree step_level (p.Let label variable assumed assumption steps)

pub stmt_tree-Val :
    (place : Place) (written : Name) (ty : Option TypeName) (value : Expr) →
    stmt_tree (stmts.Val place written ty value) ≡ val place written (option_map type_tree ty) (expr_tree value)
stmt_tree-Val place written ty value =
    ap stmt_tree (sym (stmts.rolls-Val place written ty value)) ∙
    fold-roll-Stmt StmtTree stmt_level (s.Val place written ty value)

pub stmt_tree-Var :
    (place : Place) (written : Name) (ty : Option TypeName) (value : Expr) →
    stmt_tree (stmts.Var place written ty value) ≡ var place written (option_map type_tree ty) (expr_tree value)
stmt_tree-Var place written ty value =
    ap stmt_tree (sym (stmts.rolls-Var place written ty value)) ∙
    fold-roll-Stmt StmtTree stmt_level (s.Var place written ty value)

pub stmt_tree-Assign : (written : Name) (value : Expr) → stmt_tree (stmts.Assign written value) ≡ assignment written (expr_tree value)
stmt_tree-Assign written value =
    ap stmt_tree (sym (stmts.rolls-Assign written value)) ∙
    fold-roll-Stmt StmtTree stmt_level (s.Assign written value)

pub stmt_tree-Call :
    (written : Name) (arguments : List Expr) →
    stmt_tree (stmts.Call written arguments) ≡ call written (exprs_of (map expr_tree arguments))
stmt_tree-Call written arguments =
    ap stmt_tree (sym (stmts.rolls-Call written arguments)) ∙
    fold-roll-Stmt StmtTree stmt_level (s.Call written arguments)

pub stmt_tree-If :
    (place : Place) (test : Expr) (then : List Stmt) (otherwise : Option (List Stmt)) →
    stmt_tree (stmts.If place test then otherwise) ≡
    branch place (expr_tree test) (stmts_of (map stmt_tree then)) (else_of (option_map (map stmt_tree) otherwise))
stmt_tree-If place test then None =
    ap stmt_tree (sym (stmts.rolls-If place test then None)) ∙
    fold-roll-Stmt StmtTree stmt_level (s.If place test then None)
stmt_tree-If place test then (Some trees) =
    ap stmt_tree (sym (stmts.rolls-If place test then (Some trees))) ∙
    fold-roll-Stmt StmtTree stmt_level (s.If place test then (Some trees))

pub stmt_tree-While :
    (place : Place) (test : Expr) (modifies : List Name) (claims : List Expr) (body : List Stmt) →
    stmt_tree (stmts.While place test modifies claims body) ≡
    loop place (expr_tree test) modifies (map expr_tree claims) (stmts_of (map stmt_tree body))
stmt_tree-While place test modifies claims body =
    ap stmt_tree (sym (stmts.rolls-While place test modifies claims body)) ∙
    fold-roll-Stmt StmtTree stmt_level (s.While place test modifies claims body)

pub stmt_tree-Assert : (place : Place) (claim : Expr) → stmt_tree (stmts.Assert place claim) ≡ assertion place (expr_tree claim)
stmt_tree-Assert place claim =
    ap stmt_tree (sym (stmts.rolls-Assert place claim)) ∙
    fold-roll-Stmt StmtTree stmt_level (s.Assert place claim)

pub stmt_tree-Deduce :
    (place : Place) (steps : List Step) →
    stmt_tree (stmts.Deduce place steps) ≡ deduction place (steps_of (map step_tree steps))
stmt_tree-Deduce place steps =
    ap stmt_tree (sym (stmts.rolls-Deduce place steps)) ∙
    fold-roll-Stmt StmtTree stmt_level (s.Deduce place steps)

pub const_tree-Number : (place : Place) (z : ℤ) → const_tree (consts.Number place z) ≡ const_number place z
const_tree-Number place z =
    ap const_tree (sym (consts.rolls-Number place z)) ∙
    fold-roll-Const ConstTree const_level (c.Number place z)

pub const_tree-Minus : (place : Place) (digits : Place) (z : ℤ) → const_tree (consts.Minus place digits z) ≡ const_minus place digits z
const_tree-Minus place digits z =
    ap const_tree (sym (consts.rolls-Minus place digits z)) ∙
    fold-roll-Const ConstTree const_level (c.Minus place digits z)

pub const_tree-True : (place : Place) → const_tree (consts.True place) ≡ const_truth place
const_tree-True place =
    ap const_tree (sym (consts.rolls-True place)) ∙
    fold-roll-Const ConstTree const_level (c.True place)

pub const_tree-False : (place : Place) → const_tree (consts.False place) ≡ const_falsity place
const_tree-False place =
    ap const_tree (sym (consts.rolls-False place)) ∙
    fold-roll-Const ConstTree const_level (c.False place)

pub const_tree-Sequence :
    (place : Place) (ty : Option TypeName) (elements : List Const) →
    const_tree (consts.Sequence place ty elements) ≡ const_sequence place (option_map type_tree ty) (consts_of (map const_tree elements))
const_tree-Sequence place ty elements =
    ap const_tree (sym (consts.rolls-Sequence place ty elements)) ∙
    fold-roll-Const ConstTree const_level (c.Sequence place ty elements)

pub const_tree-Record :
    (written : Name) (fields : List Const) →
    const_tree (consts.Record written fields) ≡ const_record written (consts_of (map const_tree fields))
const_tree-Record written fields =
    ap const_tree (sym (consts.rolls-Record written fields)) ∙
    fold-roll-Const ConstTree const_level (c.Record written fields)

pub ruleset type_lines = (type_tree-Z, type_tree-B, type_tree-Unit, type_tree-Seq, type_tree-Named)

pub ruleset expr_lines = (
  expr_tree-Number,
  expr_tree-True,
  expr_tree-False,
  expr_tree-Name,
  expr_tree-Res,
  expr_tree-In,
  expr_tree-Old,
  expr_tree-Minus,
  expr_tree-Not,
  expr_tree-Binary,
  expr_tree-Apply,
  expr_tree-Update,
  expr_tree-Field,
  expr_tree-Sequence,
  expr_tree-Quantified,
  expr_tree-QuantifiedIndices,
)

pub ruleset step_lines = (step_tree-Line, step_tree-Sub, step_tree-Let)

pub ruleset stmt_lines = (
  stmt_tree-Val,
  stmt_tree-Var,
  stmt_tree-Assign,
  stmt_tree-Call,
  stmt_tree-If,
  stmt_tree-While,
  stmt_tree-Assert,
  stmt_tree-Deduce,
)

pub ruleset const_lines = (
  const_tree-Number,
  const_tree-Minus,
  const_tree-True,
  const_tree-False,
  const_tree-Sequence,
  const_tree-Record,
)
