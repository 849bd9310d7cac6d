-- A tree without places has none to lose.
use Rattle.std.proofs.Common.{◌≡◌, List, [], ◌∷◌, map, Option, Some, None, refl, ap}
use Rattle.std.specs.Option.{option_map}
use Rattle.slang_tree.specs.declared.expression.Name.{Name}
use Rattle.slang_tree.specs.declared.statement.Label.{Label}
use Rattle.slang_tree.specs.TypeTree.{TypeTree, z_name, b_name, unit_name, sequence_name, record_name}
use Rattle.slang_tree.specs.ExprTree.{ExprTree, ExprTrees}
use Rattle.slang_tree.specs.ExprTree as e
use Rattle.slang_tree.specs.StmtTree.{StepTree, StepTrees, StmtTree, StmtTrees, ElseTree}
use Rattle.slang_tree.specs.StmtTree as s
use Rattle.slang_tree.specs.DeclTree.{ConstTree, ConstTrees, TypedName, ReturnTree, MethodDeclTree, DeclTree}
use Rattle.slang_tree.specs.DeclTree as d
use Rattle.print_expressions.specs.Bare.{nowhere, bare_name, bare_type, bare_expr, bare_exprs}
use Rattle.print_statements.specs.Bare.{bare_label, bare_step, bare_steps, bare_stmt, bare_stmts, bare_else}
use Rattle.print_declarations.specs.Bare.{bare_const, bare_consts, bare_typed, bare_return, bare_method, bare_decl, bare_file}

map_twice : {A : Type 0} (f : A → A) → ((x : A) → f (f x) ≡ f x) → (xs : List A) → map f (map f xs) ≡ map f xs
map_twice f h [] = refl
map_twice f h (x ∷ xs) = λ i. h x i ∷ map_twice f h xs i

if_twice : {A : Type 0} (f : A → A) → ((x : A) → f (f x) ≡ f x) → (x : Option A) → option_map f (option_map f x) ≡ option_map f x
if_twice f h None = refl
if_twice f h (Some x) = ap Some (h x)

name_twice : (n : Name) → bare_name (bare_name n) ≡ bare_name n
name_twice n = refl

label_twice : (l : Label) → bare_label (bare_label l) ≡ bare_label l
label_twice l = refl

type_twice : (t : TypeTree) → bare_type (bare_type t) ≡ bare_type t
type_twice (z_name place) = refl
type_twice (b_name place) = refl
type_twice (unit_name place) = refl
type_twice (sequence_name place element) = ap (sequence_name nowhere) (type_twice element)
type_twice (record_name written) = refl

mutual
  expr_twice : (t : ExprTree) → bare_expr (bare_expr t) ≡ bare_expr t
  expr_twice (e.number place z) = refl
  expr_twice (e.truth place) = refl
  expr_twice (e.falsity place) = refl
  expr_twice (e.name text place) = refl
  expr_twice (e.result place ty) = ap (e.result nowhere) (if_twice bare_type type_twice ty)
  expr_twice (e.entry_value place written) = refl
  expr_twice (e.old_value place written) = refl
  expr_twice (e.minus place operand) = ap (e.minus nowhere) (expr_twice operand)
  expr_twice (e.negation place operand) = ap (e.negation nowhere) (expr_twice operand)
  expr_twice (e.binary place operator left right) = λ i. e.binary nowhere operator (expr_twice left i) (expr_twice right i)
  expr_twice (e.application place head arguments) = λ i. e.application nowhere (expr_twice head i) (exprs_twice arguments i)
  expr_twice (e.update place head index element) = λ i. e.update nowhere (expr_twice head i) (expr_twice index i) (expr_twice element i)
  expr_twice (e.field place head written) = λ i. e.field nowhere (expr_twice head i) (bare_name written)
  expr_twice (e.sequence place ty elements) = λ i. e.sequence nowhere (if_twice bare_type type_twice ty i) (exprs_twice elements i)
  expr_twice (e.quantified place by low high variable body) =
      λ i. e.quantified nowhere by (expr_twice low i) (expr_twice high i) (bare_name variable) (expr_twice body i)
  expr_twice (e.quantified_indices place by head variable body) = λ i. e.quantified_indices nowhere by (expr_twice head i) (bare_name variable)
      (expr_twice body i)

  exprs_twice : (ts : ExprTrees) → bare_exprs (bare_exprs ts) ≡ bare_exprs ts
  exprs_twice e.no_exprs = refl
  exprs_twice (e.expr_then t ts) = λ i. e.expr_then (expr_twice t i) (exprs_twice ts i)

mutual
  step_twice : (t : StepTree) → bare_step (bare_step t) ≡ bare_step t
  step_twice (s.line label claim rule cites) =
      λ i. s.line (bare_label label) (expr_twice claim i) (bare_name rule) (map_twice bare_label label_twice cites i)
  step_twice (s.block label assumed given steps) = λ i. s.block (bare_label label) (bare_label assumed) (expr_twice given i) (steps_twice steps i)
  step_twice (s.let_block label variable assumed given steps) =
      λ i. s.let_block (bare_label label) (bare_name variable) (bare_label assumed) (expr_twice given i) (steps_twice steps i)

  steps_twice : (ts : StepTrees) → bare_steps (bare_steps ts) ≡ bare_steps ts
  steps_twice s.no_steps = refl
  steps_twice (s.step_then t ts) = λ i. s.step_then (step_twice t i) (steps_twice ts i)

mutual
  stmt_twice : (t : StmtTree) → bare_stmt (bare_stmt t) ≡ bare_stmt t
  stmt_twice (s.val place written ty value) = λ i. s.val nowhere (bare_name written) (if_twice bare_type type_twice ty i) (expr_twice value i)
  stmt_twice (s.var place written ty value) = λ i. s.var nowhere (bare_name written) (if_twice bare_type type_twice ty i) (expr_twice value i)
  stmt_twice (s.assignment written value) = ap (s.assignment (bare_name written)) (expr_twice value)
  stmt_twice (s.call written arguments) = ap (s.call (bare_name written)) (exprs_twice arguments)
  stmt_twice (s.branch place test on_true otherwise) = λ i. s.branch nowhere (expr_twice test i) (stmts_twice on_true i) (else_twice otherwise i)
  stmt_twice (s.loop place test modifies claims body) =
      λ i. s.loop nowhere (expr_twice test i) (map_twice bare_name name_twice modifies i) (map_twice bare_expr expr_twice claims i) (stmts_twice body i)
  stmt_twice (s.assertion place claim) = ap (s.assertion nowhere) (expr_twice claim)
  stmt_twice (s.deduction place steps) = ap (s.deduction nowhere) (steps_twice steps)

  stmts_twice : (ts : StmtTrees) → bare_stmts (bare_stmts ts) ≡ bare_stmts ts
  stmts_twice s.no_stmts = refl
  stmts_twice (s.stmt_then t ts) = λ i. s.stmt_then (stmt_twice t i) (stmts_twice ts i)

  else_twice : (t : ElseTree) → bare_else (bare_else t) ≡ bare_else t
  else_twice s.no_else = refl
  else_twice (s.else_then ts) = ap s.else_then (stmts_twice ts)

mutual
  const_twice : (t : ConstTree) → bare_const (bare_const t) ≡ bare_const t
  const_twice (d.const_number place z) = refl
  const_twice (d.const_minus place digits z) = refl
  const_twice (d.const_truth place) = refl
  const_twice (d.const_falsity place) = refl
  const_twice (d.const_sequence place ty elements) = λ i. d.const_sequence nowhere (if_twice bare_type type_twice ty i) (consts_twice elements i)
  const_twice (d.const_record written fields) = ap (d.const_record (bare_name written)) (consts_twice fields)

  consts_twice : (ts : ConstTrees) → bare_consts (bare_consts ts) ≡ bare_consts ts
  consts_twice d.no_consts = refl
  consts_twice (d.const_then t ts) = λ i. d.const_then (const_twice t i) (consts_twice ts i)

typed_twice : (n : TypedName) → bare_typed (bare_typed n) ≡ bare_typed n
typed_twice n = λ i. record { written = bare_name n.written; ty = type_twice n.ty i }

return_twice : (r : ReturnTree) → bare_return (bare_return r) ≡ bare_return r
return_twice r = λ i. record { place = nowhere; value = expr_twice r.value i }

method_twice : (m : MethodDeclTree) → bare_method (bare_method m) ≡ bare_method m
method_twice m = λ i. record {
  written = bare_name m.written;
  params = map_twice bare_typed typed_twice m.params i;
  result = type_twice m.result i;
  requires_ = map_twice bare_expr expr_twice m.requires_ i;
  modifies = map_twice bare_name name_twice m.modifies i;
  ensures_ = map_twice bare_expr expr_twice m.ensures_ i;
  body = map_twice bare_stmt stmt_twice m.body i;
  returned = if_twice bare_return return_twice m.returned i;
}

decl_twice : (t : DeclTree) → bare_decl (bare_decl t) ≡ bare_decl t
decl_twice (d.import_decl place path) = ap (d.import_decl nowhere) (map_twice bare_name name_twice path)
decl_twice (d.global_decl decl) = λ i. d.global_decl (record {
  place = nowhere;
  fixed = decl.fixed;
  written = bare_name decl.written;
  ty = if_twice bare_type type_twice decl.ty i;
  init = const_twice decl.init i;
})
decl_twice (d.record_decl decl) = λ i. d.record_decl (record {
  place = nowhere;
  written = bare_name decl.written;
  fields = map_twice bare_typed typed_twice decl.fields i;
})
decl_twice (d.method_decl decl) = ap d.method_decl (method_twice decl)

pub file_twice : (decls : List DeclTree) → bare_file (bare_file decls) ≡ bare_file decls
file_twice decls = map_twice bare_decl decl_twice decls
