-- What is too high in a text, as faults at the places of expressions, constants and steps; and the first fault of each file of a project.
use Rattle.std.specs.Prelude.{ℕ, zero, suc, nat_le, List, [], ◌∷◌, ◌++◌, flat_map, filter_map, Option, Some, None}
use Rattle.slang_tree.specs.declared.place.Place.{Place}
use Rattle.slang_tree.specs.declared.place.Fault.{Fault}
use Rattle.slang_tree.specs.declared.place.FileFault.{FileFault}
use Rattle.slang_tree.specs.ExprTree.{ExprTree, ExprTrees, no_exprs, expr_then, place_of}
use Rattle.slang_tree.specs.StmtTree.{StepTree, line, block, let_block, StepTrees, no_steps, step_then, StmtTree, val, var, assignment, call, branch, loop, assertion, deduction, StmtTrees, no_stmts, stmt_then, ElseTree, no_else, else_then, stmts_of}
use Rattle.slang_tree.specs.DeclTree.{ConstTree, const_place, ReturnTree, MethodDeclTree, DeclTree, import_decl, global_decl, record_decl, method_decl}
use Rattle.type_rules.specs.Faults.{fault, unless}
use Rattle.type_rules.specs.Projects.{FileTree, in_order, declarations, decls_faults, FaultyFile, first_of_file}
use Rattle.text_heights.specs.Heights.{text_height, const_height}

-- The code is that of a text that nests too deep.
abbrev pub too_high : Place → Fault
too_high place = fault 5 place

-- ---- expressions and constants

abbrev pub expr_too_high : ExprTree → List Fault
expr_too_high tree = unless (nat_le (text_height tree) 1000) (too_high (place_of tree))

abbrev pub exprs_too_high : ExprTrees → List Fault
exprs_too_high no_exprs = []
exprs_too_high (expr_then tree trees) = expr_too_high tree ++ exprs_too_high trees

abbrev pub claims_too_high : List ExprTree → List Fault
claims_too_high claims = flat_map expr_too_high claims

abbrev pub const_too_high : ConstTree → List Fault
const_too_high tree = unless (nat_le (const_height tree) 1000) (too_high (const_place tree))

-- ---- proofs

-- where a step stands: at its label
abbrev pub step_place : StepTree → Place
step_place (line label claim rule cites) = label.place
step_place (block label assumed given steps) = label.place
step_place (let_block label variable assumed given steps) = label.place

-- Each step of a block that no step may stand in.
abbrev pub too_deep : StepTrees → List Fault
too_deep no_steps = []
too_deep (step_then step steps) = too_high (step_place step) ∷ too_deep steps

abbrev mutual
  -- what is too high in a step, where that many blocks may stand one inside another from there on
  pub step_too_high : ℕ → StepTree → List Fault
  step_too_high depth (line label claim rule cites) = expr_too_high claim
  step_too_high zero (block label assumed given steps) = expr_too_high given ++ too_deep steps
  step_too_high (suc depth) (block label assumed given steps) = expr_too_high given ++ steps_too_high depth steps
  step_too_high zero (let_block label variable assumed given steps) = expr_too_high given ++ too_deep steps
  step_too_high (suc depth) (let_block label variable assumed given steps) = expr_too_high given ++ steps_too_high depth steps

  pub steps_too_high : ℕ → StepTrees → List Fault
  steps_too_high depth no_steps = []
  steps_too_high depth (step_then step steps) = step_too_high depth step ++ steps_too_high depth steps

-- ---- statements

abbrev mutual
  pub stmt_too_high : StmtTree → List Fault
  stmt_too_high (val place written ty value) = expr_too_high value
  stmt_too_high (var place written ty value) = expr_too_high value
  stmt_too_high (assignment written value) = expr_too_high value
  stmt_too_high (call written arguments) = exprs_too_high arguments
  stmt_too_high (branch place test on_true otherwise) = expr_too_high test ++ stmts_too_high on_true ++ else_too_high otherwise
  stmt_too_high (loop place test modifies claims body) = expr_too_high test ++ claims_too_high claims ++ stmts_too_high body
  stmt_too_high (assertion place claim) = expr_too_high claim
  stmt_too_high (deduction place steps) = steps_too_high 200 steps

  pub stmts_too_high : StmtTrees → List Fault
  stmts_too_high no_stmts = []
  stmts_too_high (stmt_then stmt stmts) = stmt_too_high stmt ++ stmts_too_high stmts

  pub else_too_high : ElseTree → List Fault
  else_too_high no_else = []
  else_too_high (else_then stmts) = stmts_too_high stmts

-- ---- declarations and files

abbrev pub return_too_high : Option ReturnTree → List Fault
return_too_high None = []
return_too_high (Some returned) = expr_too_high returned.value

abbrev pub method_too_high : MethodDeclTree → List Fault
method_too_high decl =
    claims_too_high decl.requires_ ++ claims_too_high decl.ensures_ ++ stmts_too_high (stmts_of decl.body) ++ return_too_high decl.returned

-- what is too high in a declaration
abbrev pub decl_too_high : DeclTree → List Fault
decl_too_high (import_decl place path) = []
decl_too_high (global_decl decl) = const_too_high decl.init
decl_too_high (record_decl decl) = []
decl_too_high (method_decl decl) = method_too_high decl

abbrev pub decls_too_high : List DeclTree → List Fault
decls_too_high decls = flat_map decl_too_high decls

-- ---- projects

-- What is wrong with the names and types of the files of a project, and what is too high in them.
abbrev pub whole_files_faults : List DeclTree → (before : List DeclTree) → List FileTree → List FaultyFile
whole_files_faults decls before [] = []
whole_files_faults decls before (file ∷ files) =
    record { name = file.name; faults = decls_faults decls before file.decls ++ decls_too_high file.decls }
    ∷ whole_files_faults decls (before ++ file.decls) files

abbrev pub whole_project_faults : List FileTree → List FaultyFile
whole_project_faults files = whole_files_faults (declarations files) [] (in_order files)

-- The first fault of each file that has one: that of least place, and of those the one of least code.
abbrev pub whole_faults : List FileTree → List FileFault
whole_faults files = filter_map first_of_file (whole_project_faults files)
