-- A typed program as plain data.
use Rattle.std.specs.Prelude.{ℕ, List, [], ◌∷◌, map, length}
use Rattle.slang_values.specs.Value.{ValueType, Records}
use Rattle.program_trees.specs.Claims.{NotedTree}
use Rattle.program_trees.specs.Programs.{CodeTree, set, give, assert, deduce, branch, loop, call, CodeTrees, no_code, code_then, MethodTree, GlobalTree, ProgramTree}
use Rattle.program_trees.specs.Variables.{with_kinds}
use Rattle.lk_claims.specs.Claim.{value_type, claim_tree}
use Rattle.lk_claims.specs.Step.{step_trees}
use Rattle.lk_programs.specs.Expr.{typed_expr}
use Rattle.lk_programs.specs.declared.program.RecordTy.{RecordTy}
use Rattle.lk_programs.specs.declared.program.FieldTy.{FieldTy}
use Rattle.lk_programs.specs.declared.program.Global.{Global}
use Rattle.lk_programs.specs.declared.program.Noted.{Noted}
use Rattle.lk_programs.specs.declared.program.Code.{Code}
use Rattle.lk_programs.specs.declared.program.Code.TheOpen as c
use Rattle.lk_programs.specs.declared.program.Code.TheFolds.{fold-Code}
use Rattle.lk_programs.specs.declared.program.Method.{Method}
use Rattle.lk_programs.specs.declared.program.NodePlace.{NodePlace}
use Rattle.typed_programs.specs.WellTyped.{IsTypedProgram}
use Rattle.typed_programs.specs.OneProof.{IsTypedProgram-prop}

abbrev pub noted_tree : Noted → NotedTree ℕ
noted_tree noted = record { claim = claim_tree noted.claim; node = noted.node.0 }

abbrev pub codes_of : List (CodeTree ℕ) → CodeTrees ℕ
codes_of [] = no_code
codes_of (code ∷ codes) = code_then code (codes_of codes)

-- one level of a statement, with the statements inside already as plain data
abbrev pub code_level : c.Code-F (CodeTree ℕ) → CodeTree ℕ
code_level (c.Val node target value) = set node.0 target (typed_expr value)
code_level (c.Assign node target value) = set node.0 target (typed_expr value)
code_level (c.Call node target name method arguments) = call node.0 target name.0 method (map typed_expr arguments)
code_level (c.If node test on_true on_false) = branch node.0 (typed_expr test) (codes_of on_true) (codes_of on_false)
code_level (c.While node test modifies invariants body) = loop node.0 (typed_expr test) modifies (map noted_tree invariants) (codes_of body)
code_level (c.Assert noted) = assert (noted_tree noted)
code_level (c.Deduce node steps) = deduce node.0 (step_trees steps)
code_level (c.Return node value) = give node.0 (typed_expr value)

unfoldable pub code_tree : Code → CodeTree ℕ
code_tree = fold-Code (CodeTree ℕ) code_level

abbrev pub code_trees : List Code → CodeTrees ℕ
code_trees codes = codes_of (map code_tree codes)

-- the types of fields or of parameters
abbrev pub field_types : List FieldTy → List ValueType
field_types fields = map (λ field. value_type field.ty) fields

abbrev pub record_types : List RecordTy → Records
record_types records = map (λ named. field_types named.fields) records

abbrev pub global_tree : Global → GlobalTree ℕ
global_tree global = record { fixed = global.fixed; type = value_type global.ty; initial = typed_expr global.init }

abbrev pub method_tree : Method → MethodTree ℕ
method_tree method = record {
  name = method.name;
  node = method.node.0;
  params = field_types method.params;
  result = value_type method.result;
  requires_ = map noted_tree method.requires_;
  modifies = method.modifies;
  ensures_ = map noted_tree method.ensures_;
  locals = map value_type method.locals;
  body = code_trees method.body;
}

abbrev pub program_over : List RecordTy → List Global → List Method → ProgramTree ℕ
program_over records globals methods = record {
  records = record_types records;
  globals = map global_tree globals;
  methods = map method_tree methods;
}

-- The program is well typed, where the text has these nodes in these files.
abbrev pub IsTypedOver : ProgramTree ℕ → List NodePlace → List (List ℕ) → Type 0
IsTypedOver program nodes files = IsTypedProgram (with_kinds program) (map (λ node. node.file) nodes) (length files)

pub IsTypedOver-prop : (program : ProgramTree ℕ) (nodes : List NodePlace) (files : List (List ℕ)) → IsProp (IsTypedOver program nodes files)
IsTypedOver-prop program nodes files = IsTypedProgram-prop (with_kinds program) (map (λ node. node.file) nodes) (length files)
