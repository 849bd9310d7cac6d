-- The typed program of a small project, computed.
use Rattle.std.specs.Prelude.{◌≡◌, ℕ, pos, false, List, [], ◌∷◌, map, None}
use Rattle.slang_values.specs.Value.{unit_type, number_type}
use Rattle.slang_values.specs.Tree.{literal, binary as binary_tree}
use Rattle.slang_values.specs.declared.operators.Binary.{Binary}
use Rattle.slang_tree.specs.declared.expression.Operator.TheVariants as o
use Rattle.slang_tree.specs.TypeTree.{unit_name}
use Rattle.slang_tree.specs.ExprTree as e
use Rattle.slang_tree.specs.StmtTree as s
use Rattle.slang_tree.specs.DeclTree.{method_decl}
use Rattle.program_trees.specs.Claims.{variable_claim}
use Rattle.program_trees.specs.Programs.{number, set, assert, call, CodeTrees, no_code, code_then, MethodTree}
use Rattle.program_trees.specs.Variables.{Variable, global}
use Rattle.type_rules.specs.Projects.{FileTree, first_faults}
use Rattle.typing_examples.specs.Written.{at, word, f, g, x, one, no_contract, var_z, alone}
use Rattle.typed_texts.specs.TypedProjects.{in_file, typed_project}

-- `var x: Z = 0`, a method `g` that sets `x` to 1, and a method `f` that calls it and asserts that `x` is 1; both modify `x`
abbrev pub setting : List FileTree
setting = alone (
    var_z x
    ∷ method_decl (no_contract g (at 1 5) [] (unit_name (at 1 10)) (word x (at 2 5) ∷ []) (s.assignment (word x (at 3 3)) (one (at 3 7)) ∷ []))
    ∷ method_decl (no_contract f (at 5 5) [] (unit_name (at 5 10)) (word x (at 6 5) ∷ [])
    (s.call (word g (at 7 3)) e.no_exprs
    ∷ s.assertion (at 8 3) (e.binary (at 8 10) o.Eq (e.name x (at 8 10)) (one (at 8 15))) ∷ []))
    ∷ [])

abbrev pub modifying : List ℕ → ℕ → CodeTrees Variable → MethodTree Variable
modifying name node body = record {
  name = name;
  node = node;
  params = [];
  result = unit_type;
  requires_ = [];
  modifies = 0 ∷ [];
  ensures_ = [];
  locals = [];
  body = body;
}

abbrev pub calling : MethodTree Variable
calling = modifying f 4 (code_then (call 5 None 6 1 [])
    (code_then (assert (record { claim = binary_tree Binary.Eq (variable_claim (global 0)) (literal (pos 1)); node = 7 })) no_code))

abbrev pub called : MethodTree Variable
called = modifying g 1 (code_then (set 2 (global 0) (number 3 (pos 1))) no_code)

pub record ProjectExamples : Type 0 where
  pub no_fault : first_faults setting ≡ []
  pub globals : (typed_project setting).program.globals ≡ record { fixed = false; type = number_type; initial = number 0 (pos 0) } ∷ []
  -- in the order of their names
  pub methods : (typed_project setting).program.methods ≡ calling ∷ called ∷ []
  -- in the order of the text
  pub nodes : (typed_project setting).nodes
      ≡ map (in_file 0) (at 9 12 ∷ at 1 5 ∷ at 3 3 ∷ at 3 7 ∷ at 5 5 ∷ at 7 3 ∷ at 7 3 ∷ at 8 10 ∷ [])
