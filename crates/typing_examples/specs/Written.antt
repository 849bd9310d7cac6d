-- How the examples write small texts.
use Rattle.std.specs.Prelude.{ℕ, pos, true, false, List, [], ◌∷◌, map, codes, Some, None}
use Rattle.std.specs.List.{range_with_len}
use Rattle.slang_tree.specs.declared.place.Place.{Place}
use Rattle.slang_tree.specs.declared.place.FileFault.{FileFault}
use Rattle.slang_tree.specs.declared.expression.Name.{Name}
use Rattle.slang_tree.specs.TypeTree.{TypeTree, z_name, unit_name}
use Rattle.slang_tree.specs.ExprTree.{ExprTree, exprs_of}
use Rattle.slang_tree.specs.ExprTree as e
use Rattle.slang_tree.specs.StmtTree.{StmtTree, val}
use Rattle.slang_tree.specs.DeclTree.{ConstTree, const_number, TypedName, MethodDeclTree, DeclTree, global_decl, record_decl, method_decl}
use Rattle.type_rules.specs.Faults.{fault}
use Rattle.type_rules.specs.Projects.{FileTree}

abbrev pub at : ℕ → ℕ → Place
at line col = record { line = line; col = col }

abbrev pub word : List ℕ → Place → Name
word text place = record { text = text; place = place }

abbrev pub f : List ℕ
f = codes "f"

abbrev pub g : List ℕ
g = codes "g"

abbrev pub x : List ℕ
x = codes "x"

abbrev pub y : List ℕ
y = codes "y"

-- ---- expressions

abbrev pub one : Place → ExprTree
one place = e.number place (pos 1)

abbrev pub applied : List ℕ → Place → List ExprTree → ExprTree
applied text place arguments = e.application place (e.name text place) (exprs_of arguments)

-- ---- statements

-- `val x: Z = value`
abbrev pub val_x : Place → ExprTree → StmtTree
val_x place value = val place (word x (at place.line 7)) (Some (z_name (at place.line 10))) value

-- ---- declarations

abbrev pub no_contract : List ℕ → Place → List TypedName → TypeTree → List Name → List StmtTree → MethodDeclTree
no_contract text place params type modifies body = record {
  written = word text place;
  params = params;
  result = type;
  requires_ = [];
  modifies = modifies;
  ensures_ = [];
  body = body;
  returned = None;
}

-- `def f(): Unit` with this body
abbrev pub f_with : List StmtTree → DeclTree
f_with body = method_decl (no_contract f (at 1 5) [] (unit_name (at 1 10)) [] body)

-- `def g(): Unit`, with an empty body, which modifies these
abbrev pub g_modifies : List Name → DeclTree
g_modifies names = method_decl (no_contract g (at 1 5) [] (unit_name (at 1 10)) names [])

-- `val text: Z = init`, or the same with `var`
abbrev pub global_z : List ℕ → ConstTree → DeclTree
global_z text init =
    global_decl (record { place = at 9 1; fixed = true; written = word text (at 9 5); ty = Some (z_name (at 9 8)); init = init })

abbrev pub var_z : List ℕ → DeclTree
var_z text =
    global_decl (record { place = at 9 1; fixed = false; written = word text (at 9 5); ty = Some (z_name (at 9 8)); init = const_number (at 9 12) (pos 0) })

-- a record with one field
abbrev pub class_with : List ℕ → Place → TypeTree → DeclTree
class_with text place type =
    record_decl (record { place = at 1 1; written = word text place; fields = record { written = word x place; ty = type } ∷ [] })

-- a record with fields of that type, numbered from 0 on, which is also the column of each
abbrev pub class_of_many : List ℕ → Place → ℕ → (Place → TypeTree) → DeclTree
class_of_many text place count type =
    record_decl (record {
      place = at 1 1;
      written = word text place;
      fields = map (λ n. record { written = word (n ∷ []) (at 1 n); ty = type (at 1 n) }) (range_with_len 0 count);
    })

-- ---- files

abbrev pub file_named : List ℕ → List DeclTree → FileTree
file_named name decls = record { name = name; decls = decls }

-- a project of one file
abbrev pub alone : List DeclTree → List FileTree
alone decls = file_named (codes "-") decls ∷ []

-- a fault of a file
abbrev pub told : List ℕ → ℕ → ℕ → ℕ → FileFault
told file code line col = record { file = file; fault = fault code (at line col) }

-- the one fault of a project of one file
abbrev pub only : ℕ → ℕ → ℕ → List FileFault
only code line col = told (codes "-") code line col ∷ []
